-- What is known of trades that were moved, and of a base that was made.
use Rattle.std.proofs.Common.{◌≡◌, ℕ, suc, nat_lt, Bool, true, false, List, [], ◌∷◌, map, filter, slice_get, Option, Some, None, Result, Ok, Err, refl, sym, ap, ◌∙◌, if◌then◌else◌}
use Rattle.units_core.specs.Day.{DayParts}
use Rattle.units_core.specs.declared.limits.TheConstants.{MOST_NUMBER}
use Rattle.command_types.specs.declared.base.Base.{Base}
use Rattle.command_types.specs.declared.trade.TradeRow.{TradeRow}
use Rattle.command_types.specs.Roster.{Rows}
use Rattle.period_roll.specs.declared.cause.Cause.{Cause}
use Rattle.period_roll.specs.declared.cause.Cause.TheVariants.{PositionsFull, RoleChanged}
use Rattle.period_roll.specs.Places.{have_same_role, new_member, new_product, party_at, moved_party, product_found, moved_product}
use Rattle.period_roll.specs.Trades.{is_kept, trade_at, moved_trade, joined, moved_trades, first_late, numbered_from}
use Rattle.period_roll.specs.Rolls.{base_with, if_left, unless_late, with_trades, rolled_base}
use Rattle.period_roll.specs.Laws.{named_trade}
use Rattle.period_roll.proofs.Found.{member_names, product_names}

-- the trade at its new places
pub record IsMoved (old new : Rows) (row moved : TradeRow) : Type 0 where
  pub seller : new_member old new row.seller ≡ Some moved.seller
  pub buyer : new_member old new row.buyer ≡ Some moved.buyer
  pub product : new_product old new row.product ≡ Some moved.product
  pub same : moved ≡ record row { seller = moved.seller; buyer = moved.buyer; product = moved.product }

abbrev role_checked : ℕ → ℕ → Bool → Result ℕ Cause
role_checked trade found t = if t then Ok found else Err (RoleChanged trade)

role_found : (trade found moved : ℕ) (t : Bool) → role_checked trade found t ≡ Ok moved → found ≡ moved
role_found trade found moved true e = cc
role_found trade found moved false e = absurd cc

party_found : (old new : Rows) (trade place : ℕ) (o : Option ℕ) (moved : ℕ) → party_at old new trade place o ≡ Ok moved → o ≡ Some moved
party_found old new trade place None moved e = absurd cc
party_found old new trade place (Some found) moved e =
    ap (λ (n : ℕ). Some n) (role_found trade found moved (have_same_role (slice_get old.members place) (slice_get new.members found)) e)

place_found : (trade : ℕ) (o : Option ℕ) (moved : ℕ) → product_found trade o ≡ Ok moved → o ≡ Some moved
place_found trade None moved e = absurd cc
place_found trade (Some found) moved e = cc

parts : (old new : Rows) (row moved : TradeRow) (seller buyer product : Result ℕ Cause) → moved_party old new row.number row.seller ≡ seller → moved_party old new row.number row.buyer ≡ buyer →
    moved_product old new row.number row.product ≡ product → trade_at row seller buyer product ≡ Ok moved → IsMoved old new row moved
parts old new row moved (Ok seller) (Ok buyer) (Ok product) s b p e =
    let is : record row { seller = seller; buyer = buyer; product = product } ≡ moved = cc in
    record {
      seller = party_found old new row.number row.seller (new_member old new row.seller) seller s ∙ ap (λ (r : TradeRow). Some r.seller) is;
      buyer = party_found old new row.number row.buyer (new_member old new row.buyer) buyer b ∙ ap (λ (r : TradeRow). Some r.buyer) is;
      product = place_found row.number (new_product old new row.product) product p ∙ ap (λ (r : TradeRow). Some r.product) is;
      same = sym is ∙ ap (λ (r : TradeRow). record row { seller = r.seller; buyer = r.buyer; product = r.product }) is;
    }
parts old new row moved (Ok seller) (Ok buyer) (Err cause) s b p e = absurd cc
parts old new row moved (Ok seller) (Err cause) product s b p e = absurd cc
parts old new row moved (Err cause) buyer product s b p e = absurd cc

pub is_moved : (old new : Rows) (row moved : TradeRow) → moved_trade old new row ≡ Ok moved → IsMoved old new row moved
is_moved old new row moved e =
    parts old new row moved (moved_party old new row.number row.seller) (moved_party old new row.number row.buyer) (moved_product old new row.number row.product) refl refl refl e

-- the first of moved trades, and the others
pub record IsJoined (first : Result TradeRow Cause) (rest : Result (List TradeRow) Cause) (made : List TradeRow) : Type 0 where
  pub moved : TradeRow
  pub more : List TradeRow
  pub first_is : first ≡ Ok moved
  pub rest_is : rest ≡ Ok more
  pub same : moved ∷ more ≡ made

pub is_joined : (first : Result TradeRow Cause) (rest : Result (List TradeRow) Cause) (made : List TradeRow) → joined first rest ≡ Ok made → IsJoined first rest made
is_joined (Ok row) (Ok rows) made e = record { moved = row; more = rows; first_is = refl; rest_is = refl; same = cc }
is_joined (Ok row) (Err cause) made e = absurd cc
is_joined (Err cause) rest made e = absurd cc

-- ---- a base that was made

pub record IsMade (old new : Rows) (matured : Option DayParts) (base made : Base) : Type 0 where
  pub trades : List TradeRow
  pub moved : moved_trades old new (filter (is_kept old matured) base.trades) ≡ Ok trades
  pub left : nat_lt base.position MOST_NUMBER ≡ true
  pub same : base_with old new base trades ≡ made

abbrev left_checked : Rows → Rows → Base → List TradeRow → Bool → Result Base Cause
left_checked old new base trades t = if t then Ok (base_with old new base trades) else Err PositionsFull

left_by : (old new : Rows) (base made : Base) (trades : List TradeRow) (t : Bool) → left_checked old new base trades t ≡ Ok made → (t ≡ true) × (base_with old new base trades ≡ made)
left_by old new base made trades true e = (refl, cc)
left_by old new base made trades false e = absurd cc

made_left : (old new : Rows) (base made : Base) (trades : List TradeRow) → if_left old new base trades ≡ Ok made → (nat_lt base.position MOST_NUMBER ≡ true) × (base_with old new base trades ≡ made)
made_left old new base made trades e = left_by old new base made trades (nat_lt base.position MOST_NUMBER) e

made_late : (old new : Rows) (base made : Base) (trades : List TradeRow) (o : Option ℕ) → unless_late old new base trades o ≡ Ok made → if_left old new base trades ≡ Ok made
made_late old new base made trades None e = e
made_late old new base made trades (Some trade) e = absurd cc

made_with : (old new : Rows) (matured : Option DayParts) (base made : Base) (r : Result (List TradeRow) Cause) → moved_trades old new (filter (is_kept old matured) base.trades) ≡ r → with_trades old new base r ≡ Ok made → IsMade old new matured base made
made_with old new matured base made (Err cause) is e = absurd cc
made_with old new matured base made (Ok trades) is e =
    let left = made_left old new base made trades (made_late old new base made trades (first_late new.products trades) e) in
    record { trades = trades; moved = is; left = left.0; same = left.1 }

pub is_made : (old new : Rows) (matured : Option DayParts) (base made : Base) → rolled_base old new matured base ≡ Ok made → IsMade old new matured base made
is_made old new matured base made e = made_with old new matured base made (moved_trades old new (filter (is_kept old matured) base.trades)) refl e

-- ---- by names

-- a moved trade is the same, but for its number
one_named : (old new : Rows) (row moved : TradeRow) (n : ℕ) → IsMoved old new row moved → named_trade new (record moved { number = n }) ≡ named_trade old row
one_named old new row moved n is =
    ap (λ (r : TradeRow). named_trade new (record r { number = n })) is.same
    ∙ (λ j. record (named_trade old row) {
      seller = member_names old new row.seller moved.seller is.seller j;
      buyer = member_names old new row.buyer moved.buyer is.buyer j;
      product = product_names old new row.product moved.product is.product j;
    })

pub all_named : (old new : Rows) (rows made : List TradeRow) (n : ℕ) → moved_trades old new rows ≡ Ok made → map (named_trade new) (numbered_from n made) ≡ map (named_trade old) rows
all_named old new [] made n e = let none : [] ≡ made = cc in ap (λ (l : List TradeRow). map (named_trade new) (numbered_from n l)) (sym none)
all_named old new (row ∷ rows) made n e =
    let is = is_joined (moved_trade old new row) (moved_trades old new rows) made e in
    ap (λ (l : List TradeRow). map (named_trade new) (numbered_from n l)) (sym is.same)
    ∙ (λ j. one_named old new row is.moved n (is_moved old new row is.moved is.first_is) j ∷ all_named old new rows is.more (suc n) is.rest_is j)

pub rolled_named : (old new : Rows) (matured : Option DayParts) (base made : Base) → rolled_base old new matured base ≡ Ok made →
    map (named_trade new) made.trades ≡ map (named_trade old) (filter (is_kept old matured) base.trades)
rolled_named old new matured base made e =
    let is = is_made old new matured base made e in
    ap (λ (b : Base). map (named_trade new) b.trades) (sym is.same) ∙ all_named old new (filter (is_kept old matured) base.trades) is.trades 1 is.moved
