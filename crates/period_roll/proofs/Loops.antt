-- One more trade: what the loops over trades keep.
use Rattle.std.proofs.Common.{◌≡◌, ℕ, zero, suc, ◌+◌, ◌<◌, Bool, true, false, List, [], ◌∷◌, ◌++◌, length, take, drop, get_or, set, filter, Some, if◌then◌else◌, sym, ap, ◌∙◌, arith, add-one}
use Rattle.std.specs.Prelude.{Result, Ok, Err, slice_get}
use Rattle.std.proofs.lemmas.List.{at_drop_more}
use Rattle.command_types.specs.declared.roster.ProductRow.{ProductRow}
use Rattle.command_types.specs.declared.trade.TradeRow.{TradeRow}
use Rattle.command_types.specs.Roster.{Rows}
use Rattle.command_types.specs.Cycles.{product_matures_after}
use Rattle.period_roll.specs.declared.cause.Cause.{Cause}
use Rattle.period_roll.specs.Trades.{first_late, moved_trades, numbered_from}

-- ---- the first late trade

module _ (products : List ProductRow) (rows : List TradeRow) (i : ℕ) (row : TradeRow) (lt : i < length rows) (is : row ≡ get_or rows i row) where
  late_next : first_late products (drop i rows) ≡ (if product_matures_after (slice_get products row.product) row.day then first_late products (drop (i + 1) rows) else Some row.number)
  late_next = at_drop_more (first_late products) rows i row lt ∙ ap (λ (r : TradeRow). first_late products (r ∷ drop (i + 1) rows)) (sym is)

  pub late_here : product_matures_after (slice_get products row.product) row.day ≡ false → first_late products (drop i rows) ≡ Some row.number
  late_here late = late_next ∙ ap (λ b. if b then first_late products (drop (i + 1) rows) else Some row.number) late

  pub late_past : product_matures_after (slice_get products row.product) row.day ≡ true → first_late products (drop i rows) ≡ first_late products (drop (i + 1) rows)
  late_past early = late_next ∙ ap (λ b. if b then first_late products (drop (i + 1) rows) else Some row.number) early

-- ---- trades at their new places

-- what comes of the rest stands behind what was made
abbrev pub behind : List TradeRow → Result (List TradeRow) Cause → Result (List TradeRow) Cause
behind front (Ok rows) = Ok (front ++ rows)
behind front (Err cause) = Err cause

-- what the rest gives
abbrev pub of_rest : Rows → Rows → (TradeRow → Bool) → List TradeRow → List TradeRow → Result (List TradeRow) Cause
of_rest old new test front rows = behind front (moved_trades old new (filter test rows))

-- ---- their numbers

number_next : (rows : List TradeRow) (n i k : ℕ) (row : TradeRow) → i < length rows → k ≡ n + i → row ≡ get_or (numbered_from n (take i rows) ++ drop i rows) i row →
    set (numbered_from n (take i rows) ++ drop i rows) i (record row { number = k }) ≡ numbered_from n (take (suc i) rows) ++ drop (suc i) rows
number_next [] n i k row lt e is = absurd (omega (arith, lt))
number_next (first ∷ rows) n zero k row lt e is = let same : k ≡ n = omega (arith, e) in λ j. (record (is j) { number = same j }) ∷ rows
number_next (first ∷ rows) n (suc i) k row lt e is =
    ap (λ (l : List TradeRow). record first { number = n } ∷ l) (number_next rows (suc n) i k row (omega (arith, lt)) (omega (arith, e)) is)

pub numbers_one : (rows now : List TradeRow) (i k : ℕ) (row : TradeRow) → i < length rows → k ≡ i + 1 → now ≡ numbered_from 1 (take i rows) ++ drop i rows → row ≡ get_or now i row →
    set now i (record (get_or now i row) { number = k }) ≡ numbered_from 1 (take (i + 1) rows) ++ drop (i + 1) rows
numbers_one rows now i k row lt e so_far is =
    ap (λ (r : TradeRow). set now i (record r { number = k })) (sym is)
    ∙ ap (λ (l : List TradeRow). set l i (record row { number = k })) so_far
    ∙ number_next rows 1 i k row lt (omega (arith, e)) (is ∙ ap (λ (l : List TradeRow). get_or l i row) so_far)
    ∙ ap (λ m. numbered_from 1 (take m rows) ++ drop m rows) (sym (add-one i))
