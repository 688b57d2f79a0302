-- What a command that changes trades by itself leaves as it was.
use Rattle.std.proofs.Common.{◌≡◌, ℕ, zero, suc, ◌+◌, ◌≤◌, Bool, true, false, cond, not, ◌&&◌, ◌||◌, List, [], ◌∷◌, ◌++◌, length, Some, is_some, slice_get, refl, sym, ap, ◌∙◌, arith}
use Rattle.std.proofs.lemmas.Bool.{or_right}
use Rattle.std.proofs.lemmas.List.{length-map}
use Rattle.units_core.specs.Day.{DayParts}
use Rattle.command_types.specs.declared.trade.Side.{Side}
use Rattle.command_types.specs.declared.trade.Side.TheVariants.{Out, In}
use Rattle.command_types.specs.declared.trade.TradeRow.{TradeRow}
use Rattle.command_types.specs.declared.trade.TradeState.{TradeState}
use Rattle.command_types.specs.declared.trade.TradeState.TheVariants.{Alleged, Live, Ended}
use Rattle.command_types.specs.Trades.{trade_numbered, with_changed, live_row, row_ended_by, row_with_hold, affirmed, ended_by, held_by, freed_by, with_alleged, alleged_row, is_alleged, is_live}
use Rattle.command_types.specs.Books.{frozen_network}
use Rattle.command_types.specs.Plans.{is_party_row}
use Rattle.command_types.specs.CycleSteps.{is_frozen_and_marked}
use Rattle.trade_history.specs.Executes.{marked, marked_row, are_live}
use Rattle.trade_history.specs.Book.{AreNumbered}
use Rattle.trade_history.proofs.Changes.{KeepsNumber, KeepsTerms, change_at, changed-at, changed-marked, length-changed, numbered-changed, numbered-at, networks-changed, networks-push, parties-changed, numbered-push, marked-push, are_numbered-push}
use Rattle.trade_history.proofs.RowKinds.{live-number, live-terms, hold-number, hold-terms, end-number, end-terms}

pub record IsRowStep (op : List TradeRow → List TradeRow) : Type 0 where
  pub marks : (t : ℕ → Bool) (rows : List TradeRow) → t (length rows + 1) ≡ false → op (marked t rows) ≡ marked t (op rows)
  pub numbers : (rows : List TradeRow) → AreNumbered 0 rows → AreNumbered 0 (op rows)
  pub grows : (rows : List TradeRow) → length rows ≤ length (op rows)
  pub networks : (members product : ℕ) (rows : List TradeRow) → frozen_network members product (op rows) ≡ frozen_network members product rows
  pub parties : (rows : List TradeRow) (trade member : ℕ) → trade ≤ length rows → is_party_row (trade_numbered (op rows) trade) member ≡ is_party_row (trade_numbered rows trade) member

-- one trade changes
change-step : (f : TradeRow → TradeRow) → KeepsNumber f → KeepsTerms f → (n : ℕ) → IsRowStep (λ rows. with_changed f rows n)
change-step f number terms n = record {
  marks = λ t rows later. changed-marked f number t rows n;
  numbers = λ rows are. numbered-changed f number rows n are;
  grows = λ rows. (let e = length-changed f rows n in omega arith);
  networks = λ members product rows. networks-changed f terms members product rows n;
  parties = λ rows trade member below. parties-changed f terms rows n trade member;
}

pub affirm-step : (n : ℕ) → IsRowStep (λ rows. affirmed rows n)
affirm-step n = change-step live_row live-number live-terms n

pub end-step : (side : Side) (n : ℕ) → IsRowStep (λ rows. ended_by side rows n)
end-step side n = change-step (row_ended_by side) (end-number side) (end-terms side) n

pub hold-step : (side : Side) (n : ℕ) → IsRowStep (λ rows. held_by side rows n)
hold-step side n = change-step (row_with_hold true side) (hold-number true side) (hold-terms true side) n

pub free-step : (side : Side) (n : ℕ) → IsRowStep (λ rows. freed_by side rows n)
free-step side n = change-step (row_with_hold false side) (hold-number false side) (hold-terms false side) n

-- nothing changes
pub none-step : IsRowStep (λ rows. rows)
none-step = record {
  marks = λ t rows later. refl;
  numbers = λ rows are. are;
  grows = λ rows. omega arith;
  networks = λ members product rows. refl;
  parties = λ rows trade member below. refl;
}

-- a new trade
alleged-marked : (seller buyer product amount : ℕ) (day : DayParts) (side : Side) (t : ℕ → Bool) (rows : List TradeRow) → t (length rows + 1) ≡ false →
    with_alleged (marked t rows) seller buyer product amount day side ≡ marked t (with_alleged rows seller buyer product amount day side)
alleged-marked seller buyer product amount day side t rows later =
    ap (λ n. marked t rows ++ alleged_row (n + 1) seller buyer product amount day side ∷ []) (length-map rows (marked_row t))
    ∙ sym (marked-push t rows (alleged_row (length rows + 1) seller buyer product amount day side)
    (ap (λ b. record (alleged_row (length rows + 1) seller buyer product amount day side) { frozen = b }) later))

length-push : (rows : List TradeRow) (new : TradeRow) → length rows ≤ length (rows ++ new ∷ [])
length-push [] new = omega arith
length-push (row ∷ rows) new = (let le = length-push rows new in omega arith)

pub trade-step : (seller buyer product amount : ℕ) (day : DayParts) (side : Side) → IsRowStep (λ rows. with_alleged rows seller buyer product amount day side)
trade-step seller buyer product amount day side = record {
  marks = λ t rows later. alleged-marked seller buyer product amount day side t rows later;
  numbers = λ rows are. are_numbered-push rows (alleged_row (length rows + 1) seller buyer product amount day side) are refl;
  grows = λ rows. length-push rows (alleged_row (length rows + 1) seller buyer product amount day side);
  networks = λ members of rows. networks-push members of rows (alleged_row (length rows + 1) seller buyer product amount day side) refl;
  parties = λ rows trade member below. ap (λ o. is_party_row o member) (numbered-push rows (alleged_row (length rows + 1) seller buyer product amount day side) trade below);
}

-- a frozen trade is live where each is
abbrev is_kept : (ℕ → Bool) → TradeRow → Bool
is_kept t row = not (t row.number) || is_live row.state

both_and : (a b c : Bool) → (a ≡ true → b ≡ true) → (a && c) ≡ true → (b && c) ≡ true
both_and true b c h e = rw (h refl) e
both_and false b c h e = cc

and_more : (a b c : Bool) → (b ≡ true → c ≡ true) → (a && b) ≡ true → (a && c) ≡ true
and_more true b c h e = h e
and_more false b c h e = e

live-change_at : (f : TradeRow → TradeRow) (t : ℕ → Bool) (rows : List TradeRow) (k : ℕ) →
    ((row : TradeRow) → slice_get rows k ≡ Some row → is_kept t row ≡ true → is_kept t (f row) ≡ true) → are_live t rows ≡ true → are_live t (change_at f rows k) ≡ true
live-change_at f t [] k keeps are = are
live-change_at f t (row ∷ rows) zero keeps are = both_and (is_kept t row) (is_kept t (f row)) (are_live t rows) (keeps row refl) are
live-change_at f t (row ∷ rows) (suc k) keeps are =
    and_more (is_kept t row) (are_live t rows) (are_live t (change_at f rows k)) (live-change_at f t rows k keeps) are

live-changed : (f : TradeRow → TradeRow) (t : ℕ → Bool) (rows : List TradeRow) (n : ℕ) →
    ((row : TradeRow) → trade_numbered rows n ≡ Some row → is_kept t row ≡ true → is_kept t (f row) ≡ true) → are_live t rows ≡ true → are_live t (with_changed f rows n) ≡ true
live-changed f t rows zero keeps are = are
live-changed f t rows (suc k) keeps are =
    ap (are_live t) (changed-at f rows k) ∙ live-change_at f t rows k (λ row is. keeps row (numbered-at rows k ∙ is)) are

pub live-affirm : (t : ℕ → Bool) (rows : List TradeRow) (n : ℕ) → are_live t rows ≡ true → are_live t (affirmed rows n) ≡ true
live-affirm t rows n are = live-changed live_row t rows n (λ row is kept. or_right (not (t row.number)) true refl) are

hold_same : (held : Bool) (side : Side) (t : ℕ → Bool) (row : TradeRow) → is_kept t (row_with_hold held side row) ≡ is_kept t row
hold_same held Out t row = refl
hold_same held In t row = refl

pub live-hold : (held : Bool) (side : Side) (t : ℕ → Bool) (rows : List TradeRow) (n : ℕ) → are_live t rows ≡ true → are_live t (with_changed (row_with_hold held side) rows n) ≡ true
live-hold held side t rows n are = live-changed (row_with_hold held side) t rows n (λ row is kept. hold_same held side t row ∙ kept) are

live-push : (t : ℕ → Bool) (rows : List TradeRow) (new : TradeRow) → t new.number ≡ false → are_live t rows ≡ true → are_live t (rows ++ new ∷ []) ≡ true
live-push t [] new free are = rw free refl
live-push t (row ∷ rows) new free are = and_more (is_kept t row) (are_live t rows) (are_live t (rows ++ new ∷ [])) (live-push t rows new free) are

pub live-trade : (seller buyer product amount : ℕ) (day : DayParts) (side : Side) (t : ℕ → Bool) (rows : List TradeRow) → t (length rows + 1) ≡ false →
    are_live t rows ≡ true → are_live t (with_alleged rows seller buyer product amount day side) ≡ true
live-trade seller buyer product amount day side t rows later are = live-push t rows (alleged_row (length rows + 1) seller buyer product amount day side) later are

-- the END of a trade that is not both frozen and marked ends no frozen trade
get-marked : (t : ℕ → Bool) (rows : List TradeRow) (k : ℕ) (row : TradeRow) → slice_get rows k ≡ Some row → slice_get (marked t rows) k ≡ Some (marked_row t row)
get-marked t [] k row is = cc
get-marked t (r ∷ rows) zero row is = (let e : r ≡ row = cc in ap (λ v. Some (marked_row t v)) e)
get-marked t (r ∷ rows) (suc k) row is = get-marked t rows k row is

numbered-marked : (t : ℕ → Bool) (rows : List TradeRow) (n : ℕ) (row : TradeRow) → trade_numbered rows n ≡ Some row → trade_numbered (marked t rows) n ≡ Some (marked_row t row)
numbered-marked t rows zero row is = cc
numbered-marked t rows (suc k) row is = numbered-at (marked t rows) k ∙ get-marked t rows k row (sym (numbered-at rows k) ∙ is)

end_kept : (side : Side) (state : TradeState) (taken marked : Bool) → (taken && marked) ≡ false → (not taken || is_live state) ≡ true →
    (not taken || (is_live state && not (is_alleged state || marked))) ≡ true
end_kept side state false m apart kept = refl
end_kept side Live true m apart kept = rw apart refl
end_kept side Alleged true m apart kept = kept
end_kept side Ended true m apart kept = kept

end_live : (ends : Bool) (taken : Bool) (live : Bool) → (not taken || (live && not ends)) ≡ true → (not taken || cond ends false live) ≡ true
end_live true false live e = refl
end_live false false live e = refl
end_live true true true e = e
end_live true true false e = e
end_live false true true e = e
end_live false true false e = e

state_ended : (ends : Bool) (side : Side) (t : ℕ → Bool) (row : TradeRow) →
    is_kept t (cond ends (record row { state = Ended }) (record row { mark = Some side })) ≡ (not (t row.number) || cond ends false (is_live row.state))
state_ended true side t row = refl
state_ended false side t row = refl

pub live-end : (side : Side) (t : ℕ → Bool) (rows : List TradeRow) (n : ℕ) → is_frozen_and_marked (trade_numbered (marked t rows) n) ≡ false →
    are_live t rows ≡ true → are_live t (ended_by side rows n) ≡ true
live-end side t rows n apart are = live-changed (row_ended_by side) t rows n (λ row is kept.
    let here : (t row.number && is_some row.mark) ≡ false = sym (ap is_frozen_and_marked (numbered-marked t rows n row is)) ∙ apart in
    state_ended (is_alleged row.state || is_some row.mark) side t row
    ∙ end_live (is_alleged row.state || is_some row.mark) (t row.number) (is_live row.state) (end_kept side row.state (t row.number) (is_some row.mark) here kept)) are
