-- Pairs that have no row in either network, and what is listed of those between them.
use Rattle.std.proofs.Common.{◌≡◌, ◌≢◌, ℕ, zero, suc, ◌+◌, ◌*◌, ◌<◌, ◌≤◌, ◌++◌, List, [], refl, sym, ap, ◌∙◌, arith, ⊎_elim}
use Rattle.std.proofs.lemmas.Bool.{cases_eq, cases_lt}
use Rattle.std.proofs.lemmas.List.{append-nil}
use Rattle.units_core.specs.Day.{DayParts}
use Rattle.network_laws.specs.declared.rows.Row.{Row}
use Rattle.network_laws.specs.Networks.{NetworkData, amount_in, at, IsCursor}
use Rattle.network_laws.proofs.RowOrder.{amount_none}
use Rattle.command_types.specs.declared.trade.TradeRow.{TradeRow}
use Rattle.command_types.specs.Books.{listed_below}
use Rattle.command_types.specs.Plans.{pair_plan}

-- no row stands between two pairs that have the same cursor
none_between : (rows : List Row) (m i from to j : ℕ) → IsCursor rows m (i * 65536 + from) → IsCursor rows m (i * 65536 + to) → from ≤ j → j < to → amount_in rows i j ≡ 0
none_between rows m i from to j first last le l =
    amount_none rows i j (λ k d lk e.
    ⊎_elim (λ (b : k < m). omega (arith, e, le, first.before k d b)) (λ (b : m ≤ k). omega (arith, e, l, last.behind k d b lk)) (cases_lt k m))

-- numbers that give nothing add nothing
none_listed : {T : Type 0} (f : ℕ → List T) (from to : ℕ) → from ≤ to → ((j : ℕ) → from ≤ j → j < to → f j ≡ []) → listed_below to f ≡ listed_below from f
none_listed f from zero le none = let e : zero ≡ from = omega arith in ap (λ n. listed_below n f) e
none_listed f from (suc to) le none =
    ⊎_elim (λ (e : from ≡ suc to). ap (λ n. listed_below n f) (sym e))
    (λ (ne : from ≢ suc to).
    ap (λ xs. listed_below to f ++ xs) (none to (omega (arith, le, ne)) (omega arith)) ∙ append-nil (listed_below to f) ∙ none_listed f from to (omega (arith, le, ne)) (λ j lj l. none j lj (omega arith)))
    (cases_eq from (suc to))

-- nothing changes of a pair that has no amount
no_steps : (trades : List TradeRow) (day : DayParts) (product : ℕ) (old new : NetworkData) (i j : ℕ) → at old i j ≡ 0 → at new i j ≡ 0 → pair_plan trades day product old new i j ≡ []
no_steps trades day product old new i j e e' = rw (e, e') refl

-- where both cursors of a seller's pair are those of a later one too
pub record AreBetween (old new : NetworkData) (old_at new_at i from to : ℕ) : Type 0 where
  pub le : from ≤ to
  pub old_first : IsCursor old.rows old_at (i * 65536 + from)
  pub old_last : IsCursor old.rows old_at (i * 65536 + to)
  pub new_first : IsCursor new.rows new_at (i * 65536 + from)
  pub new_last : IsCursor new.rows new_at (i * 65536 + to)

-- the pairs between them add no steps
pub passed : (trades : List TradeRow) (day : DayParts) (product : ℕ) (old new : NetworkData) (old_at new_at i from to : ℕ) → AreBetween old new old_at new_at i from to → listed_below to (pair_plan trades day product old new i) ≡ listed_below from (pair_plan trades day product old new i)
passed trades day product old new old_at new_at i from to are =
    none_listed (pair_plan trades day product old new i) from to are.le (λ j le l.
    no_steps trades day product old new i j (none_between old.rows old_at i from to j are.old_first are.old_last le l) (none_between new.rows new_at i from to j are.new_first are.new_last le l))
