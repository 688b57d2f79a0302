-- Pairs that are passed: they have no row.
use Rattle.std.proofs.Common.{◌≡◌, ◌≢◌, ℕ, zero, suc, ◌+◌, ◌*◌, ◌<◌, ◌≤◌, ◌++◌, true, false, List, [], length, get_or, refl, sym, ap, subst, ◌∙◌, eqb, arith, ⊎_elim}
use Rattle.std.proofs.lemmas.Bool.{cases_eq, cases_lt, eq-eqb, ne_eqb}
use Rattle.std.proofs.lemmas.List.{append-nil}
use Rattle.network_laws.specs.declared.rows.LimitRow.{LimitRow}
use Rattle.network_laws.specs.declared.rows.Row.{Row}
use Rattle.network_laws.specs.Networks.{place, amount_in, IsRising, IsCursor}
use Rattle.network_laws.proofs.RowOrder.{amount_none}
use Rattle.command_types.specs.Books.{listed_below}
use Rattle.command_types.specs.Tolerances.{may_grow}
use Rattle.tolerance_sets.specs.declared.limits.Market.{Market}
use Rattle.tolerance_sets.specs.declared.pair_cursor.PairCursor.{PairCursor}
use Rattle.tolerance_sets.specs.Market.{IsAtPair, KnowsGrowing, HaveNone, market_limit}
use Rattle.tolerance_sets.proofs.Walk.{one_more}

-- no amount, and no room to grow
pub no_limit : (market : Market) (i j : ℕ) → amount_in market.network.now i j ≡ 0 → may_grow market.mode market.members.now i j ≡ false → market_limit market i j ≡ []
no_limit market i j none still = rw (still, none) refl

-- no row stands between two pairs that have the same cursor
pub none_between : (rows : List Row) (m i from to j : ℕ) → IsCursor rows m (i * 65536 + from) → IsCursor rows m (i * 65536 + to) → from ≤ j → j < to → amount_in rows i j ≡ 0
none_between rows m i from to j first last le l =
    amount_none rows i j (λ k d lk e.
    ⊎_elim (λ (b : k < m). omega (arith, e, le, first.before k d b)) (λ (b : m ≤ k). omega (arith, e, l, last.behind k d b lk)) (cases_lt k m))

pub have_none : (market : Market) (m i from to : ℕ) → IsCursor market.network.now m (i * 65536 + from) → IsCursor market.network.now m (i * 65536 + to) → ((j : ℕ) → from ≤ j → j < to → may_grow market.mode market.members.now i j ≡ false) → HaveNone market i from to
have_none market m i from to first last still j le l =
    no_limit market i j (none_between market.network.now m i from to j first last le l) (still j le l)

-- numbers that give nothing add nothing
pub none_listed : {T : Type 0} (f : ℕ → List T) (from to : ℕ) → from ≤ to → ((j : ℕ) → from ≤ j → j < to → f j ≡ []) → listed_below to f ≡ listed_below from f
none_listed f from zero le none = let e : zero ≡ from = omega arith in ap (λ n. listed_below n f) e
none_listed f from (suc to) le none =
    ⊎_elim (λ (e : from ≡ suc to). ap (λ n. listed_below n f) (sym e))
    (λ (ne : from ≢ suc to).
    ap (λ xs. listed_below to f ++ xs) (none to (omega (arith, le, ne)) (omega arith)) ∙ append-nil (listed_below to f) ∙ none_listed f from to (omega (arith, le, ne)) (λ j lj l. none j lj (omega arith)))
    (cases_eq from (suc to))

-- the cursor of a pair is that of a later one that is not past its row
pub cursor_raised : (rows : List Row) (m w v : ℕ) → IsRising rows → IsCursor rows m w → w ≤ v → ((d : Row) → m < length rows → v ≤ place (get_or rows m d)) → IsCursor rows m v
cursor_raised rows m w v rising cursor le here = record {
  before = λ k d l. omega (arith, le, cursor.before k d l);
  behind = λ k d mk l.
      ⊎_elim (λ (e : k ≡ m). omega (arith, here d (omega arith), ap (λ j. place (get_or rows j d)) e)) (λ (ne : k ≢ m). omega (arith, here d (omega arith), rising m k d (omega arith) l)) (cases_eq k m);
}

-- a place between two that have the same cursor has it too
pub cursor_between : (rows : List Row) (m w v z : ℕ) → IsCursor rows m w → IsCursor rows m v → w ≤ z → z ≤ v → IsCursor rows m z
cursor_between rows m w v z first last le le' = record {
  before = λ k d l. omega (arith, le, first.before k d l);
  behind = λ k d mk l. omega (arith, le', last.behind k d mk l);
}

-- the rows before the first pair of a seller, and up to its next one
pub up_to_first : (start : List LimitRow) (market : Market) (i first : ℕ) → HaveNone market i 0 first → start ≡ start ++ listed_below first (market_limit market i)
up_to_first start market i first none =
    sym (ap (λ xs. start ++ xs) (none_listed (market_limit market i) 0 first (omega arith) none) ∙ append-nil start)

pub up_to_next : (start before after : List LimitRow) (market : Market) (i j next : ℕ) → before ≡ start ++ listed_below j (market_limit market i) → after ≡ before ++ market_limit market i j → j < next → HaveNone market i (j + 1) next → after ≡ start ++ listed_below next (market_limit market i)
up_to_next start before after market i j next e e' l none =
    one_more j (market_limit market i) start before after (market_limit market i j) e e' refl ∙ ap (λ xs. start ++ xs) (sym (none_listed (market_limit market i) (j + 1) next (omega arith) none))

-- up to the growing buyer the pair may grow exactly with him
pub grows_where_same : (market : Market) (at : PairCursor) → IsAtPair market at → KnowsGrowing market at → at.buyer ≤ at.growing → at.buyer < length market.members.now → eqb at.buyer at.growing ≡ may_grow market.mode market.members.now at.seller at.buyer
grows_where_same market at pair grows ahead within =
    ⊎_elim (λ (e : at.buyer ≡ at.growing).
    eq-eqb at.buyer at.growing e ∙ sym (subst (λ b. may_grow market.mode market.members.now at.seller b ≡ true) (sym e) (grows (omega (arith, within, e)))))
    (λ (ne : at.buyer ≢ at.growing). ne_eqb at.buyer at.growing ne ∙ sym (pair.growing at.buyer (omega arith) (omega (arith, ahead, ne))))
    (cases_eq at.buyer at.growing)
