-- Free trades that were sorted by pair: those of a pair are the same, in the same order, and stand side by side.
use Rattle.std.proofs.Common.{◌≡◌, ◌≢◌, ℕ, suc, ◌+◌, ◌<◌, ◌≤◌, ◌++◌, ◌&&◌, not, Bool, true, false, cond, List, [], ◌∷◌, length, get_or, take, drop, refl, sym, ap, ◌∙◌, arith, ⊎_elim}
use Rattle.std.specs.Prelude.{filter}
use Rattle.std.specs.List.{AllWithin}
use Rattle.std.specs.List.Sorted.{IsNonDecreasingBy, IsStableByKey, ties}
use Rattle.std.specs.Ordering.{is_lt, nat_cmp}
use Rattle.std.specs.Cmp.{nat_cmp_is}
use Rattle.std.specs.declared.cmp.Ordering.TheVariants.{Equal}
use Rattle.std.proofs.lemmas.Bool.{cases_eq, false_from_ne_true}
use Rattle.std.proofs.lemmas.List.{append-nil, take-append-drop, get_or_default, get_or-take, get_or-drop, length-take-le, length-drop}
use Rattle.std.proofs.lemmas.List.Elements.{filter_agree, filter-append}
use Rattle.command_types.specs.declared.trade.TradeRow.{TradeRow}
use Rattle.command_types.specs.Books.{is_between, is_held}
use Rattle.command_types.specs.Plans.{falling, free_rows, made_row}
use Rattle.acceptance.specs.Planning.{is_free, is_free_between, pair_place, trade_place, HasPlansOf}
use Rattle.acceptance.proofs.PlanFacts.{filter_twice}
use Rattle.acceptance.proofs.OwnSteps.{between_parts, free_parts}
use Rattle.acceptance.proofs.SamePlans.{plans_same}

-- where a pair's free trade stands
pub free_place : (product seller buyer : ℕ) (row : TradeRow) → is_free_between product seller buyer row ≡ true → trade_place row ≡ pair_place product seller buyer
free_place product seller buyer row e =
    let parts = between_parts product seller buyer row (free_parts product seller buyer row e).0 in
    ap (λ p. pair_place p row.seller row.buyer) parts.0 ∙ ap (λ s. pair_place product s row.buyer) parts.1 ∙ ap (pair_place product seller) parts.2

-- trades before and after each other's place
abbrev comes_before : TradeRow → TradeRow → Bool
comes_before row other = is_lt (nat_cmp (trade_place row) (trade_place other))

same_place : (row other : TradeRow) → trade_place row ≡ trade_place other → ties comes_before row other ≡ true
same_place row other e =
    let m = trade_place row in
    let n = trade_place other in
    ap (λ o. not (is_lt o) && not (is_lt (nat_cmp n m))) (sym (nat_cmp_is m n Equal e)) ∙ ap (λ o. not (is_lt o)) (sym (nat_cmp_is n m Equal (sym e)))

-- a test that passes only where another does
both_pass : (p q : Bool) → (p ≡ true → q ≡ true) → (q && p) ≡ p
both_pass true q h = ap (λ t. t && true) (h refl)
both_pass false true h = refl
both_pass false false h = refl

passes_within : (p q : TradeRow → Bool) → ((row : TradeRow) → p row ≡ true → q row ≡ true) → (rows : List TradeRow) → filter p (filter q rows) ≡ filter p rows
passes_within p q within rows = filter_twice p q rows ∙ filter_agree (λ row. q row && p row) p (λ row. both_pass (p row) (q row) (within row)) rows

free_too : (a b c : Bool) → (a && b && c) ≡ true → (b && c) ≡ true
free_too true b c e = e
free_too false b c e = cc

-- a sort by place that keeps the order of trades at one place
pub sorted_plans : (trades free : List TradeRow) → IsStableByKey trade_place nat_cmp (filter is_free trades) free → HasPlansOf trades free
sorted_plans trades free stable = plans_same free trades (λ fall product seller buyer. ap (falling fall) (free_same product seller buyer))
  where
    free_same : (product seller buyer : ℕ) → free_rows free product seller buyer ≡ free_rows trades product seller buyer
    free_same product seller buyer =
        let P = is_free_between product seller buyer in
        let here : TradeRow = made_row 0 product seller buyer 0 (record { year = 0; month = 0; day = 0 }) in
        let q = ties comes_before here in
        let at : (row : TradeRow) → P row ≡ true → q row ≡ true = λ row e. same_place here row (sym (free_place product seller buyer row e)) in
        sym (passes_within P q at free) ∙ ap (filter P) (stable here) ∙ passes_within P q at (filter is_free trades)
        ∙ passes_within P is_free (λ row e. free_too (is_between product seller buyer row) row.frozen (not (is_held row)) e) trades

none_pass : (P : TradeRow → Bool) (rows : List TradeRow) → ((k : ℕ) (d : TradeRow) → k < length rows → P (get_or rows k d) ≡ false) → filter P rows ≡ []
none_pass P [] none = refl
none_pass P (row ∷ rows) none = ap (λ t. cond t (row ∷ filter P rows) (filter P rows)) (none 0 row (omega arith)) ∙ none_pass P rows (λ k d l. none (suc k) d (omega arith))

-- a part in front of which, or behind which, no trade passes
front_passes : (P : TradeRow → Bool) (rows : List TradeRow) (count : ℕ) → ((k : ℕ) (d : TradeRow) → k < length (take count rows) → P (get_or (take count rows) k d) ≡ false) → filter P (drop count rows) ≡ filter P rows
front_passes P rows count none =
    sym (ap (filter P) (sym (take-append-drop count rows)) ∙ filter-append P (take count rows) (drop count rows) ∙ ap (λ xs. xs ++ filter P (drop count rows)) (none_pass P (take count rows) none))

back_passes : (P : TradeRow → Bool) (rows : List TradeRow) (count : ℕ) → ((k : ℕ) (d : TradeRow) → k < length (drop count rows) → P (get_or (drop count rows) k d) ≡ false) → filter P (take count rows) ≡ filter P rows
back_passes P rows count none =
    sym (ap (filter P) (sym (take-append-drop count rows)) ∙ filter-append P (take count rows) (drop count rows) ∙ ap (λ xs. filter P (take count rows) ++ xs) (none_pass P (drop count rows) none) ∙ append-nil (filter P (take count rows)))

other_place : (product seller buyer : ℕ) (row : TradeRow) → trade_place row ≢ pair_place product seller buyer → is_free_between product seller buyer row ≡ false
other_place product seller buyer row ne = false_from_ne_true (is_free_between product seller buyer row) (λ e. ne (free_place product seller buyer row e))

-- the part from a place on, where a pair's is not in front of it
pub from_is_all : (product seller buyer place : ℕ) (rows : List TradeRow) (count : ℕ) → place ≤ pair_place product seller buyer → count ≤ length rows → AllWithin (λ row. trade_place row < place) rows 0 count →
    free_rows (drop count rows) product seller buyer ≡ free_rows rows product seller buyer
from_is_all product seller buyer place rows count low within before =
    front_passes (is_free_between product seller buyer) rows count (λ k d l.
    let k_first : k < count = omega (arith, length-take-le count rows within) in
    let same = ap trade_place (get_or-take count rows k d k_first) in
    let less = before k d (omega arith) k_first in
    other_place product seller buyer (get_or (take count rows) k d) (λ q. omega (arith, same, less, q, low)))

-- the part up to a place, where a pair's is in front of it
pub upto_is_all : (product seller buyer place : ℕ) (rows : List TradeRow) (count : ℕ) → pair_place product seller buyer < place → AllWithin (λ row. place ≤ trade_place row) rows count (length rows) →
    free_rows (take count rows) product seller buyer ≡ free_rows rows product seller buyer
upto_is_all product seller buyer place rows count high behind =
    back_passes (is_free_between product seller buyer) rows count (λ k d l.
    let inside : count + k < length rows = omega (arith, l, length-drop count rows) in
    let same = ap trade_place (get_or-drop count rows k d) in
    let more = behind (count + k) d (omega arith) inside in
    other_place product seller buyer (get_or (drop count rows) k d) (λ q. omega (arith, same, more, q, high)))

-- past one more trade that stands before the place
pub one_passed : (rows : List TradeRow) (place count : ℕ) (here : TradeRow) → AllWithin (λ row. trade_place row < place) rows 0 count → count < length rows → trade_place (get_or rows count here) < place → AllWithin (λ row. trade_place row < place) rows 0 (count + 1)
one_passed rows place count here before within less = λ k d l m.
    ⊎_elim (λ (e : k ≡ count). omega (arith, less, ap trade_place (ap (λ j. get_or rows j d) e), ap trade_place (get_or_default rows count here d within))) (λ (ne : k ≢ count). before k d l (omega (arith, ne, m))) (cases_eq k count)

-- from one that does not, none behind it does
pub none_behind : (rows : List TradeRow) (place count : ℕ) (here : TradeRow) → IsNonDecreasingBy trade_place rows → (count < length rows → place ≤ trade_place (get_or rows count here)) → AllWithin (λ row. place ≤ trade_place row) rows count (length rows)
none_behind rows place count here sorted first = λ k d l m.
    let within : count < length rows = omega (arith, l, m) in
    omega (arith, first within, ap trade_place (get_or_default rows count here d within), sorted count k d l m)
