-- What keeps the sums of trades right: a new trade, a change of one, and changes that add nothing.
use Rattle.std.proofs.Common.{◌≡◌, ℕ, ◌+◌, ◌-◌, ◌≤◌, ◌<◌, ◌==◌, ◌&&◌, Bool, List, [], ◌∷◌, ◌++◌, length, map, get_or, set, if◌then◌else◌, arith, refl, ap, sym, ◌∙◌, ⊎_elim, length-set}
use Rattle.std.specs.Prelude.{sum_by}
use Rattle.std.proofs.lemmas.Bool.{cases_eq, eq-eqb, ne_eqb}
use Rattle.std.proofs.lemmas.List.{get_or-set_same, get_or-set_other}
use Rattle.std.proofs.lemmas.List.Sums.{sum_by_push, sum_by-cons, sum_by-set, get_or-le-sum_by}
use Rattle.command_types.specs.declared.trade.TradeRow.{TradeRow}
use Rattle.product_book.specs.Kept.{raised, moved, AreSums}

abbrev own_part : (TradeRow → Bool) → TradeRow → ℕ
own_part test row = if test row then row.amount else 0

abbrev at_part : (TradeRow → ℕ) → (TradeRow → Bool) → ℕ → TradeRow → ℕ
at_part key test n row = if (key row == n) && test row then row.amount else 0

at_own : (key : TradeRow → ℕ) (test : TradeRow → Bool) (n : ℕ) (row : TradeRow) → key row ≡ n → at_part key test n row ≡ own_part test row
at_own key test n row e = rw (eq-eqb (key row) n e) refl

at_other : (key : TradeRow → ℕ) (test : TradeRow → Bool) (n : ℕ) (row : TradeRow) → (key row ≡ n → ⊥) → at_part key test n row ≡ 0
at_other key test n row ne = rw (ne_eqb (key row) n ne) refl

-- one more trade
pub kept_push : (key : TradeRow → ℕ) (test : TradeRow → Bool) (sums : List ℕ) (rows : List TradeRow) (row : TradeRow) → AreSums key test sums rows → key row < length sums → AreSums key test (raised sums (key row) (own_part test row)) (rows ++ row ∷ [])
kept_push key test sums rows row kept small n low =
    let size = length-set sums (key row) (get_or sums (key row) 0 + own_part test row) in
    let more = sum_by_push (at_part key test n) rows row in
    ⊎_elim (λ (e : key row ≡ n).
    omega (
      arith,
      ap (λ k. get_or (set sums (key row) (get_or sums (key row) 0 + own_part test row)) k 0) e,
      get_or-set_same sums (key row) (get_or sums (key row) 0 + own_part test row) 0 small,
      kept n (omega (arith, low, size)),
      ap (λ k. get_or sums k 0) e,
      more,
      at_own key test n row e,
    ))
    (λ (ne : key row ≡ n → ⊥).
    omega (arith, get_or-set_other sums (key row) n (get_or sums (key row) 0 + own_part test row) 0 (λ e. ne (sym e)), kept n (omega (arith, low, size)), more, at_other key test n row ne))
    (cases_eq (key row) n)

-- one trade changed, its place as before
pub kept_set : (key : TradeRow → ℕ) (test : TradeRow → Bool) (sums : List ℕ) (rows : List TradeRow) (i : ℕ) (old new : TradeRow) → AreSums key test sums rows → i < length rows → get_or rows i old ≡ old → key new ≡ key old → key old < length sums
    → AreSums key test (moved sums (key old) (own_part test old) (own_part test new)) (set rows i new)
kept_set key test sums rows i old new kept within is same small n low =
    let sum : ℕ = get_or sums (key old) 0 - own_part test old + own_part test new in
    let size = length-set sums (key old) sum in
    let more = sum_by-set (at_part key test n) rows i new old within in
    let there : at_part key test n (get_or rows i old) ≡ at_part key test n old = ap (at_part key test n) is in
    let part = get_or-le-sum_by (at_part key test n) rows i old within in
    ⊎_elim (λ (e : key old ≡ n).
    omega (
      arith,
      ap (λ k. get_or (set sums (key old) sum) k 0) e,
      get_or-set_same sums (key old) sum 0 small,
      kept n (omega (arith, low, size)),
      ap (λ k. get_or sums k 0) e,
      more,
      there,
      part,
      at_own key test n old e,
      at_own key test n new (same ∙ e),
    ))
    (λ (ne : key old ≡ n → ⊥).
    omega (arith, get_or-set_other sums (key old) n sum 0 (λ e. ne (sym e)), kept n (omega (arith, low, size)), more, there, at_other key test n old ne, at_other key test n new (λ e. ne (sym same ∙ e))))
    (cases_eq (key old) n)

-- what the sum is then
pub raised_is : (key : TradeRow → ℕ) (test : TradeRow → Bool) (sums : List ℕ) (rows : List TradeRow) (row : TradeRow) → AreSums key test sums rows → key row < length sums
    → get_or sums (key row) 0 + own_part test row ≡ sum_by (at_part key test (key row)) (rows ++ row ∷ [])
raised_is key test sums rows row kept small =
    let sum : ℕ = get_or sums (key row) 0 + own_part test row in
    sym (get_or-set_same sums (key row) sum 0 small) ∙ kept_push key test sums rows row kept small (key row) (omega (arith, small, length-set sums (key row) sum))

pub moved_is : (key : TradeRow → ℕ) (test : TradeRow → Bool) (sums : List ℕ) (rows : List TradeRow) (i : ℕ) (old new : TradeRow) → AreSums key test sums rows → i < length rows → get_or rows i old ≡ old → key new ≡ key old → key old < length sums
    → get_or sums (key old) 0 - own_part test old + own_part test new ≡ sum_by (at_part key test (key old)) (set rows i new)
moved_is key test sums rows i old new kept within is same small =
    let sum : ℕ = get_or sums (key old) 0 - own_part test old + own_part test new in
    sym (get_or-set_same sums (key old) sum 0 small) ∙ kept_set key test sums rows i old new kept within is same small (key old) (omega (arith, small, length-set sums (key old) sum))

-- what a trade adds is in its sum
pub part_in : (key : TradeRow → ℕ) (test : TradeRow → Bool) (sums : List ℕ) (rows : List TradeRow) (i : ℕ) (old : TradeRow) → AreSums key test sums rows → i < length rows → get_or rows i old ≡ old → key old < length sums → own_part test old ≤ get_or sums (key old) 0
part_in key test sums rows i old kept within is small =
    omega (arith, kept (key old) small, get_or-le-sum_by (at_part key test (key old)) rows i old within, ap (at_part key test (key old)) is, at_own key test (key old) old refl)

-- every trade changed, but for its place and for what it adds
pub kept_map : (key : TradeRow → ℕ) (test : TradeRow → Bool) (sums : List ℕ) (rows : List TradeRow) (f : TradeRow → TradeRow) → ((n : ℕ) (row : TradeRow) → at_part key test n (f row) ≡ at_part key test n row) → AreSums key test sums rows → AreSums key test sums (map f rows)
kept_map key test sums rows f same kept n low = kept n low ∙ sym (mapped rows)
  where
    mapped : (rows : List TradeRow) → sum_by (at_part key test n) (map f rows) ≡ sum_by (at_part key test n) rows
    mapped [] = refl
    mapped (row ∷ rows) = omega (arith, same n row, sum_by-cons (at_part key test n) row rows, sum_by-cons (at_part key test n) (f row) (map f rows), mapped rows)

-- one trade changed, but for its place and for what it adds
pub kept_same : (key : TradeRow → ℕ) (test : TradeRow → Bool) (sums : List ℕ) (rows : List TradeRow) (i : ℕ) (old new : TradeRow) → AreSums key test sums rows → i < length rows → get_or rows i old ≡ old → ((n : ℕ) → at_part key test n new ≡ at_part key test n old) → AreSums key test sums (set rows i new)
kept_same key test sums rows i old new kept within is same n low =
    omega (arith, kept n low, sum_by-set (at_part key test n) rows i new old within, ap (at_part key test n) is, same n)
