use Rattle.std.proofs.Common.{◌≡◌, ℕ, ◌+◌, ◌-◌, ◌*◌, ◌<◌, ◌≤◌, nat_lt, true, List, [], ◌∷◌, length, take, drop, get_or, fold, Some, None, arith, sym, subst, ap, ◌∙◌, cond, if◌then◌else◌}
use Rattle.std.proofs.lemmas.Bool.Decides.{nat_tests}
use Rattle.std.proofs.lemmas.List.{take_more, take-append-drop}
use Rattle.std.proofs.lemmas.List.Sums.{fold-append}
use Rattle.units_core.specs.Number.{digit_on, value_of}

lt_true : (n m : ℕ) → n < m → nat_lt n m ≡ true
lt_true n m h = grind (arith, nat_tests)

-- more digits make no number smaller
fold_grows : (n : ℕ) (ys : List ℕ) → n ≤ fold digit_on n ys
fold_grows n [] = omega arith
fold_grows n (c ∷ cs) = let on : digit_on n c ≤ fold digit_on (digit_on n c) cs = fold_grows (digit_on n c) cs in omega arith

value_more : (text : List ℕ) (i : ℕ) → i < length text → value_of (take (i + 1) text) ≡ digit_on (value_of (take i text)) (get_or text i 0)
value_more text i lt = ap value_of (take_more text i 0 lt) ∙ fold-append digit_on 0 (take i text) (get_or text i 0 ∷ [])

value_front : (text : List ℕ) (k : ℕ) → value_of (take k text) ≤ value_of text
value_front text k =
    let whole : value_of text ≡ fold digit_on (value_of (take k text)) (drop k text) = ap value_of (sym (take-append-drop k text)) ∙ fold-append digit_on 0 (take k text) (drop k text) in
    let grows = fold_grows (value_of (take k text)) (drop k text) in
    let P : ℕ → Type 0 = λ n. value_of (take k text) ≤ n in
    subst P (sym whole) grows

-- a front that is too large makes the whole too large
pub too_large : (text : List ℕ) (i v most next : ℕ) → i < length text → v ≡ value_of (take i text) → next ≡ 10 * v + (get_or text i 0 - 48) → most < next →
    None ≡ (if nat_lt most (value_of text) then None else Some (value_of text))
too_large text i v most next lt is on over =
    let step : value_of (take (i + 1) text) ≡ 10 * value_of (take i text) + (get_or text i 0 - 48) = value_more text i lt in
    let front : value_of (take (i + 1) text) ≤ value_of text = value_front text (i + 1) in
    let large : most < value_of text = omega arith in
    sym (ap (λ t. cond t None (Some (value_of text))) (lt_true most (value_of text) large))
