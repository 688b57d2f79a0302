-- Beginnings of one history.
use Rattle.std.proofs.Common.{◌≡◌, ℕ, ◌+◌, ◌-◌, ◌≤◌, Bool, true, false, cond, nat_lt, ◌==◌, List, [], ◌∷◌, ◌++◌, length, drop, sym, refl, ap, ◌∙◌, arith, length-append}
use Rattle.std.proofs.lemmas.List.{append-nil, append_cancel_left, drop-append-le}
use Rattle.std.proofs.Math.Seq.{drop-append_seam}
use Rattle.std.proofs.lemmas.List.Elements.{filter-append}
use Rattle.std.proofs.lemmas.Bool.Decides.{nat_tests}
use Rattle.command_types.specs.declared.ask.Entry.{Entry}
use Rattle.command_types.specs.declared.figures.Figures.{Figures}
use Rattle.cycle_lock.specs.Accounts.{by, Extends, longest, opening_count}

pub shorter_first : (xs ys rx ry : List Entry) → xs ++ rx ≡ ys ++ ry → length xs ≤ length ys → Extends ys xs
shorter_first [] ys rx ry e le = (ys, refl)
shorter_first (x ∷ xs) [] rx ry e le = absurd (omega arith)
shorter_first (x ∷ xs) (y ∷ ys) rx ry e le = let t : xs ++ rx ≡ ys ++ ry = cc in let h : x ≡ y = cc in let r = shorter_first xs ys rx ry t (omega arith) in (r.0, (λ i. sym h i ∷ r.1 i))

pub record Over (log xs ys all : List Entry) : Type 0 where
  pub first : Extends all xs
  pub second : Extends all ys
  pub whole : Extends log all

chosen : (log xs ys : List Entry) (b : Bool) → nat_lt (length xs) (length ys) ≡ b → Extends log xs → Extends log ys → Over log xs ys (cond b ys xs)
chosen log xs ys true is p q = let le : length xs ≤ length ys = grind (arith, nat_tests) in record { first = shorter_first xs ys p.0 q.0 (sym p.1 ∙ q.1) le; second = ([], sym (append-nil ys)); whole = q }
chosen log xs ys false is p q = let le : length ys ≤ length xs = grind (arith, nat_tests) in record { first = ([], sym (append-nil xs)); second = shorter_first ys xs q.0 p.0 (sym q.1 ∙ p.1) le; whole = p }

pub longer_over : (log xs ys : List Entry) → Extends log xs → Extends log ys → Over log xs ys (longest xs ys)
longer_over log xs ys p q = chosen log xs ys (nat_lt (length xs) (length ys)) refl p q

empty_by_length : (xs : List Entry) → length xs ≡ 0 → xs ≡ []
empty_by_length [] e = refl
empty_by_length (x ∷ xs) e = absurd (omega arith)

pub by_more : (n o : ℕ) (xs ys : List Entry) → o ≤ length xs → by n (drop o (xs ++ ys)) ≡ by n (drop o xs) ++ by n ys
by_more n o xs ys le = ap (by n) (drop-append-le o xs ys le) ∙ filter-append (λ (x : Entry). x.seat == n) (drop o xs) ys

-- what has no more entries of a number as a whole has none in between
pub between : (n o : ℕ) (log all xs : List Entry) → o ≤ length xs → Extends log all → Extends all xs → by n (drop o log) ≡ by n (drop o xs) → by n (drop o all) ≡ by n (drop o xs)
between n o log all xs le p q same =
    let a : by n (drop o all) ≡ by n (drop o xs) ++ by n q.0 = ap (λ (x : List Entry). by n (drop o x)) q.1 ∙ by_more n o xs q.0 le in
    let le' : o ≤ length all = let e = ap length q.1 in omega (arith, length-append xs q.0) in
    let b : by n (drop o log) ≡ by n (drop o all) ++ by n p.0 = ap (λ (x : List Entry). by n (drop o x)) p.1 ∙ by_more n o all p.0 le' in
    let la = ap length a in let lb = ap length b in let ls = ap length same in
    let zero_more : length (by n q.0) ≡ 0 = omega (arith, length-append (by n (drop o xs)) (by n q.0), length-append (by n (drop o all)) (by n p.0)) in
    a ∙ (ap (λ (x : List Entry). by n (drop o xs) ++ x) (empty_by_length (by n q.0) zero_more) ∙ append-nil (by n (drop o xs)))

-- what a number has made behind what was seen
pub made_later : (f f' : Figures) (n : ℕ) (xs ys added : List Entry) → f' ≡ f → f.opening ≤ f.base.position + length xs → Extends ys xs → by n (drop (opening_count f') ys) ≡ by n (drop (opening_count f) xs) ++ added
    → by n (drop (f.base.position + length xs - f'.base.position) ys) ≡ added
made_later f f' n xs ys added same opened more made =
    let le : opening_count f ≤ length xs = omega arith in
    let position : f'.base.position ≡ f.base.position = ap (λ (x : Figures). x.base.position) same in
    let start : f.base.position + length xs - f'.base.position ≡ length xs = omega arith in
    let all : by n (drop (opening_count f) ys) ≡ by n (drop (opening_count f) xs) ++ by n more.0 = ap (λ (x : List Entry). by n (drop (opening_count f) x)) more.1 ∙ by_more n (opening_count f) xs more.0 le in
    let rest : by n more.0 ≡ added = append_cancel_left (by n (drop (opening_count f) xs)) (by n more.0) added (sym all ∙ (ap (λ (x : Figures). by n (drop (opening_count x) ys)) (sym same) ∙ made)) in
    ap (λ (k : ℕ). by n (drop k ys)) start ∙ (ap (λ (x : List Entry). by n (drop (length xs) x)) more.1 ∙ (ap (by n) (drop-append_seam xs more.0) ∙ rest))
