-- Names are the same where `==` says so.
use Rattle.std.proofs.Common.{◌≡◌, ◌∙◌, sym, ap, refl, ℕ, List, length, take, Bool, true, false, ◌&&◌}
use Rattle.std.proofs.lemmas.Bool.{and_parts}
use Rattle.std.proofs.lemmas.Bool.Decides.{Decides-eqb}
use Rattle.std.proofs.lemmas.Slice.Eq.{bytes_eq-Decides}
use Rattle.std.proofs.Math.Seq.{take-append_seam}
use Rattle.std.specs.Str.{bytes_eq}
use Rattle.units_core.specs.Name.{padded_name}
use Rattle.units_core.specs.contracts.name.NamePartialEq.TheImpl.{eq-value}

same_bool : (x y : Bool) → (x ≡ true → y ≡ true) → (y ≡ true → x ≡ true) → x ≡ y
same_bool true y f g = sym (f refl)
same_bool false true f g = g refl
same_bool false false f g = refl

and_both : (x y : Bool) → x ≡ true → y ≡ true → (x && y) ≡ true
and_both x y a b = rw (a, b) refl

name_eq : (a b : List ℕ) → eq-value.it a b ≡ true → a ≡ b
name_eq a b h =
    let p = and_parts _ _ h in
    let x : padded_name a ≡ padded_name b = (bytes_eq-Decides (padded_name a) (padded_name b)).0 p.0 in
    let y : length a ≡ length b = (Decides-eqb (length a) (length b)).0 p.1 in
    sym (take-append_seam a _) ∙ ap (take (length a)) x ∙ ap (λ n. take n (padded_name b)) y ∙ take-append_seam b _

name_same : (a : List ℕ) → eq-value.it a a ≡ true
name_same a = and_both _ _ ((bytes_eq-Decides (padded_name a) (padded_name a)).1 refl) ((Decides-eqb (length a) (length a)).1 refl)

pub same_name : (a b : List ℕ) → eq-value.it a b ≡ bytes_eq a b
same_name a b =
    same_bool _ _ (λ h. (bytes_eq-Decides a b).1 (name_eq a b h)) (λ h. let e = (bytes_eq-Decides a b).0 h in rw (← e) (name_same a))

-- the test of names is that of their bytes
pub same_test : (a : List ℕ) → eq-value.it a ≡ bytes_eq a
same_test a = λ i. λ b. same_name a b i
