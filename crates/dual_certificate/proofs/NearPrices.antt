-- What a certificate says of a member rests on the potentials of those near it.
use Rattle.std.proofs.Common.{◌≡◌, ◌≢◌, ℕ, zero, suc, ◌≤◌, List, Option, Some, None, ℤ, pos, ◌≤ℤ◌, refl, sym, ap, subst, arith, ◌⊎◌, inl, inr, ⊎_elim}
use Rattle.std.proofs.lemmas.Int.{ints}
use Rattle.network_laws.specs.Networks.{NetworkData, at}
use Rattle.network_laws.specs.Limits.{LimitsData, upper, IsWithin, potential, reduced}
use Rattle.dual_certificate.specs.Own.{IsPairCertified}
use Rattle.dual_certificate.specs.OwnLaws.{NearPotentialsAreEnough}
use Rattle.dual_certificate.proofs.OwnPairs.{nothing_moves}

-- whether an upper bound is 0
abbrev some_is : Option ℕ → ℕ
some_is None = suc zero
some_is (Some n) = n

not_zero : (n : ℕ) → suc n ≡ zero → ⊥
not_zero n e = omega (arith, e)

zero_or_not : (o : Option ℕ) → (o ≡ Some 0) ⊎ (o ≢ Some 0)
zero_or_not None = inr (λ e. not_zero 0 (ap some_is e))
zero_or_not (Some zero) = inl refl
zero_or_not (Some (suc n)) = inr (λ e. not_zero n (ap some_is e))

-- a pair whose reduced cost is the same, or whose amount can't be but 0
repriced : (limits : LimitsData) (y : NetworkData) (p q : List ℤ) (i j : ℕ) → (upper limits i j ≢ Some 0 → reduced q i j ≡ reduced p i j) → IsPairCertified limits y p i j → IsPairCertified limits y q i j
repriced limits y p q i j same c =
    ⊎_elim (λ (e : upper limits i j ≡ Some 0).
    let none : at y i j ≤ 0 = subst (λ o. IsWithin (at y i j) o) e c.below in
    nothing_moves limits y q i j (omega (arith, none)) (omega (arith, none, c.above)) e)
    (λ (ne : upper limits i j ≢ Some 0).
    let cost = same ne in
    record {
      above = c.above;
      below = c.below;
      growing = λ h. subst (λ r. pos 0 ≤ℤ r) (sym cost) (c.growing h);
      falling = λ h. subst (λ r. r ≤ℤ pos 0) (sym cost) (c.falling h);
    })
    (zero_or_not (upper limits i j))

pub near_potentials_are_enough : NearPotentialsAreEnough
near_potentials_are_enough limits old new p q m in_m near c = record {
  selling = λ j in_j. repriced limits new p q m j (λ ne. omega (arith, ints, itself, near j in_j (λ _ apart. ne apart.0))) (c.selling j in_j);
  buying = λ i in_i. repriced limits new p q i m (λ ne. omega (arith, ints, itself, near i in_i (λ _ apart. ne apart.1))) (c.buying i in_i);
  keeping = c.keeping;
}
  where
    itself : potential q m ≡ potential p m
    itself = near m in_m (λ other _. other refl)
