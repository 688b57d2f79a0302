-- A set that has lost a member has fewer.
use Rattle.std.proofs.Common.{◌≡◌, ◌≢◌, ℕ, zero, suc, ◌+◌, ◌<◌, ◌≤◌, Bool, true, false, not, eqb, ◌&&◌, cond, refl, ap, ◌∙◌, inl, inr, arith}
use Rattle.std.proofs.lemmas.Bool.{cases_eq, eq-eqb, ne_eqb}
use Rattle.member_set.specs.declared.set.MemberSet.{MemberSet}
use Rattle.member_set.specs.Members.{has, size, size_to}

module _ (f g : ℕ → Bool) (l : ℕ) (taken : (m : ℕ) → g m ≡ (not (eqb m l) && f m)) where
  other : (m : ℕ) → m ≢ l → g m ≡ f m
  other m ne = taken m ∙ ap (λ b. not b && f m) (ne_eqb m l ne)

  below : (n : ℕ) → n ≤ l → size_to g n ≡ size_to f n
  unfolding size_to
  below zero le = refl
  below (suc n) le =
      let one : ℕ = 1 in
      let same : cond (g n) one 0 ≡ cond (f n) one 0 = ap (λ b. cond b one 0) (other n (λ e. omega (arith, e, le))) in
      omega (arith, below n (omega (arith, le)), same)

  pub fewer : (n : ℕ) → l < n → f l ≡ true → size_to g n + 1 ≡ size_to f n
  unfolding size_to
  fewer zero less on = absurd (omega (arith, less))
  fewer (suc n) less on =
      let one : ℕ = 1 in
      elim (cases_eq n l) [
        | inl e ↦
            let off : g n ≡ false = taken n ∙ ap (λ b. not b && f n) (eq-eqb n l e) in
            let was : f n ≡ true = ap f e ∙ on in
            omega (arith, below n (omega (arith, e)), ap (λ b. cond b one 0) off, ap (λ b. cond b one 0) was)
        | inr ne ↦
            let same : cond (g n) one 0 ≡ cond (f n) one 0 = ap (λ b. cond b one 0) (other n ne) in
            omega (arith, fewer n (omega (arith, less, ne)) on, same)
      ]

  less : (n : ℕ) → l < n → f l ≡ true → size_to g n < size_to f n
  less n small on = omega (arith, fewer n small on)

pub size_less : (old new : MemberSet) (l : ℕ) → ((m : ℕ) → has new m ≡ (not (eqb m l) && has old m)) → l < 256 → has old l ≡ true → size new < size old
unfolding size
size_less old new l taken small on = less (has old) (has new) l taken 256 small on
