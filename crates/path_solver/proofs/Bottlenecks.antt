-- What the first arcs of a path can take.
use Rattle.std.proofs.Common.{◌≡◌, ◌⊎◌, ℕ, ◌+◌, ◌<◌, ◌≤◌, true, false, eqb, ◌||◌, List, length, get_or, sym, ap, ◌∙◌, subst, inl, inr, arith, true≢false}
use Rattle.std.proofs.lemmas.Bool.{cases_eq, eq-eqb, ne_eqb}
use Rattle.std.proofs.lemmas.List.{get_or_default}
use Rattle.member_set.specs.declared.set.MemberSet.{MemberSet}
use Rattle.member_set.specs.Members.{has}
use Rattle.residual_graph.specs.declared.flow.Flow.{Flow}
use Rattle.residual_graph.specs.Arcs.{room}
use Rattle.path_solver.specs.Prices.{twin_room}
use Rattle.path_solver.specs.Paths.{StaysOpen}

-- the most that each of the first m arcs can take, and which of them may turn
pub record IsNarrowest (flows : List Flow) (arcs : List ℕ) (most amount : ℕ) (places : MemberSet) (m : ℕ) : Type 0 where
  pub some : 0 < amount
  pub within : amount ≤ most
  pub all : (k d : ℕ) → k < m → amount ≤ room flows (get_or arcs k d)
  pub reached : amount < most → (k : ℕ) × (k < m) × (room flows (get_or arcs k 0) ≡ amount)
  pub inside : (k : ℕ) → has places k ≡ true → k < m
  pub others : (k : ℕ) → k < m → has places k ≡ false → StaysOpen amount flows (get_or arcs k 0)

module _ (flows : List Flow) (arcs : List ℕ) (most amount : ℕ) (places : MemberSet) (m : ℕ) (h : IsNarrowest flows arcs most amount places m) (l : m < length arcs) where
  -- an arc that may turn
  pub narrower : (less : ℕ) (more : MemberSet) → 0 < less → less ≤ amount → less ≤ room flows (get_or arcs m 0) → (less ≡ amount) ⊎ (room flows (get_or arcs m 0) ≡ less) → ((k : ℕ) → has more k ≡ (eqb k m || has places k)) → IsNarrowest flows arcs most less more (m + 1)
  narrower less more some low fits either put = record {
    some = some;
    within = omega (arith, low, h.within);
    all = λ k d lk.
        elim (cases_eq k m) [
          | inl e ↦ subst (λ j. less ≤ room flows (get_or arcs j d)) (sym e) (omega (arith, fits, ap (room flows) (get_or_default arcs m d 0 l)))
          | inr ne ↦ omega (arith, h.all k d (omega (arith, lk, ne)), low)
        ];
    reached = λ below.
        elim either [
          | inl e ↦ let old = h.reached (omega (arith, e, below)) in (old.0, omega (arith, old.1), omega (arith, old.2, e))
          | inr e ↦ (m, omega arith, e)
        ];
    inside = λ k on.
        elim (cases_eq k m) [
          | inl e ↦ omega (arith, e)
          | inr ne ↦ let old = h.inside k (sym (ap (λ b. b || has places k) (ne_eqb k m ne)) ∙ sym (put k) ∙ on) in omega (arith, old)
        ];
    others = λ k lk off.
        elim (cases_eq k m) [
          | inl e ↦ absurd (true≢false (sym (ap (λ b. b || has places k) (eq-eqb k m e)) ∙ sym (put k) ∙ off))
          | inr ne ↦
              let old = h.others k (omega (arith, lk, ne)) (sym (ap (λ b. b || has places k) (ne_eqb k m ne)) ∙ sym (put k) ∙ off) in
              (omega (arith, old.0, low), old.1)
        ];
  }

  -- an arc that stays open
  pub as_narrow : amount < room flows (get_or arcs m 0) → 0 < twin_room flows (get_or arcs m 0) → IsNarrowest flows arcs most amount places (m + 1)
  as_narrow wide twin = record {
    some = h.some;
    within = h.within;
    all = λ k d lk.
        elim (cases_eq k m) [
          | inl e ↦ subst (λ j. amount ≤ room flows (get_or arcs j d)) (sym e) (omega (arith, wide, ap (room flows) (get_or_default arcs m d 0 l)))
          | inr ne ↦ h.all k d (omega (arith, lk, ne))
        ];
    reached = λ below. let old = h.reached below in (old.0, omega (arith, old.1), old.2);
    inside = λ k on. let old = h.inside k on in omega (arith, old);
    others = λ k lk off.
        elim (cases_eq k m) [
          | inl e ↦ subst (λ j. StaysOpen amount flows (get_or arcs j 0)) (sym e) (wide, twin)
          | inr ne ↦ h.others k (omega (arith, lk, ne)) off
        ];
  }
