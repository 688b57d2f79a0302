-- The groups after prices rose.
use Rattle.std.proofs.Common.{◌≡◌, ℕ, ◌+◌, ◌-◌, ◌<◌, ◌≤◌, ◌↔◌, true, false, not, ◌&&◌, List, length, get_or, refl, sym, ap, ◌∙◌, subst, arith, inl, inr, true≢false}
use Rattle.std.proofs.lemmas.Bool.{cases_eq, cases_lt, cases_Bool, and_parts, and_from, not-true, or_cases, or_left, or_right, eq-eqb, ne_eqb}
use Rattle.member_set.specs.declared.set.MemberSet.{MemberSet}
use Rattle.member_set.specs.Members.{has}
use Rattle.path_solver.specs.Groups.{AreGroups, group_at, is_moved_to}
use Rattle.path_solver.specs.Levels.{IsReached}
use Rattle.path_solver.specs.Phases.{raised_price}

module _ (p p' levels : List ℕ) (groups groups' : List MemberSet) (stay : MemberSet) (top : ℕ) (h : AreGroups p groups) (len : length p' ≡ length p) (len_groups : length groups' ≡ length groups)
    (stays : (v : ℕ) → (has stay v ≡ true) ↔ ((v < length p) × IsReached levels v)) (most : (v : ℕ) → get_or p v 0 ≤ top) (room : top + 3 ≤ length groups)
    (raised : (v : ℕ) → v < length p → get_or p' v 0 ≡ raised_price levels p v)
    (moved : (g v : ℕ) → 0 < g → g ≤ top + 1 + 1 → has (group_at groups' g) v ≡ is_moved_to groups stay g v)
    (lowest : group_at groups' 0 ≡ group_at groups 0) (others : (g : ℕ) → top + 1 + 1 < g → group_at groups' g ≡ group_at groups g) where
  stayed : (v : ℕ) → has stay v ≡ true → get_or p' v 0 ≡ get_or p v 0
  stayed v on =
      let both = (stays v).0 on in
      let is : raised_price levels p v ≡ get_or p v 0 = rw (ne_eqb (get_or levels v 0) 65535 both.1) refl in
      raised v both.0 ∙ is

  rose : (v : ℕ) → v < length p → has stay v ≡ false → get_or p' v 0 ≡ get_or p v 0 + 1
  rose v l off =
      elim (cases_eq (get_or levels v 0) 65535) [
        | inl e ↦
            let is : raised_price levels p v ≡ get_or p v 0 + 1 = rw (eq-eqb (get_or levels v 0) 65535 e) refl in
            raised v l ∙ is
        | inr ne ↦ absurd (true≢false (sym ((stays v).1 (l, ne)) ∙ off))
      ]

  inner : (g v : ℕ) → 0 < g → g ≤ top + 1 + 1 → (has (group_at groups' g) v ≡ true) ↔ ((v < length p') × (get_or p' v 0 + 1 ≡ g))
  inner g v above within = (
    λ on.
        elim (or_cases (has (group_at groups g) v && has stay v) (has (group_at groups (g - 1)) v && not (has stay v)) (sym (moved g v above within) ∙ on)) [
          | inl here ↦
              let both = and_parts (has (group_at groups g) v) (has stay v) here in
              let was = (h g v (omega (arith, within, room))).0 both.0 in
              (omega (arith, was.0, len), omega (arith, stayed v both.1, was.1))
          | inr below ↦
              let both = and_parts (has (group_at groups (g - 1)) v) (not (has stay v)) below in
              let was = (h (g - 1) v (omega (arith, within, room))).0 both.0 in
              (omega (arith, was.0, len), omega (arith, rose v was.0 (not-true (has stay v) both.1), was.1, above))
        ],
    λ both.
        let inside : v < length p = omega (arith, both.0, len) in
        moved g v above within
        ∙ elim (cases_Bool (has stay v)) [
          | inl on ↦
              or_left (has (group_at groups g) v && has stay v) (has (group_at groups (g - 1)) v && not (has stay v))
              (and_from (has (group_at groups g) v) (has stay v) ((h g v (omega (arith, within, room))).1 (inside, omega (arith, stayed v on, both.1))) on)
          | inr off ↦
              or_right (has (group_at groups g) v && has stay v) (has (group_at groups (g - 1)) v && not (has stay v))
              (and_from (has (group_at groups (g - 1)) v) (not (has stay v)) ((h (g - 1) v (omega (arith, within, room))).1 (inside, omega (arith, rose v inside off, both.1, above))) (ap not off))
        ],
  )

  at_most : (v : ℕ) → v < length p → get_or p' v 0 ≤ top + 1
  at_most v l =
      elim (cases_Bool (has stay v)) [
        | inl on ↦ omega (arith, stayed v on, most v)
        | inr off ↦ omega (arith, rose v l off, most v)
      ]

  pub groups_raised : AreGroups p' groups'
  groups_raised g v l =
      elim (cases_eq g 0) [
        | inl e ↦ (
          λ on.
              let zero_on : has (group_at groups' 0) v ≡ true = subst (λ j. has (group_at groups' j) v ≡ true) e on in
              let was = (h 0 v (omega (arith, room))).0 (ap (λ s. has s v) (sym lowest) ∙ zero_on) in
              absurd (omega (arith, was.1)),
          λ both. absurd (omega (arith, both.1, e)),
        )
        | inr ne ↦
            elim (cases_lt (top + 1 + 1) g) [
              | inl behind ↦ (
                λ on.
                    let was = (h g v (omega (arith, l, len_groups))).0 (ap (λ s. has s v) (sym (others g behind)) ∙ on) in
                    absurd (omega (arith, was.1, most v, behind)),
                λ both. absurd (omega (arith, both.1, at_most v (omega (arith, both.0, len)), behind)),
              )
              | inr within ↦ inner g v (omega (arith, ne)) within
            ]
      ]
