use Rattle.std.proofs.Common.{◌≡◌, ◌≢◌, ℕ, ◌<◌, true, false, length, set, sym, ap, ◌∙◌, subst, inl, inr, arith, true≢false, get_or-set_same, get_or-set_other}
use Rattle.std.proofs.lemmas.Bool.{cases_eq}
use Rattle.member_set.specs.Members.{has, no_members}
use Rattle.path_solver.specs.Levels.{layer_at}
use Rattle.path_solver.proofs.walk.empty_above.Goals as goal

pub loop-place-preserved : goal.loop-place-preserved
loop-place-preserved c =
    let inv = c.loop-place.invariant in
    let m = c.loop-place.place in
    let inside : c.loop-place.place < length c.loop-place.layers = omega (arith, c.loop-place-test.true, c.requires.room, c.loop-place.auto.layers) in
    let here : (v : ℕ) → has (layer_at (set c.loop-place.layers c.loop-place.place c.new.result) c.loop-place.place) v ≡ false =
    λ v. ap (λ s. has s v) (get_or-set_same c.loop-place.layers m c.new.result no_members inside) ∙ c.new.ensures v in
    let other : (k : ℕ) → k ≢ c.loop-place.place → layer_at (set c.loop-place.layers c.loop-place.place c.new.result) k ≡ layer_at c.loop-place.layers k =
    λ k ne. get_or-set_other c.loop-place.layers m k c.new.result no_members ne in
    record {
      start = omega (arith, inv.start);
      above = λ k v low high.
          elim (cases_eq k c.loop-place.place) [
            | inl e ↦ subst (λ j. has (layer_at (set c.loop-place.layers c.loop-place.place c.new.result) j) v ≡ false) (sym e) (here v)
            | inr ne ↦ ap (λ s. has s v) (other k ne) ∙ inv.above k v low (omega (arith, high, ne))
          ];
      below = λ k le. other k (λ e. omega (arith, e, le, inv.start)) ∙ inv.below k le;
      fewer = λ k v on.
          elim (cases_eq k c.loop-place.place) [
            | inl e ↦ absurd (true≢false (sym (subst (λ j. has (layer_at (set c.loop-place.layers c.loop-place.place c.new.result) j) v ≡ true) e on) ∙ here v))
            | inr ne ↦ inv.fewer k v (ap (λ s. has s v) (sym (other k ne)) ∙ on)
          ];
    }
