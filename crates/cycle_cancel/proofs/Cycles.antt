-- A label that falls in each round leads back to a cycle that gains.
use Rattle.std.proofs.Common.{◌≡◌, ◌≢◌, ℕ, zero, suc, ◌<◌, ◌≤◌, List, [], ◌∷◌, ◌++◌, length, Option, Some, None, ℤ, pos, ◌+ℤ◌, ◌≤ℤ◌, ◌<ℤ◌, refl, ap, ◌∙◌, subst, arith, ⊎_elim}
use Rattle.std.proofs.lemmas.Bool.{cases_eq}
use Rattle.std.proofs.lemmas.Int.{ints}
use Rattle.residual_graph.specs.declared.flow.Flow.{Flow}
use Rattle.cycle_cancel.specs.declared.round.Step.{Step}
use Rattle.cycle_cancel.specs.Traces.{arc_at, costs}
use Rattle.cycle_cancel.proofs.TurnedRound.{IsWalkBack}
use Rattle.residual_graph.specs.Arcs.{arc_count, head, tail}
use Rattle.cycle_cancel.specs.Rounds.{label_at, IsLoweredBy, IsCaused, IsRound}

caused_some : {least : ℕ} (flows : List Flow) (before : List Step) (v : ℕ) (l : ℤ) (o : Option ℕ) (a : ℕ) → o ≡ Some a → IsCaused least flows before v l o → IsLoweredBy least flows before v l a
caused_some {least = least} flows before v l o a e h = subst (IsCaused least flows before v l) e h

caused_none : (least : ℕ) (flows : List Flow) (before : List Step) (v : ℕ) (l : ℤ) (o : Option ℕ) → o ≡ None → IsCaused least flows before v l o → l ≡ label_at before v
caused_none least flows before v l o e h = subst (IsCaused least flows before v l) e h

-- from w at level m back along the arcs to v at level k
abbrev pub Traced : List Flow → (ℕ → List Step) → ℕ → ℕ → List ℕ → ℕ → ℕ → Type 0
Traced flows table m w [] k v = (m ≡ k) × (w ≡ v)
Traced flows table zero w (a ∷ arcs) k v = ⊥
Traced flows table (suc m) w (a ∷ arcs) k v = (arc_at (table (suc m)) w ≡ Some a) × Traced flows table m (tail flows a) arcs k v

module _ {least : ℕ} (flows : List Flow) (table : ℕ → List Step) (n members : ℕ) (wide : (k : ℕ) → k ≤ n → length (table k) ≡ members) (rounds : (k : ℕ) → k < n → IsRound least flows (table k) (table (suc k)) (arc_count flows)) (ends : (a : ℕ) → a < arc_count flows → (tail flows a < members) × (head flows a < members)) where
  -- labels never rise
  fall : (k m v : ℕ) → k ≤ m → m ≤ n → v < members → label_at (table m) v ≤ℤ label_at (table k) v
  fall k zero v le ln lv = let e : k ≡ 0 = omega arith in rw e (omega (arith, ints))
  fall k (suc m) v le ln lv =
      ⊎_elim (λ (e : k ≡ suc m). rw e (omega (arith, ints)))
      (λ (ne : k ≢ suc m). omega (arith, ints, fall k m v (omega arith) (omega arith) lv, (rounds m (omega arith)).falls v (omega (arith, wide (suc m) (omega arith)))))
      (cases_eq k (suc m))

  -- the arc that lowered a label starts at a label that was lowered the round before
  pub step_back : (k v : ℕ) (a : ℕ) → suc k < n → v < members → arc_at (table (suc (suc k))) v ≡ Some a → arc_at (table (suc k)) (tail flows a) ≡ None → ⊥
  step_back k v a lk lv e none =
      let second = rounds (suc k) lk in
      let first = rounds k (omega arith) in
      let by = caused_some flows (table (suc k)) v (label_at (table (suc (suc k))) v) (arc_at (table (suc (suc k))) v) a e (second.caused v (omega (arith, wide (suc (suc k)) (omega arith)))) in
      let in_ends = ends a by.arc in
      let kept = first.relaxed a by.arc by.counts in
      let same = caused_none least flows (table k) (tail flows a) (label_at (table (suc k)) (tail flows a)) (arc_at (table (suc k)) (tail flows a)) none (first.caused (tail flows a) (omega (arith, wide (suc k) (omega arith)))) in
      omega (arith, ints, by.is, by.below, kept, ap (label_at (table (suc k))) by.head, same)

  pub traced_cost : (m w : ℕ) (arcs : List ℕ) (k v : ℕ) → m ≤ n → w < members → Traced flows table m w arcs k v → (k ≤ m) × (label_at (table m) w ≡ label_at (table k) v +ℤ costs arcs)
  traced_cost m w [] k v lm lw t =
      let e : label_at (table m) w ≡ label_at (table k) v = ap (λ x. label_at (table x) w) t.0 ∙ ap (label_at (table k)) t.1 in
      (omega (arith, t.0), omega (arith, ints, e))
  traced_cost zero w (a ∷ arcs) k v lm lw t = absurd t
  traced_cost (suc m) w (a ∷ arcs) k v lm lw t =
      let by = caused_some flows (table m) w (label_at (table (suc m)) w) (arc_at (table (suc m)) w) a t.0 ((rounds m (omega arith)).caused w (omega (arith, wide (suc m) (omega arith)))) in
      let more = traced_cost m (tail flows a) arcs k v (omega arith) (ends a by.arc).0 t.1 in
      (omega (arith, more.0), omega (arith, ints, by.is, more.1))

  pub traced_walk : (m w : ℕ) (arcs : List ℕ) (k v : ℕ) → m ≤ n → w < members → Traced flows table m w arcs k v → IsWalkBack flows w arcs v
  traced_walk m w [] k v lm lw t = t.1
  traced_walk zero w (a ∷ arcs) k v lm lw t = absurd t
  traced_walk (suc m) w (a ∷ arcs) k v lm lw t =
      let by = caused_some flows (table m) w (label_at (table (suc m)) w) (arc_at (table (suc m)) w) a t.0 ((rounds m (omega arith)).caused w (omega (arith, wide (suc m) (omega arith)))) in
      (by.head, by.arc, traced_walk m (tail flows a) arcs k v (omega arith) (ends a by.arc).0 t.1)

  -- one more arc back
  pub traced_push : (m w : ℕ) (arcs : List ℕ) (k v : ℕ) (a : ℕ) → Traced flows table m w arcs (suc k) v → arc_at (table (suc k)) v ≡ Some a → Traced flows table m w (arcs ++ a ∷ []) k (tail flows a)
  traced_push zero w [] k v a t e = absurd (omega (arith, t.0))
  traced_push (suc m) w [] k v a t e =
      let mk : m ≡ k = omega (arith, t.0) in
      (ap (λ x. arc_at (table (suc x)) w) mk ∙ ap (arc_at (table (suc k))) t.1 ∙ e, (mk, refl))
  traced_push zero w (b ∷ arcs) k v a t e = absurd t
  traced_push (suc m) w (b ∷ arcs) k v a t e = (t.0, traced_push m (tail flows b) arcs k v a t.1 e)

  -- what the arc of a label at a level is
  pub cause : (k v : ℕ) (a : ℕ) → suc k ≤ n → v < members → arc_at (table (suc k)) v ≡ Some a → IsLoweredBy least flows (table k) v (label_at (table (suc k)) v) a
  cause k v a lk lv e = caused_some flows (table k) v (label_at (table (suc k)) v) (arc_at (table (suc k)) v) a e ((rounds k lk).caused v (omega (arith, wide (suc k) lk)))

  pub cycle_gains : (m v : ℕ) (a : ℕ) (arcs : List ℕ) (k : ℕ) → suc m ≤ n → v < members → Traced flows table (suc m) v (a ∷ arcs) k v → costs (a ∷ arcs) <ℤ pos 0
  cycle_gains m v a arcs k lm lv t =
      let by = caused_some flows (table m) v (label_at (table (suc m)) v) (arc_at (table (suc m)) v) a t.0 ((rounds m (omega arith)).caused v (omega (arith, wide (suc m) (omega arith)))) in
      let more = traced_cost m (tail flows a) arcs k v (omega arith) (ends a by.arc).0 t.1 in
      omega (arith, ints, by.is, by.below, more.1, fall k m v more.0 (omega arith) lv)

  pub gain_from : (m v : ℕ) (arcs : List ℕ) (k : ℕ) → m ≤ n → k < m → v < members → Traced flows table m v arcs k v → costs arcs <ℤ pos 0
  gain_from m v [] k lm lk lv t = absurd (omega (arith, t.0))
  gain_from zero v (a ∷ arcs) k lm lk lv t = absurd t
  gain_from (suc m) v (a ∷ arcs) k lm lk lv t = cycle_gains m v a arcs k lm lv t
