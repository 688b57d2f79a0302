-- What one arc does to the labels of a round.
use Rattle.std.proofs.Common.{◌≡◌, ◌≢◌, ℕ, ◌+◌, ◌<◌, ◌≤◌, false, ◌&&◌, List, length, get_or, set, Some, ◌≤ℤ◌, ◌<ℤ◌, refl, sym, ap, ◌∙◌, arith, ⊎_elim, below_more, length-set, get_or-set_same, get_or-set_other}
use Rattle.std.specs.Prelude.{nat_le, int_lt}
use Rattle.std.proofs.lemmas.Bool.{cases_eq, cond_both, and_parts, and_cases, leb-true, leb-false}
use Rattle.std.proofs.lemmas.Int.{ints}
use Rattle.residual_graph.specs.declared.flow.Flow.{Flow}
use Rattle.cycle_cancel.specs.declared.round.Step.{Step}
use Rattle.residual_graph.specs.Arcs.{arc_count, head, room}
use Rattle.cycle_cancel.specs.Rounds.{label_at, first_step, given, lowered_by, IsRelaxed, IsCaused, IsRound}

module _ {least : ℕ} (flows : List Flow) (before next : List Step) (n : ℕ) (a : ℕ) (some : 1 ≤ least) (was : IsRound least flows before next n) (in_arcs : a < arc_count flows) (in_next : head flows a < length next) where
  lower_step : Step
  lower_step = record { label = given flows before a; arc = Some a }

  set_cases : (P : Step → Type 0) (v : ℕ) → (v ≡ head flows a → P (record { label = given flows before a; arc = Some a })) → P (get_or next v first_step) → P (get_or (set next (head flows a) (record { label = given flows before a; arc = Some a })) v first_step)
  set_cases P v here other =
      ⊎_elim (λ (e : v ≡ head flows a). rw e (rw get_or-set_same (here e)))
      (λ (ne : v ≢ head flows a). rw get_or-set_other other)
      (cases_eq v (head flows a))

  -- a list of labels that has what the round has, to which the arc adds nothing, and that keeps what other arcs gave
  pub record Keeps (x : List Step) : Type 0 where
    pub round : IsRound least flows before x n
    pub here : IsRelaxed least flows before x a
    pub others : (b : ℕ) → IsRelaxed least flows before next b → IsRelaxed least flows before x b

  lower_yes : given flows before a <ℤ label_at next (head flows a) → least ≤ room flows a → Keeps (set next (head flows a) (record { label = given flows before a; arc = Some a }))
  lower_yes lt has_room =
      let below_before = was.falls (head flows a) in_next in
      let len = length-set next (head flows a) (record { label = given flows before a; arc = Some a }) in
      let keep : (b : ℕ) → IsRelaxed least flows before next b → IsRelaxed least flows before (set next (head flows a) (record { label = given flows before a; arc = Some a })) b =
      λ b old has. set_cases (λ s. s.label ≤ℤ given flows before b) (head flows b) (λ e. omega (arith, ints, lt, old has, ap (label_at next) e)) (old has) in
      record {
        round = record {
          same_length = len ∙ was.same_length;
          falls = λ v lv. set_cases (λ s. s.label ≤ℤ label_at before v) v (λ e. rw e (omega (arith, ints, lt, below_before))) (was.falls v (omega (arith, len)));
          relaxed = λ b lb. keep b (was.relaxed b lb);
          caused = λ v lv. set_cases (λ s. IsCaused least flows before v s.label s.arc) v
              (λ e. record { arc = in_arcs; room = omega (arith, some, has_room); counts = has_room; head = sym e; is = refl; below = rw e (omega (arith, ints, lt, below_before)) })
              (was.caused v (omega (arith, len)));
        };
        here = λ has. omega (arith, ints, ap (λ (s : Step). s.label) (get_or-set_same next (head flows a) (record { label = given flows before a; arc = Some a }) first_step in_next));
        others = keep;
      }

  -- the arc keeps what the round has, and lowers nothing further
  pub lower_keeps : Keeps (lowered_by least flows before a next)
  lower_keeps =
      cond_both (nat_le least (room flows a) && int_lt (given flows before a) (label_at next (head flows a))) (set next (head flows a) (record { label = given flows before a; arc = Some a })) next Keeps
      (λ t. let parts = and_parts (nat_le least (room flows a)) (int_lt (given flows before a) (label_at next (head flows a))) t in lower_yes (omega (arith, ints, parts.1)) (leb-true least (room flows a) parts.0))
      (λ f. record {
        round = was;
        here = λ has. ⊎_elim (λ (q : nat_le least (room flows a) ≡ false). absurd (omega (arith, has, leb-false least (room flows a) q)))
            (λ (q : int_lt (given flows before a) (label_at next (head flows a)) ≡ false). omega (arith, ints, q))
            (and_cases (nat_le least (room flows a)) (int_lt (given flows before a) (label_at next (head flows a))) f);
        others = λ b old. old;
      })

-- one more arc
pub arc_keeps : {least : ℕ} (flows : List Flow) (before next : List Step) (n : ℕ) → 1 ≤ least → IsRound least flows before next n → n < arc_count flows → head flows n < length next → IsRound least flows before (lowered_by least flows before n next) (n + 1)
arc_keeps {least = least} flows before next n some r l h =
    let k = lower_keeps flows before next n n some r l h in
    record {
      same_length = k.round.same_length;
      falls = k.round.falls;
      relaxed = λ a la. below_more (λ b. IsRelaxed least flows before (lowered_by least flows before n next) b) n k.round.relaxed k.here a la;
      caused = k.round.caused;
    }
