use Rattle.std.proofs.Common.{◌≢◌, ◌<◌, ◌+◌, ℕ, ℤ, List, get_or, length, sym, subst, arith}
use Rattle.std.specs.Prelude.{All}
use Rattle.network_laws.specs.Solutions.{IsPotential}
use Rattle.split_parts.proofs.Settled.{AreCleared, cleared_kept, cleared_zero, zeroed_in_range}
use Rattle.split_parts.proofs.settling.clear_others.Goals as goal
use Rattle.split_parts.proofs.settling.clear_others.Goals.{then-passed-part+then-part-passed, else-passed-part, else-passed-part-via-then-passed-part+else-part-passed, else-passed-part-via-else-passed-part}

pub loop-member-preserved : goal.loop-member-preserved
loop-member-preserved c =
    let part = c.args.part.now in
    let passed = c.loop-member.passed in
    let member = c.loop-member.member in
    let old = c.args.potentials.now in
    let before = c.loop-member.potentials in
    let within : member < length before = let size = c.loop-member.auto.potentials in omega (arith, c.loop-member-test.true) in
    elim c.if-passed-part.branch [
      | then-passed-part+then-part-passed w ↦ record {
        cleared = subst (λ (n : ℕ). AreCleared part n (member + 1) old c.if-passed-part.potentials) (sym w.passed-is)
            (subst (λ (p : List ℤ). AreCleared part (passed + 1) (member + 1) old p) (sym w.potentials-is) (cleared_kept part passed member old before c.requires.rising w.if-passed-part.true w.if-part-passed.true c.loop-member.invariant.cleared));
        in_range = subst (λ (p : List ℤ). All IsPotential p) (sym w.potentials-is) c.loop-member.invariant.in_range;
      }
      | else-passed-part w ↦
          let not : passed < length part → get_or part passed 0 ≢ member =
          elim w.else-passed-part.branch [ else-passed-part-via-then-passed-part+else-part-passed v ↦ (λ l. v.if-part-passed.false) | else-passed-part-via-else-passed-part v ↦ (λ l. absurd (let past = v.if-passed-part.false in omega arith)) ] in
          record {
            cleared = subst (λ (n : ℕ). AreCleared part n (member + 1) old c.if-passed-part.potentials) (sym w.passed-is)
                (subst (λ (p : List ℤ). AreCleared part passed (member + 1) old p) (sym w.potentials-is) (cleared_zero part passed member old before within not c.requires.rising c.loop-member.invariant.cleared));
            in_range = subst (λ (p : List ℤ). All IsPotential p) (sym w.potentials-is) (zeroed_in_range before member c.loop-member.invariant.in_range);
          }
    ]
