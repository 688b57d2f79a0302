use Rattle.std.proofs.Common.{◌≡◌, ◌+◌, ◌-◌, ◌<◌, ◌≤◌, ℕ, length, ap, arith}
use Rattle.path_solver.proofs.SentAlong.{sent_more}
use Rattle.path_solver.proofs.direct.send_direct.Goals as goal

one_pair : (before after most old new k : ℕ) → before + (old - k) ≤ most → after ≤ before + 1 → new ≡ old → k < old → after + (new - (k + 1)) ≤ most
one_pair before after most old new k h one same l = omega (arith, h, one, same, l)

pub loop-pair-preserved-then-surplus_of-gt0 : goal.loop-pair-preserved-then-surplus_of-gt0
loop-pair-preserved-then-surplus_of-gt0 g c = record {
  along = sent_more c.loop-pair.invariant.along c.send_over.ensures.along;
  few = one_pair c.loop-pair.steps c.send_over.new.steps (c.args.steps.now + length c.args.residual.now.flows) (length c.loop-pair.residual.flows) (length c.send_over.new.residual.flows) c.loop-pair.pair c.loop-pair.invariant.few c.send_over.ensures.few c.send_over.ensures.along.pairs.same_length
      (omega (arith, c.loop-pair-test.true, ap length c.flows.ensures.value));
}
