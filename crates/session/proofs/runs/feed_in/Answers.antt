use Rattle.std.proofs.Common.{◌≡◌, ℕ, ◌==◌, false, get_or, arith}
use Rattle.std.proofs.lemmas.List.Elements.{All-more}
use Rattle.session.proofs.ServedFacts.{not_feed}
use Rattle.session.proofs.runs.feed_in.Goals as goal

pub loop-at-preserved : goal.loop-at-preserved
loop-at-preserved c = record {
  within = omega (arith, c.loop-at-test.true);
  none = All-more (λ (byte : ℕ). (byte == 10) ≡ false) c.args.bytes.now c.loop-at.at 0 c.loop-at-test.true c.loop-at.invariant.none (not_feed (get_or c.args.bytes.now c.loop-at.at 0) c.if-bytes-at-eq10.false);
}
