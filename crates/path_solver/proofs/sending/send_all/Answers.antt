use Rattle.std.proofs.Common.{refl, arith}
use Rattle.path_solver.proofs.SentOver.{sent_over_more}
use Rattle.path_solver.proofs.sending.send_all.Goals as goal

pub paths-preserved : goal.paths-preserved
paths-preserved g c = record {
  over = sent_over_more c.paths.invariant.over c.send_once.ensures.over;
  few = omega (arith, c.paths.invariant.few, c.send_once.ensures.few);
  begun = c.in-Some.ensures.begun;
}

pub returns : goal.returns
returns g c = record {
  over = sent_over_more c.paths.invariant.over c.send_once.ensures.over;
  few = omega (arith, c.paths.invariant.few, c.send_once.ensures.few);
  done = λ on. c.in_default.ensures.done refl on;
}
