use Rattle.std.proofs.Common.{arith}
use Rattle.std.proofs.Math.Seq.{take-add}
use Rattle.std.proofs.lemmas.List.{length-drop}
use Rattle.outside.proofs.FlowFacts.{takes_both, take_rest}
use Rattle.outside.proofs.sink.write_all.Goals as goal

pub loop-done-preserved : goal.loop-done-preserved
loop-done-preserved g c =
    let rest = take_rest c.args.bytes.now c.loop-done.done in
    let count = rw rest at c.in_ok-done.ensures.count in
    let takes = rw rest at c.in_ok-done.ensures.takes in
    record {
      in_range = omega (arith, length-drop c.loop-done.done c.args.bytes.now, count);
      took = rw take-add (takes_both _ _ _ _ _ c.loop-done.invariant.took takes);
      never_falls = omega (arith, c.in_ok-done.ensures.counts.0, c.loop-done.invariant.never_falls);
    }
