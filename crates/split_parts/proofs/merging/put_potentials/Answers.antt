use Rattle.std.proofs.Common.{arith}
use Rattle.split_parts.proofs.Good.{put_value}
use Rattle.split_parts.proofs.merging.put_potentials.Goals as goal

pub returns-clause-value : goal.returns-clause-value
returns-clause-value c m l =
    put_value c.args.part.now c.args.own.now c.loop-place.potentials c.args.potentials.now c.loop-place.place m c.loop-place.invariant.here (c.loop-place.invariant.rest m) (let e = c.loop-place.auto.place-end in omega (arith, c.loop-place-test.false))
