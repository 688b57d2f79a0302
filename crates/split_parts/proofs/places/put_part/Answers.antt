use Rattle.std.proofs.Common.{arith}
use Rattle.split_parts.proofs.Numbers.{part_short}
use Rattle.split_parts.proofs.Placed.{placed, here_more}
use Rattle.split_parts.proofs.places.put_part.Goals as goal

pub overflow_cast-places : goal.overflow_cast-places
overflow_cast-places c =
    let short = part_short c.args.members.now _ c.requires.rising c.requires.within in
    let few = c.requires.few in
    omega (arith, c.loop-number-test.true)

pub loop-number-preserved : goal.loop-number-preserved
loop-number-preserved c =
    let within = c.requires.within c.loop-number.number 0 c.loop-number-test.true in
    let size = c.loop-number.auto.places in
    here_more c.args.members.now c.args.part c.loop-number.number c.args.places.now c.loop-number.places c.requires.rising c.loop-number-test.true (omega arith) c.loop-number.invariant

pub returns : goal.returns
returns c =
    placed c.args.members.now c.args.part c.args.places.now c.loop-number.places c.loop-number.number c.loop-number.invariant.here c.loop-number.invariant.rest
    (let e = c.loop-number.auto.number-end in omega (arith, c.loop-number-test.false))
