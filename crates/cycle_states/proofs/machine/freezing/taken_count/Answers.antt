use Rattle.std.proofs.Common.{arith}
use Rattle.cycle_states.proofs.LoopFacts.{taken_step, taken_end}
use Rattle.cycle_states.proofs.machine.freezing.taken_count.Goals as goal
use Rattle.cycle_states.proofs.machine.freezing.taken_count.Goals.{then-is_taken, else-is_taken}

pub loop-row-preserved : goal.loop-row-preserved
loop-row-preserved c =
    let step = taken_step c.args.products.now c.args.day c.args.rows.now c.loop-row.row-index c.row-item.result c.is_taken.result c.loop-row-test.true c.row-item.is c.is_taken.ensures in
    elim c.if-is_taken.branch [
      | then-is_taken w ↦ (let one = rw w.if-is_taken.true at step in record { rest = omega arith; small = omega arith })
      | else-is_taken w ↦ (let one = rw w.if-is_taken.false at step in record { rest = omega arith; small = omega arith })
    ]

pub returns : goal.returns
returns c =
    let none = taken_end c.args.products.now c.args.day c.args.rows.now c.loop-row.row-index c.loop-row-test.false in
    omega arith
