use Rattle.std.proofs.Common.{◌≡◌, arith, ap, sym}
use Rattle.std.specs.Prelude.{if◌then◌else◌, sum_by}
use Rattle.std.proofs.lemmas.List.{drop_all}
use Rattle.std.proofs.lemmas.List.Sums.{sum_by-drop_more}
use Rattle.cycle_states.proofs.HeldPairs.{held_part}
use Rattle.cycle_states.proofs.machine.held_pair.above_held.Goals as goal
use Rattle.cycle_states.proofs.machine.held_pair.above_held.Goals.{then-is_frozen_and_held, else-is_frozen_and_held}

pub loop-trade-preserved : goal.loop-trade-preserved
loop-trade-preserved c =
    let trades = c.args.trades.now in
    let i = c.loop-trade.trade-index in
    let trade = c.trade-item.result in
    let step = sum_by-drop_more held_part trades i trade c.loop-trade-test.true in
    let here = ap held_part c.trade-item.is in
    let part : held_part trade ≡ (if c.is_frozen_and_held.result then trade.amount else 0) = ap (λ b. if b then trade.amount else 0) (sym c.is_frozen_and_held.ensures) in
    let before = c.loop-trade.invariant in
    elim c.if-is_frozen_and_held.branch [
      | then-is_frozen_and_held w ↦ (let one = rw w.if-is_frozen_and_held.true at part in omega (arith, step, here, one, before, w.left-is, w.saturating_sub-left.ensures, w.get.ensures.value))
      | else-is_frozen_and_held w ↦ (let one = rw w.if-is_frozen_and_held.false at part in omega (arith, step, here, one, before, w.left-is))
    ]

pub returns : goal.returns
returns c =
    let none = ap (sum_by held_part) (drop_all c.loop-trade.trade-index c.args.trades.now c.loop-trade-test.false) in
    omega (arith, none, c.loop-trade.invariant)
