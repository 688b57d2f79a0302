use Rattle.std.proofs.Common.{◌≡◌, take}
use Rattle.command_types.specs.CycleSteps.{rows_of_member}
use Rattle.product_book.proofs.picks.of_member.Given as goal

abbrev pub invariant-loop-trade : goal.invariant-loop-trade
invariant-loop-trade l = l.rows.items ≡ rows_of_member l.member (take l.trade-index l.trades)
