use Rattle.std.proofs.Common.{◌≡◌, ◌++◌, drop}
use Rattle.std.specs.Prelude.{filter}
use Rattle.command_types.specs.Plans.{falling}
use Rattle.acceptance.specs.Planning.{is_free_between}
use Rattle.acceptance.proofs.planning.add_fall.Given as goal

abbrev pub invariant-loop-row : goal.invariant-loop-row
invariant-loop-row l =
    let passes = is_free_between l.pair.product l.pair.seller l.pair.buyer in
    l.initial.plan.items ++ falling l.initial.fall (filter passes l.trades) ≡ l.plan.items ++ falling l.fall (filter passes (drop l.row-index l.trades))
