use Rattle.std.proofs.Common.{◌≡◌, ◌++◌, drop}
use Rattle.command_types.specs.Cycles.{problems_from, problems_of}
use Rattle.cycle_states.proofs.machine.problems.problems_now.Given as goal

abbrev pub invariant-loop-product : goal.invariant-loop-product
invariant-loop-product l =
    let v = l.version in
    l.problems.items ++ problems_from v.roster.now v.book.now.rows v.tolerances.now.taken v.mode l.product (drop l.product v.roster.now.products)
    ≡ problems_of v.roster.now v.book.now.rows v.tolerances.now.taken v.mode
