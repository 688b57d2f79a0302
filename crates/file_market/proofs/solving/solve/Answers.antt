use Rattle.std.proofs.Common.{sym, subst}
use Rattle.dual_certificate.specs.Writing.{SolveMembers}
use Rattle.file_market.specs.Solve.{AreSolutions}
use Rattle.file_market.proofs.SolutionFacts.{solve_members}
use Rattle.file_market.proofs.solving.solve.Goals as goal

pub written-requires-clause-solved : goal.written-requires-clause-solved
written-requires-clause-solved g c κs within =
    let market = c.in_ok-networks.ensures in
    let solved = subst (λ ys. AreSolutions c.args.roster.now c.args.mode ys c.in_ok-solutions.solutions.items) c.deref.ensures.value c.in_ok-solutions.ensures in
    subst (SolveMembers c.args.roster.now) (sym c.deref-3.ensures.value) (solve_members c.args.roster.now c.args.mode c.args.trades.now c.in_ok-networks.networks.items c.in_ok-solutions.solutions.items market solved)
