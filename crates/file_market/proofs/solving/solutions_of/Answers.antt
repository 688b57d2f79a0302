use Rattle.std.proofs.Common.{subst}
use Rattle.network_laws.specs.Solved.{AreSolved}
use Rattle.file_market.proofs.SolutionFacts.{solutions_of}
use Rattle.file_market.proofs.solving.solutions_of.Goals as goal

pub returns : goal.returns
returns g c =
    let solutions = c.in_ok-solutions.solutions.items in
    solutions_of c.args.roster.now c.args.mode c.args.networks.now c.in_ok-problems.problems.items solutions c.in_ok-problems.ensures (subst (λ problems. AreSolved problems solutions) c.deref.ensures.value c.in_ok-solutions.ensures)
