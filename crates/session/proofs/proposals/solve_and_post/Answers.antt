use Rattle.std.proofs.Common.{refl, sym, subst}
use Rattle.network_laws.specs.Solved.{AreSolved}
use Rattle.session.proofs.GrowthFacts.{unsolved, posted}
use Rattle.session.proofs.proposals.solve_and_post.Goals as goal

pub returns : goal.returns
returns g c = posted _ _ c.args.begun.now.by c.args.begun.now.cycle c.args.begun.now.version c.args.begun.now.at c.args.problems.now _ _ (subst (λ solutions. AreSolved c.args.problems.now solutions) (sym c.new-solutions.ensures) c.in-Ok.ensures) (c.ask.ensures _ c.moment_now-moment.ensures)

pub returns-in_default : goal.returns-in_default
returns-in_default g c = unsolved _ c.args.begun.now.by c.args.begun.now.cycle c.args.begun.now.version c.args.begun.now.at c.args.problems.now _ refl
