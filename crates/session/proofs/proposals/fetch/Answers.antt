use Rattle.std.proofs.Common.{List, sym, subst, ◌∙◌}
use Rattle.network_laws.specs.Solutions.{ProblemData}
use Rattle.session.specs.Serving.{of_pass}
use Rattle.session.specs.Proposing.{Posts}
use Rattle.session.proofs.GrowthFacts.{fetched_on, fetched_last}
use Rattle.session.proofs.proposals.fetch.Goals as goal

pub returns : goal.returns
returns g c =
    let P : List ProblemData → Type 0 = λ ps. Posts (g.C.Clock.tells c.args.clock.now) (of_pass c.ask-reply.new.self.pass) (of_pass c.solve_and_post.new.asker.pass) c.args.begun.now.by c.args.begun.now.cycle c.args.begun.now.version c.args.begun.now.at ps c.solve_and_post.result in
    fetched_on _ _ _ c.args.begun.now.by c.args.begun.now.cycle c.args.begun.now.version c.args.begun.now.at c.in-Problems.problems c.ask-reply.result c.solve_and_post.result c.in-Problems.is (c.ask-reply.ensures _ c.moment_now-moment.ensures) (subst P c.rows.ensures c.solve_and_post.ensures)

pub returns-then-not-has_problems : goal.returns-then-not-has_problems
returns-then-not-has_problems g c =
    fetched_last _ _ c.args.begun.now.by c.args.begun.now.cycle c.args.begun.now.version c.args.begun.now.at c.ask-reply.result
    (sym c.has_problems.ensures ∙ c.if-not-has_problems.true) (c.ask-reply.ensures _ c.moment_now-moment.ensures)
