use Rattle.cycle_lock.specs.Home.{of_desk}
use Rattle.std.proofs.Common.{rules, ap, subst, ◌∙◌}
use Rattle.cycle_lock.specs.Plays.{Took}
use Rattle.cycle_lock.proofs.Steps.{draws, looks}
use Rattle.cycle_lock.proofs.turns.Turns.enter.Goals as goal

pub fetch_add-ticket-requires : goal.fetch_add-ticket-requires
fetch_add-ticket-requires g c = (search rules, search rules, draws (of_desk g.T.Desk.history) (of_desk g.T.Desk.figures) (of_desk g.T.Desk.stopped) _ _ _ _ c.requires.resting.0 c.requires.resting.1)

pub load-served-requires : goal.load-served-requires
load-served-requires g c = (search rules, search rules, looks (of_desk g.T.Desk.history) (of_desk g.T.Desk.figures) (of_desk g.T.Desk.stopped) _ _ _ _ c.loop.invariant.3 (ap (λ a. a.spent) (c.loop.invariant.2 ∙ c.fetch_add-ticket.ensures.2.2) ∙ c.requires.resting.1))

pub returns-then-served-ticket-clause-took : goal.returns-then-served-ticket-clause-took
returns-then-served-ticket-clause-took g c =
    subst (λ slots. Took (of_desk g.T.Desk.history) (of_desk g.T.Desk.figures) (of_desk g.T.Desk.stopped) slots c.load-served.new.seat.me) (c.loop.invariant.5 ∙ c.fetch_add-ticket.ensures.2.3)
    (c.load-served.ensures.2.1 (c.if-served-ticket.true ∙ c.loop.invariant.4))
