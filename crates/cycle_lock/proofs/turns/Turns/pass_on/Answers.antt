use Rattle.std.proofs.Common.{rules, [], ap, ◌∙◌}
use Rattle.atomic_table.specs.Table.{rest}
use Rattle.cycle_lock.specs.Home.{of_desk}
use Rattle.cycle_lock.specs.Views.{resting}
use Rattle.cycle_lock.proofs.Steps.{passes}
use Rattle.cycle_lock.proofs.turns.Turns.pass_on.Goals as goal

pub fetch_add-ticket-requires : goal.fetch_add-ticket-requires
fetch_add-ticket-requires g c = let h = c.requires.home in
    (search rules, search rules, passes (of_desk g.T.Desk.history) (of_desk g.T.Desk.figures) (of_desk g.T.Desk.stopped) _ _ _ c.args.seat.now.me h.0 [] c.requires.turn.0 h.1 h.2 c.requires.turn.1)

pub returns-clause-rests : goal.returns-clause-rests
returns-clause-rests g c = let p = c.fetch_add-ticket.ensures.2 in
    c.wake.ensures.rests ∙ (λ i. (resting (p.0 i).account, (p.1 ∙ ap rest c.requires.home.1) i))
