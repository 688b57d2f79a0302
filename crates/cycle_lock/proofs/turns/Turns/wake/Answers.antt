use Rattle.cycle_lock.specs.Home.{of_desk}
use Rattle.std.proofs.Common.{rules, ap, sym, ◌∙◌, ◌≡◌}
use Rattle.cycle_lock.specs.Line.{bell}
use Rattle.cycle_lock.proofs.Steps.{looks_behind, rings}
use Rattle.cycle_lock.proofs.turns.Turns.wake.Goals as goal

pub load-requires : goal.load-requires
load-requires g c = (search rules, search rules, looks_behind (of_desk g.T.Desk.history) (of_desk g.T.Desk.figures) (of_desk g.T.Desk.stopped) _ _ _ _ c.requires.passed.0)

pub fetch_add-requires : goal.fetch_add-requires
fetch_add-requires g c =
    let known = c.requires.passed in
    let same : c.load.new.seat.me ≡ c.args.seat.now.me = c.load.ensures.2.1 (λ e. c.if-load-next.true (e ∙ known.1)) in (
      search rules,
      search rules,
      rings (of_desk g.T.Desk.history) (of_desk g.T.Desk.figures) (of_desk g.T.Desk.stopped) _ _ _ _ _ (ap (λ m. m.0.stage) same ∙ known.0) c.bell_of-bell.ensures.lies.0
          (c.bell_of-bell.ensures.is ∙ ap bell (sym (ap (λ m. m.0.ticket) same ∙ known.1))),
    )
