use Rattle.std.proofs.Common.{subst}
use Rattle.command_types.specs.History.{History}
use Rattle.command_types.specs.Roster.{IsRoster}
use Rattle.cycle_states.specs.Replayed.{history_from}
use Rattle.cycle_states.proofs.DeskFacts.{base_roster}
use Rattle.cycle_states.proofs.plain_desk.PlainDeskDesk.length.Goals as goal

pub returns-clause-roster : goal.returns-clause-roster
returns-clause-roster c =
    subst (λ (h : History). IsRoster h.base.state.roster) c.self.view_is
    (base_roster c.self.inside.machine.state (history_from 0 c.self.inside.first.value.state c.self.inside.entries.items) c.self.invariant.replayed (subst IsRoster c.roster.ensures c.members-members.ensures.roster))
