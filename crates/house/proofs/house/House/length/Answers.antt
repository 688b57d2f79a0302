use Rattle.std.proofs.Common.{subst}
use Rattle.command_types.specs.Roster.{IsRoster}
use Rattle.cycle_states.proofs.DeskFacts.{base_roster}
use Rattle.house.specs.House.{HouseView}
use Rattle.house.proofs.house.House.length.Goals as goal

pub returns-clause-roster : goal.returns-clause-roster
returns-clause-roster g c =
    subst (λ (v : HouseView). IsRoster v.history.base.state.roster) c.self.view_is
    (base_roster c.self.inside.machine.state c.self.inside.past.history c.self.invariant.replayed (subst IsRoster c.roster.ensures c.members-members.ensures.roster))
