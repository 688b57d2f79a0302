use Rattle.std.proofs.Common.{◌≡◌, ◌∙◌, Some, sym}
use Rattle.command_types.specs.Roster.{member_place}
use Rattle.cycle_states.proofs.MachineFacts.{place_within}
use Rattle.cycle_states.proofs.machine.Machine.unless_touched.Goals as goal

pub touches-touched-requires-clause-there : goal.touches-touched-requires-clause-there
touches-touched-requires-clause-there c =
    let s = c.args.self.now.state in
    let place : member_place s.roster c.args.caller.now.name ≡ Some c.in-Some.member = sym c.member.ensures ∙ c.in-Some.is in
    place_within s.roster c.args.caller.now.name c.in-Some.member place
