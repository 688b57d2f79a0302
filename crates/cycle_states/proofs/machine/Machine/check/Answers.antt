use Rattle.std.proofs.Common.{◌∙◌, ap}
use Rattle.command_types.specs.Machine.{first_of}
use Rattle.cycle_states.proofs.PartyFacts.{party_refusals}
use Rattle.cycle_states.proofs.machine.Machine.check.Goals as goal

pub returns-in_default : goal.returns-in_default
returns-in_default c =
    let ask = c.args.ask.now in
    c.check_greeted.ensures ∙ ap first_of (party_refusals c.args.self.now.state ask.by ask.what c.in_default.not-Hello c.in_default.not-Bye c.in_default.not-Unreadable)
