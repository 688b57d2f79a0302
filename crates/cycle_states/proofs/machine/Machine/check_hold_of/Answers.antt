use Rattle.std.proofs.Common.{◌∷◌, [], ◌||◌, not}
use Rattle.command_types.specs.declared.refusal.Refusal.TheVariants.{NotParty, WrongTradeState}
use Rattle.command_types.specs.Trades.{is_live, hold_of}
use Rattle.command_types.specs.Machine.{if_frozen, is_party_of, side_in}
use Rattle.cycle_states.proofs.RefusalFacts.{stopped}
use Rattle.cycle_states.proofs.machine.Machine.check_hold_of.Goals as goal

pub returns-in-Err : goal.returns-in-Err
returns-in-Err c =
    let s = c.args.self.now.state in
    let row = c.args.row.now in
    stopped (not (is_party_of s c.args.caller.now.name row)) NotParty c.in-Err.refusal
    ((not (is_live row.state) || hold_of (side_in s c.args.caller.now.name row) row, WrongTradeState row.state) ∷ if_frozen s row ∷ [])
    c.in-Err.ensures
