-- What is decided of a command.
use Rattle.std.specs.Prelude.{◌≡◌, ◌≤◌, false, is_some, IsTrue}
use Rattle.command_types.specs.declared.answer.Answer.{Answer}
use Rattle.command_types.specs.declared.ask.Entry.{Entry}
use Rattle.command_types.specs.History.{is_recorded}
use Rattle.command_types.specs.Machine.{answer_to}
use Rattle.command_types.specs.Spelling.{posted, most_solutions}
use Rattle.cycle_states.specs.declared.machine.decision.Decision.{Decision}
use Rattle.cycle_states.specs.declared.machine.decision.Decision.TheVariants as decision
use Rattle.cycle_states.specs.Effects.{rows_added, settings_added}
use Rattle.cycle_states.specs.Machine.{MachineView}
use Rattle.cycle_states.specs.Ready.{ReadyView, IsReady}

-- the command is answered so, and changes nothing
pub record ChangesNothing (m : MachineView) (entry : Entry) (answer : Answer) : Type 0 where
  pub told : answer ≡ answer_to m.state entry.ask
  pub no_change : is_recorded entry.ask.what answer ≡ false

-- the machine accepts this change, made it ready as it now is, and has the room for it
pub record MayCommit (m : MachineView) (change : ReadyView) : Type 0 where
  pub accepted : IsTrue (is_recorded change.entry.ask.what (answer_to m.state change.entry.ask))
  pub party : IsTrue (is_some change.entry.ask.by)
  pub few : posted change.entry.ask.what ≤ most_solutions
  pub ready : IsReady m.state change
  pub room : rows_added m.state change.entry.ask ≤ m.spare
  pub slot : settings_added m.state change.entry.ask ≤ m.slots

-- this is decided of the command by the machine as it now is
abbrev pub IsDecision : MachineView → Entry → Decision → Type 0
IsDecision m entry (decision.Told answer) = ChangesNothing m entry answer
IsDecision m entry (decision.Ready ready) = (ready.entry ≡ entry) × MayCommit m ready
