-- A change that the machine is ready to make.
use Rattle.std.specs.Prelude.{◌≡◌, ℕ, List, All}
use Rattle.network_laws.specs.Solutions.{IsSolution}
use Rattle.command_types.specs.declared.answer.Answer.{Answer}
use Rattle.command_types.specs.declared.ask.What.{What}
use Rattle.command_types.specs.declared.ask.Entry.{Entry}
use Rattle.command_types.specs.declared.figures.State.{State}
use Rattle.command_types.specs.History.{solutions_posted}
use Rattle.command_types.specs.Machine.{answer_to, party_answer, state_after, state_by_party}
use Rattle.cycle_states.specs.declared.machine.ballot.Ballot.{Ballot}
use Rattle.cycle_states.specs.declared.machine.effect.Effect.{Effect}
use Rattle.cycle_states.specs.declared.machine.ready.Made.{Made}
use Rattle.cycle_states.specs.Ballot.{IsBallotIn}
use Rattle.cycle_states.specs.Effects.{effect_by, effect_of, MayApply}

-- a change, what it is answered, what it does, and the ballot then
pub record ReadyView : Type 0 where
  pub entry : Entry
  pub answer : Answer
  pub effect : Effect
  pub ballot : Ballot

-- this is what a party's change is answered in this state and what it does, and it may be done
pub record IsMade (s : State) (by : List ℕ) (what : What) (made : Made) : Type 0 where
  pub told : made.answer ≡ party_answer s by what
  pub does : made.effect ≡ effect_by s by what
  pub may : MayApply s made.effect
  pub ballot : IsBallotIn (state_by_party s by what) made.ballot
  pub solutions : All IsSolution (solutions_posted what)

-- it was made ready in this state
pub record IsReady (s : State) (ready : ReadyView) : Type 0 where
  pub answer : ready.answer ≡ answer_to s ready.entry.ask
  pub effect : ready.effect ≡ effect_of s ready.entry.ask
  pub may : MayApply s ready.effect
  pub ballot : IsBallotIn (state_after s ready.entry.ask) ready.ballot
  pub solutions : All IsSolution (solutions_posted ready.entry.ask.what)
