-- What is known of a command that is recorded: it has a party, and posts few solutions.
use Rattle.std.proofs.Common.{◌≡◌, ℕ, ◌≤◌, ◌&&◌, Bool, true, false, List, Option, Some, None, is_some, Result, Ok, Err, IfOk, IsTrue, arith, refl}
use Rattle.std.proofs.lemmas.Bool.{false≢true}
use Rattle.command_types.specs.declared.answer.Answer.{Answer}
use Rattle.command_types.specs.declared.answer.Answer.TheVariants.{No}
use Rattle.command_types.specs.declared.ask.What.{What}
use Rattle.command_types.specs.declared.ask.What.TheVariants.{Hello, Post, Bye, Unreadable}
use Rattle.command_types.specs.declared.figures.Cycle.{Cycle}
use Rattle.command_types.specs.declared.figures.State.{State}
use Rattle.command_types.specs.declared.refusal.Refusal.{Refusal}
use Rattle.command_types.specs.declared.tolerance.ToleranceRow.{ToleranceRow}
use Rattle.command_types.specs.declared.trade.TradeRow.{TradeRow}
use Rattle.command_types.specs.Roster.{Rows}
use Rattle.command_types.specs.History.{is_recorded}
use Rattle.command_types.specs.Spelling.{posted, most_solutions}
use Rattle.command_types.specs.Machine.{changes, first_of, refusals}
use Rattle.cycle_states.specs.Machine.{state_with, IsMachine}
use Rattle.cycle_states.proofs.CycleFacts.{solving_limits}
use Rattle.cycle_states.proofs.KeptFacts.{post_solves, post_certified}
use Rattle.cycle_states.proofs.SettledFacts.{few_problems, as_many}

-- what holds of each answer holds of the one that there is
pub if_ok : {E : Type 0} (r : Result Answer E) (P : Answer → Type 0) → ((answer : Answer) → P answer) → IfOk r P
if_ok (Ok answer) P all = all answer
if_ok (Err e) P all = tt

neither_way : (b : Bool) → IsTrue (b && false) → ⊥
neither_way true h = false≢true h
neither_way false h = false≢true h

-- a refusal is not recorded
pub refusal_unrecorded : (what : What) (refusal : Refusal) → IsTrue (is_recorded what (No refusal)) → ⊥
refusal_unrecorded what refusal h = neither_way (changes what) h

-- nobody's command is accepted and changes the machine
nobodys : (s : State) (what : What) (answer : Answer) → first_of (refusals s None what) ≡ None → IsTrue (is_recorded what answer) → ⊥
nobodys s (Hello name key) answer none change = false≢true change
nobodys s Bye answer none change = false≢true change
nobodys s (Unreadable at) answer none change = false≢true change
nobodys s what answer none change = cc

pub recorded_party : (s : State) (by : Option (List ℕ)) (what : What) (answer : Answer) → first_of (refusals s by what) ≡ None → IsTrue (is_recorded what answer) → IsTrue (is_some by)
recorded_party s (Some name) what answer none change = refl
recorded_party s None what answer none change = absurd (nobodys s what answer none change)

module _ (roster : Rows) (members products : ℕ) (rows : List TradeRow) (cycle : Cycle) (kept : IsMachine roster members products rows cycle) where
  -- what is not refused posts few solutions
  pub few_posted : (settings : List ToleranceRow) (by : Option (List ℕ)) (what : What) → first_of (refusals (state_with roster rows settings cycle) by what) ≡ None → posted what ≤ most_solutions
  few_posted settings by (Post number version solutions) none =
      let s = state_with roster rows settings cycle in
      let stands = solving_limits cycle.phase (post_solves s by number version solutions none) in
      omega (arith, as_many roster members products rows cycle kept solutions (post_certified s by number version solutions none), few_problems roster members products rows cycle kept stands)
  few_posted settings by what none = omega arith
