-- What a call gives to a pass, by whichever pass it is made.
use Rattle.std.specs.Prelude.{◌≡◌, ◌≢◌, ℕ, ◌++◌, Bool, true, false, IsTrue, Option, Some, None}
use Rattle.command_types.specs.declared.answer.Reply.{Reply}
use Rattle.command_types.specs.declared.ask.Ask.{Ask}
use Rattle.command_types.specs.History.{IsLegal, end_of, recorded, is_recorded, entries_of_seat}
use Rattle.command_types.specs.Told.{IsTold, tells_stop}
use Rattle.command_types.specs.declared.ask.Entry.{Entry}
use Rattle.cycle_lock.specs.declared.errands.Errand.{Errand}
use Rattle.cycle_lock.specs.declared.errands.Done.{Done}
use Rattle.cycle_lock.specs.declared.pass.Pass.{Pass}
use Rattle.cycle_lock.specs.Passes.{lock_of, seat_of, figures_of, seen, saw_stop, may_split, numbers, StandsFor, made_by, made, Continues}

-- The pass, which was p and is q, was called with this command, and got this reply. The clauses are those of `call`.
pub record IsCalled (p : Pass) (ask : Ask) (q : Pass) (reply : Reply) : Type 0 where
  pub own : lock_of q ≡ lock_of p
  pub seat : seat_of q ≡ seat_of p
  pub figures : figures_of q ≡ figures_of p
  pub stands : (numbers q ≡ numbers p) × (may_split q ≡ may_split p)
  pub goes_on : Continues (seen q) (seen p)
  pub place : reply.at ≡ end_of (seen q)
  pub legal : IsLegal (seen q)
  pub told : (before : Bool) × (saw_stop p ≡ true → before ≡ true) × (before ≡ true → saw_stop q ≡ true) × IsTold (figures_of q) before (saw_stop q) (seen q) (seat_of q) ask reply
  pub entries : made q ≡ made p ++ recorded (seat_of p) ask reply.answer
  pub others : (n : ℕ) → StandsFor p n → n ≢ seat_of p → made_by n q ≡ made_by n p
  pub later : entries_of_seat (seen q) (seat_of p) (end_of (seen p)) ≡ recorded (seat_of p) ask reply.answer
  pub stop : IsTrue (tells_stop reply.answer) → saw_stop q ≡ true
  pub stays : saw_stop p ≡ true → saw_stop q ≡ true
  pub runs : IsTrue (is_recorded ask.what reply.answer) → saw_stop q ≡ false

-- the command of an errand, under its pass's number
abbrev pub command_of : Errand → Entry
command_of errand = record { seat = errand.pass.number; ask = errand.ask }

abbrev pub pass_of : Errand → Pass
pass_of errand = errand.pass

-- the errand that was left at a place is done
abbrev pub IsDoneFor : Option Errand → Done → Type 0
IsDoneFor (Some errand) done = IsCalled errand.pass errand.ask done.pass done.reply
IsDoneFor None done = ⊥
