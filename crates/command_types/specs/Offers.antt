-- What a desk answers from the changes of its history, where the machine's state does not tell it: the entry behind a position, and where the last version began.
use Rattle.std.specs.Prelude.{ℕ, Bool, true, false, ◌+◌, ◌-◌, nat_lt, List, [], ◌∷◌, length, drop, if◌then◌else◌}
use Rattle.command_types.specs.declared.ask.Ask.{Ask}
use Rattle.command_types.specs.declared.ask.Entry.{Entry}
use Rattle.command_types.specs.declared.ask.What.{What}
use Rattle.command_types.specs.declared.ask.What.TheVariants.{Next, Proof, Begin}
use Rattle.command_types.specs.declared.answer.Answer.{Answer}
use Rattle.command_types.specs.declared.answer.Answer.TheVariants.{NoNext, EntryBytes, ProofRows, No}
use Rattle.command_types.specs.declared.refusal.Refusal.TheVariants.{Gone, Ahead}
use Rattle.command_types.specs.declared.figures.Start.{Start}
use Rattle.command_types.specs.declared.spelling.Spelling.TheVariants.{Second}
use Rattle.command_types.specs.Machine.{answer_to}
use Rattle.command_types.specs.History.{replayed_from}
use Rattle.command_types.specs.Spelling.{spelling}

-- the first of the changes behind a position, if there is one
abbrev pub first_behind : ℕ → List Entry → Answer
first_behind position [] = NoNext
first_behind position (entry ∷ entries) = EntryBytes (position + 1) (spelling Second entry)

-- the change behind a position, of a history that begins so and has these changes
abbrev pub offered : Start → List Entry → ℕ → Answer
offered base entries position =
    if nat_lt position base.position then No (Gone base.position)
    else (if nat_lt (base.position + length entries) position then No (Ahead (base.position + length entries))
    else first_behind position (drop (position - base.position) entries))

-- the change begins a version
abbrev pub is_begin : What → Bool
is_begin (Begin cycle mode) = true
is_begin what = false

-- the place of the last change that begins a version, where the first of these has the place behind this one; without one the place that was found before
abbrev pub begin_from : ℕ → ℕ → List Entry → ℕ
begin_from found place [] = found
begin_from found place (entry ∷ entries) = begin_from (if is_begin entry.ask.what then place + 1 else found) (place + 1) entries

-- the place of the last change that begins a version, counted from 1; 0 where there is none
abbrev pub last_begin : List Entry → ℕ
last_begin entries = begin_from 0 0 entries

-- the machine's answer, with what a desk puts in its place: the entry of a NEXT, and the position of a PROOF's version
abbrev pub with_entries : Start → List Entry → What → Answer → Answer
with_entries base entries (Next position) NoNext = offered base entries position
with_entries base entries (Proof cycle) (ProofRows head rows) = ProofRows (record head { begun = base.position + last_begin entries }) rows
with_entries base entries what answer = answer

-- what a command is answered after these changes
abbrev pub answer_at : Start → List Entry → Ask → Answer
answer_at base entries ask = with_entries base entries ask.what (answer_to (replayed_from base.state entries) ask)
