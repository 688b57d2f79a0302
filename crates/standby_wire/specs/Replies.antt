-- Replies that may stand where a standby waits for one.
use Rattle.std.specs.Prelude.{IsTrue, ℕ, ◌+◌, ◌==◌, nat_lt, List, length, take, drop, Result, Ok, Err, codes, decimal, if◌then◌else◌}
use Rattle.command_types.specs.declared.ask.Entry.{Entry}
use Rattle.command_types.specs.Machine.{changes}
use Rattle.command_types.specs.declared.spelling.Spelling.TheVariants.{Second}
use Rattle.record_codec.specs.Reading.{read_record}
use Rattle.units_core.specs.declared.limits.TheConstants.{MOST_NUMBER, MOST_JOURNAL}
use Rattle.standby_wire.specs.Seen.{Seen, ◌>>=◌}
use Rattle.standby_wire.specs.declared.stop.Stop.TheVariants.{More, Bad}
use Rattle.standby_wire.specs.Words.{word, if_word, number}
use Rattle.standby_wire.specs.Refusals.{refused}
use Rattle.standby_wire.specs.declared.reply.Question.{Question}
use Rattle.standby_wire.specs.declared.reply.Question.TheVariants.{Hello, Next, Again}
use Rattle.standby_wire.specs.declared.reply.Reply.{Reply}
use Rattle.standby_wire.specs.declared.reply.Reply.TheVariants as replies

-- behind `ok `: a position and the name that was greeted
unfoldable pub greeted : List ℕ → List ℕ → Seen Reply
greeted name input = do
  at ← number MOST_NUMBER input
  hello ← word (codes " hello ") at.1
  told ← word name hello.1
  end ← word (codes "\n") told.1
  Ok (replies.Greeted, end.1)

abbrev pub entry_or_bad : Result Entry ℕ → List ℕ → Seen Entry
entry_or_bad (Ok entry) rest = Ok (entry, rest)
entry_or_bad (Err at) rest = Err Bad

-- a record of so many bytes; it is judged when they are there
unfoldable pub record_at : ℕ → List ℕ → Seen Entry
record_at size input = if nat_lt (length input) size then Err More else entry_or_bad (read_record Second (take size input)) (drop size input)

-- behind ` entry `: the place behind a position, a length, and so many bytes, which are the record of a change
unfoldable pub entry_behind : ℕ → List ℕ → Seen Reply
entry_behind position input = do
  place ← word (decimal (position + 1)) input
  gap ← word (codes " ") place.1
  size ← number MOST_JOURNAL gap.1
  head ← word (codes "\n") size.1
  entry ← record_at size.0 head.1
  end ← word (codes "\n") entry.1
  Ok (replies.Entry entry.0, end.1)

unfoldable pub nothing_more : List ℕ → Seen Reply
nothing_more input = do
  end ← word (codes " none\n") input
  Ok (replies.Nothing, end.1)

-- there is no entry behind a position, where the reply tells it as the length
unfoldable pub none_at : ℕ → ℕ → List ℕ → Seen Reply
none_at position at input = if at == position then nothing_more input else Err Bad

-- behind `ok `: a position, and an entry or none
unfoldable pub offered : ℕ → List ℕ → Seen Reply
offered position input = do
  at ← number MOST_NUMBER input
  if_word (codes " entry ") (entry_behind position) (none_at position at.0) at.1

-- these bytes, which are judged when as many are there
unfoldable pub same_bytes : List ℕ → List ℕ → Seen (Unit {0})
same_bytes bytes input = if nat_lt (length input) (length bytes) then Err More else word bytes input

-- behind `ok `: a position, and the entry behind one, which has these bytes
unfoldable pub same_entry : ℕ → List ℕ → List ℕ → Seen Reply
same_entry position bytes input = do
  at ← number MOST_NUMBER input
  kind ← word (codes " entry ") at.1
  place ← word (decimal (position + 1)) kind.1
  gap ← word (codes " ") place.1
  size ← word (decimal (length bytes)) gap.1
  head ← word (codes "\n") size.1
  same ← same_bytes bytes head.1
  end ← word (codes "\n") same.1
  Ok (replies.Same, end.1)

unfoldable pub accepted : Question → List ℕ → Seen Reply
accepted (Hello name) input = greeted name input
accepted (Next position) input = offered position input
accepted (Again position bytes) input = same_entry position bytes input

unfoldable pub refused_reply : List ℕ → Seen Reply
refused_reply input = do
  read ← refused input
  Ok (replies.Refused read.0, read.1)

unfoldable pub not_accepted : List ℕ → Seen Reply
not_accepted input = do
  begin ← word (codes "no ") input
  refused_reply begin.1

-- what is read where the reply to a question is due
unfoldable pub reply_to : Question → List ℕ → Seen Reply
reply_to question input = if_word (codes "ok ") (accepted question) not_accepted input

-- the reply is one to the question: a greeting to a HELLO, an entry that is a change or none to a NEXT, the same entry to one that asks for it again, and a refusal to all
abbrev pub IsFor : Reply → Question → Type 0
IsFor (replies.Refused number) question = Unit {0}
IsFor replies.Greeted (Hello name) = Unit {0}
IsFor replies.Nothing (Next position) = Unit {0}
IsFor (replies.Entry entry) (Next position) = IsTrue (changes entry.ask.what)
IsFor replies.Same (Again position bytes) = Unit {0}
IsFor reply question = ⊥

-- to each question
abbrev pub IsForAny : Reply → Type 0
IsForAny reply = (question : Question) → IsFor reply question
