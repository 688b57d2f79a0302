-- The laws of what is read.
use Rattle.std.specs.Prelude.{◌≡◌, ℕ, ◌+◌, ◌≤◌, List, ◌++◌, length, Option, Some, None, Ok, Err}
use Rattle.units_core.specs.declared.limits.TheConstants.{MOST_NUMBER, MOST_JOURNAL}
use Rattle.command_types.specs.declared.ask.Entry.{Entry}
use Rattle.command_types.specs.declared.answer.Answer.TheVariants as answers
use Rattle.command_types.specs.declared.refusal.Refusal.{Refusal}
use Rattle.command_types.specs.declared.refusal.Refusal.TheVariants.{NotGreeted, BadKey, BadLine, NotOperator, Stopped, Memory, Gone, Ahead}
use Rattle.command_types.specs.declared.spelling.Spelling.TheVariants.{Second}
use Rattle.command_types.specs.Details.{reply_text}
use Rattle.command_types.specs.Roster.{Rows}
use Rattle.command_types.specs.Spelling.{Spells}
use Rattle.standby_wire.specs.declared.stop.Stop.TheVariants.{Bad}
use Rattle.standby_wire.specs.Replies.{reply_to}
use Rattle.standby_wire.specs.declared.reply.Question.{Question}
use Rattle.standby_wire.specs.declared.reply.Question.TheVariants.{Hello, Next, Again}
use Rattle.standby_wire.specs.declared.reply.Reply.{Reply}
use Rattle.standby_wire.specs.declared.reply.Reply.TheVariants as replies

-- What was read, or is bad, stays so, however the input goes on; and what is read is a front of the input.
pub record ReadingStays : Type 0 where
  pub bad : (question : Question) (input more : List ℕ) → reply_to question input ≡ Err Bad → reply_to question (input ++ more) ≡ Err Bad
  pub read :
      (question : Question) (reply : Reply) (input rest more : List ℕ)
      → reply_to question input ≡ Ok (reply, rest) → reply_to question (input ++ more) ≡ Ok (reply, rest ++ more)
  pub front :
      (question : Question) (reply : Reply) (input rest : List ℕ)
      → reply_to question input ≡ Ok (reply, rest) → (text : List ℕ) × (input ≡ text ++ rest)

-- What a primary writes is read, whatever comes behind it: a greeting, that there is no entry, an entry by the bytes that spell it, and the same entry by its bytes.
pub record WritingIsRead : Type 0 where
  pub hello :
      (rows : Rows) (at : ℕ) (name more : List ℕ) → at ≤ MOST_NUMBER
      → reply_to (Hello name) (reply_text rows (record { at = at; answer = answers.Hello name }) ++ more) ≡ Ok (replies.Greeted, more)
  pub none :
      (rows : Rows) (at : ℕ) (more : List ℕ) → at ≤ MOST_NUMBER
      → reply_to (Next at) (reply_text rows (record { at = at; answer = answers.NoNext }) ++ more) ≡ Ok (replies.Nothing, more)
  pub entry :
      (rows : Rows) (at position : ℕ) (bytes : List ℕ) (entry : Entry) (more : List ℕ) → at ≤ MOST_NUMBER → length bytes ≤ MOST_JOURNAL → Spells Second bytes entry
      → reply_to (Next position) (reply_text rows (record { at = at; answer = answers.EntryBytes (position + 1) bytes }) ++ more) ≡ Ok (replies.Entry entry, more)
  pub same :
      (rows : Rows) (at position : ℕ) (bytes more : List ℕ) → at ≤ MOST_NUMBER
      → reply_to (Again position bytes) (reply_text rows (record { at = at; answer = answers.EntryBytes (position + 1) bytes }) ++ more) ≡ Ok (replies.Same, more)

-- Of what a primary writes behind a NEXT, only the entry with the same bytes is read as the one that was told before.
pub record OnlyTheSameIsRead : Type 0 where
  pub none :
      (rows : Rows) (at position : ℕ) (own more : List ℕ) (reply : Reply) (rest : List ℕ) → at ≤ MOST_NUMBER
      → reply_to (Again position own) (reply_text rows (record { at = at; answer = answers.NoNext }) ++ more) ≡ Ok (reply, rest) → ⊥
  pub entry :
      (rows : Rows) (at position : ℕ) (own bytes more : List ℕ) (reply : Reply) (rest : List ℕ) → at ≤ MOST_NUMBER → length own ≤ MOST_JOURNAL → length bytes ≤ MOST_JOURNAL
      → reply_to (Again position own) (reply_text rows (record { at = at; answer = answers.EntryBytes (position + 1) bytes }) ++ more) ≡ Ok (reply, rest)
      → (own ≡ bytes) × (reply ≡ replies.Same) × (rest ≡ more)

-- The number of a refusal that a primary may answer a HELLO or a NEXT with.
abbrev pub number_of : Refusal → Option ℕ
number_of NotGreeted = Some 1
number_of BadKey = Some 2
number_of (BadLine at) = Some 3
number_of NotOperator = Some 14
number_of (Stopped at) = Some 26
number_of Memory = Some 28
number_of (Gone from) = Some 31
number_of (Ahead end) = Some 32
number_of refusal = None

-- its value, if it has one, is a number of the grammar
abbrev pub IsSmall : Refusal → Type 0
IsSmall (BadLine at) = at ≤ MOST_NUMBER
IsSmall (Stopped at) = at ≤ MOST_NUMBER
IsSmall (Gone from) = from ≤ MOST_NUMBER
IsSmall (Ahead end) = end ≤ MOST_NUMBER
IsSmall refusal = Unit {0}

-- What a primary refuses them with is read as that number, whatever comes behind it.
abbrev pub RefusalsAreRead : Type 0
RefusalsAreRead =
    (question : Question) (rows : Rows) (at : ℕ) (refusal : Refusal) (number : ℕ) (more : List ℕ) → at ≤ MOST_NUMBER → IsSmall refusal → number_of refusal ≡ Some number
    → reply_to question (reply_text rows (record { at = at; answer = answers.No refusal }) ++ more) ≡ Ok (replies.Refused number, more)
