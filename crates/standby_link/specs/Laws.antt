-- What holds of a standby that reads a primary's answers.
use Rattle.std.specs.Prelude.{◌≡◌, ◌⊎◌, ℕ, ◌+◌, ◌<◌, ◌≤◌, ◌^◌, true, List, [], ◌∷◌, ◌++◌, length, All, Some}
use Rattle.units_core.specs.declared.limits.TheConstants.{MOST_NUMBER, MOST_JOURNAL}
use Rattle.command_types.specs.declared.answer.Answer.TheVariants as answers
use Rattle.command_types.specs.declared.ask.Entry.{Entry}
use Rattle.command_types.specs.declared.refusal.Refusal.{Refusal}
use Rattle.command_types.specs.declared.spelling.Spelling.TheVariants.{Second}
use Rattle.command_types.specs.Details.{reply_text}
use Rattle.command_types.specs.Roster.{Rows}
use Rattle.command_types.specs.Spelling.{Spells, spelling}
use Rattle.outside.specs.Disk as disks
use Rattle.outside.specs.Disk.{left_since}
use Rattle.house.specs.House.{HouseView, Keeps}
use Rattle.house.specs.Storing.{moment_of}
use Rattle.standby_wire.specs.Laws.{number_of, IsSmall}
use Rattle.standby_wire.specs.Replied.{Replied}
use Rattle.standby_wire.specs.declared.reply.Question.{Question}
use Rattle.standby_wire.specs.declared.reply.Question.TheVariants.{Hello, Next, Again}
use Rattle.standby_wire.specs.declared.reply.Reply.TheVariants as replies
use Rattle.standby.specs.Link.{Fits, World, AreAmong, moved, IsSound}
use Rattle.standby.specs.Lists.{IsHistoryOf, StandsForList, BeginsWith}
use Rattle.standby.specs.Sent.{Sent, numbers_in}
use Rattle.standby.specs.declared.follow.FollowEnd.{FollowEnd}
use Rattle.standby_link.specs.Compared.{AreReply, HasNone, IsLastOf}
use Rattle.standby_link.specs.Followed.{Streams, Followed}
use Rattle.standby_link.specs.declared.comparing.TheConstants.{GONE}
use Rattle.standby_link.specs.declared.login.Login.{Login}

-- the text that tells the entry behind a position, which is one of these, by the bytes that spell it
pub record TellsEntry (rows : Rows) (entries : List Entry) (position at : ℕ) (text : List ℕ) : Type 0 where
  pub entry : Entry
  pub bytes : List ℕ
  pub spells : Spells Second bytes entry
  pub short : length bytes ≤ MOST_JOURNAL
  pub place : position < 2 ^ 63
  pub fits : Fits entries (record { position = position + 1; entry = entry })
  pub is : text ≡ reply_text rows (record { at = at; answer = answers.EntryBytes (position + 1) bytes })

-- the text refuses with one of the refusals that may answer a HELLO or a NEXT
pub record Refuses (rows : Rows) (at : ℕ) (text : List ℕ) : Type 0 where
  pub refusal : Refusal
  pub number : ℕ
  pub small : IsSmall refusal
  pub numbered : number_of refusal ≡ Some number
  pub is : text ≡ reply_text rows (record { at = at; answer = answers.No refusal })

-- a NEXT of a position is answered with the entry behind it, or that there is none
abbrev pub AcceptsNext : Rows → List Entry → ℕ → ℕ → List ℕ → Type 0
AcceptsNext rows entries position at text =
    ((at ≡ position) × (text ≡ reply_text rows (record { at = at; answer = answers.NoNext }))) ⊎ TellsEntry rows entries position at text

-- A primary with these entries accepts a question with this text: it greets, or answers a NEXT, as which an entry is asked for again, too.
abbrev pub Accepts : Rows → List Entry → Question → ℕ → List ℕ → Type 0
Accepts rows entries (Hello name) at text = text ≡ reply_text rows (record { at = at; answer = answers.Hello name })
Accepts rows entries (Next position) at text = AcceptsNext rows entries position at text
Accepts rows entries (Again position bytes) at text = (length bytes ≤ MOST_JOURNAL) × AcceptsNext rows entries position at text

-- It answers so at a position of its history.
abbrev pub Answers : Rows → List Entry → Question → List ℕ → Type 0
Answers rows entries question text = (at : ℕ) × (at ≤ MOST_NUMBER) × (Refuses rows at text ⊎ Accepts rows entries question at text)

-- Where the reply to each of these questions was due, the primary's answer to it stood.
abbrev pub AreAnswers : Rows → List Entry → List Replied → List ℕ → Type 0
AreAnswers rows entries [] input = Unit {0}
AreAnswers rows entries (replied ∷ others) input =
    (text : List ℕ) × (rest : List ℕ) × (input ≡ text ++ rest) × Answers rows entries replied.question text × AreAnswers rows entries others rest

-- A standby whose list was a prefix of the primary's, and that followed it over a source whose bytes are its answers, has a prefix of the primary's list again.
abbrev pub FollowersHoldAPrefix : Type 0
FollowersHoldAPrefix =
    (login : Login) (first now : Streams) (old new : HouseView) (end : FollowEnd) (f : Followed login first now old new end)
    (roster : Rows) (primary before : List Entry) → AreAnswers roster primary f.greeted.wire.hearing.replied f.greeted.is.hearing.taken
    → IsHistoryOf roster old.history before → BeginsWith primary before
    → (after : List Entry) × IsHistoryOf roster new.history after × BeginsWith primary after

-- one of the entries, behind a position, is spelled by these bytes
abbrev pub HasAlike : List Entry → ℕ → List ℕ → Type 0
HasAlike entries position bytes = (entry : Entry) × Fits entries (record { position = position + 1; entry = entry }) × (bytes ≡ spelling Second entry)

-- A standby that compares, and has a last entry behind its base that its house tells it, follows over a primary's answers only where the primary has that entry at that place, or only entries behind it.
abbrev pub ForksAreSeen : Type 0
ForksAreSeen =
    (login : Login) (first now : Streams) (old new : HouseView) (end : FollowEnd) (f : Followed login first now old new end)
    (roster : Rows) (primary : List Entry) → AreAnswers roster primary f.hearing.replied f.heard.taken
    → login.compare ≡ true → (HasNone old login.name → ⊥)
    → (position : ℕ) × (bytes : List ℕ) × IsLastOf old position bytes × (HasAlike primary position bytes ⊎ AreReply position bytes f.replied (replies.Refused GONE))

-- What a crash leaves of a standby's journal at any moment since it was to follow, after some of its lines were said, stands for entries with which the world is sound again, with all numbers that were said by then.
abbrev pub CrashesLeaveSoundWorlds : Type 0
CrashesLeaveSoundWorlds =
    (login : Login) (first now : Streams) (old new : HouseView) (end : FollowEnd) (f : Followed login first now old new end)
    (roster : Rows) (w : World) → IsSound w → IsHistoryOf roster old.history w.standby → AreAmong f.follows.follows.offers w.sent
    → Keeps old → old.kept ≡ []
    → (said others : List Sent) → f.greeted.wire.said ≡ said ++ others → (disk : disks.History) → new.disk ≡ Some disk
    → (image : List ℕ) → left_since disk (moment_of old.disk) image → All (λ sent. left_since disk (moment_of sent.house.disk) image) said
    → (entries : List Entry) × StandsForList image entries × IsSound (moved w entries (numbers_in said))
