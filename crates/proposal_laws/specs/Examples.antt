-- Small histories of a desk without members and products, by which the definitions can be read. A version there has nothing to solve.
use Rattle.std.specs.Prelude.{◌≡◌, ℕ, ◌==◌, Bool, List, [], ◌∷◌, Some, None, false, codes}
use Rattle.command_types.specs.declared.answer.Reply.{Reply}
use Rattle.command_types.specs.declared.ask.Entry.{Entry}
use Rattle.command_types.specs.declared.ask.What.{What}
use Rattle.command_types.specs.declared.ask.What.TheVariants.{Begin, Post, Cancel}
use Rattle.command_types.specs.declared.cycle.Mode.TheVariants.{Conservative}
use Rattle.command_types.specs.declared.figures.Figures.{Figures}
use Rattle.command_types.specs.Roster.{Rows}
use Rattle.command_types.specs.Machine.{empty_state}
use Rattle.command_types.specs.CycleSteps.{after_freeze}
use Rattle.command_types.specs.History.{History}
use Rattle.command_types.specs.Session.{Standing, empty_draft, IsSession}
use Rattle.proposal_laws.specs.Turns.{Turn, turns, begun_in}
use Rattle.proposal_laws.specs.Laws.{IsOvertaken}
use Rattle.proposal_laws.specs.Texts.{IsPlainScript}

abbrev pub name_ops : List ℕ
name_ops = codes "OPS"

abbrev operator_only : Rows
operator_only = record { members = []; products = []; operator = Some (record { name = name_ops; key = codes "KO" }) }

abbrev pub change : ℕ → What → Entry
change seat what = record { seat = seat; ask = record { by = Some name_ops; what = what; moment = 0 } }

-- the cycle was frozen before
abbrev pub history_of : List Entry → History
history_of entries =
    record { base = record { position = 1; state = after_freeze (empty_state operator_only) (record { year = 2026; month = 3; day = 31 }) }; entries = entries }

-- a version begins and is posted
abbrev pub posted : History
posted = history_of (change 0 (Begin 1 Conservative) ∷ change 0 (Post 1 1 []) ∷ [])

-- a version begins, and another seat cancels the cycle
abbrev pub cancelled : History
cancelled = history_of (change 0 (Begin 1 Conservative) ∷ change 1 (Cancel 1) ∷ [])

-- a version begins, and another seat begins the next one
abbrev pub begun_by_two : History
begun_by_two = history_of (change 0 (Begin 1 Conservative) ∷ change 1 (Begin 1 Conservative) ∷ [])

-- the operator has greeted
abbrev pub greeted : Standing
greeted = record { position = 1; speaker = record { party = Some name_ops; draft = empty_draft }; stopped = false; over = false }

abbrev pub figures_of : History → Figures
figures_of h = record { base = h.base; opening = 1; journal = None; votes_take_memory = false }

-- the clock tells 0
abbrev pub at_0 : ℕ → Bool
at_0 moment = moment == 0

abbrev pub propose_line : List ℕ
propose_line = codes "PROPOSE 1 conservative"

-- the operator's PROPOSE is replied to so, in a session of seat 0 with this one line
abbrev pub IsProposedIn : History → List ℕ → Type 0
IsProposedIn h text = IsSession at_0 (figures_of h) h 0 greeted (propose_line ∷ []) text

-- The operator's PROPOSE is overtaken, and replied to so.
pub record IsOvertakenIn (h : History) (text : List ℕ) : Type 0 where
  pub session : IsProposedIn h text
  pub turn : Turn at_0 (figures_of h) h 0
  pub only : turns at_0 (figures_of h) h 0 greeted (propose_line ∷ []) text session.made session.to session.talk ≡ turn ∷ []
  pub begun : Reply
  pub began : begun_in turn ≡ Some begun
  pub overtaken : IsOvertaken begun turn.answered.reply

abbrev pub nothing_text : List ℕ
nothing_text = codes "ok 3 nothing 1 1\n"

abbrev pub phase_text : List ℕ
phase_text = codes "no 3 17 wrong-phase none\n"

abbrev pub version_text : List ℕ
version_text = codes "no 3 18 wrong-version 2\n"

-- nothing has come since the freeze
abbrev pub frozen : History
frozen = history_of []

abbrev pub begin_line : List ℕ
begin_line = codes "BEGIN 1 conservative"

abbrev pub begun_text : List ℕ
begun_text = codes "ok 2 begun 1 1\n"

-- the operator's BEGIN is replied to so, and nothing else comes
abbrev pub IsBegunAlone : List ℕ → Type 0
IsBegunAlone text = IsPlainScript at_0 (figures_of frozen) frozen 0 greeted (begin_line ∷ []) text
