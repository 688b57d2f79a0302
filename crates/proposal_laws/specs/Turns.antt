-- The lines of a talk, each with how it was answered.
use Rattle.std.specs.Prelude.{ℕ, Bool, List, [], ◌∷◌, Option, Some, None, Result, Ok}
use Rattle.command_types.specs.declared.ask.Entry.{Entry}
use Rattle.command_types.specs.declared.line.Line.{Line}
use Rattle.command_types.specs.declared.line.Line.TheVariants.{Propose}
use Rattle.command_types.specs.declared.answer.Reply.{Reply}
use Rattle.command_types.specs.declared.figures.Figures.{Figures}
use Rattle.command_types.specs.Roster.{Rows}
use Rattle.command_types.specs.History.{History}
use Rattle.command_types.specs.Grammar.{line_within}
use Rattle.command_types.specs.Session.{Speaker, Standing, Mark, mark_of, IsReplied, IsAnswered, IsTalk}

-- a line of a talk: how the session stood before it and after it, the text of its reply, and what was recorded of it
pub record Turn (clock : ℕ → Bool) (figures : Figures) (h : History) (seat : ℕ) : Type 0 where
  pub from : Standing
  pub line : List ℕ
  pub text : List ℕ
  pub made : List Entry
  pub to : Standing
  pub answered : IsAnswered clock figures h seat from line text made to

-- the lines of a talk, in their order
abbrev pub turns : (clock : ℕ → Bool) (figures : Figures) (h : History) (seat : ℕ) (from : Standing) (lines : List (List ℕ)) (text : List ℕ) (made : List Entry) (to : Standing) →
    IsTalk clock figures h seat from lines text made to → List (Turn clock figures h seat)
turns clock figures h seat from [] text made to talk = []
turns clock figures h seat from (line ∷ lines) text made to (next, head, more, first, others, answered, is_text, is_made, talk) =
    record { from = from; line = line; text = head; made = first; to = next; answered = answered } ∷ turns clock figures h seat next lines more others to talk

-- the reply to the BEGIN of a PROPOSE; another line has none
abbrev pub begun_by : (clock : ℕ → Bool) (figures : Figures) (h : History) (seat : ℕ) (from : Mark) (rows : Rows) (speaker : Speaker) (read : Result Line ℕ) (reply : Reply) (made : List Entry) (to : Mark) →
    IsReplied clock figures h seat from rows speaker read reply made to → Option Reply
begun_by clock figures h seat from rows speaker (Ok (Propose cycle mode)) reply made to proposed = Some proposed.begun
begun_by clock figures h seat from rows speaker read reply made to replied = None

abbrev pub begun_in : {clock : ℕ → Bool} {figures : Figures} {h : History} {seat : ℕ} → Turn clock figures h seat → Option Reply
begun_in {clock} {figures} {h} {seat} turn =
    begun_by clock figures h seat (mark_of turn.from) h.base.state.roster turn.from.speaker (line_within turn.line) turn.answered.reply turn.made (mark_of turn.to) turn.answered.replied
