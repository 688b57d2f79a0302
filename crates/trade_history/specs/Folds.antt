-- What stays of a history that begins again at its end, as statements.
use Rattle.std.specs.Prelude.{◌≡◌, ◌↔◌, ◌+◌, ◌≤◌, ℕ, Bool, List, ◌++◌, length, All, Result, Ok}
use Rattle.command_types.specs.declared.answer.Reply.{Reply}
use Rattle.command_types.specs.declared.ask.Ask.{Ask}
use Rattle.command_types.specs.declared.ask.Entry.{Entry}
use Rattle.command_types.specs.declared.ask.What.{What}
use Rattle.command_types.specs.declared.ask.What.TheVariants.{Next}
use Rattle.command_types.specs.declared.figures.Figures.{Figures}
use Rattle.command_types.specs.declared.line.Line.{Line}
use Rattle.command_types.specs.declared.line.Line.TheVariants.{Next as NextLine}
use Rattle.command_types.specs.Grammar.{line_within}
use Rattle.command_types.specs.History.{History, IsLegal, IsLegalFrom, end_of, longer, recorded, replayed}
use Rattle.command_types.specs.Folds.{IsAtRest, folded}
use Rattle.command_types.specs.Session.{IsSession, Standing}
use Rattle.command_types.specs.Told.{IsTold}
use Rattle.trade_history.specs.Book.{IsClosedBase, trades_of, executions_of}

-- further changes behind the fold of a history end at the same position and in the same state as behind the history, and are as legal
pub record GoesOn (h : History) (more : List Entry) : Type 0 where
  pub place : end_of (longer (folded h) more) ≡ end_of (longer h more)
  pub state : replayed (longer (folded h) more) ≡ replayed (longer h more)
  pub legal : IsLegal (longer (folded h) more) ↔ IsLegal (longer h more)

-- so it is with any further changes behind any legal history
abbrev pub FoldsGoOn : Type 0
FoldsGoOn = (h : History) → IsLegal h → (more : List Entry) → GoesOn h more

-- where no cycle is open, a fold begins as the laws of trades and executions ask, if the history did
abbrev pub FoldsAreClosed : Type 0
FoldsAreClosed = (h : History) → IsClosedBase h.base.state → IsLegal h → IsAtRest h → IsClosedBase (replayed h)

-- the trades after further changes are the same, told from the fold on or from the history's base
abbrev pub TradesStayInFolds : Type 0
TradesStayInFolds =
    (h : History) → IsClosedBase h.base.state → IsLegal h → IsAtRest h → (more : List Entry) → IsLegalFrom (replayed h) more →
    trades_of (longer (folded h) more) ≡ trades_of (longer h more)

-- and the executions are those up to the fold, and those told from the fold on, at the same positions
abbrev pub ExecutionsStayInFolds : Type 0
ExecutionsStayInFolds =
    (h : History) → IsClosedBase h.base.state → IsLegal h → IsAtRest h → (more : List Entry) → IsLegalFrom (replayed h) more →
    executions_of (longer h more) ≡ executions_of h ++ executions_of (longer (folded h) more)

-- the figures of a desk whose history begins at the fold of this one
abbrev pub figures_behind : History → Figures → Figures
figures_behind h figures = record figures { base = (folded h).base }

-- the command asks for no change in front of this position
abbrev pub AsksBehind : ℕ → What → Type 0
AsksBehind position (Next at) = position ≤ at
AsksBehind position what = Unit {0}

-- For a desk that was made at the fold or later, a reply is told behind the fold exactly where it is told behind the history, and its command came no earlier than the fold: at the same position, with the same answer. Behind the fold the changes in front of it are gone, so no command asks for one of these.
abbrev pub FoldsTellTheSame : Type 0
FoldsTellTheSame =
    (h : History) → IsClosedBase h.base.state → IsAtRest h → (more : List Entry) (figures : Figures) → figures.base ≡ h.base → end_of h ≤ figures.opening →
    (before after : Bool) (seat : ℕ) (ask : Ask) → AsksBehind (end_of h) ask.what → (reply : Reply) →
    IsTold (figures_behind h figures) before after (longer (folded h) more) seat ask reply
    ↔ ((end_of h + length (recorded seat ask reply.answer) ≤ reply.at) × IsTold figures before after (longer h more) seat ask reply)

-- what was read of a line asks for no change in front of this position
abbrev pub ReadsBehind : ℕ → Result Line ℕ → Type 0
ReadsBehind position (Ok (NextLine at)) = position ≤ at
ReadsBehind position read = Unit {0}

-- so a session that begins at the fold or later is the same, line by line, behind the fold and behind the history
abbrev pub SessionsStayInFolds : Type 0
SessionsStayInFolds =
    (h : History) → IsClosedBase h.base.state → IsAtRest h → (more : List Entry) (clock : ℕ → Bool) (figures : Figures) → figures.base ≡ h.base → end_of h ≤ figures.opening →
    (seat : ℕ) (from : Standing) (lines : List (List ℕ)) (text : List ℕ) → end_of h ≤ from.position → All (λ line. ReadsBehind (end_of h) (line_within line)) lines →
    IsSession clock (figures_behind h figures) (longer (folded h) more) seat from lines text ↔ IsSession clock figures (longer h more) seat from lines text
