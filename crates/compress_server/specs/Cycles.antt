-- The laws of cycles in the history of a script.
use Rattle.std.specs.Prelude.{◌≡◌, ℕ, List, [], ◌∷◌, ◌++◌, IsTrue}
use Rattle.network_laws.specs.Solutions.{SolutionData}
use Rattle.command_types.specs.declared.ask.Entry.{Entry}
use Rattle.command_types.specs.declared.ask.What.TheVariants.{Post}
use Rattle.command_types.specs.declared.figures.State.{State}
use Rattle.command_types.specs.Roster.{Rows}
use Rattle.command_types.specs.Plans.{thawed}
use Rattle.command_types.specs.Machine.{answer_to}
use Rattle.command_types.specs.History.{History, cut_after, replayed, replayed_from}
use Rattle.posting.specs.Laws.{KeepsNets}
use Rattle.trade_history.specs.Book.{trades_of, book_from}
use Rattle.trade_history.specs.Search.{execution_at}
use Rattle.trade_history.specs.Laws.{is_execution, TellsExecution}
use Rattle.cycle_laws.specs.Laws.{IsLeastPosting, ExecutesPosting}

-- of one change behind others: what it is answered tells what executes by the history alone, and that nothing does; where a plan executes, it is that of the posting, every member's net stays and no gross grows; and where it is a posting, its networks are the least
pub record FollowsLaws (rows : Rows) (base : State) (before : List Entry) (entry : Entry) : Type 0 where
  pub tells : TellsExecution entry.ask.what (execution_at base.roster base.cycle.number (book_from base (before ++ entry ∷ [])).moments) (answer_to (replayed_from base before) entry.ask)
  pub executes : IsTrue (is_execution (answer_to (replayed_from base before) entry.ask)) → ExecutesPosting rows base before entry
  pub nets : IsTrue (is_execution (answer_to (replayed_from base before) entry.ask)) → KeepsNets rows (replayed_from base before) (replayed_from base (before ++ entry ∷ []))
  pub least : (cycle version : ℕ) (solutions : List SolutionData) → entry.ask.what ≡ Post cycle version solutions → IsLeastPosting rows base before cycle version solutions

-- the trades at each position are those of the history alone, and each change follows the laws
pub record KeepsLaws (rows : Rows) (h : History) : Type 0 where
  pub trades : (position : ℕ) → thawed (replayed (cut_after h position)).trades ≡ trades_of (cut_after h position)
  pub changes : (before : List Entry) (entry : Entry) (after : List Entry) → h.entries ≡ before ++ entry ∷ after → FollowsLaws rows h.base.state before entry
