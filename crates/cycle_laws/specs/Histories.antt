-- Histories of a roster's market, and the commands in them that began and posted a version.
use Rattle.std.specs.Prelude.{◌≡◌, ℕ, List, ◌∷◌, ◌++◌, length}
use Rattle.network_laws.specs.Solutions.{SolutionData, ProblemData}
use Rattle.command_types.specs.declared.ask.Entry.{Entry}
use Rattle.command_types.specs.declared.ask.What.TheVariants.{Begin, Post}
use Rattle.command_types.specs.declared.answer.Answer.TheVariants.{Begun}
use Rattle.command_types.specs.declared.cycle.Mode.{Mode}
use Rattle.command_types.specs.declared.figures.State.{State}
use Rattle.command_types.specs.Roster.{Rows}
use Rattle.command_types.specs.Cycles.{problems_of}
use Rattle.command_types.specs.Machine.{answer_to}
use Rattle.command_types.specs.History.{History, IsLegal, replayed_from}
use Rattle.command_types.specs.Trades.{submitted_count}
use Rattle.product_book.specs.Book.{IsBook}
use Rattle.trade_history.specs.Book.{IsClosedBase}

-- a state in which a history of a roster's market may begin: no cycle is open, and the trades are those of a book of its members and products
pub record IsMarketBase (roster : Rows) (s : State) : Type 0 where
  pub same : s.roster ≡ roster
  pub closed : IsClosedBase s
  pub book : IsBook (length roster.members) (length roster.products) (submitted_count s.trades) s.trades

-- a legal history of a roster's market, from such a state on
pub record IsMarketHistory (roster : Rows) (h : History) : Type 0 where
  pub base : IsMarketBase roster h.base.state
  pub legal : IsLegal h

-- one of these changes is the BEGIN that began this version of this cycle, and it took these problems: those that the frozen trades and the tolerances just before it gave in its mode
pub record HasBegun (base : State) (entries : List Entry) (cycle version : ℕ) (problems : List ProblemData) : Type 0 where
  pub before : List Entry
  pub begin : Entry
  pub after : List Entry
  pub split : entries ≡ before ++ begin ∷ after
  pub mode : Mode
  pub command : begin.ask.what ≡ Begin cycle mode
  pub answer : answer_to (replayed_from base before) begin.ask ≡ Begun cycle version
  pub taken : problems ≡ problems_of (replayed_from base before).roster (replayed_from base before).trades (replayed_from base before).tolerances mode

-- one of these changes posted these solutions in this version of this cycle
pub record HasPosted (entries : List Entry) (cycle version : ℕ) (solutions : List SolutionData) : Type 0 where
  pub before : List Entry
  pub post : Entry
  pub after : List Entry
  pub split : entries ≡ before ++ post ∷ after
  pub command : post.ask.what ≡ Post cycle version solutions
