-- The laws of cycles in histories, as statements.
use Rattle.std.specs.Prelude.{◌≡◌, ℕ, ◌≤◌, List, [], ◌∷◌, ◌++◌, length, IsTrue}
use Rattle.network_laws.specs.Solutions.{SolutionData, ProblemData}
use Rattle.command_types.specs.declared.ask.Entry.{Entry}
use Rattle.command_types.specs.declared.ask.What.TheVariants.{Post}
use Rattle.command_types.specs.declared.figures.State.{State}
use Rattle.command_types.specs.Roster.{Rows}
use Rattle.command_types.specs.Plans.{executed, thawed}
use Rattle.command_types.specs.Cycles.{posted_plan}
use Rattle.command_types.specs.Machine.{empty_state, answer_to}
use Rattle.command_types.specs.History.{History, replayed, replayed_from}
use Rattle.command_types.specs.Folds.{IsAtRest}
use Rattle.acceptance.specs.FreePlans.{IsFreePlan}
use Rattle.posting.specs.Laws.{AreLeast, KeepsNets}
use Rattle.trade_history.specs.Laws.{is_execution}
use Rattle.cycle_laws.specs.Histories.{IsMarketBase, IsMarketHistory, HasBegun, HasPosted}
use Rattle.units_core.specs.declared.limits.TheConstants.{MOST_MEMBERS, MOST_PRODUCTS}

-- a history of a roster's market may begin in the state before the first command,
abbrev pub EmptyBeginsMarkets : Type 0
EmptyBeginsMarkets =
    (roster : Rows) → length roster.members ≤ MOST_MEMBERS → length roster.products ≤ MOST_PRODUCTS → IsMarketBase roster (empty_state roster)

-- and begin again where no cycle is open at its end: so each law below speaks of what comes behind a fold, too
abbrev pub FoldsBeginMarkets : Type 0
FoldsBeginMarkets = (roster : Rows) (h : History) → IsMarketHistory roster h → IsAtRest h → IsMarketBase roster (replayed h)

-- wherever the answer tells an execution, every net stays and no gross grows, trades that came after the freeze included
abbrev pub NetsStayAtExecutions : Type 0
NetsStayAtExecutions =
    (roster : Rows) (h : History) → IsMarketHistory roster h →
    (before : List Entry) (entry : Entry) (after : List Entry) → h.entries ≡ before ++ entry ∷ after →
    IsTrue (is_execution (answer_to (replayed_from h.base.state before) entry.ask)) →
    KeepsNets roster (replayed_from h.base.state before) (replayed_from h.base.state (before ++ entry ∷ []))

-- after these changes the version has begun with one problem for each product; there is one solution for each problem, and its network has the least gross that the problem allows
pub record IsLeastPosting (roster : Rows) (base : State) (before : List Entry) (cycle version : ℕ) (solutions : List SolutionData) : Type 0 where
  pub problems : List ProblemData
  pub begun : HasBegun base before cycle version problems
  pub one_each : length problems ≡ length roster.products
  pub as_many : length solutions ≡ length problems
  pub least : AreLeast problems solutions

-- each accepted posting is the least for the problems with which its version began
abbrev pub PostingsAreLeast : Type 0
PostingsAreLeast =
    (roster : Rows) (h : History) → IsMarketHistory roster h →
    (before : List Entry) (entry : Entry) (after : List Entry) → h.entries ≡ before ++ entry ∷ after →
    (cycle version : ℕ) (solutions : List SolutionData) → entry.ask.what ≡ Post cycle version solutions →
    IsLeastPosting roster h.base.state before cycle version solutions

-- this change executes the plan of solutions that were posted in the version that stands, on the frozen trades; the plan ends and cuts only live trades that are frozen and that nobody holds, each once
pub record ExecutesPosting (roster : Rows) (base : State) (before : List Entry) (entry : Entry) : Type 0 where
  pub solutions : List SolutionData
  pub posted : HasPosted (before ++ entry ∷ []) (replayed_from base before).cycle.number (replayed_from base before).cycle.version solutions
  pub trades : (replayed_from base (before ++ entry ∷ [])).trades
      ≡ thawed (executed (posted_plan (replayed_from base before).cycle (replayed_from base before).trades solutions) (replayed_from base before).trades)
  pub free : IsFreePlan (length roster.members) (length roster.products) (replayed_from base before).trades
      (posted_plan (replayed_from base before).cycle (replayed_from base before).trades solutions)

-- wherever the answer tells an execution, it is that of a posting's plan
abbrev pub ExecutionsFollowThePosting : Type 0
ExecutionsFollowThePosting =
    (roster : Rows) (h : History) → IsMarketHistory roster h →
    (before : List Entry) (entry : Entry) (after : List Entry) → h.entries ≡ before ++ entry ∷ after →
    IsTrue (is_execution (answer_to (replayed_from h.base.state before) entry.ask)) →
    ExecutesPosting roster h.base.state before entry
