-- What contracts see of the machine, and what it keeps.
use Rattle.std.specs.Prelude.{◌≡◌, ℕ, ◌<◌, ◌≤◌, ◌^◌, is_some, List, Option, Some, None, length, All, IsTrue}
use Rattle.command_types.specs.declared.cycle.Mode.{Mode}
use Rattle.command_types.specs.declared.cycle.Phase.{Phase}
use Rattle.command_types.specs.declared.figures.Cycle.{Cycle}
use Rattle.command_types.specs.declared.figures.State.{State}
use Rattle.command_types.specs.declared.tolerance.ToleranceRow.{ToleranceRow}
use Rattle.command_types.specs.declared.trade.TradeRow.{TradeRow}
use Rattle.command_types.specs.Roster.{Rows}
use Rattle.network_laws.specs.Solutions.{IsSolution, ProblemData}
use Rattle.command_types.specs.Cycles.{may_break, has_limits, is_proposed, bad_post, posted_plan, problems_of}
use Rattle.command_types.specs.Trades.{is_live}
use Rattle.command_types.specs.Machine.{empty_state}
use Rattle.product_book.specs.Book.{BookView}
use Rattle.tolerance_sets.specs.Settings.{TolerancesView}
use Rattle.units_core.specs.declared.limits.TheConstants.{MOST_MEMBERS, MOST_PRODUCTS}
use Rattle.cycle_states.specs.declared.machine.ballot.Ballot.{Ballot}
use Rattle.cycle_states.specs.Ballot.{IsBallot, planned_rows}
use Rattle.cycle_states.specs.Frozen.{FrozenView, AreOfFreeze}

-- the machine's state, and for how many more trades and settings there is room without memory
pub record MachineView : Type 0 where
  pub state : State
  pub spare : ℕ
  pub slots : ℕ

-- the state with this roster and these trades, in which no cycle was opened
abbrev pub state_of : Rows → List TradeRow → State
state_of roster rows = record (empty_state roster) { trades = rows }

-- and with this cycle
abbrev pub state_in : Rows → List TradeRow → Cycle → State
state_in roster rows cycle = record (state_of roster rows) { cycle = cycle }

-- and with these settings
abbrev pub state_with : Rows → List TradeRow → List ToleranceRow → Cycle → State
state_with roster rows settings cycle = record (state_in roster rows cycle) { tolerances = settings }

-- a book of the roster's members and products
pub record IsBookOf (roster : Rows) (members products : ℕ) : Type 0 where
  pub members_all : members ≡ length roster.members
  pub products_all : products ≡ length roster.products

-- each frozen trade is live
abbrev pub FrozenAreLive : List TradeRow → Type 0
FrozenAreLive rows = All (λ row. IsTrue row.frozen → IsTrue (is_live row.state)) rows

-- as long as the cycle may break, no frozen trade has ended
abbrev pub IsUnbroken : Phase → List TradeRow → Type 0
IsUnbroken phase rows = IsTrue (may_break phase) → FrozenAreLive rows

-- the solutions are certified, and the plan is what they change in these trades
pub record IsProposal (members : ℕ) (rows : List TradeRow) (cycle : Cycle) : Type 0 where
  pub solutions : All IsSolution cycle.solutions
  pub certified : bad_post members cycle.begun cycle.solutions ≡ None
  pub planned : cycle.plan ≡ posted_plan cycle rows cycle.solutions

-- a version has a mode, and its problems are those that its settings make of these trades in it
pub record IsVersion (roster : Rows) (rows : List TradeRow) (mode : Option Mode) (settings : List ToleranceRow) (begun : List ProblemData) : Type 0 where
  pub in_which : Mode
  pub in_mode : mode ≡ Some in_which
  pub same : begun ≡ problems_of roster rows settings in_which

-- what the cycle keeps: its day while it may break, its problems while the limits stand, and a proposal in its phase
pub record IsCycle (roster : Rows) (rows : List TradeRow) (cycle : Cycle) : Type 0 where
  pub day : IsTrue (may_break cycle.phase) → IsTrue (is_some cycle.day)
  pub begun : IsTrue (has_limits cycle.phase) → IsVersion roster rows cycle.mode cycle.settings cycle.begun
  pub proposed : IsTrue (is_proposed cycle.phase) → IsProposal (length roster.members) rows cycle

-- while a version stands, the settings that were last taken are its own
abbrev pub AreTaken : Cycle → List ToleranceRow → Type 0
AreTaken cycle taken = IsTrue (is_some cycle.mode) → taken ≡ cycle.settings

-- what the machine keeps
pub record IsMachine (roster : Rows) (members products : ℕ) (rows : List TradeRow) (cycle : Cycle) : Type 0 where
  pub few_members : length roster.members ≤ MOST_MEMBERS
  pub few_products : length roster.products ≤ MOST_PRODUCTS
  pub book : IsBookOf roster members products
  pub unbroken : IsUnbroken cycle.phase rows
  pub cycle_kept : IsCycle roster rows cycle

-- and with it its ballot, the settings last taken, what is kept of the freeze, and room for the trades of the proposed plan
abbrev pub IsWhole : Rows → BookView → TolerancesView → Cycle → Ballot → FrozenView → Type 0
IsWhole roster book tolerances cycle ballot frozen =
    IsMachine roster book.members book.products book.rows cycle × IsBallot (length roster.members) book.rows cycle ballot
    × AreTaken cycle tolerances.taken × AreOfFreeze book.members book.rows cycle.phase frozen × (planned_rows cycle ≤ book.spare)

-- both numbers may rise by one more
pub record IsYoung (cycle : Cycle) : Type 0 where
  pub number : cycle.number < 2 ^ 63
  pub version : cycle.version < 2 ^ 63
