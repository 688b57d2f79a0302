-- What the machine's state keeps of a history, phase by phase.
use Rattle.std.proofs.Common.{◌≡◌, ℕ, ◌≤◌, Bool, true, false, cond, not, ◌&&◌, ◌==◌, List, [], ◌∷◌, length, Some}
use Rattle.std.specs.List.{list_any}
use Rattle.command_types.specs.declared.ask.What.{What}
use Rattle.command_types.specs.declared.ask.What.TheVariants.{Begin}
use Rattle.command_types.specs.declared.cycle.Phase.{Phase}
use Rattle.command_types.specs.declared.cycle.Phase.TheVariants.{None as NoPhase, Frozen, Solving, Proposed, Broken}
use Rattle.command_types.specs.declared.figures.Cycle.{Cycle}
use Rattle.command_types.specs.declared.trade.TradeRow.{TradeRow}
use Rattle.command_types.specs.Roster.{Rows}
use Rattle.command_types.specs.Plans.{touched_by, thawed}
use Rattle.command_types.specs.Cycles.{old_networks}
use Rattle.command_types.specs.CycleRefusals.{has_voted}
use Rattle.trade_history.specs.Moments.{Moment, cycle_at, is_post, drops}
use Rattle.trade_history.specs.Executes.{Opening, takes, marked, networks_from, plan_at, touched_at, has_accepted, have_accepted, are_live}
use Rattle.trade_history.specs.Search.{Cut, opening_of, cut_at_post}
use Rattle.trade_history.specs.Book.{Book, AreNumbered}
use Rattle.trade_history.proofs.Touches.{AreWithin}

abbrev pub is_begin : ℕ → What → Bool
is_begin cycle (Begin c mode) = c == cycle
is_begin cycle what = false

-- no POST of this cycle and version since the last BEGIN of the cycle
abbrev pub is_fresh : ℕ → ℕ → List Moment → Bool
is_fresh cycle version [] = true
is_fresh cycle version (moment ∷ moments) =
    cond (is_begin cycle moment.ask.what) true (not (is_post cycle version moment.ask.what) && is_fresh cycle version moments)

-- the open cycle is the one that this opening began: its frozen trades are those that were taken then
pub record HasOpening (roster : Rows) (number : ℕ) (trades : List TradeRow) (cycle : Cycle) (book : Book) (opening : Opening) : Type 0 where
  pub found : opening_of number cycle.number book.moments ≡ Some opening
  pub day : cycle.day ≡ Some opening.day
  pub same : trades ≡ marked (takes roster.products opening) book.rows
  pub grown : length opening.rows ≤ length book.rows

pub record IsFrozen (roster : Rows) (number : ℕ) (trades : List TradeRow) (cycle : Cycle) (book : Book) : Type 0 where
  pub opening : Opening
  pub has : HasOpening roster number trades cycle book opening
  pub live : are_live (takes roster.products opening) book.rows ≡ true

-- the version began with the frozen networks, and nothing was posted in it yet
pub record IsSolving (roster : Rows) (number : ℕ) (trades : List TradeRow) (cycle : Cycle) (book : Book) : Type 0 where
  pub opening : Opening
  pub has : HasOpening roster number trades cycle book opening
  pub live : are_live (takes roster.products opening) book.rows ≡ true
  pub networks : old_networks cycle.begun ≡ networks_from (length roster.members) trades 0 roster.products
  pub fresh : is_fresh cycle.number cycle.version book.moments ≡ true

-- the plan is that of the latest posting, nothing dropped it, the votes are the ACCEPTs since, and one is missing
pub record IsProposed (roster : Rows) (number : ℕ) (trades : List TradeRow) (cycle : Cycle) (book : Book) : Type 0 where
  pub opening : Opening
  pub has : HasOpening roster number trades cycle book opening
  pub live : are_live (takes roster.products opening) book.rows ≡ true
  pub cut : Cut
  pub cuts : cut_at_post cycle.number cycle.version book.moments ≡ Some cut
  pub opens : opening_of number cycle.number cut.before ≡ Some opening
  pub calm : list_any (drops cycle.number) cut.later ≡ false
  pub plan : cycle.plan ≡ plan_at roster opening cut.posted
  pub touched : touched_by (length roster.members) trades cycle.plan ≡ touched_at roster opening cut.posted
  pub within : AreWithin (length book.rows) cycle.plan
  pub votes : (member : ℕ) → has_voted cycle.votes member ≡ has_accepted roster cycle.number cycle.version cut.later member
  pub waits : have_accepted roster cycle.number cycle.version cut.later (touched_at roster opening cut.posted) ≡ false
  pub fresh : is_fresh cycle.number cycle.version cut.before ≡ true

pub record IsBroken (roster : Rows) (number : ℕ) (trades : List TradeRow) (cycle : Cycle) (book : Book) : Type 0 where
  pub opening : Opening
  pub has : HasOpening roster number trades cycle book opening

abbrev pub InPhase : Phase → Rows → ℕ → List TradeRow → Cycle → Book → Type 0
InPhase NoPhase roster number trades cycle book = trades ≡ book.rows
InPhase Frozen roster number trades cycle book = IsFrozen roster number trades cycle book
InPhase Solving roster number trades cycle book = IsSolving roster number trades cycle book
InPhase Proposed roster number trades cycle book = IsProposed roster number trades cycle book
InPhase Broken roster number trades cycle book = IsBroken roster number trades cycle book

-- the trades and the cycle of a state are those of the history: its book has the trades without their being frozen, and cycles count on from a first number
pub record Keeps (roster : Rows) (number : ℕ) (trades : List TradeRow) (cycle : Cycle) (book : Book) : Type 0 where
  pub numbered : AreNumbered 0 book.rows
  pub free : thawed book.rows ≡ book.rows
  pub count : cycle.number ≡ cycle_at number book.moments
  pub phase : InPhase cycle.phase roster number trades cycle book
