-- What a state keeps so that it can be written as a base and read again.
use Rattle.std.specs.Prelude.{◌≡◌, ℕ, ◌≤◌, List, length, All, IsTrue}
use Rattle.units_core.specs.Number.{is_amount}
use Rattle.units_core.specs.declared.limits.TheConstants.{MOST_MEMBERS, MOST_NUMBER, MOST_PRODUCTS, MOST_SUBMITTED}
use Rattle.command_types.specs.declared.base.Base.{Base}
use Rattle.command_types.specs.declared.figures.Start.{Start}
use Rattle.command_types.specs.declared.figures.Cycle.{Cycle}
use Rattle.command_types.specs.declared.figures.State.{State}
use Rattle.command_types.specs.Roster.{Rows}
use Rattle.command_types.specs.Trades.{submitted_count}
use Rattle.command_types.specs.Cycles.{closed}
use Rattle.command_types.specs.Machine.{empty_state}
use Rattle.command_types.specs.Bases.{AreRising, CanBeWritten, IsFresh, IsSettingIn, Fits, SpellsBase, base_in, written}
use Rattle.command_types.specs.History.{History, IsLegal, replayed}
use Rattle.command_types.specs.Folds.{IsAtRest}
use Rattle.cycle_states.specs.Replayed.{IsSmall}
use Rattle.cycle_laws.specs.Histories.{IsMarketBase}

-- of the last cycle only its number and its version are left
abbrev pub IsClear : Cycle → Type 0
IsClear cycle = cycle ≡ closed cycle.number cycle.version

-- a state in which a history of a roster's market may begin, and which can be written: of the last cycle nothing else is left, alleged trades wait as they were submitted, and settings stand in their order, each of a pair
pub record IsWritable (roster : Rows) (s : State) : Type 0 where
  pub market : IsMarketBase roster s
  pub clear : IsClear s.cycle
  pub fresh : All (λ row. IsFresh row.state row) s.trades
  pub few : submitted_count s.trades ≤ MOST_SUBMITTED
  pub settings : All (IsSettingIn (length roster.members) (length roster.products)) s.tolerances
  pub rising : AreRising 0 s.tolerances

-- the state before the first command is one,
abbrev pub EmptyIsWritable : Type 0
EmptyIsWritable = (roster : Rows) → length roster.members ≤ MOST_MEMBERS → length roster.products ≤ MOST_PRODUCTS → IsWritable roster (empty_state roster)

-- and so is that at the end of a legal history from such a state on, where no cycle is open
abbrev pub FoldsAreWritable : Type 0
FoldsAreWritable = (roster : Rows) (h : History) → IsWritable roster h.base.state → IsLegal h → IsAtRest h → IsWritable roster (replayed h)

-- what is written of it fits the roster, where its numbers are small and each amount is one,
abbrev pub WritableFits : Type 0
WritableFits =
    (roster : Rows) (base : Start) → IsWritable roster base.state → base.position ≤ MOST_NUMBER → base.state.cycle.number ≤ MOST_NUMBER → base.state.cycle.version ≤ MOST_NUMBER →
    All (λ row. IsTrue (is_amount row.amount)) base.state.trades → Fits roster (written base)

-- and is read as the same base
abbrev pub WritableComesBack : Type 0
WritableComesBack = (roster : Rows) (base : Start) → IsWritable roster base.state → base_in roster (written base) ≡ base

-- the state of a base that can be written and fits the roster is one, too: so is that in which a history begins that was read
abbrev pub FittingIsWritable : Type 0
FittingIsWritable =
    (roster : Rows) (b : Base) → length roster.members ≤ MOST_MEMBERS → length roster.products ≤ MOST_PRODUCTS → CanBeWritten b → Fits roster b →
    IsWritable roster (base_in roster b).state

-- what is written of such a state can be written,
abbrev pub WritableCanBeWritten : Type 0
WritableCanBeWritten = (roster : Rows) (base : Start) → IsWritable roster base.state → CanBeWritten (written base)

-- and its spelling stands for it, where its numbers are small: it fits the roster, and is read as the same base
abbrev pub SpellingsStandForBases : Type 0
SpellingsStandForBases =
    (roster : Rows) (base : Start) (bytes : List ℕ) → IsWritable roster base.state → IsSmall base → SpellsBase bytes (written base) →
    Fits roster (written base) × (base ≡ base_in roster (written base))
