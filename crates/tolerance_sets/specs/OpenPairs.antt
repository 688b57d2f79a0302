-- Pairs without trades in a market where each pair of different members may come to any amount.
use Rattle.std.specs.Prelude.{◌≡◌, ℕ, zero, suc, ◌+◌, ◌<◌, ◌==◌, ◌++◌, List, [], ◌∷◌, length, slice_index_or, None, if◌then◌else◌}
use Rattle.network_laws.specs.declared.rows.LimitRow.{LimitRow}
use Rattle.command_types.specs.declared.cycle.Mode.TheVariants.{Free}
use Rattle.command_types.specs.Tolerances.{pair_ceiling}
use Rattle.tolerance_sets.specs.declared.limits.Market.{Market}
use Rattle.tolerance_sets.specs.declared.open_rows.OpenRows.{OpenRows}

-- every pair is open, and none has a ceiling
pub record IsUnbounded (market : Market) : Type 0 where
  pub mode : market.mode ≡ Free
  pub ceilings : (seller buyer : ℕ) → pair_ceiling market.settings.now.settings market.product seller buyer ≡ None

-- no member set anything, and nothing is held
pub record IsUntouched (market : Market) : Type 0 where
  pub settings : market.settings.now.settings ≡ []
  pub held : market.held.now ≡ []

-- the row of a pair that may come to any amount from 0 on
abbrev pub boundless : ℕ → ℕ → LimitRow
boundless seller buyer = record { seller = seller; buyer = buyer; lower = 0; upper = None }

-- the row of a pair without trades; nobody sells to himself
abbrev pub open_row : ℕ → ℕ → List LimitRow
open_row seller buyer = if seller == buyer then [] else boundless seller buyer ∷ []

-- a row for each buyer, by his place
abbrev pub AreOpenRows : OpenRows → Type 0
AreOpenRows template =
    (buyer : ℕ) (d : LimitRow) → buyer < length template.rows.items → slice_index_or template.rows.items buyer d ≡ boundless template.seller buyer

-- what f gives for so many numbers from one on, in their order
abbrev pub listed_from : {T : Type 0} → ℕ → ℕ → (ℕ → List T) → List T
listed_from from zero f = []
listed_from from (suc n) f = listed_from from n f ++ f (from + n)
