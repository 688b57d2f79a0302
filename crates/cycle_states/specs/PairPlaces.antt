-- Where the rows of a pair stand in what a product of a proposal is told from.
use Rattle.std.specs.Prelude.{ℕ, ◌+◌, ◌*◌, ◌<◌, ◌≤◌, List, length, slice_index_or}
use Rattle.network_laws.specs.declared.rows.LimitRow.{LimitRow}
use Rattle.network_laws.specs.declared.rows.Row.{Row}
use Rattle.network_laws.specs.Limits.{IsLimitCursor, limit_place}
use Rattle.network_laws.specs.Networks.{IsCursor, place}
use Rattle.cycle_states.specs.declared.machine.pair_places.PairPlaces.{PairPlaces}
use Rattle.cycle_states.specs.declared.machine.part.Part.{Part}

-- where a pair stands in the order by seller and buyer
abbrev pub pair_place : ℕ → ℕ → ℕ
pair_place seller buyer = seller * 65536 + buyer

-- the first m rows stand before a place
pub record IsPastRows (rows : List Row) (m w : ℕ) : Type 0 where
  pub end : m ≤ length rows
  pub before : (k : ℕ) (d : Row) → k < m → place (slice_index_or rows k d) < w

-- the same of limits
pub record IsPastLimits (rows : List LimitRow) (m w : ℕ) : Type 0 where
  pub end : m ≤ length rows
  pub before : (k : ℕ) (d : LimitRow) → k < m → limit_place (slice_index_or rows k d) < w

-- all rows that are passed stand before a place
pub record ArePast (part : Part) (at : PairPlaces) (w : ℕ) : Type 0 where
  pub limit : IsPastLimits part.problem.now.limits.rows at.limit w
  pub now : IsPastRows part.problem.now.network.rows at.now w
  pub next : IsPastRows part.solution.now.network.rows at.next w

-- and they are those before the pair
pub record IsAtPair (part : Part) (at : PairPlaces) : Type 0 where
  pub past : ArePast part at (pair_place at.seller at.buyer)
  pub limit : IsLimitCursor part.problem.now.limits.rows at.limit (pair_place at.seller at.buyer)
  pub now : IsCursor part.problem.now.network.rows at.now (pair_place at.seller at.buyer)
  pub next : IsCursor part.solution.now.network.rows at.next (pair_place at.seller at.buyer)
