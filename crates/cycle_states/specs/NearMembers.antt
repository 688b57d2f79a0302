-- With which members the pairs of a member may come to more than 0.
use Rattle.std.specs.Prelude.{◌≡◌, ℕ, ◌<◌, not, Bool, false, List, length, slice_index_or}
use Rattle.network_laws.specs.declared.rows.LimitRow.{LimitRow}
use Rattle.network_laws.specs.Limits.{upper_in}
use Rattle.command_types.specs.Tolerances.{is_zero_bound}
use Rattle.units_core.specs.declared.limits.TheConstants.{MOST_MEMBERS}

-- the marks tell of each member's pairs with this one whether they may come to more than 0 by these rows
pub record AreMarks (rows : List LimitRow) (member : ℕ) (sold bought : List Bool) : Type 0 where
  pub sold_full : length sold ≡ 256
  pub bought_full : length bought ≡ 256
  pub sold_each : (other : ℕ) → other < MOST_MEMBERS → slice_index_or sold other false ≡ not (is_zero_bound (upper_in rows member other))
  pub bought_each : (other : ℕ) → other < MOST_MEMBERS → slice_index_or bought other false ≡ not (is_zero_bound (upper_in rows other member))
