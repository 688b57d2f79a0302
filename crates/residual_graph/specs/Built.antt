-- What building a residual graph needs of a limit row, and gives of a pair.
use Rattle.std.specs.Prelude.{◌≡◌, ◌≢◌, ℕ, ◌+◌, ◌^◌, ◌<◌, ◌≤◌, List, length, slice_index_or}
use Rattle.network_laws.specs.declared.rows.LimitRow.{LimitRow}
use Rattle.network_laws.specs.declared.rows.Row.{Row}
use Rattle.network_laws.specs.Networks.{NetworkData, at, place}
use Rattle.network_laws.specs.Limits.{limit_place}
use Rattle.residual_graph.specs.declared.flow.Flow.{Flow}
use Rattle.residual_graph.specs.Residual.{capped, flow_rows}

-- the network's amount of the row's pair is within the row's bounds, with the cap where there is no upper one
abbrev pub IsBetween : ℕ → NetworkData → LimitRow → Type 0
IsBetween cap y limit =
    (limit.lower ≤ at y limit.seller limit.buyer) × (at y limit.seller limit.buyer ≤ capped cap limit.upper)

-- no row's pair is without limits
abbrev pub HaveLimits : List Row → List LimitRow → Type 0
HaveLimits rows limits =
    (m : ℕ) (d : Row) → m < length rows → ((k : ℕ) (e : LimitRow) → k < length limits → limit_place (slice_index_or limits k e) ≢ place (slice_index_or rows m d)) → ⊥

-- a pair before its limit row is known
abbrev pub blank_flow : ℕ → Flow
blank_flow cap = record { seller = 0; buyer = 0; lower = 0; back = 0; room = cap }

-- the pair's numbers together fit 64 bits
abbrev pub IsSmall : Flow → Type 0
IsSmall f = f.lower + f.back + f.room < 2 ^ 64

-- a pair of the graph is that of the limit row
pub record IsFlowOf (cap : ℕ) (limit : LimitRow) (f : Flow) : Type 0 where
  pub seller : f.seller ≡ limit.seller
  pub buyer : f.buyer ≡ limit.buyer
  pub lower : f.lower ≡ limit.lower
  pub most : f.lower + f.back + f.room ≡ capped cap limit.upper

-- the pairs are those of the limit rows, whatever their amounts within the bounds
pub record AreFlowsOf (cap : ℕ) (limits : List LimitRow) (flows : List Flow) : Type 0 where
  pub same_length : length flows ≡ length limits
  pub each : (k : ℕ) (l : LimitRow) (f : Flow) → k < length limits → IsFlowOf cap (slice_index_or limits k l) (slice_index_or flows k f)

-- the network of the pairs' rows, of which some may have the amount 0
abbrev pub flow_network : ℕ → List Flow → NetworkData
flow_network members flows = record { members = members; rows = flow_rows flows }
