-- The residual graph of a network within its limits: what each pair's amount can still grow, and what of it
-- can be taken back (Ahuja, Magnanti and Orlin, Network Flows).
use Rattle.std.specs.Prelude.{◌≡◌, ◌≢◌, ℕ, ◌+◌, ◌-◌, ◌*◌, ◌<◌, ◌≤◌, ◌^◌, nat_lt, Bool, List, map, filter, Option, Some, None, All, AllPairs}
use Rattle.network_laws.specs.declared.rows.Row.{Row}
use Rattle.network_laws.specs.declared.rows.LimitRow.{LimitRow}
use Rattle.network_laws.specs.Networks.{NetworkData, at}
use Rattle.network_laws.specs.Limits.{LimitsData, upper}
use Rattle.residual_graph.specs.declared.flow.Flow.{Flow}
use Rattle.units_core.specs.declared.limits.TheConstants.{MOST_MEMBERS}

-- a number of members, and their pairs
pub record ResidualData : Type 0 where
  pub members : ℕ
  pub flows : List Flow

-- the most that a pair may have, with a cap where it has no upper bound
abbrev pub capped : ℕ → Option ℕ → ℕ
capped cap None = cap
capped cap (Some most) = most

-- the pair of a limit row, with an amount
abbrev pub flow_with : ℕ → LimitRow → ℕ → Flow
flow_with cap limit amount =
    record { seller = limit.seller; buyer = limit.buyer; lower = limit.lower; back = amount - limit.lower; room = capped cap limit.upper - amount }

-- the pair of a limit row, with the network's amount
abbrev pub flow_of : ℕ → NetworkData → LimitRow → Flow
flow_of cap y limit = flow_with cap limit (at y limit.seller limit.buyer)

-- the residual graph: a pair for each row of the limits
abbrev pub residual_of : ℕ → LimitsData → NetworkData → ResidualData
residual_of cap limits y = record { members = y.members; flows = map (flow_of cap y) limits.rows }

-- the amounts of the pairs without an upper bound are at most the cap
abbrev pub IsCapped : ℕ → LimitsData → NetworkData → Type 0
IsCapped cap limits y =
    (i j : ℕ) → i < y.members → j < y.members → upper limits i j ≡ None → at y i j ≤ cap

-- the row of a pair, whose amount may be 0
abbrev pub flow_row : Flow → Row
flow_row f = record { seller = f.seller; buyer = f.buyer; amount = f.lower + f.back }

-- the rows of all pairs
abbrev pub flow_rows : List Flow → List Row
flow_rows flows = map flow_row flows

-- whether a row has an amount
abbrev pub has_amount : Row → Bool
has_amount row = nat_lt 0 row.amount

-- the network that the pairs are: their rows with an amount
abbrev pub network_of : ResidualData → NetworkData
network_of r = record { members = r.members; rows = filter has_amount (flow_rows r.flows) }

-- where a pair stands in the order by seller and buyer
abbrev pub flow_place : Flow → ℕ
flow_place f = f.seller * 65536 + f.buyer

-- what each pair keeps by itself; its numbers together fit 64 bits
pub record IsFlow (members : ℕ) (f : Flow) : Type 0 where
  pub seller : f.seller < members
  pub buyer : f.buyer < members
  pub different : f.seller ≢ f.buyer
  pub small : f.lower + f.back + f.room < 2 ^ 64

-- each pair stands after those before it
abbrev pub AreRising : List Flow → Type 0
AreRising flows = AllPairs (λ a b. flow_place a < flow_place b) flows

-- what a residual graph keeps
pub record IsResidual (r : ResidualData) : Type 0 where
  pub few : r.members ≤ MOST_MEMBERS
  pub good : All (IsFlow r.members) r.flows
  pub rising : AreRising r.flows
