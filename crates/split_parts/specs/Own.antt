-- A part's limits and network, in the part's own numbers: a member's own number is its place in the part.
use Rattle.std.specs.Prelude.{ℕ, ◌==◌, List, length, Option, Some, None, filter_map, position}
use Rattle.network_laws.specs.declared.rows.Row.{Row}
use Rattle.network_laws.specs.declared.rows.LimitRow.{LimitRow}
use Rattle.network_laws.specs.Networks.{NetworkData}
use Rattle.network_laws.specs.Limits.{LimitsData}
use Rattle.network_laws.specs.Solutions.{ProblemData}

-- the own number of a member of the part
abbrev pub number_in : List ℕ → ℕ → Option ℕ
number_in part m = position (λ x. x == m) part

-- a row between these members, if both are there
abbrev pub row_between : Option ℕ → Option ℕ → ℕ → Option Row
row_between None b amount = None
row_between (Some a) None amount = None
row_between (Some a) (Some b) amount = Some (record { seller = a; buyer = b; amount = amount })

-- the bounds between these members, if both are there
abbrev pub bounds_between : Option ℕ → Option ℕ → ℕ → Option ℕ → Option LimitRow
bounds_between None b lower upper = None
bounds_between (Some a) None lower upper = None
bounds_between (Some a) (Some b) lower upper = Some (record { seller = a; buyer = b; lower = lower; upper = upper })

-- a row between two members of the part, in own numbers
abbrev pub own_row : List ℕ → Row → Option Row
own_row part row = row_between (number_in part row.seller) (number_in part row.buyer) row.amount

-- the bounds of two members of the part, in own numbers
abbrev pub own_bounds : List ℕ → LimitRow → Option LimitRow
own_bounds part row = bounds_between (number_in part row.seller) (number_in part row.buyer) row.lower row.upper

-- the rows of the part's limits
abbrev pub own_limit_rows : LimitsData → List ℕ → List LimitRow
own_limit_rows limits part = filter_map (own_bounds part) limits.rows

-- the rows of the part's network
abbrev pub own_rows : NetworkData → List ℕ → List Row
own_rows y part = filter_map (own_row part) y.rows

-- the part's limits
abbrev pub own_limits : LimitsData → List ℕ → LimitsData
own_limits limits part = record { members = length part; rows = own_limit_rows limits part }

-- the part's network
abbrev pub own_network : NetworkData → List ℕ → NetworkData
own_network y part = record { members = length part; rows = own_rows y part }

-- the part's limits and network
abbrev pub own_problem : LimitsData → NetworkData → List ℕ → ProblemData
own_problem limits y part = record { limits = own_limits limits part; network = own_network y part }
