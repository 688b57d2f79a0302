-- The limits that the products of a trade file are compressed within.
use Rattle.std.specs.Prelude.{ℕ, [], length}
use Rattle.network_laws.specs.Networks.{NetworkData}
use Rattle.network_laws.specs.Limits.{LimitsData}
use Rattle.command_types.specs.declared.cycle.Mode.{Mode}
use Rattle.command_types.specs.Roster.{Rows}
use Rattle.command_types.specs.Tolerances.{limits_of}

-- nobody sold anything
abbrev pub empty_network : Rows → NetworkData
empty_network rows = record { members = length rows.members; rows = [] }

-- the limits of a product's network: no member set anything, and nothing is held
abbrev pub market_limits : Rows → Mode → ℕ → NetworkData → LimitsData
market_limits rows mode product network = limits_of mode rows.members [] product network (empty_network rows)
