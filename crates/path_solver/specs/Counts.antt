-- How many paths amounts are sent along.
use Rattle.std.specs.Prelude.{ℕ, ◌+◌, ◌*◌, ◌==◌, ◌&&◌, if◌then◌else◌, nat_lt, List, length, slice_index, sum_by, count_by}
use Rattle.network_laws.specs.Limits.{LimitsData}
use Rattle.residual_graph.specs.declared.flow.Flow.{Flow}
use Rattle.residual_graph.specs.Residual.{ResidualData}

-- at most so many in all: of V members, a source and a sink among them, and E arcs at most V * V * E
abbrev pub most_steps : LimitsData → ℕ
most_steps limits =
    (limits.members + 2) * (limits.members + 2) * (2 * (length limits.rows + limits.members))

-- at most so many over the same prices and levels
abbrev pub round_steps : ResidualData → ℕ
round_steps r = 2 * (length r.flows + r.members)

-- at most so many over the same prices
abbrev pub phase_steps : ResidualData → ℕ
phase_steps r = (r.members + 2) * round_steps r

-- at most so many in all phases, of which there are no more than members, and one
abbrev pub path_steps : ResidualData → ℕ
path_steps r = (r.members + 1) * phase_steps r

-- at most so many from the lower bounds on: over each pair one straight, and then those of all phases
abbrev pub settle_steps : ResidualData → ℕ
settle_steps r = length r.flows + path_steps r

-- how many of a pair's arcs have room and lead one level down
abbrev pub downs : List ℕ → Flow → ℕ
downs levels f =
    (if nat_lt 0 f.room && (slice_index levels f.buyer + 1 == slice_index levels f.seller) then 1 else 0)
    + (if nat_lt 0 f.back && (slice_index levels f.seller + 1 == slice_index levels f.buyer) then 1 else 0)

-- what each path down the levels lowers: the arcs down them, the members that have to send, and those that have to receive
abbrev pub left_to_do : List ℕ → List Flow → List ℕ → List ℕ → ℕ
left_to_do levels flows surplus lack =
    sum_by (downs levels) flows + count_by (nat_lt 0) surplus + count_by (nat_lt 0) lack
