-- The arcs of a residual graph by number: pair k has arc 2 k from its seller to its buyer, which grows its
-- amount at a cost of 1 a unit, and arc 2 k + 1 back, which lowers it at a cost of -1.
use Rattle.std.specs.Prelude.{ℕ, ◌+◌, ◌-◌, ◌*◌, ◌/◌, ◌%◌, ◌==◌, if◌then◌else◌, Bool, List, length, slice_index_or, slice_set, ℤ, pos, negsuc}
use Rattle.residual_graph.specs.declared.flow.Flow.{Flow}

-- how many arcs there are
abbrev pub arc_count : List Flow → ℕ
arc_count flows = 2 * length flows

-- the pair of an arc
abbrev pub pair : ℕ → ℕ
pair a = a / 2

-- whether an arc leads from seller to buyer
abbrev pub is_forward : ℕ → Bool
is_forward a = a % 2 == 0

abbrev pub no_flow : Flow
no_flow = record { seller = 0; buyer = 0; lower = 0; back = 0; room = 0 }

abbrev pub flow_at : List Flow → ℕ → Flow
flow_at flows k = slice_index_or flows k no_flow

abbrev pub tail_in : Flow → Bool → ℕ
tail_in f forward = if forward then f.seller else f.buyer

abbrev pub head_in : Flow → Bool → ℕ
head_in f forward = if forward then f.buyer else f.seller

abbrev pub room_in : Flow → Bool → ℕ
room_in f forward = if forward then f.room else f.back

abbrev pub cost_in : Bool → ℤ
cost_in forward = if forward then pos 1 else negsuc 0

-- where an arc starts
abbrev pub tail : List Flow → ℕ → ℕ
tail flows a = tail_in (flow_at flows (pair a)) (is_forward a)

-- where it ends
abbrev pub head : List Flow → ℕ → ℕ
head flows a = head_in (flow_at flows (pair a)) (is_forward a)

-- the most that it can take
abbrev pub room : List Flow → ℕ → ℕ
room flows a = room_in (flow_at flows (pair a)) (is_forward a)

-- what a unit along it adds to the gross
abbrev pub cost : ℕ → ℤ
cost a = cost_in (is_forward a)

-- a pair after x is moved over it, from seller to buyer or back
abbrev pub moved : ℕ → Bool → Flow → Flow
moved x forward f =
    if forward then record f { back = f.back + x; room = f.room - x } else record f { back = f.back - x; room = f.room + x }

-- the pairs after x is moved along an arc: the arc has x less room, its twin x more, and no other arc changes
abbrev pub pushed : ℕ → List Flow → ℕ → List Flow
pushed x flows a = slice_set flows (pair a) (moved x (is_forward a) (flow_at flows (pair a)))
