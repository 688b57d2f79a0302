-- Prices of members, in units of gross per unit moved, and which pairs are tight.
use Rattle.std.specs.Prelude.{◌≡◌, ℕ, ◌+◌, ◌<◌, ◌≤◌, if◌then◌else◌, nat_lt, List, length, slice_index, map, ℤ, pos}
use Rattle.residual_graph.specs.declared.flow.Flow.{Flow}
use Rattle.residual_graph.specs.Arcs.{flow_at, pair, room, is_forward}

-- the seller's price is the buyer's and the cost of a unit: a unit moves either way at no loss
abbrev pub IsTight : List ℕ → Flow → Type 0
IsTight p f = slice_index p f.seller ≡ slice_index p f.buyer + 1

-- where a pair's amount can grow, a unit costs at least the price that it bridges, and where it can fall, at most
pub record IsPriced (p : List ℕ) (f : Flow) : Type 0 where
  pub growing : 0 < f.room → slice_index p f.seller ≤ slice_index p f.buyer + 1
  pub falling : 0 < f.back → slice_index p f.buyer + 1 ≤ slice_index p f.seller

-- the same of all pairs: no arc with room has a negative reduced cost
abbrev pub ArePrices : List Flow → List ℕ → Type 0
ArePrices flows p = (k : ℕ) → k < length flows → IsPriced p (flow_at flows k)

-- the price of a member in the first phase, by what it has to receive
abbrev pub first_price : ℕ → ℕ
first_price lack = if nat_lt 0 lack then 0 else 1

-- an arc has room, and its pair is tight
abbrev pub IsOpen : List Flow → List ℕ → ℕ → Type 0
IsOpen flows p a = (0 < room flows a) × IsTight p (flow_at flows (pair a))

-- what the twin of an arc can take
abbrev pub twin_room : List Flow → ℕ → ℕ
twin_room flows a = if is_forward a then (flow_at flows (pair a)).back else (flow_at flows (pair a)).room

-- an arc's twin has room, and their pair is tight
abbrev pub IsTwinOpen : List Flow → List ℕ → ℕ → Type 0
IsTwinOpen flows p a = (0 < twin_room flows a) × IsTight p (flow_at flows (pair a))

-- prices as potentials
abbrev pub potentials : List ℕ → List ℤ
potentials p = map pos p
