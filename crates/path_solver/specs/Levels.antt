-- Levels: how many open arcs a search went back from a member that has to receive.
use Rattle.std.specs.Prelude.{◌≡◌, ◌≢◌, ℕ, ◌+◌, ◌<◌, ◌≤◌, true, List, length, slice_index, slice_index_or, Option, Some, None}
use Rattle.member_set.specs.declared.set.MemberSet.{MemberSet}
use Rattle.member_set.specs.Members.{has, no_members}
use Rattle.residual_graph.specs.declared.flow.Flow.{Flow}
use Rattle.residual_graph.specs.Arcs.{arc_count, pair, flow_at, tail, head, room}
use Rattle.path_solver.specs.Prices.{IsTight, IsOpen}

-- a member has a level; the level of others is 65535
abbrev pub IsReached : List ℕ → ℕ → Type 0
IsReached levels v = slice_index levels v ≢ 65535

-- an open arc from this member to one a level below
pub record LeadsDown (flows : List Flow) (p levels : List ℕ) (v a : ℕ) : Type 0 where
  pub arc : a < arc_count flows
  pub tail : tail flows a ≡ v
  pub room : 0 < room flows a
  pub tight : IsTight p (flow_at flows (pair a))
  pub down : slice_index levels (head flows a) + 1 ≡ slice_index levels v

-- from each reached member open arcs lead down to one that has to receive
pub record AreLevels (flows : List Flow) (p lack levels : List ℕ) : Type 0 where
  pub lowest : (v : ℕ) → v < length levels → slice_index levels v ≡ 0 → 0 < slice_index lack v
  pub down : (v : ℕ) → v < length levels → IsReached levels v → 0 < slice_index levels v → (a : ℕ) × LeadsDown flows p levels v a

-- up to the level `last`, no open arc leads more than a level down, and each that leads below the level before it
-- starts at a reached member: a path of open arcs from the last level to one that has to receive has no fewer arcs
pub record AreFewest (flows : List Flow) (p levels : List ℕ) (last : ℕ) : Type 0 where
  pub all : (a : ℕ) → a < arc_count flows → IsOpen flows p a → IsReached levels (head flows a) → slice_index levels (head flows a) + 1 < last → IsReached levels (tail flows a)
  pub steps : (a : ℕ) → a < arc_count flows → IsOpen flows p a → IsReached levels (head flows a) → IsReached levels (tail flows a) →
      slice_index levels (tail flows a) ≤ slice_index levels (head flows a) + 1

-- who has to send, and has an open arc to the level before `last`, is reached
abbrev pub AreMet : List Flow → List ℕ → List ℕ → List ℕ → ℕ → Type 0
AreMet flows p surplus levels last =
    (a : ℕ) → a < arc_count flows → IsOpen flows p a → IsReached levels (head flows a) → slice_index levels (head flows a) + 1 ≡ last → 0 < slice_index surplus (tail flows a) →
    IsReached levels (tail flows a)

-- the levels tell how many arcs a path of least cost has at the least: `last`, the level of those that send
pub record AreShortest (flows : List Flow) (p surplus lack levels : List ℕ) (last : ℕ) : Type 0 where
  pub fewest : AreFewest flows p levels last
  pub met : AreMet flows p surplus levels last
  pub senders : (v : ℕ) → 0 < slice_index surplus v → IsReached levels v → last ≤ slice_index levels v
  pub receivers : (v : ℕ) → 0 < slice_index lack v → 0 < last → slice_index levels v ≡ 0
  pub low : last < 65535

-- no open arc leads to a reached member from another
abbrev pub IsClosed : List Flow → List ℕ → List ℕ → Type 0
IsClosed flows p levels =
    (a : ℕ) → a < arc_count flows → IsOpen flows p a → IsReached levels (head flows a) → IsReached levels (tail flows a)

-- no member that has to send is reached, and those that have to receive are
pub record AreCut (flows : List Flow) (p surplus lack levels : List ℕ) : Type 0 where
  pub closed : IsClosed flows p levels
  pub senders : (v : ℕ) → v < length levels → 0 < slice_index surplus v → slice_index levels v ≡ 65535
  pub receivers : (v : ℕ) → 0 < slice_index lack v → IsReached levels v

-- this member has to send, and is reached
pub record IsSource (surplus levels : List ℕ) (s : ℕ) : Type 0 where
  pub member : s < length levels
  pub sends : 0 < slice_index surplus s
  pub reached : IsReached levels s

-- what the levels tell
abbrev pub IsLayered : List Flow → List ℕ → List ℕ → List ℕ → List ℕ → Option ℕ → Type 0
IsLayered flows p surplus lack levels None = AreCut flows p surplus lack levels
IsLayered flows p surplus lack levels (Some s) = IsSource surplus levels s × AreLevels flows p lack levels

-- the layer of this number, and nobody where there is none
abbrev pub layer_at : List MemberSet → ℕ → MemberSet
layer_at layers k = slice_index_or layers k no_members

-- who is in one of the first n layers has its number as level
abbrev pub AreLayers : List ℕ → List MemberSet → ℕ → Type 0
AreLayers levels layers n =
    (k v : ℕ) → k < n → has (layer_at layers k) v ≡ true → (v < length levels) × (slice_index levels v ≡ k)

-- and each member of such a level is in its layer
abbrev pub AreWholeLayers : List ℕ → List MemberSet → ℕ → Type 0
AreWholeLayers levels layers n =
    (k v : ℕ) → k < n → v < length levels → slice_index levels v ≡ k → has (layer_at layers k) v ≡ true
