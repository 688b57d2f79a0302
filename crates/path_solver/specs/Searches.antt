-- How far a search has come.
use Rattle.std.specs.Prelude.{◌≡◌, ◌↔◌, ℕ, ◌+◌, ◌<◌, ◌≤◌, true, List, length, slice_index}
use Rattle.member_set.specs.declared.set.MemberSet.{MemberSet}
use Rattle.member_set.specs.Members.{has}
use Rattle.residual_graph.specs.declared.flow.Flow.{Flow}
use Rattle.residual_graph.specs.Residual.{ResidualData}
use Rattle.residual_graph.specs.Arcs.{arc_count, head, tail}
use Rattle.path_solver.specs.Prices.{IsOpen}
use Rattle.path_solver.specs.Levels.{IsReached, LeadsDown, AreFewest}

-- a value is in a list
abbrev pub IsTaken : List ℕ → ℕ → Type 0
IsTaken xs g = (v : ℕ) × (v < length xs) × (slice_index xs v ≡ g)

-- an open arc leads from this member to one of the last level
pub record LeadsIn (flows : List Flow) (p levels : List ℕ) (level v a : ℕ) : Type 0 where
  pub arc : a < arc_count flows
  pub tail : tail flows a ≡ v
  pub is_open : IsOpen flows p a
  pub down : slice_index levels (head flows a) + 1 ≡ level

-- the members of the set come next, on this level
pub record AreNext (r : ResidualData) (p lack levels : List ℕ) (level : ℕ) (now : MemberSet) : Type 0 where
  pub member : (v : ℕ) → has now v ≡ true → v < r.members
  pub new : (v : ℕ) → has now v ≡ true → slice_index levels v ≡ 65535
  pub lowest : (v : ℕ) → has now v ≡ true → level ≡ 0 → 0 < slice_index lack v
  pub led : (v : ℕ) → has now v ≡ true → 0 < level → (a : ℕ) × LeadsIn r.flows p levels level v a

-- the set has those that are reached
abbrev pub AreReached : List ℕ → MemberSet → Type 0
AreReached levels set =
    (v : ℕ) → (has set v ≡ true) ↔ ((v < length levels) × IsReached levels v)

-- what was reached below this level
pub record IsSpread (r : ResidualData) (p surplus lack levels : List ℕ) (level : ℕ) (now reached : MemberSet) : Type 0 where
  pub one_each : length levels ≡ r.members
  pub known : (v : ℕ) → (has reached v ≡ true) ↔ ((v < r.members) × IsReached levels v)
  pub below : (v : ℕ) → v < r.members → IsReached levels v → slice_index levels v < level
  pub lowest : (v : ℕ) → v < r.members → slice_index levels v ≡ 0 → 0 < slice_index lack v
  pub down : (v : ℕ) → v < r.members → IsReached levels v → 0 < slice_index levels v → (a : ℕ) × LeadsDown r.flows p levels v a
  pub senders : (v : ℕ) → v < r.members → 0 < slice_index surplus v → slice_index levels v ≡ 65535
  pub filled : (g : ℕ) → g < level → IsTaken levels g
  pub next : AreNext r p lack levels level now
  pub receivers : (v : ℕ) → 0 < slice_index lack v → slice_index levels v ≡ 65535 → has now v ≡ true
  pub closed : (a : ℕ) → a < arc_count r.flows → IsOpen r.flows p a → IsReached levels (head r.flows a) → slice_index levels (tail r.flows a) ≡ 65535 → has now (tail r.flows a) ≡ true
  pub fewest : AreFewest r.flows p levels level
  pub first : (v : ℕ) → v < r.members → 0 < slice_index lack v → 0 < level → slice_index levels v ≡ 0

-- each open arc from a member that is not reached to one that is leads to one of the set
abbrev pub AreEntered : List Flow → List ℕ → List ℕ → MemberSet → Type 0
AreEntered flows p levels set =
    (a : ℕ) → a < arc_count flows → IsOpen flows p a → IsReached levels (head flows a) → slice_index levels (tail flows a) ≡ 65535 → has set (head flows a) ≡ true

-- who was below this level keeps its own, and others have none
pub record AreCutOff (level : ℕ) (old new : List ℕ) : Type 0 where
  pub kept : (v : ℕ) → v < length old → slice_index old v < level → slice_index new v ≡ slice_index old v
  pub gone : (v : ℕ) → v < length old → level ≤ slice_index old v → slice_index new v ≡ 65535
