-- The parts of limits.
use Rattle.std.specs.Prelude.{◌≡◌, ◌↔◌, ℕ, ◌<◌, List, length, map, slice_index, All, AllPairs, Any, Contains}
use Rattle.network_laws.specs.Networks.{NetworkData}
use Rattle.network_laws.specs.Limits.{LimitsData}
use Rattle.network_laws.specs.Solutions.{ProblemData}
use Rattle.split_parts.specs.Chains.{AreJoined}
use Rattle.split_parts.specs.Own.{own_problem}

-- both are members of one part
abbrev pub SharePart : List (List ℕ) → ℕ → ℕ → Type 0
SharePart parts i j = Any (λ part. Contains part i × Contains part j) parts

-- its members rise
abbrev pub IsRisingPart : List ℕ → Type 0
IsRisingPart part = AllPairs (λ x y. x < y) part

-- its members rise, and it has one
pub record IsPart (part : List ℕ) : Type 0 where
  pub rising : IsRisingPart part
  pub filled : 0 < length part

-- no member is in both
abbrev pub AreApart : List ℕ → List ℕ → Type 0
AreApart part other = (m : ℕ) → Contains part m → Contains other m → ⊥

-- Two members are in one part exactly where a chain of open pairs joins them. No member is in two parts. The members of
-- a part rise, and the parts are in order of their smallest member.
pub record IsPartition (limits : LimitsData) (parts : List (List ℕ)) : Type 0 where
  pub joined : (i j : ℕ) → SharePart parts i j ↔ AreJoined limits i j
  pub apart : AllPairs AreApart parts
  pub each : All IsPart parts
  pub order : AllPairs (λ part later. slice_index part 0 < slice_index later 0) parts

-- how many members there are in all, and those of each part
pub record PartitionData : Type 0 where
  pub members : ℕ
  pub parts : List (List ℕ)

-- they are the parts of these limits
pub record IsPartitionOf (limits : LimitsData) (p : PartitionData) : Type 0 where
  pub members : p.members ≡ limits.members
  pub parts : IsPartition limits p.parts

-- parts, and a problem for each
pub record PartsData : Type 0 where
  pub members : List (List ℕ)
  pub problems : List ProblemData

-- the parts of limits, each with its own limits and network
pub record ArePartsOf (limits : LimitsData) (y : NetworkData) (parts : PartsData) : Type 0 where
  pub members : IsPartition limits parts.members
  pub problems : parts.problems ≡ map (own_problem limits y) parts.members
