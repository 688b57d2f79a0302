-- Chains of open pairs between members.
use Rattle.std.specs.Prelude.{◌≢◌, ℕ, ◌⊎◌, List, [], ◌∷◌, Some}
use Rattle.network_laws.specs.Limits.{LimitsData, upper}

-- a pair is open where its upper bound is not 0; with no upper bound it is
abbrev pub IsOpen : LimitsData → ℕ → ℕ → Type 0
IsOpen limits i j = upper limits i j ≢ Some 0

-- the pair is open in one direction or the other
abbrev pub AreLinked : LimitsData → ℕ → ℕ → Type 0
AreLinked limits i j = IsOpen limits i j ⊎ IsOpen limits j i

-- from member i a link leads to the first of the list, from each to the next, and from the last to j
abbrev pub LinksAlong : LimitsData → ℕ → List ℕ → ℕ → Type 0
LinksAlong limits i [] j = AreLinked limits i j
LinksAlong limits i (k ∷ ks) j = AreLinked limits i k × LinksAlong limits k ks j

-- a chain of open pairs joins them
pub record AreJoined (limits : LimitsData) (i j : ℕ) : Type 0 where
  pub between : List ℕ
  pub chain : LinksAlong limits i between j
