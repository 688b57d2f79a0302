-- Labels of members: joined members have the same, which is the smallest of them.
use Rattle.std.specs.Prelude.{◌≡◌, ◌≢◌, ℕ, ◌<◌, ◌≤◌, ◌+◌, max, min, ◌⊎◌, ◌==◌, if◌then◌else◌, List, length, slice_index, slice_index_or, Some, All, AllPairs, Any, Contains}
use Rattle.network_laws.specs.declared.rows.LimitRow.{LimitRow}
use Rattle.network_laws.specs.Limits.{LimitsData}
use Rattle.split_parts.specs.Chains.{IsOpen, AreJoined}
use Rattle.split_parts.specs.Parts.{IsRisingPart}

-- A label is a member that has itself as label, and is no larger. Members with the same label are joined.
pub record AreSound (limits : LimitsData) (labels : List ℕ) : Type 0 where
  pub size : length labels ≡ limits.members
  pub low : (m : ℕ) → m < length labels → slice_index labels m ≤ m
  pub own : (m : ℕ) → m < length labels → slice_index labels (slice_index labels m) ≡ slice_index labels m
  pub joined : (i j : ℕ) → i < length labels → j < length labels → slice_index labels i ≡ slice_index labels j → (i ≡ j) ⊎ AreJoined limits i j

-- the members of each open pair have the same label
pub record AreLabels (limits : LimitsData) (labels : List ℕ) : Type 0 where
  pub sound : AreSound limits labels
  pub all : (i j : ℕ) → IsOpen limits i j → (i < length labels) × (j < length labels) × (slice_index labels i ≡ slice_index labels j)

-- A member's parent is no larger than itself and has the same label. Who is its own parent is its own label.
pub record LeadTo (parents labels : List ℕ) : Type 0 where
  pub size : length parents ≡ length labels
  pub low : (m : ℕ) → m < length parents → slice_index parents m ≤ m
  pub same : (m : ℕ) → m < length parents → slice_index labels (slice_index parents m) ≡ slice_index labels m
  pub root : (m : ℕ) → m < length parents → slice_index parents m ≡ m → slice_index labels m ≡ m

-- whatever labels the parents lead to, they still do, and one member has this one
abbrev pub LeadsTo : List ℕ → List ℕ → ℕ → ℕ → Type 0
LeadsTo parents parents' m label =
    (labels : List ℕ) → LeadTo parents labels → LeadTo parents' labels × (label ≡ slice_index labels m)

-- a label after all that have one label got the other
abbrev pub relabelled : ℕ → ℕ → ℕ → ℕ
relabelled from to label = if label == from then to else label

-- where the pair of the row is open, the higher label of its members gives way to the lower one
pub record JoinsRow (row : LimitRow) (labels labels' : List ℕ) : Type 0 where
  pub closed : row.upper ≡ Some 0 → (m : ℕ) → slice_index labels' m ≡ slice_index labels m
  pub joined : row.upper ≢ Some 0 → (m : ℕ) → m < length labels →
      slice_index labels' m ≡ relabelled (max (slice_index labels row.seller) (slice_index labels row.buyer)) (min (slice_index labels row.seller) (slice_index labels row.buyer)) (slice_index labels m)

-- whatever labels the parents lead to, they lead now to such as the row joins
abbrev pub LeadsOn : LimitRow → List ℕ → List ℕ → Type 0
LeadsOn row parents parents' =
    (labels : List ℕ) → LeadTo parents labels → (labels' : List ℕ) × LeadTo parents' labels' × JoinsRow row labels labels'

-- the pairs of the first rows, where they are open, have the same label
abbrev pub CoversTo : List LimitRow → ℕ → List ℕ → Type 0
CoversTo rows n labels = (k : ℕ) (d : LimitRow) → k < n → k < length rows → (slice_index_or rows k d).upper ≢ Some 0 →
    slice_index labels (slice_index_or rows k d).seller ≡ slice_index labels (slice_index_or rows k d).buyer

-- n is the first member from a place on that has the label, or the number of members where none has it
pub record IsFirstFrom (labels : List ℕ) (from label n : ℕ) : Type 0 where
  pub behind : from ≤ n
  pub within : n ≤ length labels
  pub here : n < length labels → slice_index labels n ≡ label
  pub none : (m : ℕ) → from ≤ m → m < n → slice_index labels m ≢ label

-- for each member the next one with its label, or the number of members where there is none
pub record AreNext (labels next : List ℕ) : Type 0 where
  pub size : length next ≡ length labels
  pub each : (m : ℕ) → m < length labels → IsFirstFrom labels (m + 1) (slice_index labels m) (slice_index next m)

-- the members below n that have the label l, which is the first of them
pub record IsClassTo (labels : List ℕ) (l n : ℕ) (part : List ℕ) : Type 0 where
  pub rising : IsRisingPart part
  pub head : slice_index part 0 ≡ l
  pub filled : 0 < length part
  pub each : (m : ℕ) → Contains part m → (m < n) × (slice_index labels m ≡ l)
  pub every : (m : ℕ) → m < n → slice_index labels m ≡ l → Contains part m

-- all members that have its first one as label, of which there are two
pub record IsClass (labels : List ℕ) (part : List ℕ) : Type 0 where
  pub class : IsClassTo labels (slice_index part 0) (length labels) part
  pub two : 1 < length part

-- the classes of two members and more whose first one is below n, in order
pub record AreClassesTo (labels : List ℕ) (n : ℕ) (parts : List (List ℕ)) : Type 0 where
  pub each : All (IsClass labels) parts
  pub below : All (λ part. slice_index part 0 < n) parts
  pub order : AllPairs (λ part later. slice_index part 0 < slice_index later 0) parts
  pub every : (m : ℕ) → m < length labels → slice_index labels m < n → m ≢ slice_index labels m → Any (λ part. slice_index part 0 ≡ slice_index labels m) parts
