-- Paths, from their first arc to their last.
use Rattle.std.specs.Prelude.{◌≡◌, ◌≢◌, ℕ, ◌+◌, ◌<◌, ◌≤◌, true, false, List, length, slice_index, All, AllPairs}
use Rattle.member_set.specs.declared.set.MemberSet.{MemberSet}
use Rattle.member_set.specs.Members.{has}
use Rattle.residual_graph.specs.declared.flow.Flow.{Flow}
use Rattle.residual_graph.specs.Arcs.{arc_count, tail, head, room, pair}
use Rattle.residual_graph.specs.Paths.{IsWalk, IsPath}
use Rattle.path_solver.specs.Prices.{IsOpen, twin_room}

-- a path of open arcs down the levels, from `from` to one that has to receive
pub record IsPathDown (flows : List Flow) (p levels lack : List ℕ) (from end : ℕ) (path : List ℕ) : Type 0 where
  pub walk : IsWalk flows from path end
  pub arcs : All (λ a. a < arc_count flows) path
  pub open_arcs : All (IsOpen flows p) path
  pub below : All (λ a. slice_index levels (tail flows a) ≤ slice_index levels from) path
  pub falling : AllPairs (λ a b. slice_index levels (tail flows b) < slice_index levels (tail flows a)) path
  pub steps : All (λ a. slice_index levels (head flows a) + 1 ≡ slice_index levels (tail flows a)) path
  pub long : length path + slice_index levels end ≡ slice_index levels from
  pub receives : 0 < slice_index lack end
  pub member : end < length levels

-- a path along which x can move, and which takes each pair once
pub record IsPlainPath (x : ℕ) (flows : List Flow) (path : List ℕ) : Type 0 where
  pub along : IsPath x flows path
  pub pairs : AllPairs (λ a b. pair a ≢ pair b) path

-- x does not fill an arc, nor open its twin
abbrev pub StaysOpen : ℕ → List Flow → ℕ → Type 0
StaysOpen x flows a = (x < room flows a) × (0 < twin_room flows a)

-- the places of the arcs of a path that x may fill, or whose twins it may open; it does so to no others
pub record AreTurning (x : ℕ) (flows : List Flow) (path : List ℕ) (places : MemberSet) : Type 0 where
  pub inside : (k : ℕ) → has places k ≡ true → k < length path
  pub others : (k : ℕ) → k < length path → has places k ≡ false → StaysOpen x flows (slice_index path k)

-- each path of open arcs from a member that has to send to one that has to receive has so many arcs at the least
abbrev pub NoneIsShorter : List Flow → List ℕ → List ℕ → List ℕ → ℕ → Type 0
NoneIsShorter flows p surplus lack n =
    (v w : ℕ) (arcs : List ℕ) → 0 < slice_index surplus v → 0 < slice_index lack w → IsWalk flows v arcs w → All (IsOpen flows p) arcs → n ≤ length arcs
