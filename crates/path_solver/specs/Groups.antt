-- Members by their prices.
use Rattle.std.specs.Prelude.{◌≡◌, ◌↔◌, ◌&&◌, ◌||◌, not, ℕ, ◌+◌, ◌-◌, ◌<◌, ◌≤◌, Bool, true, List, length, slice_index, slice_index_or}
use Rattle.member_set.specs.declared.set.MemberSet.{MemberSet}
use Rattle.member_set.specs.Members.{has, no_members}
use Rattle.path_solver.specs.declared.prices.Prices.{Prices}

-- the group of this number, and nobody where there is none
abbrev pub group_at : List MemberSet → ℕ → MemberSet
group_at groups g = slice_index_or groups g no_members

-- the members of one price are the group whose number is one higher
abbrev pub AreGroups : List ℕ → List MemberSet → Type 0
AreGroups p groups =
    (g v : ℕ) → g < length groups → (has (group_at groups g) v ≡ true) ↔ ((v < length p) × (slice_index p v + 1 ≡ g))

-- whether a member is in this group once all but those that stay have moved to the next
abbrev pub is_moved_to : List MemberSet → MemberSet → ℕ → ℕ → Bool
is_moved_to groups stay g v =
    (has (group_at groups g) v && has stay v) || (has (group_at groups (g - 1)) v && not (has stay v))

-- prices of so many members, none of them higher than their number, and the groups by these prices
pub record AreSorted (members : ℕ) (p : List ℕ) (groups : List MemberSet) : Type 0 where
  pub one_each : members ≡ length p
  pub low : (v : ℕ) → slice_index p v ≤ members
  pub long : length groups ≡ members + 3
  pub sorted : AreGroups p groups

-- the same of the prices that rise from phase to phase
abbrev pub AreSortedIn : ℕ → Prices → Type 0
AreSortedIn members p = AreSorted members p.by_member.items p.groups.items
