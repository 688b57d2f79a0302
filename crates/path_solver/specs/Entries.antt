-- From where arcs with room lead to a member.
use Rattle.std.specs.Prelude.{◌≡◌, ◌==◌, ◌&&◌, ◌||◌, nat_lt, if◌then◌else◌, ℕ, ◌+◌, ◌<◌, Bool, true, List, length, slice_index, slice_index_or}
use Rattle.member_set.specs.declared.set.MemberSet.{MemberSet}
use Rattle.member_set.specs.Members.{has, no_members}
use Rattle.residual_graph.specs.declared.flow.Flow.{Flow}
use Rattle.residual_graph.specs.Residual.{ResidualData}
use Rattle.residual_graph.specs.Arcs.{arc_count, flow_at, head, tail}
use Rattle.path_solver.specs.declared.entries.Entry.{Entry}
use Rattle.path_solver.specs.Prices.{IsTwinOpen}
use Rattle.path_solver.specs.Groups.{group_at}

-- no arc with room leads here
abbrev pub no_entry : Entry
no_entry = record { sellers = no_members; buyers = no_members }

-- the entry of a member, and an empty one where it has none
abbrev pub entry_at : List Entry → ℕ → Entry
entry_at entries v = slice_index_or entries v no_entry

-- a pair of these two members
abbrev pub IsPairOf : List Flow → ℕ → ℕ → ℕ → Type 0
IsPairOf flows seller buyer k =
    (k < length flows) × ((flow_at flows k).seller ≡ seller) × ((flow_at flows k).buyer ≡ buyer)

-- the sets tell of the first n pairs what they can do, and of nothing else
pub record AreEntriesTo (n : ℕ) (r : ResidualData) (entries : List Entry) : Type 0 where
  pub one_each : length entries ≡ r.members
  pub growing : (k : ℕ) → k < n → has (entry_at entries (flow_at r.flows k).buyer).sellers (flow_at r.flows k).seller ≡ nat_lt 0 (flow_at r.flows k).room
  pub falling : (k : ℕ) → k < n → has (entry_at entries (flow_at r.flows k).seller).buyers (flow_at r.flows k).buyer ≡ nat_lt 0 (flow_at r.flows k).back
  pub sellers : (v u : ℕ) → v < r.members → has (entry_at entries v).sellers u ≡ true → (k : ℕ) × IsPairOf r.flows u v k × (k < n)
  pub buyers : (v u : ℕ) → v < r.members → has (entry_at entries v).buyers u ≡ true → (k : ℕ) × IsPairOf r.flows v u k × (k < n)

-- the same of all pairs
abbrev pub AreEntries : ResidualData → List Entry → Type 0
AreEntries r entries = AreEntriesTo (length r.flows) r entries

-- the sets tell what this pair can do, and all else as before
pub record IsNoted (f : Flow) (old new : List Entry) : Type 0 where
  pub one_each : length new ≡ length old
  pub sellers : (v u : ℕ) → v < length old → has (entry_at new v).sellers u ≡ (if (v == f.buyer) && (u == f.seller) then nat_lt 0 f.room else has (entry_at old v).sellers u)
  pub buyers : (v u : ℕ) → v < length old → has (entry_at new v).buyers u ≡ (if (v == f.seller) && (u == f.buyer) then nat_lt 0 f.back else has (entry_at old v).buyers u)

-- whether one of the two sets of entries to this member has that one
abbrev pub is_entry : List Entry → ℕ → ℕ → Bool
is_entry entries here u = has (entry_at entries here).sellers u || has (entry_at entries here).buyers u

-- whether one of the two sets of tight entries to this member has that one
abbrev pub is_open_to : List Entry → List MemberSet → ℕ → ℕ → ℕ → Bool
is_open_to entries groups price here u =
    (has (entry_at entries here).sellers u && has (group_at groups (price + 2)) u)
    || (has (entry_at entries here).buyers u && has (group_at groups price) u)

-- an arc leaves this member for that one, and its twin is open
abbrev pub IsOpenTwin : ResidualData → List ℕ → ℕ → ℕ → ℕ → Type 0
IsOpenTwin r p here u a =
    (a < arc_count r.flows) × (tail r.flows a ≡ here) × (head r.flows a ≡ u) × IsTwinOpen r.flows p a

-- an open arc leads from this member to one of the set
abbrev pub IsOpenInto : List Entry → List MemberSet → List ℕ → MemberSet → ℕ → Type 0
IsOpenInto entries groups p set u =
    (h : ℕ) × (has set h ≡ true) × (is_open_to entries groups (slice_index p h) h u ≡ true)
