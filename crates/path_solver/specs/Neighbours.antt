-- Between which members arcs with room lead, and by which pairs.
use Rattle.std.specs.Prelude.{◌≡◌, ◌&&◌, if◌then◌else◌, ℕ, ◌+◌, ◌*◌, ◌<◌, true, List, [], length, map, slice_index, slice_index_or}
use Rattle.member_set.specs.declared.set.MemberSet.{MemberSet}
use Rattle.member_set.specs.Members.{has}
use Rattle.residual_graph.specs.declared.flow.Flow.{Flow}
use Rattle.residual_graph.specs.Residual.{ResidualData}
use Rattle.residual_graph.specs.Arcs.{flow_at}
use Rattle.path_solver.specs.declared.neighbours.PairRow.{PairRow}
use Rattle.path_solver.specs.declared.neighbours.Neighbours.{Neighbours}
use Rattle.path_solver.specs.declared.neighbours.Exit.{Exit}
use Rattle.path_solver.specs.Entries.{entry_at, AreEntries, IsNoted, is_open_to}
use Rattle.path_solver.specs.Groups.{group_at}

-- a pair whose arcs lead the other way
abbrev pub turned : Flow → Flow
turned f = record f { back = f.room; room = f.back }

-- a graph whose arcs lead the other way: arcs enter a member there that leave it here
abbrev pub turned_graph : ResidualData → ResidualData
turned_graph r = record { members = r.members; flows = map turned r.flows }

-- no pairs
abbrev pub no_row : PairRow
no_row = record { numbers = [] }

-- what the table tells of a pair
abbrev pub number_at : List PairRow → ℕ → ℕ → ℕ
number_at rows seller buyer = slice_index (slice_index_or rows seller no_row).numbers buyer

-- the table has the numbers of the first n pairs
pub record AreNumbersTo (n : ℕ) (r : ResidualData) (rows : List PairRow) : Type 0 where
  pub one_each : length rows ≡ r.members
  pub numbers : (k : ℕ) → k < n → number_at rows (flow_at r.flows k).seller (flow_at r.flows k).buyer ≡ k

-- the same of all pairs
abbrev pub AreNumbers : ResidualData → List PairRow → Type 0
AreNumbers r rows = AreNumbersTo (length r.flows) r rows

-- they tell of the graph
pub record AreNeighbours (r : ResidualData) (n : Neighbours) : Type 0 where
  pub entries : AreEntries r n.entries.items
  pub exits : AreEntries (turned_graph r) n.exits.items
  pub rows : AreNumbers r n.rows.items

-- the arc between two members of which one is an exit of the other
abbrev pub arc_between : Neighbours → List MemberSet → ℕ → ℕ → ℕ → ℕ
arc_between n groups price here u =
    if has (entry_at n.exits.items here).buyers u && has (group_at groups price) u then 2 * number_at n.rows.items here u else 2 * number_at n.rows.items u here + 1

-- an open arc from this member to one of the set
pub record IsWayInto (n : Neighbours) (groups : List MemberSet) (price here : ℕ) (set : MemberSet) (e : Exit) : Type 0 where
  pub inside : has set e.head ≡ true
  pub is_open : is_open_to n.exits.items groups price here e.head ≡ true
  pub between : e.arc ≡ arc_between n groups price here e.head

-- noted what a pair can do
pub record IsChanged (f : Flow) (old new : Neighbours) : Type 0 where
  pub rows : new.rows.items ≡ old.rows.items
  pub entries : IsNoted f old.entries.items new.entries.items
  pub exits : IsNoted (turned f) old.exits.items new.exits.items
