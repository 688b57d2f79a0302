-- Who is entered by an open arc from outside the reached members is told by the ways of the others around them.
use Rattle.std.proofs.Common.{◌≡◌, ℕ, ◌+◌, ◌<◌, true, false, not, ◌&&◌, ◌↔◌, List, get_or, refl, ap, ◌∙◌, inl, inr, arith}
use Rattle.std.proofs.lemmas.Bool.{false_from_ne_true, and_parts, and_from, or_cases, or_left, or_right}
use Rattle.member_set.specs.declared.set.MemberSet.{MemberSet}
use Rattle.member_set.specs.Members.{has}
use Rattle.residual_graph.specs.Residual.{ResidualData, IsResidual}
use Rattle.residual_graph.specs.Arcs.{no_flow, head, tail}
use Rattle.path_solver.specs.declared.neighbours.Neighbours.{Neighbours}
use Rattle.path_solver.specs.declared.entries.Entry.{Entry}
use Rattle.path_solver.specs.Entries.{entry_at, AreEntries, is_entry, is_open_to}
use Rattle.path_solver.specs.Groups.{group_at, AreSorted}
use Rattle.path_solver.specs.Levels.{IsReached}
use Rattle.path_solver.specs.Searches.{AreEntered}
use Rattle.path_solver.specs.Neighbours.{AreNeighbours}
use Rattle.path_solver.proofs.Ends.{ends_in}
use Rattle.path_solver.proofs.Near.{open_near}
use Rattle.path_solver.proofs.Ways.{open_exit}

-- an open entry is an entry
entry_of : (entries : List Entry) (groups : List MemberSet) (price here u : ℕ) → is_open_to entries groups price here u ≡ true → is_entry entries here u ≡ true
entry_of entries groups price here u on =
    elim (or_cases (has (entry_at entries here).sellers u && has (group_at groups (price + 2)) u) (has (entry_at entries here).buyers u && has (group_at groups price) u) on) [
      | inl selling ↦
          or_left (has (entry_at entries here).sellers u) (has (entry_at entries here).buyers u) (and_parts (has (entry_at entries here).sellers u) (has (group_at groups (price + 2)) u) selling).0
      | inr buying ↦
          or_right (has (entry_at entries here).sellers u) (has (entry_at entries here).buyers u) (and_parts (has (entry_at entries here).buyers u) (has (group_at groups price) u) buying).0
    ]

-- who has an entry is a member
pub entry_in : (r : ResidualData) (entries : List Entry) (here u : ℕ) → IsResidual r → AreEntries r entries → here < r.members → is_entry entries here u ≡ true → u < r.members
entry_in r entries here u residual are l on =
    elim (or_cases (has (entry_at entries here).sellers u) (has (entry_at entries here).buyers u) on) [
      | inl selling ↦
          let k = are.sellers here u l selling in
          omega (arith, (residual.good k.0 no_flow k.2).seller, k.1.1)
      | inr buying ↦
          let k = are.buyers here u l buying in
          omega (arith, (residual.good k.0 no_flow k.2).buyer, k.1.2)
    ]

-- each open arc that enters the reached members comes from one of the others around them
pub all_entered : {r : ResidualData} {p : List ℕ} {n : Neighbours} {groups : List MemberSet} (levels : List ℕ) (reached near others entered : MemberSet) → IsResidual r → AreNeighbours r n → AreSorted r.members p groups
    → ((v : ℕ) → (has reached v ≡ true) ↔ ((v < r.members) × IsReached levels v))
    → ((h u : ℕ) → has reached h ≡ true → is_entry n.entries.items h u ≡ true → has near u ≡ true)
    → ((u : ℕ) → has others u ≡ (has near u && not (has reached u)))
    → ((u h : ℕ) → has others u ≡ true → has reached h ≡ true → is_open_to n.exits.items groups (get_or p u 0) u h ≡ true → has entered h ≡ true)
    → AreEntered r.flows p levels entered
all_entered {r} {p} {n} {groups} levels reached near others entered residual are sorted known around without ways a l is_open at_head q =
    let ends = ends_in r residual a l in
    let in_tail : tail r.flows a < r.members = ends.0 in
    let in_head : head r.flows a < r.members = ends.1 in
    let on : has reached (head r.flows a) ≡ true = (known (head r.flows a)).1 (in_head, at_head) in
    let off : has reached (tail r.flows a) ≡ false = false_from_ne_true (has reached (tail r.flows a)) (λ e. ((known (tail r.flows a)).0 e).1 q) in
    let entering = open_near (head r.flows a) residual are.entries sorted in_head a l is_open refl in
    let close : has near (tail r.flows a) ≡ true = around (head r.flows a) (tail r.flows a) on (entry_of n.entries.items groups (get_or p (head r.flows a) 0) (head r.flows a) (tail r.flows a) entering) in
    let other : has others (tail r.flows a) ≡ true = without (tail r.flows a) ∙ and_from (has near (tail r.flows a)) (not (has reached (tail r.flows a))) close (ap not off) in
    let leaving = open_exit (tail r.flows a) residual are sorted in_tail a l is_open refl in
    ways (tail r.flows a) (head r.flows a) other on leaving
