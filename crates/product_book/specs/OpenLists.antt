-- Lists of the numbers of open trades, in one pool of nodes.
use Rattle.std.specs.Prelude.{◌≡◌, ℕ, ◌-◌, ◌≤◌, ◌==◌, not, List, [], ◌∷◌, ◌++◌, length, map, filter, slice_index_or, slice_set, Option, Some, None}
use Rattle.linked_rows.specs.declared.node.Node.{Node}
use Rattle.linked_rows.specs.Rows.{value_of}

-- the lists, each of nodes and the numbers at them, how many trades were put into them, and for how many more there is room without memory
pub record OpenView : Type 0 where
  pub lists : List (List (ℕ × ℕ))
  pub count : ℕ
  pub spare : ℕ

-- the numbers alone
abbrev pub numbers_in : List (ℕ × ℕ) → List ℕ
numbers_in entries = map (λ entry. entry.1) entries

abbrev pub numbers_of : List (List (ℕ × ℕ)) → List (List ℕ)
numbers_of lists = map numbers_in lists

-- the lists where one has a number more, behind its others
abbrev pub with_number : List (List ℕ) → ℕ → ℕ → List (List ℕ)
with_number lists list number = slice_set lists list (slice_index_or lists list [] ++ number ∷ [])

-- the lists without this number
abbrev pub without_number : List (List ℕ) → ℕ → List (List ℕ)
without_number lists number = map (λ numbers. filter (λ n. not (n == number)) numbers) lists

-- a fact of each entry of a list, and of many lists
abbrev pub Entries : (ℕ × ℕ → Type 0) → List (ℕ × ℕ) → Type 0
Entries P [] = Unit {0}
Entries P (entry ∷ entries) = P entry × Entries P entries

abbrev pub EachEntry : (ℕ × ℕ → Type 0) → List (List (ℕ × ℕ)) → Type 0
EachEntry P [] = Unit {0}
EachEntry P (entries ∷ lists) = Entries P entries × EachEntry P lists

-- the node that is kept for a trade's number; none: the trade is in no list
abbrev pub node_of : List (Option Node) → ℕ → Option Node
node_of nodes number = slice_index_or nodes (number - 1) None

-- the node of an entry is the one that is kept for its number
pub record IsNoted (nodes : List (Option Node)) (entry : ℕ × ℕ) : Type 0 where
  pub some : 1 ≤ entry.1
  pub node : node_of nodes entry.1 ≡ Some (record { place = entry.0 })

-- so many lists: each entry's node is kept for its number, at each node that is kept stands its number, and there is room for what is promised
pub record AreNoted (lists : List (List (ℕ × ℕ))) (nodes : List (Option Node)) (size spare rows_spare nodes_room : ℕ) : Type 0 where
  pub size_is : length lists ≡ size
  pub noted : EachEntry (IsNoted nodes) lists
  pub held : (number : ℕ) (node : Node) → 1 ≤ number → node_of nodes number ≡ Some node → value_of lists node.place ≡ Some number
  pub in_rows : spare ≤ rows_spare
  pub in_nodes : spare ≤ nodes_room
