-- Lists of values, each value at its node, and what a push and the rest make of them.
use Rattle.std.specs.Prelude.{◌≡◌, ◌≢◌, ℕ, ◌<◌, ◌==◌, not, is_some, IsTrue, length, List, [], ◌∷◌, ◌++◌, map, filter, slice_index_or, slice_set, Option, Some, None, if◌then◌else◌}

-- the lists, each of nodes and their values, and for how many more values there is room without memory
pub record RowsView (T : Type 0) : Type 0 where
  pub lists : List (List (ℕ × T))
  pub spare : ℕ

-- a list by its number
abbrev pub list_of : {T : Type 0} → List (List (ℕ × T)) → ℕ → List (ℕ × T)
list_of lists list = slice_index_or lists list []

-- the value at a node of a list
abbrev pub value_in : {T : Type 0} → List (ℕ × T) → ℕ → Option T
value_in [] node = None
value_in (entry ∷ entries) node = if entry.0 == node then Some entry.1 else value_in entries node

abbrev pub either : {A : Type 0} → Option A → Option A → Option A
either None other = other
either (Some a) other = Some a

-- the value at a node of any of the lists; none: the node is not live
abbrev pub value_of : {T : Type 0} → List (List (ℕ × T)) → ℕ → Option T
value_of [] node = None
value_of (entries ∷ lists) node = either (value_in entries node) (value_of lists node)

-- the node of a list's first value
abbrev pub first_of : {T : Type 0} → List (ℕ × T) → Option ℕ
first_of [] = None
first_of (entry ∷ entries) = Some entry.0

-- the node that comes after one in a list
abbrev pub next_in : {T : Type 0} → List (ℕ × T) → ℕ → Option ℕ
next_in [] node = None
next_in (entry ∷ entries) node = if entry.0 == node then first_of entries else next_in entries node

-- in any of the lists
abbrev pub next_of : {T : Type 0} → List (List (ℕ × T)) → ℕ → Option ℕ
next_of [] node = None
next_of (entries ∷ lists) node = either (next_in entries node) (next_of lists node)

-- the lists where one has a new value behind its others
abbrev pub with_last : {T : Type 0} → List (List (ℕ × T)) → ℕ → ℕ → T → List (List (ℕ × T))
with_last lists list node value = slice_set lists list (list_of lists list ++ (node, value) ∷ [])

-- without the value of this node
abbrev pub without : {T : Type 0} → List (List (ℕ × T)) → ℕ → List (List (ℕ × T))
without lists node = map (λ entries. filter (λ entry. not (entry.0 == node)) entries) lists

-- with another value at this node
abbrev pub with_value : {T : Type 0} → List (List (ℕ × T)) → ℕ → T → List (List (ℕ × T))
with_value lists node value = map (λ entries. map (λ entry. if entry.0 == node then (entry.0, value) else entry) entries) lists

-- no node stands twice in a list
abbrev pub StandOnceIn : {T : Type 0} → List (ℕ × T) → Type 0
StandOnceIn [] = Unit {0}
StandOnceIn (entry ∷ entries) = (value_in entries entry.0 ≡ None) × StandOnceIn entries

-- each live node stands in one of the lists, and once there
pub record StandOnce {T : Type 0} (lists : List (List (ℕ × T))) : Type 0 where
  pub within : (list : ℕ) → list < length lists → StandOnceIn (list_of lists list)
  pub apart : (list other node : ℕ) → list < length lists → other < length lists → other ≢ list → IsTrue (is_some (value_in (list_of lists list) node)) → value_in (list_of lists other) node ≡ None
