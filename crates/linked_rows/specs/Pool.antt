-- How links and values make lists, and what a pool keeps.
use Rattle.std.specs.Prelude.{◌≡◌, ℕ, ◌+◌, ◌-◌, ◌≤◌, ◌<◌, List, [], ◌∷◌, length, map, sum_by, slice_get, slice_index_or, Option, Some, None}
use Rattle.linked_rows.specs.declared.links.Link.{Link}
use Rattle.linked_rows.specs.Links.{after, before, ring_of, rings_below}

-- a place with its value before others; a place that has none is left out
abbrev pub with_entry : {T : Type 0} → ℕ → Option T → List (ℕ × T) → List (ℕ × T)
with_entry place None entries = entries
with_entry place (Some value) entries = (place, value) ∷ entries

-- places with their values; the first value is that of the place `base`
abbrev pub entries_of : {T : Type 0} → List T → ℕ → List ℕ → List (ℕ × T)
entries_of values base [] = []
entries_of values base (place ∷ places) = with_entry place (slice_get values (place - base)) (entries_of values base places)

-- so many lists: the rings of the first ends. One more end has the free nodes, and the nodes come behind it
unfoldable pub lists_in : {T : Type 0} → List Link → List T → ℕ → List (List (ℕ × T))
lists_in links values lists = map (entries_of values (lists + 1)) (rings_below links lists)

abbrev pub ring : List (List ℕ) → ℕ → List ℕ
ring rings end = slice_index_or rings end []

-- a fact of each number of a list
abbrev pub Each : (ℕ → Type 0) → List ℕ → Type 0
Each P [] = Unit {0}
Each P (x ∷ xs) = P x × Each P xs

-- one place comes right after another
pub record IsJoined (links : List Link) (first next : ℕ) : Type 0 where
  pub after : after links first ≡ next
  pub before : before links next ≡ first

-- these places come one after another between two
abbrev pub IsChain : List Link → ℕ → List ℕ → ℕ → Type 0
IsChain links first [] last = IsJoined links first last
IsChain links first (place ∷ places) last = IsJoined links first place × IsChain links place places last

-- a node: behind the ends, and among the links
pub record IsNode (ends size place : ℕ) : Type 0 where
  pub low : ends ≤ place
  pub high : place < size

-- the rings of all ends
pub record HasRings (links : List Link) (rings : List (List ℕ)) : Type 0 where
  pub chained : (end : ℕ) → end < length rings → IsChain links end (ring rings end) end
  pub nodes : (end : ℕ) → end < length rings → Each (IsNode (length rings) (length links)) (ring rings end)
  pub few : sum_by length rings + length rings ≤ length links

-- a pool: its rings, a value for each node, and room for what is promised
pub record IsPool {T : Type 0} (links : List Link) (values : List T) (lists spare links_room values_room : ℕ) : Type 0 where
  pub rings : HasRings links (rings_below links (lists + 1))
  pub size : length links ≡ lists + 1 + length values
  pub in_links : spare ≤ length (ring_of links lists) + links_room
  pub in_values : spare ≤ length (ring_of links lists) + values_room
