-- What taking a node for a new value makes of links and values.
use Rattle.std.specs.Prelude.{◌≡◌, ℕ, ◌+◌, ◌-◌, ◌==◌, ◌<◌, List, [], ◌∷◌, ◌++◌, length, slice_set, if◌then◌else◌}
use Rattle.linked_rows.specs.declared.links.Link.{Link}
use Rattle.linked_rows.specs.Links.{after, before, without_place}

-- the first free node; where none is free, a new one behind the others
abbrev pub taken_place : List Link → ℕ → ℕ
taken_place links free = if after links free == free then length links else after links free

abbrev pub taken_links : List Link → ℕ → List Link
taken_links links free =
    if after links free == free then links ++ record { before = length links; after = length links } ∷ [] else without_place links (after links free)

abbrev pub taken_values : {T : Type 0} → List Link → List T → ℕ → T → List T
taken_values links values free value =
    if after links free == free then values ++ value ∷ [] else slice_set values (after links free - free - 1) value

-- a node is free, with its value behind the end of the free ones, or there is room for a new one
pub record CanTake {T : Type 0} (links : List Link) (values : List T) (free links_capacity values_capacity : ℕ) : Type 0 where
  pub inside : free < length links
  pub size : length links ≡ free + 1 + length values
  pub new_link : after links free ≡ free → length links < links_capacity
  pub new_value : after links free ≡ free → length values < values_capacity
  pub above : (after links free ≡ free → ⊥) → free < after links free
  pub first : after links free < length links
  pub before : (after links free ≡ free → ⊥) → before links (after links free) < length links
  pub next : (after links free ≡ free → ⊥) → after links (after links free) < length links
