-- Rings of places: the one before each place, the one after it, and the places of a ring.
use Rattle.std.specs.Prelude.{ℕ, zero, suc, ◌==◌, List, [], ◌∷◌, ◌++◌, length, slice_index_or, slice_set, if◌then◌else◌}
use Rattle.linked_rows.specs.declared.links.Link.{Link}

-- what a reader of links takes for those behind their end
abbrev pub no_link : Link
no_link = record { before = 0; after = 0 }

-- the place after this one
unfoldable pub after : List Link → ℕ → ℕ
after links place = (slice_index_or links place no_link).after

-- the place before it
unfoldable pub before : List Link → ℕ → ℕ
before links place = (slice_index_or links place no_link).before

unfoldable pub with_after : List Link → ℕ → ℕ → List Link
with_after links place next = slice_set links place (record (slice_index_or links place no_link) { after = next })

unfoldable pub with_before : List Link → ℕ → ℕ → List Link
with_before links place first = slice_set links place (record (slice_index_or links place no_link) { before = first })

-- the links where a place follows another
abbrev pub joined : List Link → ℕ → ℕ → List Link
joined links first next = with_before (with_after links first next) next first

-- where a place is taken out of its ring
abbrev pub without_place : List Link → ℕ → List Link
without_place links place = joined links (before links place) (after links place)

-- where a place is put last into the ring of an end
abbrev pub with_last_place : List Link → ℕ → ℕ → List Link
with_last_place links end place = joined (joined links (before links end) place) place end

-- the places from this one on, and before the end, at most so many
abbrev pub walk : List Link → ℕ → ℕ → ℕ → List ℕ
walk links zero end place = []
walk links (suc most) end place = if place == end then [] else place ∷ walk links most end (after links place)

-- the places of the ring of an end
abbrev pub ring_of : List Link → ℕ → List ℕ
ring_of links end = walk links (length links) end (after links end)

-- the rings of the first ends
abbrev pub rings_below : List Link → ℕ → List (List ℕ)
rings_below links zero = []
rings_below links (suc n) = rings_below links n ++ ring_of links n ∷ []

-- so many ends, each alone
abbrev pub ends_alone : ℕ → List Link
ends_alone zero = []
ends_alone (suc n) = ends_alone n ++ record { before = n; after = n } ∷ []
