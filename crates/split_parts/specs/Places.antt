-- Where members stand: in which part, by its place among the parts, and with which own number.
use Rattle.std.specs.Prelude.{◌≡◌, ℕ, ◌<◌, ◌≤◌, ◌==◌, if◌then◌else◌, List, [], length, slice_index_or, Option, Some, None}
use Rattle.split_parts.specs.declared.places.Place.{Place}
use Rattle.split_parts.specs.Own.{number_in}

-- the own number in part number k of who stands there
abbrev pub number_for : ℕ → Place → Option ℕ
number_for k place = if place.part == k then Some place.number else None

-- a member's place, if it has this own number in part number k, and else another
abbrev pub place_or : Option ℕ → ℕ → Place → Place
place_or None k other = other
place_or (Some number) k other = record { part = k; number = number }

-- the place of each member in the first n parts, and nobody stands in a later one
pub record ArePlaces (parts : List (List ℕ)) (members n : ℕ) (places : List Place) : Type 0 where
  pub size : length places ≡ members
  pub own : (m k : ℕ) (d : Place) → m < members → k < n → number_for k (slice_index_or places m d) ≡ number_in (slice_index_or parts k []) m
  pub later : (m k : ℕ) (d : Place) → m < members → n ≤ k → k < length parts → number_for k (slice_index_or places m d) ≡ None

-- each member's number in part number k is its place in this list
abbrev pub IsNumbering : List ℕ → List Place → ℕ → Type 0
IsNumbering part places k = (m : ℕ) (d : Place) → m < length places → number_for k (slice_index_or places m d) ≡ number_in part m
