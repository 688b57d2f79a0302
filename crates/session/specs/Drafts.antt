-- How a draft is kept: entries by the names of a product and its members.
use Rattle.std.specs.Prelude.{◌≡◌, ℕ, ◌≤◌, ◌&&◌, ℤ, Bool, List, length, map, unwrap_or}
use Rattle.std.specs.Map.{lookup}
use Rattle.std.specs.Str.{bytes_eq}
use Rattle.network_laws.specs.Networks.{NetworkData}
use Rattle.network_laws.specs.Solutions.{IsPotential}
use Rattle.command_types.specs.declared.roster.MemberRow.{MemberRow}
use Rattle.command_types.specs.Session.{DraftRow, DraftPotential, draft_amount, draft_sum, draft_potential, network_rows}
use Rattle.session.specs.declared.draft_rows.PairKey.{PairKey}
use Rattle.session.specs.declared.draft_potentials.PlaceKey.{PlaceKey}
use Rattle.units_core.specs.declared.limits.TheConstants.{MOST_GROSS}

-- an entry as a row of a draft
abbrev pub row_of : PairKey × ℕ → DraftRow
row_of entry = record { product = entry.0.product; seller = entry.0.seller; buyer = entry.0.buyer; amount = entry.1 }

-- the entries as a draft's rows
abbrev pub rows_of : List (PairKey × ℕ) → List DraftRow
rows_of entries = map row_of entries

-- the two keys are of one product and pair
abbrev pub is_same_pair : PairKey → PairKey → Bool
is_same_pair a b = bytes_eq a.product b.product && bytes_eq a.seller b.seller && bytes_eq a.buyer b.buyer

-- an entry as a potential of a draft
abbrev pub potential_of : PlaceKey × ℤ → DraftPotential
potential_of entry = record { product = entry.0.product; member = entry.0.member; value = entry.1 }

-- the entries as a draft's potentials
abbrev pub potentials_of : List (PlaceKey × ℤ) → List DraftPotential
potentials_of entries = map potential_of entries

-- the two keys are of one product and member
abbrev pub is_same_place : PlaceKey → PlaceKey → Bool
is_same_place a b = bytes_eq a.product b.product && bytes_eq a.member b.member

-- the network that rows make for a product: a row for each pair of members that they have an amount for
abbrev pub draft_network : List MemberRow → List DraftRow → List ℕ → NetworkData
draft_network members rows product = record { members = length members; rows = network_rows (λ seller buyer. draft_amount product seller buyer rows) members 0 members }

-- what the draft has for a pair is found by its key
abbrev pub AreFound : List (PairKey × ℕ) → Type 0
AreFound entries = (key : PairKey) → draft_amount key.product key.seller key.buyer (rows_of entries) ≡ unwrap_or (lookup (is_same_pair key) entries) 0

-- the sum of a product is found by its name
abbrev pub AreSums : List (PairKey × ℕ) → List (List ℕ × ℕ) → Type 0
AreSums entries sums = (product : List ℕ) → draft_sum product (rows_of entries) ≡ unwrap_or (lookup (bytes_eq product) sums) 0

-- no product passes the largest gross
abbrev pub AreWithin : List (PairKey × ℕ) → Type 0
AreWithin entries = (product : List ℕ) → draft_sum product (rows_of entries) ≤ MOST_GROSS

-- no member has an amount to itself
abbrev pub NoneWithItself : List (PairKey × ℕ) → Type 0
NoneWithItself entries = (product member : List ℕ) → draft_amount product member member (rows_of entries) ≡ 0

-- each potential is one
abbrev pub AreInRange : List (PlaceKey × ℤ) → Type 0
AreInRange entries = (product member : List ℕ) → IsPotential (draft_potential product member (potentials_of entries))
