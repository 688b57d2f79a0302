-- What contracts see of the settings of all members, and how they are kept.
use Rattle.std.specs.Prelude.{◌≡◌, ℕ, ◌+◌, ◌*◌, ◌%◌, ◌<◌, ◌≤◌, ◌==◌, ◌&&◌, Bool, false, List, [], ◌∷◌, None, slice_index_or}
use Rattle.std.specs.Option.{is_some}
use Rattle.command_types.specs.declared.trade.Side.{Side}
use Rattle.command_types.specs.declared.tolerance.ToleranceRow.{ToleranceRow}
use Rattle.command_types.specs.Tolerances.{setting_place, with_setting, floor_in, ceiling_in}

-- settings in their order, how many were kept, and for how many more there is room
pub record SettingsView : Type 0 where
  pub settings : List ToleranceRow
  pub count : ℕ
  pub spare : ℕ

-- all settings, those of the last taking, and for how many more there is room
pub record TolerancesView : Type 0 where
  pub settings : List ToleranceRow
  pub taken : List ToleranceRow
  pub spare : ℕ

-- where the setting of a member stands, for its side of a pair
abbrev pub place_of : ℕ → ℕ → ℕ → ℕ → ℕ
place_of member product other side = ((member * 65536 + product) * 65536 + other) * 2 + side

-- the settings that are kept, whatever their order, each put at its place
abbrev pub settings_of : List (ℕ × ToleranceRow) → List ToleranceRow
settings_of [] = []
settings_of (entry ∷ entries) = with_setting entry.1 (settings_of entries)

-- settings put over others, each at its place
abbrev pub put_over : List ToleranceRow → List ToleranceRow → List ToleranceRow
put_over below [] = below
put_over below (row ∷ rows) = with_setting row (put_over below rows)

-- a setting that is kept by this number: it is its place, and no two different settings have the same
pub record IsKeptBy (at : ℕ) (row : ToleranceRow) : Type 0 where
  pub place : at ≡ setting_place row
  pub member : row.member < 65536
  pub product : row.product < 65536
  pub other : row.other < 65536

-- each setting is kept by its place
abbrev pub AreKept : List (ℕ × ToleranceRow) → Type 0
AreKept [] = Unit {0}
AreKept (entry ∷ entries) = IsKeptBy entry.0 entry.1 × AreKept entries

-- each entry is at its setting's place
abbrev pub AtPlaces : List (ℕ × ToleranceRow) → Type 0
AtPlaces [] = Unit {0}
AtPlaces (entry ∷ entries) = (entry.0 ≡ setting_place entry.1) × AtPlaces entries

-- all that is kept, and room in the map for what is promised
pub record IsStore (entries : List (ℕ × ToleranceRow)) (spare map_spare : ℕ) : Type 0 where
  pub kept : AreKept entries
  pub room : spare ≤ map_spare

-- the setting is one of a product, and has a ceiling
abbrev pub sets_ceiling : ℕ → ToleranceRow → Bool
sets_ceiling product row = (row.product == product) && is_some row.ceiling

-- no member set a ceiling in a product
abbrev pub HaveNoCeiling : List ToleranceRow → ℕ → Type 0
HaveNoCeiling settings product = (member other : ℕ) (side : Side) → ceiling_in settings member product other side ≡ None

-- the setting is one of a product, and the member's own
abbrev pub sets_in : ℕ → ℕ → ToleranceRow → Bool
sets_in product member row = (row.product == product) && (row.member == member)

-- the member set nothing in the product
abbrev pub SetsNothing : List ToleranceRow → ℕ → ℕ → Type 0
SetsNothing settings product member = (other : ℕ) (side : Side) → (floor_in settings member product other side ≡ 0) × (ceiling_in settings member product other side ≡ None)

-- a member without a mark set nothing in the product
abbrev pub AreMarked : List ToleranceRow → ℕ → List Bool → Type 0
AreMarked settings product marks = (member : ℕ) → slice_index_or marks (member % 256) false ≡ false → SetsNothing settings product member
