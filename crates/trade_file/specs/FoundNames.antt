-- What is kept of the names that a trade file had so far.
use Rattle.std.specs.Prelude.{◌≡◌, ◌⊎◌, ℕ, ◌<◌, ◌≤◌, ◌^◌, List, length, take, get_or, Option, Some}
use Rattle.command_types.specs.Roster.{Rows}
use Rattle.command_types.specs.Stamps.{key_number, stamp}
use Rattle.trade_file.specs.declared.found_names.FoundNames.{FoundNames}
use Rattle.trade_file.specs.declared.found_names.TradeNames.{TradeNames}
use Rattle.trade_file.specs.PlainRow.{comma}
use Rattle.trade_file.specs.TradeFile.{member_of, product_of}

-- at most six bytes
pub record IsShortText (text : List ℕ) : Type 0 where
  pub few : length text ≤ 6
  pub bytes : (i : ℕ) → get_or text i 0 < 256

-- a short text that has this key and this size
pub record IsShort (text : List ℕ) (key size : ℕ) : Type 0 where
  pub short : IsShortText text
  pub sized : length text ≡ size
  pub keyed : key ≡ key_number text

-- a text that a comma ends, of at most six bytes, at the front of another, with its key and its size
pub record IsShortFront (text : List ℕ) (key size : ℕ) : Type 0 where
  pub within : size < length text
  pub ended : get_or text size 0 ≡ comma
  pub few : size ≤ 6
  pub keyed : key ≡ key_number (take size text)
  pub small : key < 2 ^ 61

-- a name that a comma ends at the front of a text: it stands for this place
pub record IsNamed (read : List ℕ → Option ℕ) (text : List ℕ) (place end : ℕ) : Type 0 where
  pub within : end < length text
  pub ended : get_or text end 0 ≡ comma
  pub named : read (take end text) ≡ Some place

-- the short name that has this stamp stands for this place
pub record StandsFor (read : List ℕ → Option ℕ) (mark place : ℕ) : Type 0 where
  pub name : List ℕ
  pub short : IsShortText name
  pub mark_is : mark ≡ stamp name
  pub place_is : read name ≡ Some place

-- each slot has no stamp, or that of a name with what it stands for
abbrev pub Knows : (List ℕ → Option ℕ) → FoundNames → Type 0
Knows read found = (slot : ℕ) → slot < 1024 → (get_or found.stamps slot 0 ≡ 0) ⊎ StandsFor read (get_or found.stamps slot 0) (get_or found.places slot 0)

-- of a roster's members and of its products
pub record AreFound (rows : Rows) (names : TradeNames) : Type 0 where
  pub members : Knows (member_of rows) names.members
  pub products : Knows (product_of rows) names.products
