-- Names: 1 to 16 bytes of A-Z, 0-9 and '-'.
use Rattle.std.specs.Prelude.{◌≡◌, ℕ, ◌-◌, ◌==◌, ◌&&◌, ◌||◌, nat_le, Bool, List, ◌++◌, length, replicate, take, IsTrue}
use Rattle.std.specs.List.{list_all}
use Rattle.units_core.specs.declared.limits.TheConstants.{MOST_NAME}

-- a byte that a name may have: a capital letter, a digit or '-'
abbrev pub is_name_byte : ℕ → Bool
is_name_byte c = (nat_le 65 c && nat_le c 90) || (nat_le 48 c && nat_le c 57) || (c == 45)

-- the text is a name
abbrev pub is_name : List ℕ → Bool
is_name text = nat_le 1 (length text) && nat_le (length text) MOST_NAME && list_all is_name_byte text

-- the bytes that keep a name: the name, and zeros behind it
abbrev pub padded_name : List ℕ → List ℕ
padded_name text = text ++ replicate (MOST_NAME - length text) 0

-- how a name is kept: its bytes with zeros behind them, and how many it has
pub record IsKeptName (bytes : List ℕ) (size : ℕ) : Type 0 where
  pub padded : padded_name (take size bytes) ≡ bytes
  pub sized : length (take size bytes) ≡ size
  pub form : IsTrue (is_name (take size bytes))
