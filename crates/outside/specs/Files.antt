-- What files hold.
use Rattle.std.specs.Prelude.{◌≡◌, ℕ, List, take, Option, Some, None}
use Rattle.std.specs.Prelude.{option_map}

-- the bytes of the file under each name, and none under a name that no file has
abbrev pub Folder : Type 0
Folder = List ℕ → Option (List ℕ)

-- There is a file under the name, and these are its first bytes, as many as the most says or all of them. It says
-- nothing where the files aren't told.
abbrev pub IsFront : Option Folder → List ℕ → ℕ → List ℕ → Type 0
IsFront None name most bytes = Unit {0}
IsFront (Some folder) name most bytes = option_map (take most) (folder name) ≡ Some bytes
