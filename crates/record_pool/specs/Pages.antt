-- Bytes one behind another in pages.
use Rattle.std.specs.Prelude.{◌≡◌, ℕ, List, [], ◌∷◌, length}

-- the bytes, and for how many more there is room without memory
pub record PagesView : Type 0 where
  pub bytes : List ℕ
  pub room : ℕ

-- each page has 65,536 bytes
abbrev pub AreFull : List (List ℕ) → Type 0
AreFull [] = Unit {0}
AreFull (page ∷ pages) = (length page ≡ 65536) × AreFull pages
