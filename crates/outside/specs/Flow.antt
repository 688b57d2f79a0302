-- What goes through sources and sinks.
use Rattle.std.specs.Prelude.{◌≡◌, ◌<◌, ℕ, List, [], ◌++◌, length, take, Option, Some, None}

-- the bytes that a source gave, and those that it has left
pub record Flow : Type 0 where
  pub given : List ℕ
  pub left : List ℕ

-- From before to after, a source gave this piece. It says nothing where the source doesn't tell its bytes.
abbrev pub Gives : Option Flow → Option Flow → List ℕ → Type 0
Gives None after piece = Unit {0}
Gives (Some before) None piece = ⊥
Gives (Some before) (Some after) piece = (after.given ≡ before.given ++ piece) × (before.left ≡ piece ++ after.left)

-- The source has nothing left, where it tells its bytes.
abbrev pub IsAtEnd : Option Flow → Type 0
IsAtEnd None = Unit {0}
IsAtEnd (Some flow) = flow.left ≡ []

-- From before to after, a sink took this piece. It says nothing where the sink doesn't tell its bytes.
abbrev pub Takes : Option (List ℕ) → Option (List ℕ) → List ℕ → Type 0
Takes None after piece = Unit {0}
Takes (Some before) None piece = ⊥
Takes (Some before) (Some after) piece = after ≡ before ++ piece

-- From before to after, a sink took a front of the bytes that leaves at least one out.
abbrev pub TakesFront : Option (List ℕ) → Option (List ℕ) → List ℕ → Type 0
TakesFront before after bytes = (n : ℕ) × (n < length bytes) × Takes before after (take n bytes)
