-- What calls at places made.
use Rattle.std.specs.Prelude.{◌≡◌, ℕ, ◌<◌, List, length, slice_index_or, Result, Ok}
use Rattle.std.specs.Fn.{FnReturns}
use denote.Param.Members.{Shared}

module _ {F T E : Type 0} (g : Shared F (ℕ × Unit {0}) (Result T E)) (make : F) where
  -- each is what a call at its place may give; the pair's first shows at which place to use the second
  abbrev pub AreMade : List T → Type 0
  AreMade made =
      (place : ℕ) (d : T) → place < length made → (slice_index_or made place d ≡ slice_index_or made place d) × FnReturns g make (place, tt) (Ok (slice_index_or made place d))
