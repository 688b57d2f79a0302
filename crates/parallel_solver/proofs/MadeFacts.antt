-- What was made at each place, once no place is empty.
use Rattle.std.proofs.Common.{◌≡◌, ◌∙◌, refl, sym, ap, subst, ℕ, ◌<◌, List, map, length, get_or, Option, Some, Result, Ok, arith}
use Rattle.std.proofs.lemmas.List.{length-map, get_or-map}
use Rattle.std.specs.Prelude.{IfSome}
use Rattle.std.specs.Fn.{FnReturns}
use Rattle.parallel_solver.specs.Made.{AreMade}
use denote.Param.Members.{Shared}

module _ {F T E : Type 0} (g : Shared F (ℕ × Unit {0}) (Result T E)) (make : F) where
  pub all_made : (found : List (Option T)) (made : List T) → map Some made ≡ found
      → ((place : ℕ) (d : Option T) → place < length found → IfSome (get_or found place d) (λ x. FnReturns g make (place, tt) (Ok x))) → AreMade g make made
  all_made found made same each place d within =
      let size : length found ≡ length made = ap length (sym same) ∙ length-map made Some in
      let at : get_or found place (Some d) ≡ Some (get_or made place d) = ap (λ xs. get_or xs place (Some d)) (sym same) ∙ get_or-map Some made place d (Some d) within in
      let Says : Option T → Type 0 = λ o. IfSome o (λ x. FnReturns g make (place, tt) (Ok x)) in
      (refl, subst Says at (each place (Some d) (omega (arith, size, within))))
