-- What the first condition refuses is refused, whatever follows.
use Rattle.std.proofs.Common.{◌≡◌, Bool, true, false, List, [], ◌∷◌, Some}
use Rattle.command_types.specs.declared.refusal.Refusal.{Refusal}
use Rattle.command_types.specs.Machine.{first_of}

pub stopped : (test : Bool) (refusal found : Refusal) (rows : List (Bool × Refusal)) → Some found ≡ first_of ((test, refusal) ∷ []) → Some found ≡ first_of ((test, refusal) ∷ rows)
stopped true refusal found rows is = is
stopped false refusal found rows is = cc
