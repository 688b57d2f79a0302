-- Facts of each element of a list.
use Rattle.std.proofs.Common.{suc, zero, ◌+◌, ◌≤◌, Bool, true, false, List, [], ◌∷◌, ◌++◌, length, if◌then◌else◌, arith}
use Rattle.std.specs.Prelude.{All}
use Rattle.std.proofs.lemmas.List.{length-append}
use Rattle.std.proofs.lemmas.List.Elements.{All-append}

pub all_first : {X : Type 0} (P : X → Type 0) (x : X) (xs : List X) → All P (x ∷ xs) → P x
all_first P x xs all = all 0 x (omega arith)

pub all_rest : {X : Type 0} (P : X → Type 0) (x : X) (xs : List X) → All P (x ∷ xs) → All P xs
all_rest P x xs all k d lt = all (suc k) d (omega arith)

one_only : {X : Type 0} (P : X → Type 0) (x : X) → P x → All P (x ∷ [])
one_only P x holds zero d lt = holds
one_only P x holds (suc k) d lt = absurd (omega arith)

-- a list that may have one element more
pub all_grown : {X : Type 0} (P : X → Type 0) (more : Bool) (xs : List X) (x : X) → All P xs → P x → All P (if more then xs ++ x ∷ [] else xs)
all_grown P true xs x all holds = All-append P xs (x ∷ []) all (one_only P x holds)
all_grown P false xs x all holds = all

pub length_grown : {X : Type 0} (more : Bool) (xs : List X) (x : X) → length (if more then xs ++ x ∷ [] else xs) ≤ length xs + 1
length_grown true xs x = omega (arith, length-append xs (x ∷ []))
length_grown false xs x = omega arith
