-- What was found at the places of a list.
use Rattle.std.proofs.Common.{◌≡◌, ℕ, ◌<◌, ◌+◌, ◌≤◌, List, [], ◌∷◌, ◌++◌, length, take, get_or, slice_get, Option, Some, None, inl, inr, ◌⊎◌, sym, subst, ap, ◌∙◌, arith, refl}
use Rattle.std.proofs.lemmas.List.{length-append}
use Rattle.std.proofs.lemmas.Option.{slice_get_cases}
use Rattle.network_laws.specs.Solutions.{ProblemData, SolutionData}
use Rattle.network_laws.specs.Solved.{AreSolved}
use Rattle.network_laws.proofs.SolvedFacts.{solved_step}
use Rattle.parallel_solver.specs.Places.{SolvesAt}
use Rattle.parallel_solver.specs.Jobs.{AreFound}

-- the place behind a list has what follows
pub behind : {T : Type 0} (xs ys : List T) (y : T) → slice_get (xs ++ y ∷ ys) (length xs) ≡ Some y
behind [] ys y = refl
behind (x ∷ xs) ys y = behind xs ys y

stepped : (k : ℕ) (problems : List ProblemData) (solutions solutions' : List SolutionData) (solution : SolutionData) → k < length problems → SolvesAt problems k solution → solutions' ≡ solutions ++ solution ∷ [] → AreSolved (take k problems) solutions →
    ((x : ProblemData) × (k < length problems) × (slice_get problems k ≡ Some x) × (get_or problems k x ≡ x)) ⊎ ((length problems ≤ k) × (slice_get problems k ≡ None)) → AreSolved (take (k + 1) problems) solutions'
stepped k problems solutions solutions' solution within solves more before (inl (x, lt, at, is)) = solved_step k problems x x solutions solutions' solution within is more (solves x at) before
stepped k problems solutions solutions' solution within solves more before (inr (past, at)) = absurd (omega arith)

pub collected_step : (problems : List ProblemData) (found yielded rest : List (Option SolutionData)) (solutions solutions' : List SolutionData) (slot : Option SolutionData) (solution : SolutionData) → length found ≡ length problems →
    ((place : ℕ) (s : SolutionData) → slice_get found place ≡ Some (Some s) → SolvesAt problems place s) → yielded ++ slot ∷ rest ≡ found → slot ≡ Some solution → solutions' ≡ solutions ++ solution ∷ [] →
    AreSolved (take (length yielded) problems) solutions → AreSolved (take (length (yielded ++ slot ∷ [])) problems) solutions'
collected_step problems found yielded rest solutions solutions' slot solution each solved order is more before =
    let k = length yielded in
    let within : k < length problems = let e = ap length order in omega (arith, length-append yielded (slot ∷ rest)) in
    let at : slice_get found k ≡ Some (Some solution) = ap (λ xs. slice_get xs k) (sym order) ∙ behind yielded rest slot ∙ ap Some is in
    let P : ℕ → Type 0 = λ n. AreSolved (take n problems) solutions' in
    subst P (sym (length-append yielded (slot ∷ [])))
    (stepped k problems solutions solutions' solution within (solved k solution at) more before (slice_get_cases problems k).1)

some_none : (s : SolutionData) → Some None ≡ Some (Some s) → ⊥
some_none s e = let f : None ≡ Some s = cc in absurd (let g = f in cc)

-- where each place was found, none is without a solution
pub never_missing : (problems : List ProblemData) (found yielded rest : List (Option SolutionData)) (slot : Option SolutionData) → length found ≡ length problems → AreFound problems found → yielded ++ slot ∷ rest ≡ found → slot ≡ None → ⊥
never_missing problems found yielded rest slot size all order none =
    let within : length yielded < length problems = let e = ap length order in omega (arith, length-append yielded (slot ∷ rest)) in
    let here = all (length yielded) within in
    let at : slice_get found (length yielded) ≡ Some slot = ap (λ xs. slice_get xs (length yielded)) (sym order) ∙ behind yielded rest slot in
    some_none here.0 (ap Some (sym none) ∙ (sym at ∙ here.1))
