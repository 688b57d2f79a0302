-- Solutions, one problem after another.
use Rattle.std.proofs.Common.{◌≡◌, ℕ, ◌<◌, ◌+◌, List, [], ◌∷◌, ◌++◌, length, take, get_or, sym, subst, ap, ◌∙◌}
use Rattle.std.proofs.lemmas.List.{take_more}
use Rattle.network_laws.specs.Solutions.{ProblemData, SolutionData}
use Rattle.network_laws.specs.Solved.{IsSolved, AreSolved}

-- one more
pub solved_more : (problems : List ProblemData) (solutions : List SolutionData) (problem : ProblemData) (solution : SolutionData) → AreSolved problems solutions → IsSolved problem solution →
    AreSolved (problems ++ problem ∷ []) (solutions ++ solution ∷ [])
solved_more [] [] problem solution before now = (now, tt)
solved_more (p ∷ problems) (s ∷ solutions) problem solution before now = (before.0, solved_more problems solutions problem solution before.1 now)
solved_more [] (s ∷ solutions) problem solution before now = absurd before
solved_more (p ∷ problems) [] problem solution before now = absurd before

-- the problem at the next place
pub solved_step : (k : ℕ) (problems : List ProblemData) (problem d : ProblemData) (solutions solutions' : List SolutionData) (solution : SolutionData) → k < length problems → get_or problems k d ≡ problem → solutions' ≡ solutions ++ solution ∷ [] →
    IsSolved problem solution → AreSolved (take k problems) solutions → AreSolved (take (k + 1) problems) solutions'
solved_step k problems problem d solutions solutions' solution within is more now before =
    let P : List ProblemData → Type 0 = λ ps. AreSolved ps solutions' in
    let Q : List SolutionData → Type 0 = λ ss. AreSolved (take k problems ++ problem ∷ []) ss in
    let one : take k problems ++ problem ∷ [] ≡ take (k + 1) problems = ap (λ x. take k problems ++ x ∷ []) (sym is) ∙ sym (take_more problems k d within) in
    subst P one (subst Q (sym more) (solved_more (take k problems) solutions problem solution before now))
