-- Where nothing is wrong with a posting.
use Rattle.std.proofs.Common.{◌≡◌, ℕ, zero, suc, ◌+◌, ◌==◌, Bool, true, false, List, [], ◌∷◌, length, slice_get, Option, Some, None, refl, sym, ap, ◌∙◌, if◌then◌else◌}
use Rattle.std.specs.List.{list_all}
use Rattle.std.proofs.lemmas.Bool.{eqb-true}
use Rattle.network_laws.specs.Clash.{first_clash}
use Rattle.network_laws.specs.Solutions.{ProblemData, SolutionData}
use Rattle.network_laws.specs.declared.clash.Clash.{Clash}
use Rattle.command_types.specs.declared.refusal.BadPost.{BadPost}
use Rattle.command_types.specs.declared.refusal.BadPost.TheVariants.{Shape}
use Rattle.command_types.specs.Cycles.{is_of_members, clash_or_next, first_uncertified, has_shape, bad_post}
use Rattle.posting.proofs.Places.{and_parts, passes_at}

shape_by : (shaped : Bool) (next : Option BadPost) → (if shaped then next else Some Shape) ≡ None → (shaped ≡ true) × (next ≡ None)
shape_by true next e = (refl, e)
shape_by false next e = cc

clash_by : (product : ℕ) (clash : Option Clash) (next : Option BadPost) → clash_or_next product clash next ≡ None → (clash ≡ None) × (next ≡ None)
clash_by product None next e = (refl, e)
clash_by product (Some clash) next e = cc

-- what a solution's clash with its problem is
abbrev pub clash_of : ProblemData → SolutionData → Option Clash
clash_of problem solution = first_clash problem.limits problem.network solution.network solution.potentials

no_clash_from : (k : ℕ) (problems : List ProblemData) (solutions : List SolutionData) → first_uncertified k problems solutions ≡ None → (product : ℕ) (problem : ProblemData) (solution : SolutionData) → slice_get problems product ≡ Some problem → slice_get solutions product ≡ Some solution →
    clash_of problem solution ≡ None
no_clash_from k [] solutions e product problem solution is is' = cc
no_clash_from k (p ∷ problems) [] e product problem solution is is' = cc
no_clash_from k (p ∷ problems) (s ∷ solutions) e zero problem solution is is' =
    let parts = clash_by k (clash_of p s) (first_uncertified (1 + k) problems solutions) e in
    let same : p ≡ problem = cc in
    let same' : s ≡ solution = cc in
    sym (ap (λ x. clash_of x s) same ∙ ap (λ x. clash_of problem x) same') ∙ parts.0
no_clash_from k (p ∷ problems) (s ∷ solutions) e (suc product) problem solution is is' =
    let parts = clash_by k (clash_of p s) (first_uncertified (1 + k) problems solutions) e in
    no_clash_from (1 + k) problems solutions parts.1 product problem solution is is'

module _ (members : ℕ) (problems : List ProblemData) (solutions : List SolutionData) where
  -- a right shape: one solution for each problem, each of so many members
  pub shape_size : has_shape members problems solutions ≡ true → length solutions ≡ length problems
  shape_size e = eqb-true (length solutions) (length problems) (and_parts (length solutions == length problems) (list_all (is_of_members members) solutions) e).0

  pub shape_members : has_shape members problems solutions ≡ true → (product : ℕ) (solution : SolutionData) → slice_get solutions product ≡ Some solution → solution.network.members ≡ members
  shape_members e product solution is =
      let all = (and_parts (length solutions == length problems) (list_all (is_of_members members) solutions) e).1 in
      let own = passes_at (is_of_members members) solutions all product solution is in
      eqb-true solution.network.members members (and_parts (solution.network.members == members) (length solution.potentials == members) own).0

  module _ (fine : bad_post members problems solutions ≡ None) where
    pub shaped : has_shape members problems solutions ≡ true
    shaped = (shape_by (has_shape members problems solutions) (first_uncertified 0 problems solutions) fine).0

    -- no product has a clash
    pub no_clash : (product : ℕ) (problem : ProblemData) (solution : SolutionData) → slice_get problems product ≡ Some problem → slice_get solutions product ≡ Some solution → clash_of problem solution ≡ None
    no_clash product problem solution is is' =
        no_clash_from 0 problems solutions (shape_by (has_shape members problems solutions) (first_uncertified 0 problems solutions) fine).1 product problem solution is is'
