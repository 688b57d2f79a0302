-- Nothing is wrong with solutions of the problems of a roster's products.
use Rattle.std.proofs.Common.{◌≡◌, ℕ, ◌+◌, ◌==◌, true, List, [], ◌∷◌, length, Some, None, refl, ap, ◌∙◌, arith, if◌then◌else◌}
use Rattle.std.specs.List.{list_all}
use Rattle.std.proofs.lemmas.Bool.{eq-eqb}
use Rattle.network_laws.specs.Clash.{first_clash}
use Rattle.network_laws.specs.Solutions.{ProblemData, SolutionData}
use Rattle.network_laws.specs.Solved.{IsSolved, AreSolved}
use Rattle.network_laws.proofs.Clashes.{no_clash_is_certified}
use Rattle.command_types.specs.declared.cycle.Mode.{Mode}
use Rattle.command_types.specs.declared.refusal.BadPost.TheVariants.{Shape}
use Rattle.command_types.specs.declared.roster.ProductRow.{ProductRow}
use Rattle.command_types.specs.declared.tolerance.ToleranceRow.{ToleranceRow}
use Rattle.command_types.specs.declared.trade.TradeRow.{TradeRow}
use Rattle.command_types.specs.Roster.{Rows}
use Rattle.command_types.specs.Cycles.{problem_of, problems_from, problems_of, is_of_members, clash_or_next, first_uncertified, has_shape, bad_post}

no_clash : (problem : ProblemData) (solution : SolutionData) → IsSolved problem solution → first_clash problem.limits problem.network solution.network solution.potentials ≡ None
no_clash problem solution s =
    let a = s.solves.certified.admissible in
    (no_clash_is_certified problem.limits problem.network solution.network solution.potentials a.limit_members a.new_members).1 s.solves.certified

of_members : (members : ℕ) (problem : ProblemData) (solution : SolutionData) → problem.network.members ≡ members → IsSolved problem solution → is_of_members members solution ≡ true
of_members members problem solution same s =
    let first : (solution.network.members == members) ≡ true = eq-eqb solution.network.members members (s.solves.certified.admissible.new_members ∙ same) in
    let second : (length solution.potentials == members) ≡ true = eq-eqb (length solution.potentials) members (s.fits.one_each ∙ (s.solves.certified.admissible.new_members ∙ same)) in
    rw (first, second) refl

-- what holds of solutions of the products from a place on
record IsFine (roster : Rows) (rows : List TradeRow) (settings : List ToleranceRow) (mode : Mode) (product : ℕ) (products : List ProductRow) (solutions : List SolutionData) : Type 0 where
  size : length solutions ≡ length (problems_from roster rows settings mode product products)
  shape : list_all (is_of_members (length roster.members)) solutions ≡ true
  certified : (p : ℕ) → first_uncertified p (problems_from roster rows settings mode product products) solutions ≡ None

are_fine : (roster : Rows) (rows : List TradeRow) (settings : List ToleranceRow) (mode : Mode) (product : ℕ) (products : List ProductRow) (solutions : List SolutionData) →
    AreSolved (problems_from roster rows settings mode product products) solutions → IsFine roster rows settings mode product products solutions
are_fine roster rows settings mode product [] [] solved = record { size = refl; shape = refl; certified = λ p. refl }
are_fine roster rows settings mode product [] (s ∷ solutions) solved = absurd solved
are_fine roster rows settings mode product (row ∷ products) [] solved = absurd solved
are_fine roster rows settings mode product (row ∷ products) (s ∷ solutions) solved =
    let rest = are_fine roster rows settings mode (1 + product) products solutions solved.1 in
    let problem = problem_of roster rows settings mode product in
    let one = of_members (length roster.members) problem s refl solved.0 in
    let clash = no_clash problem s solved.0 in
    record {
      size = omega (arith, rest.size);
      shape = rw (one, rest.shape) refl;
      certified = λ p. ap (λ c. clash_or_next p c (first_uncertified (1 + p) (problems_from roster rows settings mode (1 + product) products) solutions)) clash ∙ rest.certified (1 + p);
    }

-- nothing is wrong with a posting of them
pub posting_is_fine : (roster : Rows) (rows : List TradeRow) (settings : List ToleranceRow) (mode : Mode) (solutions : List SolutionData) → AreSolved (problems_of roster rows settings mode) solutions →
    bad_post (length roster.members) (problems_of roster rows settings mode) solutions ≡ None
posting_is_fine roster rows settings mode solutions solved =
    let f = are_fine roster rows settings mode 0 roster.products solutions solved in
    let size : (length solutions == length (problems_of roster rows settings mode)) ≡ true = eq-eqb _ _ f.size in
    let shaped : has_shape (length roster.members) (problems_of roster rows settings mode) solutions ≡ true = rw (size, f.shape) refl in
    ap (λ b. if b then first_uncertified 0 (problems_of roster rows settings mode) solutions else Some Shape) shaped ∙ f.certified 0
