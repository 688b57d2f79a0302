-- How the rows and potentials of a solution are put together, one member after another.
use Rattle.std.proofs.Common.{◌≡◌, ℕ, suc, ◌+◌, ◌<◌, ◌≤◌, ℤ, List, [], ◌∷◌, ◌++◌, length, drop, get_or, refl, sym, ap, ◌∙◌, append_assoc, add-one}
use Rattle.std.proofs.Math.Seq.{drop-cons}
use Rattle.std.proofs.lemmas.List.{append-nil, drop_all}
use Rattle.std.proofs.lemmas.List.Elements.{All-nil, All-cons}
use Rattle.std.specs.List.{All}
use Rattle.network_laws.specs.Solutions.{SolutionData, IsPotential}
use Rattle.command_types.specs.declared.roster.MemberRow.{MemberRow}
use Rattle.command_types.specs.declared.roster.ProductRow.{ProductRow}
use Rattle.command_types.specs.Session.{Draft, potentials_for, draft_solution, solutions_for}

rest_at : {X : Type 0} (xs : List X) (k : ℕ) (x : X) → k < length xs → get_or xs k x ≡ x → drop k xs ≡ x ∷ drop (k + 1) xs
rest_at xs k x lt is = drop-cons xs k x lt ∙ ap (λ y. y ∷ drop (suc k) xs) is ∙ ap (λ n. x ∷ drop n xs) (sym (add-one k))

-- one member more of a product's potentials
pub potentials_step : (value_of : List ℕ → ℤ) (k : ℕ) (members : List MemberRow) (member : MemberRow) (values next whole : List ℤ) → k < length members → get_or members k member ≡ member →
    next ≡ values ++ value_of member.name ∷ [] → values ++ potentials_for value_of (drop k members) ≡ whole → next ++ potentials_for value_of (drop (k + 1) members) ≡ whole
potentials_step value_of k members member values next whole lt is added so_far =
    ap (λ v. v ++ potentials_for value_of (drop (k + 1) members)) added
    ∙ append_assoc values (value_of member.name ∷ []) (potentials_for value_of (drop (k + 1) members))
    ∙ ap (λ rest. values ++ potentials_for value_of rest) (sym (rest_at members k member lt is))
    ∙ so_far

-- one product more
pub solutions_step : (members : List MemberRow) (draft : Draft) (k : ℕ) (products : List ProductRow) (product : ProductRow) (solutions next whole : List SolutionData) → k < length products → get_or products k product ≡ product →
    next ≡ solutions ++ draft_solution members draft product.name ∷ [] → solutions ++ solutions_for members draft (drop k products) ≡ whole → next ++ solutions_for members draft (drop (k + 1) products) ≡ whole
solutions_step members draft k products product solutions next whole lt is added so_far =
    ap (λ v. v ++ solutions_for members draft (drop (k + 1) products)) added
    ∙ append_assoc solutions (draft_solution members draft product.name ∷ []) (solutions_for members draft (drop (k + 1) products))
    ∙ ap (λ rest. solutions ++ solutions_for members draft rest) (sym (rest_at products k product lt is))
    ∙ so_far

-- after the last product
pub solutions_end : (members : List MemberRow) (draft : Draft) (k : ℕ) (products : List ProductRow) (solutions whole : List SolutionData) → length products ≤ k →
    solutions ++ solutions_for members draft (drop k products) ≡ whole → solutions ≡ whole
solutions_end members draft k products solutions whole past so_far =
    sym (append-nil solutions) ∙ ap (λ rest. solutions ++ solutions_for members draft rest) (sym (drop_all k products past)) ∙ so_far

pub potentials_all : (value_of : List ℕ → ℤ) → ((name : List ℕ) → IsPotential (value_of name)) → (members : List MemberRow) → All IsPotential (potentials_for value_of members)
potentials_all value_of each [] = All-nil IsPotential
potentials_all value_of each (member ∷ members) = All-cons IsPotential (value_of member.name) (potentials_for value_of members) (each member.name) (potentials_all value_of each members)

pub potentials_length : (value_of : List ℕ → ℤ) (members : List MemberRow) → length (potentials_for value_of members) ≡ length members
potentials_length value_of [] = refl
potentials_length value_of (member ∷ members) = ap suc (potentials_length value_of members)
