-- The problems of a version: one for each product, over the network of its frozen trades.
use Rattle.std.proofs.Common.{◌≡◌, ℕ, zero, suc, ◌+◌, ◌<◌, ◌++◌, List, [], ◌∷◌, length, map, slice_get, Some, refl, sym, ap, ◌∙◌, arith}
use Rattle.std.proofs.lemmas.List.{append_assoc, append-nil}
use Rattle.std.proofs.lemmas.List.Elements.{All-nil, All-cons}
use Rattle.std.proofs.lemmas.Option.{slice_get_within}
use Rattle.network_laws.specs.Networks.{NetworkData}
use Rattle.network_laws.specs.Solutions.{ProblemData}
use Rattle.command_types.specs.declared.cycle.Mode.{Mode}
use Rattle.command_types.specs.declared.roster.ProductRow.{ProductRow}
use Rattle.command_types.specs.declared.tolerance.ToleranceRow.{ToleranceRow}
use Rattle.command_types.specs.declared.trade.TradeRow.{TradeRow}
use Rattle.command_types.specs.Roster.{Rows}
use Rattle.command_types.specs.Books.{listed_below, frozen_network}
use Rattle.command_types.specs.Cycles.{problem_of, problems_from, problems_of, old_networks}
use Rattle.acceptance.specs.Renewals.{frozen_networks}
use Rattle.posting.specs.Posted.{AreOfMembers}

module _ (roster : Rows) (rows : List TradeRow) (settings : List ToleranceRow) (mode : Mode) where
  abbrev problem : ℕ → ProblemData
  problem product = problem_of roster rows settings mode product

  abbrev listed : ℕ → List NetworkData
  listed product = frozen_network (length roster.members) product rows ∷ []

  size_from : (k : ℕ) (products : List ProductRow) → length (problems_from roster rows settings mode k products) ≡ length products
  size_from k [] = refl
  size_from k (row ∷ products) = omega (arith, size_from (1 + k) products)

  pub problems_size : length (problems_of roster rows settings mode) ≡ length roster.products
  problems_size = size_from 0 roster.products

  at_from : (k j : ℕ) (products : List ProductRow) → j < length products → slice_get (problems_from roster rows settings mode k products) j ≡ Some (problem (k + j))
  at_from k j [] l = absurd (omega arith)
  at_from k zero (row ∷ products) l = let e : k ≡ k + 0 = omega arith in ap (λ n. Some (problem n)) e
  at_from k (suc j) (row ∷ products) l =
      let e : 1 + k + j ≡ k + suc j = omega arith in
      at_from (1 + k) j products (omega arith) ∙ ap (λ n. Some (problem n)) e

  pub problem_at : (product : ℕ) → product < length roster.products → slice_get (problems_of roster rows settings mode) product ≡ Some (problem product)
  problem_at product l = let e : 0 + product ≡ product = omega arith in at_from 0 product roster.products l ∙ ap (λ n. Some (problem n)) e

  -- what stands among the problems is its product's
  pub problem_is : (product : ℕ) (found : ProblemData) → slice_get (problems_of roster rows settings mode) product ≡ Some found → (product < length roster.products) × (problem product ≡ found)
  problem_is product found is =
      let l : product < length roster.products = omega (arith, problems_size, slice_get_within (problems_of roster rows settings mode) product found is) in
      let here = problem_at product l in
      (l, cc)

  networks_from : (k : ℕ) (products : List ProductRow) → listed_below (k + length products) listed ≡ listed_below k listed ++ map (λ p. p.network) (problems_from roster rows settings mode k products)
  networks_from k [] = let e : k + 0 ≡ k = omega arith in ap (λ n. listed_below n listed) e ∙ sym (append-nil (listed_below k listed))
  networks_from k (row ∷ products) =
      let rest : List NetworkData = map (λ p. p.network) (problems_from roster rows settings mode (1 + k) products) in
      let e : k + suc (length products) ≡ 1 + k + length products = omega arith in
      let e' : 1 + k ≡ suc k = omega arith in
      ap (λ n. listed_below n listed) e ∙ networks_from (1 + k) products ∙ ap (λ n. listed_below n listed ++ rest) e' ∙ append_assoc (listed_below k listed) (listed k) rest

  -- their networks are those of the frozen trades
  pub networks_frozen : frozen_networks (length roster.members) (length roster.products) rows ≡ old_networks (problems_of roster rows settings mode)
  networks_frozen = let e : length roster.products ≡ 0 + length roster.products = omega arith in ap (λ n. listed_below n listed) e ∙ networks_from 0 roster.products

  members_from : (k : ℕ) (products : List ProductRow) → AreOfMembers (length roster.members) (problems_from roster rows settings mode k products)
  members_from k [] = All-nil (λ p. p.network.members ≡ length roster.members)
  members_from k (row ∷ products) =
      All-cons (λ p. p.network.members ≡ length roster.members) (problem k) (problems_from roster rows settings mode (1 + k) products) refl (members_from (1 + k) products)

  -- each has the roster's members
  pub problems_of_members : AreOfMembers (length roster.members) (problems_of roster rows settings mode)
  problems_of_members = members_from 0 roster.products
