-- Certified solutions renew the frozen networks, and each has the least gross.
use Rattle.std.proofs.Common.{◌≡◌, ℕ, ◌+◌, ◌<◌, ◌≤◌, ◌&&◌, List, [], ◌∷◌, length, slice_get, Some, refl, subst, ◌∙◌, arith}
use Rattle.std.proofs.lemmas.List.{length-map}
use Rattle.std.proofs.lemmas.Option.{slice_get_within}
use Rattle.network_laws.specs.Networks.{NetworkData, AreInRange, at, gross}
use Rattle.network_laws.specs.Limits.{IsAdmissible, IsCertified, IsLeast}
use Rattle.network_laws.specs.Solutions.{SolutionData, IsSolution}
use Rattle.network_laws.proofs.Clashes.{no_clash_is_certified}
use Rattle.network_laws.proofs.Duality.{certified_is_least}
use Rattle.command_types.specs.declared.cycle.Mode.{Mode}
use Rattle.command_types.specs.declared.tolerance.ToleranceRow.{ToleranceRow}
use Rattle.command_types.specs.declared.trade.TradeRow.{TradeRow}
use Rattle.command_types.specs.Roster.{Rows}
use Rattle.command_types.specs.Trades.{total_where}
use Rattle.command_types.specs.Books.{is_between, frozen_network, held_network}
use Rattle.command_types.specs.Cycles.{problem_of, problems_of, new_networks}
use Rattle.acceptance.specs.Laws.{HasRoom, HasSameNets}
use Rattle.acceptance.specs.Renewals.{AreNumbered, IsNewNetwork, IsRenewal}
use Rattle.acceptance.proofs.PairTotals.{network_in_range, good_in_range}
use Rattle.tolerance_sets.proofs.PairLimits.{network_is_within, held_is_kept}
use Rattle.product_book.specs.Book.{AreTrades}
use Rattle.product_book.proofs.HeldFacts.{held_is_within_frozen}
use Rattle.posting.specs.Laws.{IsPosting}
use Rattle.posting.proofs.Places.{there, mapped_there, mapped_from, all_at}
use Rattle.posting.proofs.ProblemFacts.{problems_size, problem_at}
use Rattle.posting.proofs.CertifiedFacts.{shape_size, shape_members, shaped, no_clash}

-- a book's trades are numbered in their order
pub trades_numbered : (members products n : ℕ) (rows : List TradeRow) → AreTrades members products n rows → AreNumbered n rows
trades_numbered members products n [] are = tt
trades_numbered members products n (row ∷ rows) (here, later) = (here.number, trades_numbered members products (n + 1) rows later)

module _ (roster : Rows) (rows : List TradeRow) (settings : List ToleranceRow) (mode : Mode) (solutions : List SolutionData) (is : IsPosting roster rows settings mode solutions) where
  abbrev members : ℕ
  members = length roster.members

  abbrev products : ℕ
  products = length roster.products

  abbrev frozen : ℕ → NetworkData
  frozen product = frozen_network members product rows

  shape_is : length solutions ≡ products
  shape_is =
      shape_size members (problems_of roster rows settings mode) solutions (shaped members (problems_of roster rows settings mode) solutions is.certified)
      ∙ problems_size roster rows settings mode

  frozen_in_range : (product : ℕ) → AreInRange members (frozen product).rows
  frozen_in_range product = network_in_range members (λ i j. total_where (λ row. is_between product i j row && row.frozen) rows)

  -- the frozen network is itself within the limits
  frozen_admissible : (product : ℕ) → IsAdmissible (problem_of roster rows settings mode product).limits (frozen product) (frozen product)
  frozen_admissible product = record {
    limit_members = refl;
    new_members = refl;
    within = network_is_within mode roster.members settings product (frozen product) (held_network members product rows) refl;
    nets = λ i l. refl;
  }

  module _ (product : ℕ) (solution : SolutionData) (found : slice_get solutions product ≡ Some solution) where
    pub in_products : product < products
    in_products = omega (arith, shape_is, slice_get_within solutions product solution found)

    pub solution_is : IsSolution solution
    solution_is = all_at IsSolution solutions product solution is.each found

    pub solution_members : solution.network.members ≡ members
    solution_members =
        shape_members members (problems_of roster rows settings mode) solutions (shaped members (problems_of roster rows settings mode) solutions is.certified) product solution found

    pub solution_certified : IsCertified (problem_of roster rows settings mode product).limits (frozen product) solution.network solution.potentials
    solution_certified =
        (no_clash_is_certified (problem_of roster rows settings mode product).limits (frozen product) solution.network solution.potentials refl solution_members).0
        (no_clash members (problems_of roster rows settings mode) solutions is.certified product (problem_of roster rows settings mode product) solution (problem_at roster rows settings mode product in_products) found)

    pub solution_least : IsLeast (problem_of roster rows settings mode product).limits (frozen product) solution.network
    solution_least =
        certified_is_least (problem_of roster rows settings mode product).limits (frozen product) solution.network solution.potentials
        (good_in_range solution.network.members solution.network.rows solution_is.network.rows.good) solution_certified

    solution_falls : gross solution.network ≤ gross (frozen product)
    solution_falls = solution_least.least (frozen product) (frozen_in_range product) (frozen_admissible product)

    keeps_held : (i j : ℕ) → i < members → j < members → at (held_network members product rows) i j ≤ at solution.network i j
    keeps_held i j in_i in_j =
        let low = held_is_kept mode roster.members settings product (frozen product) (held_network members product rows) (λ a b _ _. (held_is_within_frozen members product rows).1 a b) i j in_i in_j in
        let above = solution_certified.admissible.within.above i j (omega (arith, in_i, solution_members)) (omega (arith, in_j, solution_members)) in
        omega (arith, low, above)

    solution_new : IsNewNetwork members product rows solution.network
    solution_new = record { network = solution_is.network; size = solution_members; held = keeps_held }

    solution_nets : HasSameNets members product rows solution.network
    solution_nets i l = solution_certified.admissible.nets i l

  -- the solution of a posted network
  from : (product : ℕ) (network : NetworkData) → slice_get (new_networks solutions) product ≡ Some network → (s : SolutionData) × (slice_get solutions product ≡ Some s) × (s.network ≡ network)
  from product network found = mapped_from (λ (s : SolutionData). s.network) solutions product network found

  pub renewal : IsRenewal members products rows (new_networks solutions)
  renewal = record {
    numbered = trades_numbered members products 1 rows is.market.trades;
    live = is.market.live;
    as_many = length-map solutions (λ (s : SolutionData). s.network) ∙ shape_is;
    each = λ product network found.
        let own = from product network found in
        subst (IsNewNetwork members product rows) own.2 (solution_new product own.0 own.1);
  }

  pub room : HasRoom members rows (new_networks solutions)
  room = record {
    bounded = is.market.bounded;
    falls = λ product network found.
        let own = from product network found in
        subst (λ (y : NetworkData). gross y ≤ gross (frozen product)) own.2 (solution_falls product own.0 own.1);
  }

  -- each product has its posted network, with the frozen one's nets
  pub network_there : (product : ℕ) → product < products → (network : NetworkData) × (slice_get (new_networks solutions) product ≡ Some network) × HasSameNets members product rows network
  network_there product l =
      let own = there solutions product (omega (arith, l, shape_is)) in
      (own.0.network, mapped_there (λ (s : SolutionData). s.network) solutions product own.0 own.1, solution_nets product own.0 own.1)
