-- A market has one summary.
use Rattle.std.proofs.Common.{◌≡◌, ◌∙◌, sym, ap, refl, subst, ℕ, zero, suc, ◌<◌, ◌≤◌, List, [], ◌++◌, length, get_or, arith, codes, decimal}
use Rattle.std.proofs.lemmas.Option.{slice_get-get_or}
use Rattle.std.specs.List.{slice_get}
use Rattle.network_laws.specs.Networks.{NetworkData, AreInRange, gross, floor_m, bilateral}
use Rattle.network_laws.specs.Solutions.{SolutionData}
use Rattle.network_laws.proofs.Duality.{certified_is_least}
use Rattle.command_types.specs.declared.cycle.Mode.{Mode}
use Rattle.command_types.specs.Roster.{Rows}
use Rattle.command_types.specs.Text.{product_name}
use Rattle.trade_file.specs.declared.file_trade.FileTrade.{FileTrade}
use Rattle.dual_certificate.specs.SummaryText.{summary_line, summary_below}
use Rattle.file_market.specs.Market.{market_limits}
use Rattle.file_market.specs.Solve.{IsSolutionOf}
use Rattle.file_market.specs.Summary.{IsSummaryText}
use Rattle.file_market.specs.Laws.{SummariesAreOne}
use Rattle.file_market.proofs.OneNetwork.{one_network}

in_range : (rows : Rows) (mode : Mode) (product : ℕ) (network : NetworkData) (s : SolutionData) → IsSolutionOf rows mode product network s → AreInRange s.network.members s.network.rows
in_range rows mode product network s is k d l = let good = is.good.network.rows.good k d l in (good.seller, good.buyer)

-- no solution of a product has less gross than another
not_above : (rows : Rows) (mode : Mode) (product : ℕ) (network : NetworkData) (s t : SolutionData) → IsSolutionOf rows mode product network s → IsSolutionOf rows mode product network t → gross s.network ≤ gross t.network
not_above rows mode product network s t of_s of_t =
    let least = certified_is_least (market_limits rows mode product network) network s.network s.potentials (in_range rows mode product network s of_s) of_s.solves.certified in
    least.least t.network (in_range rows mode product network t of_t) of_t.solves.certified.admissible

same_gross : (rows : Rows) (mode : Mode) (product : ℕ) (network : NetworkData) (s t : SolutionData) → IsSolutionOf rows mode product network s → IsSolutionOf rows mode product network t → gross s.network ≡ gross t.network
same_gross rows mode product network s t of_s of_t =
    omega (arith, not_above rows mode product network s t of_s of_t, not_above rows mode product network t s of_t of_s)

module _ (rows : Rows) (mode : Mode) (trades : List FileTrade) (one other : List ℕ) (of_one : IsSummaryText rows mode trades one) (of_other : IsSummaryText rows mode trades other) where
  no_network : NetworkData
  no_network = record { members = 0; rows = [] }

  no_solution : SolutionData
  no_solution = record { network = record { members = 0; rows = [] }; potentials = [] }

  same_network : (k : ℕ) → k < length rows.products → get_or of_one.networks k no_network ≡ get_or of_other.networks k no_network
  same_network k l =
      let in_one : k < length of_one.networks = omega (arith, of_one.market.count) in
      let in_other : k < length of_other.networks = omega (arith, of_other.market.count) in
      one_network rows trades k (get_or of_one.networks k no_network) (get_or of_other.networks k no_network) (of_one.market.each k no_network in_one) (of_other.market.each k no_network in_other)

  same_least : (k : ℕ) → k < length rows.products → gross (get_or of_one.solutions k no_solution).network ≡ gross (get_or of_other.solutions k no_solution).network
  same_least k l =
      let in_one : k < length of_one.networks = omega (arith, of_one.market.count) in
      let in_other : k < length of_other.networks = omega (arith, of_other.market.count) in
      let solves = of_other.solved.each k no_network no_solution in_other in
      same_gross rows mode k (get_or of_one.networks k no_network) (get_or of_one.solutions k no_solution) (get_or of_other.solutions k no_solution)
      (of_one.solved.each k no_network no_solution in_one)
      (subst (λ network. IsSolutionOf rows mode k network (get_or of_other.solutions k no_solution)) (sym (same_network k l)) solves)

  -- the line of a product by its network and its least gross
  abbrev line_by : ℕ → NetworkData → ℕ → List ℕ
  line_by k old least =
      codes "product " ++ product_name rows k ++ codes " " ++ decimal (gross old) ++ codes " " ++ decimal least
      ++ codes " " ++ decimal (floor_m old) ++ codes " " ++ decimal (bilateral old) ++ codes "\n"

  same_line : (k : ℕ) → k < length rows.products → summary_line rows k (slice_get of_one.networks k) (slice_get of_one.solutions k) ≡ summary_line rows k (slice_get of_other.networks k) (slice_get of_other.solutions k)
  same_line k l =
      let first = slice_get-get_or of_one.networks k no_network (omega (arith, of_one.market.count)) in
      let second = slice_get-get_or of_one.solutions k no_solution (omega (arith, of_one.market.count, of_one.solved.count)) in
      let third = slice_get-get_or of_other.networks k no_network (omega (arith, of_other.market.count)) in
      let fourth = slice_get-get_or of_other.solutions k no_solution (omega (arith, of_other.market.count, of_other.solved.count)) in
      let line : line_by k (get_or of_one.networks k no_network) (gross (get_or of_one.solutions k no_solution).network) ≡ line_by k (get_or of_other.networks k no_network) (gross (get_or of_other.solutions k no_solution).network) =
      λ i. line_by k (same_network k l i) (same_least k l i) in
      (λ i. summary_line rows k (first i) (second i)) ∙ line ∙ (λ i. summary_line rows k (sym third i) (sym fourth i))

  same_lines : (k : ℕ) → k ≤ length rows.products → summary_below rows of_one.networks of_one.solutions k ≡ summary_below rows of_other.networks of_other.solutions k
  same_lines zero l = refl
  same_lines (suc k) l = λ i. same_lines k (omega arith) i ++ same_line k (omega arith) i

  one_text : one ≡ other
  one_text =
      of_one.written ∙ ap (λ lines. lines ++ (codes "end " ++ decimal (length rows.products) ++ codes "\n")) (same_lines (length rows.products) (omega arith)) ∙ sym of_other.written

pub summaries_are_one : SummariesAreOne
summaries_are_one rows mode trades one other of_one of_other = one_text rows mode trades one other of_one of_other
