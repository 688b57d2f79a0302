-- What a certified posting changes can be executed.
use Rattle.std.proofs.Common.{◌≡◌, ℕ, ◌-◌, ◌<◌, ◌≤◌, nat_lt, Bool, true, false, List, length, slice_get, Option, Some, None, All, MatchOption, refl, sym, ap, subst, ◌∙◌, arith, ⊎_elim, if◌then◌else◌}
use Rattle.std.proofs.lemmas.Bool.{cases_lt}
use Rattle.std.proofs.lemmas.List.Elements.{All-weaker}
use Rattle.units_core.specs.Day.{DayParts}
use Rattle.network_laws.specs.Networks.{NetworkData}
use Rattle.network_laws.specs.Limits.{IsLeast}
use Rattle.network_laws.specs.Solutions.{SolutionData, IsSolution, ProblemData}
use Rattle.command_types.specs.declared.cycle.Mode.{Mode}
use Rattle.command_types.specs.declared.plan.PlanRow.{PlanRow}
use Rattle.command_types.specs.declared.plan.PlanRow.TheVariants.{End, Cut, New}
use Rattle.command_types.specs.declared.tolerance.ToleranceRow.{ToleranceRow}
use Rattle.command_types.specs.declared.trade.TradeRow.{TradeRow}
use Rattle.command_types.specs.Roster.{Rows}
use Rattle.command_types.specs.Trades.{trade_numbered, gross_of}
use Rattle.command_types.specs.Plans.{plan_of}
use Rattle.command_types.specs.Cycles.{old_networks, new_networks, bad_post}
use Rattle.acceptance.specs.FreePlans.{IsFree, IsCutting, IsFreeStep}
use Rattle.acceptance.specs.Parties.{HasPartiesBelow, IsStepBelow}
use Rattle.acceptance.specs.Renewals.{renewal_plan, renewed}
use Rattle.acceptance.proofs.OnceEach.{plan_is_free}
use Rattle.acceptance.proofs.NetLaws.{plan_is_executable, nets_stay, gross_moves, gross_past}
use Rattle.product_book.specs.Book.{AreTrades}
use Rattle.product_book.proofs.BookFacts.{trades_at}
use Rattle.posting.specs.Posted.{AreOfMembers}
use Rattle.posting.specs.Laws.{IsFrozenMarket, IsPosting, IsSettled, AreLeast, AreBegun, PostingCanBeExecuted}
use Rattle.posting.proofs.ProblemFacts.{problems_size, problem_is, networks_frozen, problems_of_members}
use Rattle.posting.proofs.RenewalFacts.{renewal, room, network_there, solution_least}

module _ (members products : ℕ) (rows : List TradeRow) (are : AreTrades members products 1 rows) where
  -- a book's trade is between members below their number
  pub parties_below : (trade : ℕ) (row : TradeRow) → trade_numbered rows trade ≡ Some row → (row.seller < members) × (row.buyer < members)
  parties_below trade row found = by (nat_lt 0 trade) found
    where
      by : (above : Bool) → (if above then slice_get rows (trade - 1) else None) ≡ Some row → (row.seller < members) × (row.buyer < members)
      by false e = cc
      by true e = let own = trades_at members products 1 rows (trade - 1) row are e in (own.seller, own.buyer)

  has_parties : (P : TradeRow → Type 0) (trade : ℕ) → MatchOption (trade_numbered rows trade) ⊥ P → HasPartiesBelow members (trade_numbered rows trade)
  has_parties P trade holds = by (trade_numbered rows trade) refl holds
    where
      by : (o : Option TradeRow) → trade_numbered rows trade ≡ o → MatchOption o ⊥ P → HasPartiesBelow members o
      by None e holds = absurd holds
      by (Some row) e holds = parties_below trade row e

  step_below : (step : PlanRow) → IsFreeStep members products rows step → IsStepBelow rows members step
  step_below (End trade) h = has_parties IsFree trade h
  step_below (Cut trade from to) h = has_parties (IsCutting from to) trade h
  step_below (New product seller buyer amount day) h = (h.in_sellers, h.in_buyers)

module _ (roster : Rows) (rows : List TradeRow) (settings : List ToleranceRow) (mode : Mode) (solutions : List SolutionData) (day : DayParts) (is : IsPosting roster rows settings mode solutions) where
  abbrev members : ℕ
  members = length roster.members

  abbrev products : ℕ
  products = length roster.products

  abbrev new : List NetworkData
  new = new_networks solutions

  gross_falls : (product : ℕ) → gross_of product (renewed members products rows new day) ≤ gross_of product rows
  gross_falls product =
      let renews = renewal roster rows settings mode solutions is in
      ⊎_elim (λ (within : product < products).
      let own = network_there roster rows settings mode solutions is product within in
      let falls = (room roster rows settings mode solutions is).falls product own.0 own.1 in
      omega (arith, falls, gross_moves members products rows new day renews product own.0 own.1))
      (λ (past : products ≤ product). omega (arith, gross_past members products rows new day renews product past))
      (cases_lt product products)

  settled : IsSettled members products rows (renewal_plan members products rows new day)
  settled =
      let renews = renewal roster rows settings mode solutions is in
      record {
        executable = plan_is_executable members products rows new day renews (room roster rows settings mode solutions is);
        parties = All-weaker (IsFreeStep members products rows) (IsStepBelow rows members) (step_below members products rows is.market.trades) (renewal_plan members products rows new day) (plan_is_free members products rows new day renews).steps;
        positions = λ product member in_products in_members.
            let own = network_there roster rows settings mode solutions is product in_products in
            nets_stay members products rows new day renews product own.0 own.1 own.2 member in_members;
        gross = gross_falls;
      }

pub posting_can_be_executed : PostingCanBeExecuted
posting_can_be_executed roster rows settings mode solutions day is = (
  subst (λ (old : List NetworkData). IsSettled (length roster.members) (length roster.products) rows (plan_of rows old (new_networks solutions) day)) (networks_frozen roster rows settings mode) (settled roster rows settings mode solutions day is),
  λ product problem solution is_problem is_solution.
      let own = problem_is roster rows settings mode product problem is_problem in
      subst (λ (p : ProblemData). IsLeast p.limits p.network solution.network) own.1 (solution_least roster rows settings mode solutions is product solution is_solution),
)

module _ (roster : Rows) (rows : List TradeRow) (problems : List ProblemData) (begun : AreBegun roster rows problems) where
  -- begun problems are as many as the products, each of the roster's members
  pub begun_size : length problems ≡ length roster.products
  begun_size = ap length begun.same ∙ problems_size roster rows begun.settings begun.mode

  pub begun_of_members : AreOfMembers (length roster.members) problems
  begun_of_members = subst (AreOfMembers (length roster.members)) (sym begun.same) (problems_of_members roster rows begun.settings begun.mode)

  begun_is_posting : (solutions : List SolutionData) → IsFrozenMarket roster rows → All IsSolution solutions → bad_post (length roster.members) problems solutions ≡ None → IsPosting roster rows begun.settings begun.mode solutions
  begun_is_posting solutions market each fine = record {
    market = market;
    each = each;
    certified = ap (λ (ps : List ProblemData). bad_post (length roster.members) ps solutions) (sym begun.same) ∙ fine;
  }

  -- what certified solutions of them change can be executed
  pub begun_is_settled : (solutions : List SolutionData) (day : DayParts) → IsFrozenMarket roster rows → All IsSolution solutions → bad_post (length roster.members) problems solutions ≡ None →
      IsSettled (length roster.members) (length roster.products) rows (plan_of rows (old_networks problems) (new_networks solutions) day)
  begun_is_settled solutions day market each fine =
      subst (λ (ps : List ProblemData). IsSettled (length roster.members) (length roster.products) rows (plan_of rows (old_networks ps) (new_networks solutions) day)) (sym begun.same)
      (posting_can_be_executed roster rows begun.settings begun.mode solutions day (begun_is_posting solutions market each fine)).0

  -- and each of them is least
  pub begun_is_least : (solutions : List SolutionData) (day : DayParts) → IsFrozenMarket roster rows → All IsSolution solutions → bad_post (length roster.members) problems solutions ≡ None → AreLeast problems solutions
  begun_is_least solutions day market each fine =
      subst (λ (ps : List ProblemData). AreLeast ps solutions) (sym begun.same)
      (posting_can_be_executed roster rows begun.settings begun.mode solutions day (begun_is_posting solutions market each fine)).1
