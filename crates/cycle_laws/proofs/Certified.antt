-- Certified solutions in a market: their plan ends and cuts free trades alone, and each is least.
use Rattle.std.proofs.Common.{◌≡◌, ℕ, List, length, Option, Some, None, is_some, IsTrue, All, sym, ap, subst, ◌∙◌}
use Rattle.std.proofs.lemmas.Bool.{false≢true}
use Rattle.network_laws.specs.Networks.{NetworkData}
use Rattle.network_laws.specs.Solutions.{SolutionData, ProblemData, IsSolution}
use Rattle.units_core.specs.Day.{DayParts}
use Rattle.command_types.specs.declared.figures.State.{State}
use Rattle.command_types.specs.declared.trade.TradeRow.{TradeRow}
use Rattle.command_types.specs.Roster.{Rows}
use Rattle.command_types.specs.Plans.{plan_of}
use Rattle.command_types.specs.Cycles.{has_limits, bad_post, plan_on, posted_plan, old_networks, new_networks}
use Rattle.acceptance.specs.FreePlans.{IsFreePlan}
use Rattle.acceptance.proofs.OnceEach.{plan_is_free}
use Rattle.posting.specs.Laws.{IsPosting, AreLeast, AreBegun}
use Rattle.posting.proofs.CertifiedFacts.{shaped, shape_size}
use Rattle.posting.proofs.ProblemFacts.{networks_frozen}
use Rattle.posting.proofs.RenewalFacts.{renewal}
use Rattle.posting.proofs.Settled.{posting_can_be_executed, begun_size}
use Rattle.cycle_states.proofs.CycleFacts.{limits_break}
use Rattle.cycle_states.proofs.SettledFacts.{begun_of}
use Rattle.cycle_laws.proofs.Market.{IsMarket}

some_day : DayParts
some_day = record { year = 0; month = 0; day = 0 }

free_on : (members products : ℕ) (rows : List TradeRow) (old new : List NetworkData) (day : Option DayParts) → IsTrue (is_some day) → ((d : DayParts) → IsFreePlan members products rows (plan_of rows old new d)) → IsFreePlan members products rows (plan_on day rows old new)
free_on members products rows old new None there all = absurd (false≢true there)
free_on members products rows old new (Some d) there all = all d

module _ (roster : Rows) (s : State) (solutions : List SolutionData) (market : IsMarket roster s) (stands : IsTrue (has_limits s.cycle.phase)) (certified : bad_post (length s.roster.members) s.cycle.begun solutions ≡ None) (sound : All IsSolution solutions) where
  begun : AreBegun s.roster s.trades s.cycle.begun
  begun = begun_of s.roster s.trades s.cycle (market.cycle.begun stands)

  -- the solutions are a posting of the problems that the frozen trades have now
  posting : IsPosting s.roster s.trades begun.settings begun.mode solutions
  posting = record {
    market = record {
      few_members = market.book.few_members;
      few_products = market.book.few_products;
      trades = market.book.trades;
      bounded = market.book.bounded;
      live = market.unbroken (limits_break s.cycle.phase stands);
    };
    each = sound;
    certified = ap (λ (problems : List ProblemData). bad_post (length s.roster.members) problems solutions) (sym begun.same) ∙ certified;
  }

  free_of : (day : DayParts) → IsFreePlan (length s.roster.members) (length s.roster.products) s.trades (plan_of s.trades (old_networks s.cycle.begun) (new_networks solutions) day)
  free_of day =
      subst (λ (old : List NetworkData). IsFreePlan (length s.roster.members) (length s.roster.products) s.trades (plan_of s.trades old (new_networks solutions) day))
      (networks_frozen s.roster s.trades begun.settings begun.mode ∙ ap old_networks (sym begun.same))
      (plan_is_free (length s.roster.members) (length s.roster.products) s.trades (new_networks solutions) day (renewal s.roster s.trades begun.settings begun.mode solutions posting))

  -- their plan ends and cuts free trades alone
  pub certified_free : IsFreePlan (length s.roster.members) (length s.roster.products) s.trades (posted_plan s.cycle s.trades solutions)
  certified_free =
      free_on (length s.roster.members) (length s.roster.products) s.trades (old_networks s.cycle.begun) (new_networks solutions) s.cycle.day (market.cycle.day (limits_break s.cycle.phase stands)) free_of

  -- and each solution is least
  pub certified_least : AreLeast s.cycle.begun solutions
  certified_least =
      subst (λ (problems : List ProblemData). AreLeast problems solutions) (sym begun.same)
      (posting_can_be_executed s.roster s.trades begun.settings begun.mode solutions some_day posting).1

  -- one for each product
  pub problems_each : length s.cycle.begun ≡ length s.roster.products
  problems_each = begun_size s.roster s.trades s.cycle.begun begun

  pub solutions_each : length solutions ≡ length s.cycle.begun
  solutions_each = shape_size (length s.roster.members) s.cycle.begun solutions (shaped (length s.roster.members) s.cycle.begun solutions certified)
