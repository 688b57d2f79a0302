-- What is known just before a change of a market's history, and what the change does: the laws.
use Rattle.std.proofs.Common.{◌≡◌, ℕ, List, [], ◌∷◌, ◌++◌, ◌<◌, length, None, IsTrue, All, sym, ap, subst, ◌∙◌, eqb-true, arith}
use Rattle.network_laws.specs.Solutions.{SolutionData, IsSolution}
use Rattle.command_types.specs.declared.ask.Entry.{Entry}
use Rattle.command_types.specs.declared.ask.What.{What}
use Rattle.command_types.specs.declared.ask.What.TheVariants.{Post}
use Rattle.command_types.specs.declared.figures.State.{State}
use Rattle.command_types.specs.Roster.{Rows}
use Rattle.command_types.specs.Trades.{gross_of}
use Rattle.command_types.specs.Plans.{executed, thawed}
use Rattle.command_types.specs.Cycles.{has_limits, bad_post, posted_plan}
use Rattle.command_types.specs.Machine.{first_of, refusals, answer_to, state_after}
use Rattle.command_types.specs.History.{History, IsLegalFrom, is_recorded, replayed_from, solutions_posted}
use Rattle.acceptance.specs.FreePlans.{IsFreePlan}
use Rattle.acceptance.specs.Laws.{position}
use Rattle.trade_history.specs.Laws.{is_execution}
use Rattle.trade_history.proofs.Legal.{post-legal}
use Rattle.trade_history.proofs.Replay.{legal-front, legal-at, solutions-at}
use Rattle.cycle_states.proofs.MachineFacts.{not_refused, accepted_answer, recorded_changes}
use Rattle.cycle_states.proofs.CycleFacts.{solving_limits}
use Rattle.cycle_states.proofs.KeptFacts.{post_solves, post_certified}
use Rattle.cycle_laws.specs.Histories.{IsMarketHistory, HasBegun}
use Rattle.posting.specs.Laws.{KeepsNets}
use Rattle.cycle_laws.specs.Laws.{NetsStayAtExecutions, IsLeastPosting, PostingsAreLeast, ExecutesPosting, ExecutionsFollowThePosting}
use Rattle.cycle_states.proofs.Thawing.{gross_thawed, position_thawed}
use Rattle.cycle_laws.proofs.Market.{IsMarket, solutions_settled, market_on, market_base}
use Rattle.cycle_laws.proofs.Prefixes.{replayed_push}
use Rattle.cycle_laws.proofs.Traces.{IsTraced, traced_on, traced_closed}
use Rattle.cycle_laws.proofs.Executed.{RunsSolutions, runs_solutions}
use Rattle.cycle_laws.proofs.Certified.{certified_free, certified_least, problems_each, solutions_each}

module _ (roster : Rows) (h : History) (is : IsMarketHistory roster h) (before : List Entry) (entry : Entry) (after : List Entry) (split : h.entries ≡ before ++ entry ∷ after) where
  abbrev now : State
  now = replayed_from h.base.state before

  legal : IsLegalFrom h.base.state (before ++ entry ∷ after)
  legal = subst (IsLegalFrom h.base.state) split is.legal

  market : IsMarket roster now
  market =
      market_on roster h.base.state before (legal-front h.base.state before entry after legal) (market_base roster h.base.state is.base)

  traced : IsTraced h.base.state before now.cycle
  traced = traced_on h.base.state before (traced_closed h.base.state is.base.closed.phase) (legal-front h.base.state before entry after legal)

  recorded : IsTrue (is_recorded entry.ask.what (answer_to now entry.ask))
  recorded = legal-at h.base.state before entry after legal

  none : first_of (refusals now entry.ask.by entry.ask.what) ≡ None
  none = not_refused now entry.ask recorded

  posts_solutions : All IsSolution (solutions_posted entry.ask.what)
  posts_solutions = solutions-at h.base.state before entry after legal

  module _ (told : IsTrue (is_execution (answer_to now entry.ask))) where
    run : RunsSolutions now (state_after now entry.ask) (before ++ entry ∷ [])
    run =
        runs_solutions roster now before entry (recorded_changes entry.ask.what (answer_to now entry.ask) recorded) none posts_solutions market traced.posted
        (subst (λ answer. IsTrue (is_execution answer)) (accepted_answer now entry.ask none) told)

    trades_after : (replayed_from h.base.state (before ++ entry ∷ [])).trades ≡ thawed (executed (posted_plan now.cycle now.trades run.solutions) now.trades)
    trades_after = ap (λ (n : State). n.trades) (replayed_push h.base.state before entry) ∙ run.trades

    pub keeps_nets : KeepsNets roster now (replayed_from h.base.state (before ++ entry ∷ []))
    keeps_nets =
        let settled = solutions_settled roster now run.solutions market run.stands run.certified run.sound in
        let later = executed (posted_plan now.cycle now.trades run.solutions) now.trades in
        record {
          positions = λ product member in_products in_members.
              ap (position product member) trades_after ∙ position_thawed product member later
              ∙ settled.positions product member (subst (λ (r : Rows). product < length r.products) (sym market.same) in_products) (subst (λ (r : Rows). member < length r.members) (sym market.same) in_members);
          gross = λ product. omega (arith, ap (gross_of product) trades_after, gross_thawed product later, settled.gross product);
        }

    pub executes_posting : ExecutesPosting roster h.base.state before entry
    executes_posting = record {
      solutions = run.solutions;
      posted = run.posted;
      trades = trades_after;
      free = subst (λ (r : Rows). IsFreePlan (length r.members) (length r.products) now.trades (posted_plan now.cycle now.trades run.solutions)) market.same
          (certified_free roster now run.solutions market run.stands run.certified run.sound);
    }

  module _ (cycle version : ℕ) (solutions : List SolutionData) (command : entry.ask.what ≡ Post cycle version solutions) where
    accepted : first_of (refusals now entry.ask.by (Post cycle version solutions)) ≡ None
    accepted = subst (λ (what : What). first_of (refusals now entry.ask.by what) ≡ None) command none

    each : All IsSolution solutions
    each = subst (λ (what : What). All IsSolution (solutions_posted what)) command posts_solutions

    stands : IsTrue (has_limits now.cycle.phase)
    stands = solving_limits now.cycle.phase (post_solves now entry.ask.by cycle version solutions accepted)

    certified : bad_post (length now.roster.members) now.cycle.begun solutions ≡ None
    certified = post_certified now entry.ask.by cycle version solutions accepted

    pub least_posting : IsLeastPosting roster h.base.state before cycle version solutions
    least_posting =
        let legal = post-legal now entry.ask.by cycle version solutions accepted in
        record {
          problems = now.cycle.begun;
          begun = subst (λ n. HasBegun h.base.state before n version now.cycle.begun) (sym (eqb-true cycle now.cycle.number legal.1))
              (subst (λ n. HasBegun h.base.state before now.cycle.number n now.cycle.begun) (sym (eqb-true version now.cycle.version legal.2)) (traced.begun stands));
          one_each = problems_each roster now solutions market stands certified each ∙ ap (λ (r : Rows). length r.products) market.same;
          as_many = solutions_each roster now solutions market stands certified each;
          least = certified_least roster now solutions market stands certified each;
        }

pub nets_stay_at_executions : NetsStayAtExecutions
nets_stay_at_executions roster h is before entry after split told = keeps_nets roster h is before entry after split told

pub postings_are_least : PostingsAreLeast
postings_are_least roster h is before entry after split cycle version solutions command = least_posting roster h is before entry after split cycle version solutions command

pub executions_follow_the_posting : ExecutionsFollowThePosting
executions_follow_the_posting roster h is before entry after split told = executes_posting roster h is before entry after split told
