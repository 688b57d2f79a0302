-- What every legal history of a roster's market keeps: its trades are a book's, frozen ones are live while the cycle may break, and the cycle is as its phase tells.
use Rattle.std.proofs.Common.{◌≡◌, ℕ, Bool, false, List, [], ◌∷◌, length, Option, None, All, IsTrue, unwrap_or, refl, sym, ap, subst, ◌∙◌}
use Rattle.std.proofs.lemmas.Bool.{false≢true}
use Rattle.network_laws.specs.Solutions.{SolutionData, IsSolution}
use Rattle.command_types.specs.declared.ask.Ask.{Ask}
use Rattle.command_types.specs.declared.ask.Entry.{Entry}
use Rattle.command_types.specs.declared.ask.What.{What}
use Rattle.command_types.specs.declared.ask.What.TheVariants.{Trade, Affirm, End, Hold, Free, Freeze, Post, Accept, Cancel}
use Rattle.command_types.specs.declared.cycle.Phase.{Phase}
use Rattle.command_types.specs.declared.cycle.Phase.TheVariants.{None as NoPhase}
use Rattle.command_types.specs.declared.figures.State.{State}
use Rattle.command_types.specs.declared.plan.PlanRow.{PlanRow}
use Rattle.command_types.specs.Roster.{Rows}
use Rattle.command_types.specs.Trades.{trade_numbered}
use Rattle.command_types.specs.Cycles.{posted_plan, bad_post, has_limits, is_proposed, may_break}
use Rattle.command_types.specs.CycleSteps.{proposed_or_done, touched_in, after_vote, left_after}
use Rattle.command_types.specs.Machine.{first_of, refusals, member_of, side_at, state_by, state_after}
use Rattle.command_types.specs.History.{IsLegalFrom, replayed, replayed_from, solutions_posted}
use Rattle.command_types.specs.Execution.{IsExecutable}
use Rattle.posting.specs.Laws.{IsSettled}
use Rattle.cycle_states.specs.Machine.{IsUnbroken, IsCycle, IsMachine}
use Rattle.trade_history.proofs.Rosters.{roster_after}
use Rattle.cycle_states.proofs.MachineFacts.{not_refused}
use Rattle.cycle_states.proofs.CycleFacts.{stays_unbroken, solving_limits}
use Rattle.cycle_states.proofs.KeptFacts.{stays_kept, post_solves, post_certified, accept_proposed}
use Rattle.cycle_states.proofs.SettledFacts.{settled, proposal_settled}
use Rattle.trade_history.proofs.Folds.{folds_are_closed}
use Rattle.cycle_laws.specs.Histories.{IsMarketBase}
use Rattle.cycle_laws.specs.Laws.{EmptyBeginsMarkets, FoldsBeginMarkets}
use Rattle.cycle_laws.proofs.BookSteps.{IsBookOfRoster, affirm_book, end_book, hold_book, free_book, freeze_book, thaw_book, execution_book, trade_book, empty_book}

pub record IsMarket (roster : Rows) (s : State) : Type 0 where
  pub same : s.roster ≡ roster
  pub book : IsBookOfRoster s.roster s.trades
  pub unbroken : IsUnbroken s.cycle.phase s.trades
  pub cycle : IsCycle s.roster s.trades s.cycle

-- which is what the machine keeps
pub machine_of : (roster : Rows) (s : State) → IsMarket roster s → IsMachine s.roster (length s.roster.members) (length s.roster.products) s.trades s.cycle
machine_of roster s market = record {
  few_members = market.book.few_members;
  few_products = market.book.few_products;
  book = record { members_all = refl; products_all = refl };
  unbroken = market.unbroken;
  cycle_kept = market.cycle;
}

-- what certified solutions change can be executed
pub solutions_settled : (roster : Rows) (s : State) (solutions : List SolutionData) → IsMarket roster s → IsTrue (has_limits s.cycle.phase) → bad_post (length s.roster.members) s.cycle.begun solutions ≡ None → All IsSolution solutions →
    IsSettled (length s.roster.members) (length s.roster.products) s.trades (posted_plan s.cycle s.trades solutions)
solutions_settled roster s solutions market stands certified sound =
    settled s.roster (length s.roster.members) (length s.roster.products) s.trades s.cycle (machine_of roster s market) solutions stands certified sound market.book.trades market.book.bounded

posted_book : (s : State) (solutions : List SolutionData) (plan : List PlanRow) (touched : List ℕ) → IsExecutable (length s.roster.members) (length s.roster.products) s.trades plan → IsBookOfRoster s.roster s.trades →
    IsBookOfRoster s.roster (proposed_or_done s solutions plan touched).trades
posted_book s solutions plan [] may book = execution_book s.roster s.trades plan may book
posted_book s solutions plan (member ∷ members) may book = book

voted_book : (s : State) (member : ℕ) (left : List ℕ) → IsExecutable (length s.roster.members) (length s.roster.products) s.trades s.cycle.plan → IsBookOfRoster s.roster s.trades → IsBookOfRoster s.roster (after_vote s member left).trades
voted_book s member [] may book = execution_book s.roster s.trades s.cycle.plan may book
voted_book s member (voter ∷ voters) may book = book

book_by : (roster : Rows) (s : State) (by : Option (List ℕ)) (what : What) → first_of (refusals s by what) ≡ None → All IsSolution (solutions_posted what) → IsMarket roster s → IsBookOfRoster s.roster (state_by s by what).trades
book_by roster s by (Trade seller buyer product amount day) none sound market = trade_book s by seller buyer product amount day none market.book
book_by roster s by (Affirm trade) none sound market = affirm_book s by trade none market.book
book_by roster s by (End trade) none sound market = end_book s.roster s.trades (side_at s (unwrap_or by []) (trade_numbered s.trades trade)) trade market.book
book_by roster s by (Hold trade) none sound market = hold_book s.roster s.trades (side_at s (unwrap_or by []) (trade_numbered s.trades trade)) trade market.book
book_by roster s by (Free trade) none sound market = free_book s.roster s.trades (side_at s (unwrap_or by []) (trade_numbered s.trades trade)) trade market.book
book_by roster s by (Freeze day) none sound market = freeze_book s.roster s.trades day market.book
book_by roster s by (Post cycle version solutions) none sound market =
    posted_book s solutions (posted_plan s.cycle s.trades solutions) (touched_in s (posted_plan s.cycle s.trades solutions))
    (solutions_settled roster s solutions market (solving_limits s.cycle.phase (post_solves s by cycle version solutions none)) (post_certified s by cycle version solutions none) sound).executable market.book
book_by roster s by (Accept cycle version) none sound market =
    voted_book s (member_of s (unwrap_or by [])) (left_after s (member_of s (unwrap_or by [])))
    (proposal_settled s.roster (length s.roster.members) (length s.roster.products) s.trades s.cycle (machine_of roster s market) (accept_proposed s by cycle version none) market.book.trades market.book.bounded).executable
    market.book
book_by roster s by (Cancel cycle) none sound market = thaw_book s.roster s.trades market.book
book_by roster s by what none sound market = market.book

-- an accepted command keeps it
pub market_after : (roster : Rows) (s : State) (ask : Ask) → first_of (refusals s ask.by ask.what) ≡ None → All IsSolution (solutions_posted ask.what) → IsMarket roster s → IsMarket roster (state_after s ask)
market_after roster s ask none sound market =
    let n = state_after s ask in
    let stays : s.roster ≡ n.roster = sym (roster_after s ask) in
    record {
      same = roster_after s ask ∙ market.same;
      book = subst (λ r. IsBookOfRoster r n.trades) stays (book_by roster s ask.by ask.what none sound market);
      unbroken = stays_unbroken s n ask refl none market.unbroken;
      cycle = subst (λ r. IsCycle r n.trades n.cycle) stays (stays_kept s n ask.by ask.what refl none market.unbroken sound market.cycle);
    }

-- so does a legal list of changes
pub market_on : (roster : Rows) (s : State) (entries : List Entry) → IsLegalFrom s entries → IsMarket roster s → IsMarket roster (replayed_from s entries)
market_on roster s [] legal market = market
market_on roster s (entry ∷ entries) (here, rest) market =
    market_on roster (state_after s entry.ask) entries rest (market_after roster s entry.ask (not_refused s entry.ask here.0) here.1 market)

-- it holds of each state in which a history may begin
pub market_base : (roster : Rows) (s : State) → IsMarketBase roster s → IsMarket roster s
market_base roster s base =
    let not_so : (test : Phase → Bool) → test NoPhase ≡ false → IsTrue (test s.cycle.phase) → ⊥ =
    λ test false_there is. false≢true (sym false_there ∙ ap test (sym base.closed.phase) ∙ is) in
    record {
      same = base.same;
      book = subst (λ r. IsBookOfRoster r s.trades) (sym base.same) base.book;
      unbroken = λ may. absurd (not_so may_break refl may);
      cycle = record {
        day = λ may. absurd (not_so may_break refl may);
        begun = λ stands. absurd (not_so has_limits refl stands);
        proposed = λ on. absurd (not_so is_proposed refl on);
      };
    }

-- among them that before the first command
pub empty_begins_markets : EmptyBeginsMarkets
empty_begins_markets roster few_members few_products = record {
  same = refl;
  closed = record { phase = refl; mode = refl; free = refl; numbered = tt };
  book = empty_book roster few_members few_products;
}

-- and that at the end of a history in which no cycle is open
pub folds_begin_markets : FoldsBeginMarkets
folds_begin_markets roster h is rest =
    let market = market_on roster h.base.state h.entries is.legal (market_base roster h.base.state is.base) in
    record {
      same = market.same;
      closed = folds_are_closed h is.base.closed is.legal rest;
      book = subst (λ r. IsBookOfRoster r (replayed h).trades) market.same market.book;
    }
