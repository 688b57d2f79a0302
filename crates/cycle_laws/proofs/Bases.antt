-- The states that can be written as bases: the laws.
use Rattle.std.proofs.Common.{◌≡◌, ℕ, ◌+◌, ◌≤◌, List, [], ◌∷◌, length, map, All, IsTrue, refl, sym, ap, subst, ◌∙◌, arith}
use Rattle.std.proofs.lemmas.List.Elements.{All-nil, All-cons, All-head, All-tail}
use Rattle.units_core.specs.Number.{is_amount}
use Rattle.units_core.specs.declared.limits.TheConstants.{MOST_SUBMITTED}
use Rattle.command_types.specs.declared.ask.Entry.{Entry}
use Rattle.command_types.specs.declared.figures.State.{State}
use Rattle.command_types.specs.declared.roster.MemberRow.{MemberRow}
use Rattle.command_types.specs.declared.roster.ProductRow.{ProductRow}
use Rattle.command_types.specs.declared.tolerance.ToleranceRow.{ToleranceRow}
use Rattle.command_types.specs.declared.trade.TradeRow.{TradeRow}
use Rattle.command_types.specs.Roster.{Rows}
use Rattle.command_types.specs.Trades.{submitted_count}
use Rattle.command_types.specs.Machine.{state_after}
use Rattle.command_types.specs.Bases.{AreRising, IsSettingIn, IsTradeIn}
use Rattle.command_types.specs.History.{IsLegalFrom, replayed, replayed_from}
use Rattle.product_book.specs.Book.{AreTrades}
use Rattle.trade_history.proofs.Rosters.{roster_after}
use Rattle.cycle_states.proofs.MachineFacts.{not_refused}
use Rattle.cycle_laws.specs.Histories.{IsMarketHistory}
use Rattle.cycle_laws.specs.Bases.{EmptyIsWritable, FoldsAreWritable, WritableFits, WritableComesBack}
use Rattle.cycle_laws.proofs.Market.{empty_begins_markets, folds_begin_markets}
use Rattle.cycle_laws.proofs.Writable.{IsLeft, IsFreshRow}
use Rattle.cycle_laws.proofs.Settings.{settings_by}
use Rattle.cycle_laws.proofs.WritableSteps.{left_by, fresh_by, few_by}

-- ---- all changes

-- what can be written stays so through a history, but that a cycle may be open meanwhile
pub record IsKept (roster : Rows) (s : State) : Type 0 where
  pub same : s.roster ≡ roster
  pub left : IsLeft s.cycle
  pub fresh : All IsFreshRow s.trades
  pub few : submitted_count s.trades ≤ MOST_SUBMITTED
  pub settings : All (IsSettingIn (length s.roster.members) (length s.roster.products)) s.tolerances
  pub rising : AreRising 0 s.tolerances

pub kept_on : (roster : Rows) (s : State) (entries : List Entry) → IsLegalFrom s entries → IsKept roster s → IsKept roster (replayed_from s entries)
kept_on roster s [] legal kept = kept
kept_on roster s (entry ∷ entries) (here, rest) kept =
    let n = state_after s entry.ask in
    let none = not_refused s entry.ask here.0 in
    let settings = settings_by s entry.ask.by entry.ask.what none (kept.settings, kept.rising) in
    kept_on roster n entries rest (record {
      same = roster_after s entry.ask ∙ kept.same;
      left = left_by s entry.ask.by entry.ask.what none kept.left;
      fresh = fresh_by s entry.ask.by entry.ask.what none kept.fresh;
      few = few_by s entry.ask.by entry.ask.what none kept.few;
      settings = subst (λ (r : Rows). All (IsSettingIn (length r.members) (length r.products)) n.tolerances) (sym (roster_after s entry.ask)) settings.0;
      rising = settings.1;
    })

-- ---- the laws

pub empty_is_writable : EmptyIsWritable
empty_is_writable roster few_members few_products = record {
  market = empty_begins_markets roster few_members few_products;
  clear = refl;
  fresh = All-nil IsFreshRow;
  few = omega arith;
  settings = All-nil (IsSettingIn (length roster.members) (length roster.products));
  rising = tt;
}

pub folds_are_writable : FoldsAreWritable
folds_are_writable roster h is legal rest =
    let market : IsMarketHistory roster h = record { base = is.market; legal = legal } in
    let at : Rows → List ToleranceRow → Type 0 = λ r rows. All (IsSettingIn (length r.members) (length r.products)) rows in
    let kept = kept_on roster h.base.state h.entries legal (record {
      same = is.market.same;
      left = λ none. is.clear;
      fresh = is.fresh;
      few = is.few;
      settings = subst (λ r. at r h.base.state.tolerances) (sym is.market.same) is.settings;
      rising = is.rising;
    }) in
    record {
      market = folds_begin_markets roster h market rest;
      clear = kept.left rest;
      fresh = kept.fresh;
      few = kept.few;
      settings = subst (λ r. at r (replayed h).tolerances) kept.same kept.settings;
      rising = kept.rising;
    }

-- the trades of a book, with their amounts and as they wait
trades_in : (members products n : ℕ) (rows : List TradeRow) → AreTrades members products n rows → All IsFreshRow rows → All (λ row. IsTrue (is_amount row.amount)) rows → All (IsTradeIn members products) rows
trades_in members products n [] are fresh amounts = All-nil (IsTradeIn members products)
trades_in members products n (row ∷ rows) (here, rest) fresh amounts =
    All-cons (IsTradeIn members products) row rows
    (record {
      seller = here.seller;
      buyer = here.buyer;
      product = here.product;
      different = here.different;
      amount = All-head (λ (r : TradeRow). IsTrue (is_amount r.amount)) row rows amounts;
      fresh = All-head IsFreshRow row rows fresh;
    })
    (trades_in members products (n + 1) rows rest (All-tail IsFreshRow row rows fresh) (All-tail (λ (r : TradeRow). IsTrue (is_amount r.amount)) row rows amounts))

pub writable_fits : WritableFits
writable_fits roster base is position cycle version amounts = record {
  position = position;
  cycle = cycle;
  version = version;
  members = ap (λ (r : Rows). map (λ (row : MemberRow). row.name) r.members) is.market.same;
  products = ap (λ (r : Rows). map (λ (row : ProductRow). row.name) r.products) is.market.same;
  settings = is.settings;
  trades = trades_in (length roster.members) (length roster.products) 1 base.state.trades is.market.book.trades is.fresh amounts;
  bounded = is.market.book.bounded;
  few = is.few;
}

pub writable_comes_back : WritableComesBack
writable_comes_back roster base is =
    (λ i. record {
      position = base.position;
      state = record { roster = sym is.market.same i; trades = base.state.trades; tolerances = base.state.tolerances; cycle = sym is.clear i };
    })
