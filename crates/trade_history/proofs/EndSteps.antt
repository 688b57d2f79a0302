-- The END of a trade, which breaks the cycle where the trade is frozen and marked.
use Rattle.std.proofs.Common.{◌≡◌, ℕ, Bool, true, false, cond, ◌&&◌, List, refl, sym, ap, ◌∙◌}
use Rattle.std.proofs.lemmas.Bool.{and_parts}
use Rattle.command_types.specs.declared.cycle.Phase.{Phase}
use Rattle.command_types.specs.declared.cycle.Phase.TheVariants.{None as NoPhase, Frozen, Solving, Proposed, Broken}
use Rattle.command_types.specs.declared.figures.Cycle.{Cycle}
use Rattle.command_types.specs.declared.trade.Side.{Side}
use Rattle.command_types.specs.declared.trade.TradeRow.{TradeRow}
use Rattle.command_types.specs.Roster.{Rows}
use Rattle.command_types.specs.Trades.{trade_numbered, ended_by}
use Rattle.command_types.specs.Cycles.{may_break, broken_at}
use Rattle.command_types.specs.CycleSteps.{is_frozen_and_marked, cycle_after_end}
use Rattle.trade_history.specs.Moments.{Moment, cycle_at}
use Rattle.trade_history.specs.Executes.{Opening}
use Rattle.trade_history.specs.Book.{Book}
use Rattle.trade_history.proofs.Kept.{HasOpening, IsBroken, InPhase, Keeps}
use Rattle.trade_history.proofs.RowSteps.{IsRowStep, end-step, live-end}
use Rattle.trade_history.proofs.PlainSteps.{IsPlain, grown_book, opening-later, free-later, plain-keeps}

opening-broken : (roster : Rows) (number : ℕ) (trades : List TradeRow) (cycle : Cycle) (book : Book) (opening : Opening) (trade : ℕ) →
    HasOpening roster number trades cycle book opening → HasOpening roster number trades (broken_at cycle trade) book opening
opening-broken roster number trades cycle book opening trade has = record { found = has.found; day = has.day; same = has.same; grown = has.grown }

broken-later : (phase : Phase) (roster : Rows) (number : ℕ) (trades : List TradeRow) (cycle : Cycle) (book : Book) (op : List TradeRow → List TradeRow) (now : Moment) (trade : ℕ) →
    IsRowStep op → IsPlain now.ask.what → may_break phase ≡ true → InPhase phase roster number trades cycle book → IsBroken roster number (op trades) (broken_at cycle trade) (grown_book op now book)
broken-later NoPhase roster number trades cycle book op now trade step plain may p = cc
broken-later Frozen roster number trades cycle book op now trade step plain may p =
    record { opening = p.opening; has = opening-broken roster number (op trades) cycle (grown_book op now book) p.opening trade (opening-later roster number trades cycle book op now p.opening step plain p.has) }
broken-later Solving roster number trades cycle book op now trade step plain may p =
    record { opening = p.opening; has = opening-broken roster number (op trades) cycle (grown_book op now book) p.opening trade (opening-later roster number trades cycle book op now p.opening step plain p.has) }
broken-later Proposed roster number trades cycle book op now trade step plain may p =
    record { opening = p.opening; has = opening-broken roster number (op trades) cycle (grown_book op now book) p.opening trade (opening-later roster number trades cycle book op now p.opening step plain p.has) }
broken-later Broken roster number trades cycle book op now trade step plain may p = cc

right_false : (a b : Bool) → (a && b) ≡ false → a ≡ true → b ≡ false
right_false true b e is = e
right_false false b e is = cc

end_by : (t : Bool) (roster : Rows) (number : ℕ) (trades : List TradeRow) (cycle : Cycle) (book : Book) (now : Moment) (side : Side) (trade : ℕ) → IsPlain now.ask.what →
    (may_break cycle.phase && is_frozen_and_marked (trade_numbered trades trade)) ≡ t → Keeps roster number trades cycle book →
    Keeps roster number (ended_by side trades trade) (cond t (broken_at cycle trade) cycle) (grown_book (λ rows. ended_by side rows trade) now book)
end_by true roster number trades cycle book now side trade plain e keeps = record {
  numbered = (end-step side trade).numbers book.rows keeps.numbered;
  free = free-later (λ rows. ended_by side rows trade) (end-step side trade) book.rows keeps.free;
  count = keeps.count ∙ sym (plain.count (cycle_at number book.moments));
  phase = broken-later cycle.phase roster number trades cycle book (λ rows. ended_by side rows trade) now trade (end-step side trade) plain
      (and_parts (may_break cycle.phase) (is_frozen_and_marked (trade_numbered trades trade)) e).0 keeps.phase;
}
end_by false roster number trades cycle book now side trade plain e keeps =
    plain-keeps roster number trades cycle book (λ rows. ended_by side rows trade) now (end-step side trade) plain
    (λ may t same later are. live-end side t book.rows trade
    (sym (ap (λ ts. is_frozen_and_marked (trade_numbered ts trade)) same) ∙ right_false (may_break cycle.phase) (is_frozen_and_marked (trade_numbered trades trade)) e may) are)
    keeps

pub end-keeps : (roster : Rows) (number : ℕ) (trades : List TradeRow) (cycle : Cycle) (book : Book) (now : Moment) (side : Side) (trade : ℕ) → IsPlain now.ask.what → Keeps roster number trades cycle book →
    Keeps roster number (ended_by side trades trade) (cycle_after_end cycle trade (trade_numbered trades trade)) (grown_book (λ rows. ended_by side rows trade) now book)
end-keeps roster number trades cycle book now side trade plain keeps =
    end_by (may_break cycle.phase && is_frozen_and_marked (trade_numbered trades trade)) roster number trades cycle book now side trade plain refl keeps
