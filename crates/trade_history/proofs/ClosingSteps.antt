-- DECLINE and CANCEL: how a proposal is dropped, and a cycle closed.
use Rattle.std.proofs.Common.{◌≡◌, ℕ, Bool, true, List, [], ◌∷◌, Option, refl, ap, ◌∙◌}
use Rattle.command_types.specs.declared.ask.What.TheVariants.{Decline, Cancel}
use Rattle.command_types.specs.declared.cycle.Phase.{Phase}
use Rattle.command_types.specs.declared.cycle.Phase.TheVariants.{None as NoPhase, Frozen, Solving, Proposed, Broken}
use Rattle.command_types.specs.declared.figures.Cycle.{Cycle}
use Rattle.command_types.specs.declared.trade.TradeRow.{TradeRow}
use Rattle.command_types.specs.Roster.{Rows}
use Rattle.command_types.specs.Plans.{thawed, thawed_row}
use Rattle.command_types.specs.Cycles.{closed, is_proposed, declined}
use Rattle.trade_history.specs.Executes.{Opening, takes, marked}
use Rattle.trade_history.specs.Book.{Book}
use Rattle.trade_history.proofs.Kept.{HasOpening, IsFrozen, InPhase, Keeps}
use Rattle.trade_history.proofs.OpeningSteps.{noted_book, opening-noted}

decline-phase : (phase : Phase) (roster : Rows) (number : ℕ) (trades : List TradeRow) (cycle : Cycle) (book : Book) (by : Option (List ℕ)) (time : ℕ) (c v : ℕ) →
    is_proposed phase ≡ true → InPhase phase roster number trades cycle book →
    IsFrozen roster number trades (declined cycle) (noted_book (record { by = by; what = Decline c v; moment = time }) book)
decline-phase NoPhase roster number trades cycle book by time c v may p = cc
decline-phase Frozen roster number trades cycle book by time c v may p = cc
decline-phase Solving roster number trades cycle book by time c v may p = cc
decline-phase Proposed roster number trades cycle book by time c v may p = record {
  opening = p.opening;
  has = opening-noted roster number trades cycle (declined cycle) book p.opening (record { ask = record { by = by; what = Decline c v; moment = time }; rows = book.rows })
      (λ b before. refl) refl refl p.has;
  live = p.live;
}
decline-phase Broken roster number trades cycle book by time c v may p = cc

pub decline-keeps : (roster : Rows) (number : ℕ) (trades : List TradeRow) (cycle : Cycle) (book : Book) (by : Option (List ℕ)) (time : ℕ) (c v : ℕ) →
    is_proposed cycle.phase ≡ true → Keeps roster number trades cycle book →
    Keeps roster number trades (declined cycle) (noted_book (record { by = by; what = Decline c v; moment = time }) book)
decline-keeps roster number trades cycle book by time c v may keeps = record {
  numbered = keeps.numbered;
  free = keeps.free;
  count = keeps.count;
  phase = decline-phase cycle.phase roster number trades cycle book by time c v may keeps.phase;
}

thawed-marked : (t : ℕ → Bool) (rows : List TradeRow) → thawed (marked t rows) ≡ thawed rows
thawed-marked t [] = refl
thawed-marked t (row ∷ rows) = ap (λ rest. thawed_row row ∷ rest) (thawed-marked t rows)

thawed-opened : (roster : Rows) (number : ℕ) (trades : List TradeRow) (cycle : Cycle) (book : Book) (opening : Opening) →
    thawed book.rows ≡ book.rows → HasOpening roster number trades cycle book opening → thawed trades ≡ book.rows
thawed-opened roster number trades cycle book opening free has = ap thawed has.same ∙ thawed-marked (takes roster.products opening) book.rows ∙ free

thawed-phase : (phase : Phase) (roster : Rows) (number : ℕ) (trades : List TradeRow) (cycle : Cycle) (book : Book) → thawed book.rows ≡ book.rows → InPhase phase roster number trades cycle book → thawed trades ≡ book.rows
thawed-phase NoPhase roster number trades cycle book free p = ap thawed p ∙ free
thawed-phase Frozen roster number trades cycle book free p = thawed-opened roster number trades cycle book p.opening free p.has
thawed-phase Solving roster number trades cycle book free p = thawed-opened roster number trades cycle book p.opening free p.has
thawed-phase Proposed roster number trades cycle book free p = thawed-opened roster number trades cycle book p.opening free p.has
thawed-phase Broken roster number trades cycle book free p = thawed-opened roster number trades cycle book p.opening free p.has

-- without their being frozen, the state's trades are the book's
pub keeps-thawed : (roster : Rows) (number : ℕ) (trades : List TradeRow) (cycle : Cycle) (book : Book) → Keeps roster number trades cycle book → thawed trades ≡ book.rows
keeps-thawed roster number trades cycle book keeps = thawed-phase cycle.phase roster number trades cycle book keeps.free keeps.phase

pub cancel-keeps : (roster : Rows) (number : ℕ) (trades : List TradeRow) (cycle : Cycle) (book : Book) (by : Option (List ℕ)) (time : ℕ) (c : ℕ) → Keeps roster number trades cycle book →
    Keeps roster number (thawed trades) (closed cycle.number cycle.version) (noted_book (record { by = by; what = Cancel c; moment = time }) book)
cancel-keeps roster number trades cycle book by time c keeps = record {
  numbered = keeps.numbered;
  free = keeps.free;
  count = keeps.count;
  phase = keeps-thawed roster number trades cycle book keeps;
}
