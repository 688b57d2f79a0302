-- A plan that is applied to the trades, and to the book.
use Rattle.std.proofs.Common.{◌≡◌, ◌+◌, false, List, [], ◌∷◌, ◌++◌, length, refl, sym, ap, ◌∙◌}
use Rattle.std.proofs.lemmas.List.{length-map}
use Rattle.command_types.specs.declared.plan.PlanRow.{PlanRow}
use Rattle.command_types.specs.declared.plan.PlanRow.TheVariants.{End, Cut, New}
use Rattle.command_types.specs.declared.trade.TradeRow.{TradeRow}
use Rattle.command_types.specs.Plans.{after_step, executed, ended_row, cut_row, made_row, thawed, thawed_row}
use Rattle.trade_history.specs.Book.{AreNumbered}
use Rattle.trade_history.proofs.Changes.{changed-marked, numbered-changed, marked-push, are_numbered-push}
use Rattle.trade_history.proofs.RowKinds.{ended-number, cut-number}

thawed-step : (rows : List TradeRow) (step : PlanRow) → thawed (after_step rows step) ≡ after_step (thawed rows) step
thawed-step rows (End trade) = sym (changed-marked ended_row ended-number (λ n. false) rows trade)
thawed-step rows (Cut trade from to) = sym (changed-marked (cut_row to) (cut-number to) (λ n. false) rows trade)
thawed-step rows (New product seller buyer amount day) =
    marked-push (λ n. false) rows (made_row (length rows + 1) product seller buyer amount day) refl
    ∙ ap (λ n. thawed rows ++ made_row (n + 1) product seller buyer amount day ∷ []) (sym (length-map rows thawed_row))

-- trades that are frozen or not come to the same by a plan
pub thawed-executed : (plan : List PlanRow) (rows : List TradeRow) → thawed (executed plan rows) ≡ executed plan (thawed rows)
thawed-executed [] rows = refl
thawed-executed (step ∷ plan) rows = thawed-executed plan (after_step rows step) ∙ ap (executed plan) (thawed-step rows step)

numbered-step : (rows : List TradeRow) (step : PlanRow) → AreNumbered 0 rows → AreNumbered 0 (after_step rows step)
numbered-step rows (End trade) are = numbered-changed ended_row ended-number rows trade are
numbered-step rows (Cut trade from to) are = numbered-changed (cut_row to) (cut-number to) rows trade are
numbered-step rows (New product seller buyer amount day) are = are_numbered-push rows (made_row (length rows + 1) product seller buyer amount day) are refl

pub numbered-executed : (plan : List PlanRow) (rows : List TradeRow) → AreNumbered 0 rows → AreNumbered 0 (executed plan rows)
numbered-executed [] rows are = are
numbered-executed (step ∷ plan) rows are = numbered-executed plan (after_step rows step) (numbered-step rows step are)
