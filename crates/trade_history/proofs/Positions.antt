-- The positions of a history, and the changes at them.
use Rattle.std.proofs.Common.{◌≡◌, ℕ, zero, suc, ◌+◌, ◌-◌, List, [], ◌∷◌, ◌++◌, length, take, sym, ◌∙◌, subst₂, arith}
use Rattle.std.proofs.Math.Seq.{take-append_seam, take-append-add}
use Rattle.command_types.specs.declared.ask.Entry.{Entry}
use Rattle.command_types.specs.declared.figures.State.{State}
use Rattle.command_types.specs.declared.plan.PlanRow.{PlanRow}
use Rattle.command_types.specs.Machine.{state_after}
use Rattle.command_types.specs.History.{History, IsLegalFrom, cut_after}
use Rattle.trade_history.specs.Executes.{Executes}
use Rattle.trade_history.specs.Book.{book_from}
use Rattle.trade_history.specs.Laws.{TradesFollowAtEachPosition, PositionsAreChanges}
use Rattle.trade_history.proofs.Replay.{trades_are_the_historys}

legal-take : (n : ℕ) (s : State) (entries : List Entry) → IsLegalFrom s entries → IsLegalFrom s (take n entries)
legal-take zero s entries legal = tt
legal-take (suc n) s [] legal = tt
legal-take (suc n) s (entry ∷ entries) (here, rest) = (here, legal-take n (state_after s entry.ask) entries rest)

pub trades_follow_at_each_position : TradesFollowAtEachPosition
trades_follow_at_each_position h base legal position =
    trades_are_the_historys (cut_after h position) base (legal-take (position - h.base.position) h.base.state h.entries legal)

-- the changes up to a position, and those before it
front-at : (h : History) (front : List Entry) (entry : Entry) (back : List Entry) → h.entries ≡ front ++ entry ∷ back → (cut_after h (h.base.position + length front + 1)).entries ≡ front ++ entry ∷ []
front-at h front entry back split =
    let count : h.base.position + length front + 1 - h.base.position ≡ length front + 1 = omega arith in
    (λ i. take (count i) (split i)) ∙ take-append-add front (entry ∷ back) 1

front-before : (h : History) (front : List Entry) (entry : Entry) (back : List Entry) → h.entries ≡ front ++ entry ∷ back → (cut_after h (h.base.position + length front + 1 - 1)).entries ≡ front
front-before h front entry back split =
    let count : h.base.position + length front + 1 - 1 - h.base.position ≡ length front = omega arith in
    (λ i. take (count i) (split i)) ∙ take-append_seam front (entry ∷ back)

-- what executes after the second list of changes, looked at from the end of the first
abbrev ExecutesBetween : State → List Entry → List Entry → ℕ → ℕ → List PlanRow → Type 0
ExecutesBetween s upto before cycle version plan = Executes s.roster s.cycle.number (book_from s upto).moments (book_from s before).rows cycle version plan

pub positions_are_changes : PositionsAreChanges
positions_are_changes h front entry back split cycle version plan =
    let upto = front-at h front entry back split in
    let before = front-before h front entry back split in (
      λ x. subst₂ (λ a b. ExecutesBetween h.base.state a b cycle version plan) upto before x,
      λ x. subst₂ (λ a b. ExecutesBetween h.base.state a b cycle version plan) (sym upto) (sym before) x,
    )
