-- Each accepted command: what it leaves and answers, beside the history's book.
use Rattle.std.proofs.Common.{◌≡◌, ℕ, zero, suc, Bool, true, false, cond, List, [], ◌∷◌, Option, Some, None, is_some, slice_get, unwrap_or, refl, sym, ap, ◌∙◌, subst, ◌||◌}
use Rattle.std.proofs.lemmas.Bool.{false≢true}
use Rattle.command_types.specs.declared.ask.What.{What}
use Rattle.command_types.specs.declared.ask.What.TheVariants.{Trade, Affirm, End, Hold, Free, Tol, Freeze, Begin, Post, Accept, Decline, Cancel}
use Rattle.command_types.specs.declared.answer.Answer.TheVariants.{Ended, Marked}
use Rattle.command_types.specs.declared.figures.State.{State}
use Rattle.command_types.specs.declared.trade.TradeRow.{TradeRow}
use Rattle.command_types.specs.Roster.{Rows}
use Rattle.command_types.specs.Trades.{trade_numbered, with_alleged, affirmed, ended_by, held_by, freed_by, is_alleged}
use Rattle.command_types.specs.Plans.{thawed}
use Rattle.command_types.specs.CycleSteps.{cycle_after_end}
use Rattle.command_types.specs.Machine.{member_of, product_of, side_of, side_at, end_answer, accepted, state_by}
use Rattle.trade_history.specs.Book.{Book, side_taken}
use Rattle.trade_history.specs.Laws.{is_execution}
use Rattle.trade_history.proofs.Changes.{numbered-at}
use Rattle.trade_history.proofs.Kept.{Keeps}
use Rattle.trade_history.proofs.RowSteps.{none-step, trade-step, affirm-step, hold-step, free-step, live-trade, live-affirm, live-hold}
use Rattle.trade_history.proofs.PlainSteps.{grown_book, plain-keeps}
use Rattle.trade_history.proofs.EndSteps.{end-keeps}
use Rattle.trade_history.proofs.OpeningSteps.{freeze-keeps, begin-keeps}
use Rattle.trade_history.proofs.ClosingSteps.{keeps-thawed, decline-keeps, cancel-keeps}
use Rattle.trade_history.proofs.Outcome.{now_of, IsOutcome}
use Rattle.trade_history.proofs.PostSteps.{post-outcome}
use Rattle.trade_history.proofs.AcceptSteps.{accept-outcome}
use Rattle.trade_history.proofs.Legal.{Accepts, none-holds, is-change, freeze-legal, begin-legal, post-legal, accept-legal, decline-legal}

-- the side of a party does not depend on what is frozen
get-thawed : (roster : Rows) (name : List ℕ) (rows : List TradeRow) (k : ℕ) → side_taken roster name (slice_get (thawed rows) k) ≡ side_taken roster name (slice_get rows k)
get-thawed roster name [] k = refl
get-thawed roster name (row ∷ rows) zero = refl
get-thawed roster name (row ∷ rows) (suc k) = get-thawed roster name rows k

side-thawed : (roster : Rows) (name : List ℕ) (rows : List TradeRow) (trade : ℕ) → side_taken roster name (trade_numbered (thawed rows) trade) ≡ side_taken roster name (trade_numbered rows trade)
side-thawed roster name rows zero = refl
side-thawed roster name rows (suc k) =
    ap (side_taken roster name) (numbered-at (thawed rows) k) ∙ get-thawed roster name rows k ∙ ap (side_taken roster name) (sym (numbered-at rows k))

side-same : (s : State) (name : List ℕ) (o : Option TradeRow) → side_at s name o ≡ side_taken s.roster name o
side-same s name None = refl
side-same s name (Some row) = refl

keeps-side : (number : ℕ) (s : State) (book : Book) (name : List ℕ) (trade : ℕ) → Keeps s.roster number s.trades s.cycle book →
    side_at s name (trade_numbered s.trades trade) ≡ side_taken s.roster name (trade_numbered book.rows trade)
keeps-side number s book name trade keeps =
    side-same s name (trade_numbered s.trades trade)
    ∙ sym (side-thawed s.roster name s.trades trade)
    ∙ ap (λ rows. side_taken s.roster name (trade_numbered rows trade)) (keeps-thawed s.roster number s.trades s.cycle book keeps)

end_told : (ends : Bool) (trade : ℕ) → is_execution (cond ends (Ended trade) (Marked trade)) ≡ false
end_told true trade = refl
end_told false trade = refl

pub end-told : (trade : ℕ) (o : Option TradeRow) → is_execution (end_answer trade o) ≡ false
end-told trade None = refl
end-told trade (Some row) = end_told (is_alleged row.state || is_some row.mark) trade

pub step : (number : ℕ) (s : State) (book : Book) (by : Option (List ℕ)) (time : ℕ) (what : What) → Keeps s.roster number s.trades s.cycle book →
    Accepts s by what → IsOutcome number s (state_by s by what) book (record { by = by; what = what; moment = time }) (accepted s by what)
step number s book by time (Trade seller buyer product amount day) keeps is = record {
  roster = refl;
  keeps = plain-keeps s.roster number s.trades s.cycle book
      (λ rows. with_alleged rows (member_of s seller) (member_of s buyer) (product_of s product) amount day (side_of (unwrap_or by []) seller))
      (now_of (record { by = by; what = Trade seller buyer product amount day; moment = time }) book)
      (trade-step (member_of s seller) (member_of s buyer) (product_of s product) amount day (side_of (unwrap_or by []) seller))
      (record { count = λ n. refl; opening = λ b rows before. refl; post = λ k v. refl; drop = λ k. refl; accept = λ k v. refl; begin = λ k. refl })
      (λ may t same later are. live-trade (member_of s seller) (member_of s buyer) (product_of s product) amount day (side_of (unwrap_or by []) seller) t book.rows later are)
      keeps;
  told = refl;
}
step number s book by time (Affirm trade) keeps is = record {
  roster = refl;
  keeps = plain-keeps s.roster number s.trades s.cycle book (λ rows. affirmed rows trade) (now_of (record { by = by; what = Affirm trade; moment = time }) book) (affirm-step trade)
      (record { count = λ n. refl; opening = λ b rows before. refl; post = λ k v. refl; drop = λ k. refl; accept = λ k v. refl; begin = λ k. refl })
      (λ may t same later are. live-affirm t book.rows trade are) keeps;
  told = refl;
}
step number s book by time (End trade) keeps is =
    let now = now_of (record { by = by; what = End trade; moment = time }) book in
    let side = side_at s (unwrap_or by []) (trade_numbered s.trades trade) in
    record {
      roster = refl;
      keeps = subst (λ other. Keeps s.roster number (ended_by side s.trades trade) (cycle_after_end s.cycle trade (trade_numbered s.trades trade)) (grown_book (λ rows. ended_by other rows trade) now book))
          (keeps-side number s book (unwrap_or by []) trade keeps)
          (end-keeps s.roster number s.trades s.cycle book now side trade
          (record { count = λ n. refl; opening = λ b rows before. refl; post = λ k v. refl; drop = λ k. refl; accept = λ k v. refl; begin = λ k. refl }) keeps);
      told = end-told trade (trade_numbered s.trades trade);
    }
step number s book by time (Hold trade) keeps is =
    let now = now_of (record { by = by; what = Hold trade; moment = time }) book in
    let side = side_at s (unwrap_or by []) (trade_numbered s.trades trade) in
    record {
      roster = refl;
      keeps = subst (λ other. Keeps s.roster number (held_by side s.trades trade) s.cycle (grown_book (λ rows. held_by other rows trade) now book))
          (keeps-side number s book (unwrap_or by []) trade keeps)
          (plain-keeps s.roster number s.trades s.cycle book (λ rows. held_by side rows trade) now (hold-step side trade)
          (record { count = λ n. refl; opening = λ b rows before. refl; post = λ k v. refl; drop = λ k. refl; accept = λ k v. refl; begin = λ k. refl })
          (λ may t same later are. live-hold true side t book.rows trade are) keeps);
      told = refl;
    }
step number s book by time (Free trade) keeps is =
    let now = now_of (record { by = by; what = Free trade; moment = time }) book in
    let side = side_at s (unwrap_or by []) (trade_numbered s.trades trade) in
    record {
      roster = refl;
      keeps = subst (λ other. Keeps s.roster number (freed_by side s.trades trade) s.cycle (grown_book (λ rows. freed_by other rows trade) now book))
          (keeps-side number s book (unwrap_or by []) trade keeps)
          (plain-keeps s.roster number s.trades s.cycle book (λ rows. freed_by side rows trade) now (free-step side trade)
          (record { count = λ n. refl; opening = λ b rows before. refl; post = λ k v. refl; drop = λ k. refl; accept = λ k v. refl; begin = λ k. refl })
          (λ may t same later are. live-hold false side t book.rows trade are) keeps);
      told = refl;
    }
step number s book by time (Tol other product side floor ceiling) keeps is = record {
  roster = refl;
  keeps = plain-keeps s.roster number s.trades s.cycle book (λ rows. rows) (now_of (record { by = by; what = Tol other product side floor ceiling; moment = time }) book) none-step
      (record { count = λ n. refl; opening = λ b rows before. refl; post = λ k v. refl; drop = λ k. refl; accept = λ k v. refl; begin = λ k. refl })
      (λ may t same later are. are) keeps;
  told = refl;
}
step number s book by time (Freeze day) keeps is = record {
  roster = refl;
  keeps = freeze-keeps s.roster number s.trades s.cycle book by time day (freeze-legal s by day (none-holds s by (Freeze day) is)) keeps;
  told = refl;
}
step number s book by time (Begin c mode) keeps is =
    let legal = begin-legal s by c mode (none-holds s by (Begin c mode) is) in
    record {
      roster = refl;
      keeps = begin-keeps s.roster number s.trades s.tolerances s.cycle book by time c mode legal.0 legal.1 keeps;
      told = refl;
    }
step number s book by time (Post c v solutions) keeps is =
    let legal = post-legal s by c v solutions (none-holds s by (Post c v solutions) is) in
    post-outcome number s book by time c v solutions legal.0 legal.1 legal.2 keeps
step number s book by time (Accept c v) keeps is =
    let legal = accept-legal s by c v (none-holds s by (Accept c v) is) in
    accept-outcome number s book by time c v legal.0 legal.1 legal.2 legal.3 keeps
step number s book by time (Decline c v) keeps is = record {
  roster = refl;
  keeps = decline-keeps s.roster number s.trades s.cycle book by time c v (decline-legal s by c v (none-holds s by (Decline c v) is)) keeps;
  told = refl;
}
step number s book by time (Cancel c) keeps is = record {
  roster = refl;
  keeps = cancel-keeps s.roster number s.trades s.cycle book by time c keeps;
  told = refl;
}
step number s book by time what keeps is = absurd (false≢true (is-change s by what is))
