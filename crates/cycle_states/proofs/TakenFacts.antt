-- What every change keeps of the settings: while a version stands, those that were last taken are its own.
use Rattle.std.proofs.Common.{◌≡◌, ℕ, ◌&&◌, Bool, true, false, List, [], ◌∷◌, Option, unwrap_or, if◌then◌else◌, sym, subst}
use Rattle.std.proofs.lemmas.Bool.{false≢true}
use Rattle.network_laws.specs.Solutions.{SolutionData}
use Rattle.command_types.specs.declared.ask.Ask.{Ask}
use Rattle.command_types.specs.declared.ask.What.{What}
use Rattle.command_types.specs.declared.ask.What.TheVariants.{Hello, Trade, Affirm, End, Hold, Free, Tol, Nets, Statement, Freeze, Begin, Limits, Row, Pot, Post, Fetch, Next, Plan, Proof, Accept, Decline, Cancel, Bye, Unreadable}
use Rattle.command_types.specs.declared.figures.Cycle.{Cycle}
use Rattle.command_types.specs.declared.figures.State.{State}
use Rattle.command_types.specs.declared.plan.PlanRow.{PlanRow}
use Rattle.command_types.specs.declared.tolerance.ToleranceRow.{ToleranceRow}
use Rattle.command_types.specs.Cycles.{may_break, posted_plan, broken_at}
use Rattle.command_types.specs.CycleSteps.{is_frozen_and_marked, proposed_or_done, touched_in, after_vote, left_after}
use Rattle.command_types.specs.Machine.{member_of, state_by, state_after}
use Rattle.command_types.specs.Trades.{trade_numbered}
use Rattle.tolerance_sets.specs.Settings.{TolerancesView}
use Rattle.cycle_states.specs.Effects.{effect_by, effect_of, posting_effect, taken_with, vote_effect}
use Rattle.cycle_states.specs.Machine.{AreTaken}

-- an END leaves the version's settings, whether it breaks the cycle or not
taken_ended : (t : Bool) (cycle : Cycle) (trade : ℕ) (taken : List ToleranceRow) → AreTaken cycle taken → AreTaken (if t then broken_at cycle trade else cycle) taken
taken_ended true cycle trade taken kept = kept
taken_ended false cycle trade taken kept = kept

-- a posting leaves them, or ends the cycle
taken_posted : (s : State) (solutions : List SolutionData) (plan : List PlanRow) (touched : List ℕ) (t : TolerancesView) → AreTaken s.cycle t.taken →
    AreTaken (proposed_or_done s solutions plan touched).cycle (taken_with (posting_effect solutions plan touched) t)
taken_posted s solutions plan [] t kept = λ stands. absurd (false≢true stands)
taken_posted s solutions plan (member ∷ members) t kept = kept

-- and so does a vote
taken_voted : (s : State) (member : ℕ) (left : List ℕ) (t : TolerancesView) → AreTaken s.cycle t.taken → AreTaken (after_vote s member left).cycle (taken_with (vote_effect member left) t)
taken_voted s member [] t kept = λ stands. absurd (false≢true stands)
taken_voted s member (voter ∷ voters) t kept = kept

taken_by : (s : State) (by : Option (List ℕ)) (what : What) (t : TolerancesView) → t.settings ≡ s.tolerances → AreTaken s.cycle t.taken →
    AreTaken (state_by s by what).cycle (taken_with (effect_by s (unwrap_or by []) what) t)
taken_by s by (Hello name key) t same kept = kept
taken_by s by (Trade seller buyer product amount day) t same kept = kept
taken_by s by (Affirm trade) t same kept = kept
taken_by s by (End trade) t same kept =
    taken_ended (may_break s.cycle.phase && is_frozen_and_marked (trade_numbered s.trades trade)) s.cycle trade t.taken kept
taken_by s by (Hold trade) t same kept = kept
taken_by s by (Free trade) t same kept = kept
taken_by s by (Tol other product side floor ceiling) t same kept = kept
taken_by s by (Nets product) t same kept = kept
taken_by s by Statement t same kept = kept
taken_by s by (Freeze day) t same kept = λ stands. absurd (false≢true stands)
taken_by s by (Begin cycle mode) t same kept = λ stands. same
taken_by s by (Limits product) t same kept = kept
taken_by s by (Row product seller buyer amount size sum) t same kept = kept
taken_by s by (Pot product member value size) t same kept = kept
taken_by s by (Post cycle version solutions) t same kept =
    taken_posted s solutions (posted_plan s.cycle s.trades solutions) (touched_in s (posted_plan s.cycle s.trades solutions)) t kept
taken_by s by (Fetch cycle version) t same kept = kept
taken_by s by (Next position) t same kept = kept
taken_by s by (Plan cycle) t same kept = kept
taken_by s by (Proof cycle) t same kept = kept
taken_by s by (Accept cycle version) t same kept = taken_voted s (member_of s (unwrap_or by [])) (left_after s (member_of s (unwrap_or by []))) t kept
taken_by s by (Decline cycle version) t same kept = λ stands. absurd (false≢true stands)
taken_by s by (Cancel cycle) t same kept = λ stands. absurd (false≢true stands)
taken_by s by Bye t same kept = kept
taken_by s by (Unreadable at) t same kept = kept

-- after a command's effect, what was last taken is the version's own
pub stays_taken : (s n : State) (ask : Ask) (t : TolerancesView) (taken : List ToleranceRow) → n ≡ state_after s ask → taken ≡ taken_with (effect_of s ask) t → t.settings ≡ s.tolerances → AreTaken s.cycle t.taken →
    AreTaken n.cycle taken
stays_taken s n ask t taken on is same kept =
    subst (λ (after : State). AreTaken after.cycle taken) (sym on)
    (subst (λ (rows : List ToleranceRow). AreTaken (state_after s ask).cycle rows) (sym is) (taken_by s ask.by ask.what t same kept))
