-- No command changes the roster.
use Rattle.std.proofs.Common.{◌≡◌, ℕ, List, [], ◌∷◌, Option, unwrap_or, refl, ◌∙◌}
use Rattle.network_laws.specs.Solutions.{SolutionData}
use Rattle.command_types.specs.declared.ask.Ask.{Ask}
use Rattle.command_types.specs.declared.ask.Entry.{Entry}
use Rattle.command_types.specs.declared.ask.What.{What}
use Rattle.command_types.specs.declared.ask.What.TheVariants.{Hello, Trade, Affirm, End, Hold, Free, Tol, Nets, Statement, Freeze, Begin, Limits, Row, Pot, Post, Fetch, Next, Plan, Proof, Accept, Decline, Cancel, Bye, Unreadable}
use Rattle.command_types.specs.declared.figures.State.{State}
use Rattle.command_types.specs.declared.plan.PlanRow.{PlanRow}
use Rattle.command_types.specs.Cycles.{posted_plan}
use Rattle.command_types.specs.CycleSteps.{proposed_or_done, touched_in, after_vote, left_after}
use Rattle.command_types.specs.History.{replayed_from}
use Rattle.command_types.specs.Machine.{member_of, state_by, state_after}

roster_posted : (s : State) (solutions : List SolutionData) (plan : List PlanRow) (touched : List ℕ) → (proposed_or_done s solutions plan touched).roster ≡ s.roster
roster_posted s solutions plan [] = refl
roster_posted s solutions plan (member ∷ members) = refl

roster_voted : (s : State) (member : ℕ) (left : List ℕ) → (after_vote s member left).roster ≡ s.roster
roster_voted s member [] = refl
roster_voted s member (voter ∷ voters) = refl

roster_by : (s : State) (by : Option (List ℕ)) (what : What) → (state_by s by what).roster ≡ s.roster
roster_by s by (Hello name key) = refl
roster_by s by (Trade seller buyer product amount day) = refl
roster_by s by (Affirm trade) = refl
roster_by s by (End trade) = refl
roster_by s by (Hold trade) = refl
roster_by s by (Free trade) = refl
roster_by s by (Tol other product side floor ceiling) = refl
roster_by s by (Nets product) = refl
roster_by s by Statement = refl
roster_by s by (Freeze day) = refl
roster_by s by (Begin cycle mode) = refl
roster_by s by (Limits product) = refl
roster_by s by (Row product seller buyer amount size sum) = refl
roster_by s by (Pot product member value size) = refl
roster_by s by (Post cycle version solutions) =
    roster_posted s solutions (posted_plan s.cycle s.trades solutions) (touched_in s (posted_plan s.cycle s.trades solutions))
roster_by s by (Fetch cycle version) = refl
roster_by s by (Next position) = refl
roster_by s by (Plan cycle) = refl
roster_by s by (Proof cycle) = refl
roster_by s by (Accept cycle version) = roster_voted s (member_of s (unwrap_or by [])) (left_after s (member_of s (unwrap_or by [])))
roster_by s by (Decline cycle version) = refl
roster_by s by (Cancel cycle) = refl
roster_by s by Bye = refl
roster_by s by (Unreadable at) = refl

pub roster_after : (s : State) (ask : Ask) → (state_after s ask).roster ≡ s.roster
roster_after s ask = roster_by s ask.by ask.what

-- nor do changes, one after another
pub roster_on : (s : State) (entries : List Entry) → (replayed_from s entries).roster ≡ s.roster
roster_on s [] = refl
roster_on s (entry ∷ entries) = roster_on (state_after s entry.ask) entries ∙ roster_after s entry.ask
