-- Doing what a command does leads to the next state; what an accepted command does may be done, and adds few trades.
use Rattle.std.proofs.Common.{◌≡◌, ℕ, ◌<◌, ◌≤◌, Bool, true, false, if◌then◌else◌, IsTrue, List, [], ◌∷◌, length, Option, Some, None, is_none, unwrap_or, arith, refl}
use Rattle.std.proofs.lemmas.Bool.{false≢true}
use Rattle.std.specs.Str.{bytes_eq}
use Rattle.std.specs.Prelude.{All}
use Rattle.std.proofs.lemmas.List.Elements.{All-nil}
use Rattle.network_laws.specs.Solutions.{ProblemData, SolutionData, IsSolution}
use Rattle.command_types.specs.History.{solutions_posted}
use Rattle.units_core.specs.Day.{DayParts}
use Rattle.command_types.specs.declared.ask.Ask.{Ask}
use Rattle.command_types.specs.declared.ask.What.{What}
use Rattle.command_types.specs.declared.ask.What.TheVariants.{Hello, Trade, Affirm, End, Hold, Free, Tol, Nets, Statement, Freeze, Begin, Limits, Row, Pot, Post, Fetch, Next, Plan, Proof, Accept, Decline, Cancel, Bye, Unreadable}
use Rattle.command_types.specs.declared.figures.Cycle.{Cycle}
use Rattle.command_types.specs.declared.figures.State.{State}
use Rattle.command_types.specs.declared.plan.PlanRow.{PlanRow}
use Rattle.command_types.specs.declared.roster.ProductRow.{ProductRow}
use Rattle.command_types.specs.declared.tolerance.ToleranceRow.{ToleranceRow}
use Rattle.command_types.specs.declared.trade.TradeRow.{TradeRow}
use Rattle.command_types.specs.Cycles.{is_proposed, posted_plan}
use Rattle.command_types.specs.CycleSteps.{after_vote, left_after, proposed_or_done, touched_in}
use Rattle.command_types.specs.Machine.{accepted, changes, first_of, member_of, party_answer, product_of, refusals, state_after, state_by}
use Rattle.command_types.specs.Plans.{count_of, is_new}
use Rattle.command_types.specs.Roster.{Rows, member_place, product_place}
use Rattle.command_types.specs.Told.{is_accept}
use Rattle.cycle_states.specs.Ballot.{planned_rows}
use Rattle.cycle_states.specs.Begun.{AreCheckedBy}
use Rattle.cycle_states.specs.Effects.{applied, decides, effect_by, effect_of, is_vote, posting_effect, rows_with, vote_effect, MayAllege, MayApply}
use Rattle.cycle_states.specs.Machine.{state_with, IsMachine}
use Rattle.cycle_states.proofs.CycleFacts.{solving_limits}
use Rattle.cycle_states.proofs.KeptFacts.{post_solves}
use Rattle.cycle_states.proofs.MachineFacts.{found_by, neither, parties_differ, some_member, terms_stand, trade_fits}
use Rattle.cycle_states.proofs.SettledFacts.{posting_few, proposal_few}

posting_next : (s : State) (solutions : List SolutionData) (plan : List PlanRow) (touched : List ℕ) → applied s (posting_effect solutions plan touched) ≡ proposed_or_done s solutions plan touched
posting_next s solutions plan [] = refl
posting_next s solutions plan (member ∷ members) = refl

vote_next : (s : State) (member : ℕ) (left : List ℕ) → applied s (vote_effect member left) ≡ after_vote s member left
vote_next s member [] = refl
vote_next s member (voter ∷ voters) = refl

next_by : (s : State) (by : Option (List ℕ)) (what : What) → applied s (effect_by s (unwrap_or by []) what) ≡ state_by s by what
next_by s by (Hello name key) = refl
next_by s by (Trade seller buyer product amount day) = refl
next_by s by (Affirm trade) = refl
next_by s by (End trade) = refl
next_by s by (Hold trade) = refl
next_by s by (Free trade) = refl
next_by s by (Tol other product side floor ceiling) = refl
next_by s by (Nets product) = refl
next_by s by Statement = refl
next_by s by (Freeze day) = refl
next_by s by (Begin cycle mode) = refl
next_by s by (Limits product) = refl
next_by s by (Row product seller buyer amount size sum) = refl
next_by s by (Pot product member value size) = refl
next_by s by (Post cycle version solutions) =
    posting_next s solutions (posted_plan s.cycle s.trades solutions) (touched_in s (posted_plan s.cycle s.trades solutions))
next_by s by (Fetch cycle version) = refl
next_by s by (Next position) = refl
next_by s by (Plan cycle) = refl
next_by s by (Proof cycle) = refl
next_by s by (Accept cycle version) = vote_next s (member_of s (unwrap_or by [])) (left_after s (member_of s (unwrap_or by [])))
next_by s by (Decline cycle version) = refl
next_by s by (Cancel cycle) = refl
next_by s by Bye = refl
next_by s by (Unreadable at) = refl

-- doing what a command does leads to the state after it
pub effect_is_next : (s : State) (ask : Ask) → applied s (effect_of s ask) ≡ state_after s ask
effect_is_next s ask = next_by s ask.by ask.what

-- an accepted change is answered as a party's command
pub change_told : (s : State) (by : Option (List ℕ)) (what : What) → changes what ≡ true → party_answer s (unwrap_or by []) what ≡ accepted s by what
change_told s by (Hello name key) change = absurd (false≢true change)
change_told s by Bye change = absurd (false≢true change)
change_told s by (Unreadable at) change = absurd (false≢true change)
change_told s by what change = refl

-- so is any accepted command but a greeting, a BYE and a line that is no command
pub party_told : (s : State) (by : Option (List ℕ)) (what : What) → ((name key : List ℕ) → what ≡ Hello name key → ⊥) → (what ≡ Bye → ⊥) → ((at : ℕ) → what ≡ Unreadable at → ⊥) → party_answer s (unwrap_or by []) what ≡ accepted s by what
party_told s by (Hello name key) no_hello no_bye readable = absurd (no_hello name key refl)
party_told s by Bye no_hello no_bye readable = absurd (no_bye refl)
party_told s by (Unreadable at) no_hello no_bye readable = absurd (readable at refl)
party_told s by what no_hello no_bye readable = refl

-- no other command than a POST posts solutions
pub no_solutions : (what : What) → ((cycle version : ℕ) (solutions : List SolutionData) → what ≡ Post cycle version solutions → ⊥) → All IsSolution (solutions_posted what)
no_solutions (Post cycle version solutions) other = absurd (other cycle version solutions refl)
no_solutions what other = All-nil IsSolution

-- no other is checked by problems
pub unchecked : (s : State) (what : What) (problems : List ProblemData) → ((cycle version : ℕ) (solutions : List SolutionData) → what ≡ Post cycle version solutions → ⊥) → AreCheckedBy s what problems
unchecked s (Post cycle version solutions) problems other = absurd (other cycle version solutions refl)
unchecked s what problems other = tt

-- a command that neither posts nor votes does not decide on a plan
pub undecided : (what : What) → ((cycle version : ℕ) (solutions : List SolutionData) → what ≡ Post cycle version solutions → ⊥) → ((cycle version : ℕ) → what ≡ Accept cycle version → ⊥) → decides what ≡ false
undecided (Post cycle version solutions) no_post no_vote = absurd (no_post cycle version solutions refl)
undecided (Accept cycle version) no_post no_vote = absurd (no_vote cycle version refl)
undecided what no_post no_vote = refl

-- a member's place is below their number, and a product's likewise
member_there : (s : State) (name : List ℕ) → is_none (member_place s.roster name) ≡ false → member_of s name < length s.roster.members
member_there s name there = (found_by (λ row. bytes_eq row.name name) s.roster.members some_member (member_place s.roster name) refl there).0

some_product : ProductRow
some_product = record { name = []; maturity = record { year = 0; month = 0; day = 0 } }

product_there : (s : State) (name : List ℕ) → is_none (product_place s.roster name) ≡ false → product_of s name < length s.roster.products
product_there s name there = (found_by (λ row. bytes_eq row.name name) s.roster.products some_product (product_place s.roster name) refl there).0

-- the trade of an accepted TRADE may be put last
pub may_allege : (s : State) (name seller buyer product : List ℕ) (amount : ℕ) (day : DayParts) → first_of (refusals s (Some name) (Trade seller buyer product amount day)) ≡ None →
    MayAllege s (member_of s seller) (member_of s buyer) (product_of s product) amount
may_allege s name seller buyer product amount day none =
    let stand = terms_stand s (Some name) name seller buyer product amount day refl none in
    let there = neither (is_none (member_place s.roster seller)) (is_none (member_place s.roster buyer)) stand.0 in
    record {
      seller_there = member_there s seller there.0;
      buyer_there = member_there s buyer there.1;
      product_there = product_there s product stand.1.0;
      different = parties_differ s (Some name) name seller buyer product amount day refl none;
      bound = trade_fits s (Some name) name seller buyer product amount day refl none;
    }

posting_rows : (solutions : List SolutionData) (plan : List PlanRow) (made : ℕ) (touched : List ℕ) → count_of is_new plan ≤ 4194304 → rows_with (posting_effect solutions plan touched) made ≤ 4194305
posting_rows solutions plan made [] few = omega (arith, few)
posting_rows solutions plan made (member ∷ members) few = omega (arith, few)

vote_rows : (member : ℕ) (left : List ℕ) (made : ℕ) → rows_with (vote_effect member left) made ≤ 4194305
vote_rows member [] made = omega arith
vote_rows member (voter ∷ voters) made = omega arith

planned_by : (b : Bool) (n : ℕ) → (b ≡ true → n ≤ 4194304) → (if b then n else 0) ≤ 4194304
planned_by true n few = few refl
planned_by false n few = omega arith

-- what an ACCEPT does is a vote
pub accept_votes : (s : State) (by : List ℕ) (what : What) → IsTrue (is_accept what) → IsTrue (is_vote (effect_by s by what))
accept_votes s by (Accept cycle version) h = by_left (left_after s (member_of s by))
  where
    by_left : (left : List ℕ) → IsTrue (is_vote (vote_effect (member_of s by) left))
    by_left [] = refl
    by_left (voter ∷ voters) = refl
accept_votes s by what h = absurd (false≢true h)

-- and where it may be done, there is room for one more vote
pub vote_has_room : (s : State) (by : List ℕ) (what : What) → is_accept what ≡ true → MayApply s (effect_by s by what) → length s.cycle.votes < 256
vote_has_room s by (Accept cycle version) h may = of_left (left_after s (member_of s by)) may
  where
    of_left : (left : List ℕ) → MayApply s (vote_effect (member_of s by) left) → length s.cycle.votes < 256
    of_left [] last = last.room
    of_left (voter ∷ voters) one = one
vote_has_room s by what h may = absurd (false≢true h)

module _ (roster : Rows) (members products : ℕ) (rows : List TradeRow) (settings : List ToleranceRow) (cycle : Cycle) (kept : IsMachine roster members products rows cycle) where
  abbrev s : State
  s = state_with roster rows settings cycle

  few_planned : planned_rows cycle ≤ 4194304
  few_planned = planned_by (is_proposed cycle.phase) (count_of is_new cycle.plan) (λ on. proposal_few roster members products rows cycle kept on)

  -- what an accepted command does wants room for few trades
  pub few_rows : (by : Option (List ℕ)) (what : What) → first_of (refusals s by what) ≡ None → rows_with (effect_by s (unwrap_or by []) what) (planned_rows cycle) ≤ 4194305
  few_rows by (Trade seller buyer product amount day) none = omega (arith, few_planned)
  few_rows by (Post number version solutions) none =
      posting_rows solutions (posted_plan cycle rows solutions) (planned_rows cycle) (touched_in s (posted_plan cycle rows solutions))
      (posting_few roster members products rows cycle kept solutions (solving_limits cycle.phase (post_solves s by number version solutions none)))
  few_rows by (Accept number version) none =
      vote_rows (member_of s (unwrap_or by [])) (left_after s (member_of s (unwrap_or by []))) (planned_rows cycle)
  few_rows by what none = omega arith
