-- What an accepted change does, with all that it takes in hand.
use Rattle.std.specs.Prelude.{◌≡◌, ℕ, ◌+◌, ◌<◌, ◌≤◌, ◌≢◌, Bool, true, false, List, [], ◌∷◌, ◌++◌, length, unwrap_or, IsTrue, ⊤}
use Rattle.network_laws.specs.Solutions.{SolutionData}
use Rattle.command_types.specs.declared.ask.Ask.{Ask}
use Rattle.command_types.specs.declared.ask.What.{What}
use Rattle.command_types.specs.declared.ask.What.TheVariants.{Trade, Affirm, End, Hold, Free, Tol, Freeze, Begin, Post, Accept, Decline, Cancel}
use Rattle.command_types.specs.declared.figures.State.{State}
use Rattle.command_types.specs.declared.plan.PlanRow.{PlanRow}
use Rattle.command_types.specs.Cycles.{problems_of, begun_with, proposed_with, is_proposed, posted_plan}
use Rattle.command_types.specs.CycleRefusals.{is_crossed}
use Rattle.command_types.specs.CycleSteps.{after_freeze, after_execution, after_decline, after_cancel, cycle_after_end, left_after, touched_in}
use Rattle.command_types.specs.Execution.{IsExecutable}
use Rattle.command_types.specs.Machine.{member_of, product_of, side_at, side_of, state_after}
use Rattle.command_types.specs.Plans.{count_of, is_new}
use Rattle.command_types.specs.Tolerances.{with_setting}
use Rattle.command_types.specs.Trades.{affirmed, ended_by, freed_by, gross_of, held_by, trade_numbered, with_alleged}
use Rattle.command_types.specs.declared.tolerance.ToleranceRow.{ToleranceRow}
use Rattle.tolerance_sets.specs.Settings.{TolerancesView}
use Rattle.product_book.specs.Book.{gross_limit, may_affirm, may_end, may_free, may_hold}
use Rattle.units_core.specs.declared.limits.TheConstants.{MOST_MEMBERS}
use Rattle.cycle_states.specs.Ballot.{planned_rows}
use Rattle.cycle_states.specs.declared.machine.effect.Effect.{Effect}
use Rattle.cycle_states.specs.declared.machine.effect.Effect.TheVariants as effect

-- the state once this is done
abbrev pub applied : State → Effect → State
applied s (effect.Allege seller buyer product amount day submitter) = record s { trades = with_alleged s.trades seller buyer product amount day submitter }
applied s (effect.Affirm trade) = record s { trades = affirmed s.trades trade }
applied s (effect.End trade side) =
    record s { trades = ended_by side s.trades trade; cycle = cycle_after_end s.cycle trade (trade_numbered s.trades trade) }
applied s (effect.Hold trade side) = record s { trades = held_by side s.trades trade }
applied s (effect.Free trade side) = record s { trades = freed_by side s.trades trade }
applied s (effect.Set setting) = record s { tolerances = with_setting setting s.tolerances }
applied s (effect.Freeze day) = after_freeze s day
applied s (effect.Begin mode) = record s { cycle = begun_with s.cycle mode s.tolerances (problems_of s.roster s.trades s.tolerances mode) }
applied s (effect.Propose solutions plan) = record s { cycle = proposed_with s.cycle solutions plan }
applied s (effect.Execute plan) = after_execution s plan
applied s effect.Complete = after_execution s s.cycle.plan
applied s (effect.Vote member) = record s { cycle = record s.cycle { votes = s.cycle.votes ++ member ∷ [] } }
applied s effect.Decline = after_decline s
applied s effect.Cancel = after_cancel s
applied s effect.Keep = s

-- a plan that touches nobody is executed at once, and any other is proposed
abbrev pub posting_effect : List SolutionData → List PlanRow → List ℕ → Effect
posting_effect solutions plan [] = effect.Execute plan
posting_effect solutions plan (member ∷ members) = effect.Propose solutions plan

-- the last vote executes the plan, and any other is counted
abbrev pub vote_effect : ℕ → List ℕ → Effect
vote_effect member [] = effect.Complete
vote_effect member (voter ∷ voters) = effect.Vote member

-- what a posting of certified solutions does
abbrev pub post_effect : State → List SolutionData → Effect
post_effect s solutions =
    posting_effect solutions (posted_plan s.cycle s.trades solutions) (touched_in s (posted_plan s.cycle s.trades solutions))

-- what the member's vote does
abbrev pub accept_effect : State → ℕ → Effect
accept_effect s member = vote_effect member (left_after s member)

-- what a party's command does
abbrev pub effect_by : State → List ℕ → What → Effect
effect_by s by (Trade seller buyer product amount day) = effect.Allege (member_of s seller) (member_of s buyer) (product_of s product) amount day (side_of by seller)
effect_by s by (Affirm trade) = effect.Affirm trade
effect_by s by (End trade) = effect.End trade (side_at s by (trade_numbered s.trades trade))
effect_by s by (Hold trade) = effect.Hold trade (side_at s by (trade_numbered s.trades trade))
effect_by s by (Free trade) = effect.Free trade (side_at s by (trade_numbered s.trades trade))
effect_by s by (Tol other product side floor ceiling) =
    effect.Set (record { member = member_of s by; product = product_of s product; other = member_of s other; side = side; floor = floor; ceiling = ceiling })
effect_by s by (Freeze day) = effect.Freeze day
effect_by s by (Begin cycle mode) = effect.Begin mode
effect_by s by (Post cycle version solutions) = post_effect s solutions
effect_by s by (Accept cycle version) = accept_effect s (member_of s by)
effect_by s by (Decline cycle version) = effect.Decline
effect_by s by (Cancel cycle) = effect.Cancel
effect_by s by what = effect.Keep

-- what a command does
abbrev pub effect_of : State → Ask → Effect
effect_of s ask = effect_by s (unwrap_or ask.by []) ask.what

-- applying what a command does leads to the state after the command
abbrev pub EffectIsNext : Type 0
EffectIsNext = (s : State) (ask : Ask) → applied s (effect_of s ask) ≡ state_after s ask

-- for how many trades it wants room, where the proposed plan makes so many: those that it adds, and those of the plan that is
-- proposed once it is done; a vote wants none, since the plan has its own
abbrev pub rows_with : Effect → ℕ → ℕ
rows_with (effect.Allege seller buyer product amount day submitter) made = 1 + made
rows_with (effect.Propose solutions plan) made = count_of is_new plan
rows_with (effect.Execute plan) made = count_of is_new plan
rows_with other made = 0

-- how many settings it may add
abbrev pub settings_with : Effect → ℕ
settings_with (effect.Set setting) = 1
settings_with other = 0

-- which settings are the last that were taken, once this is done: a BEGIN takes all
abbrev pub taken_with : Effect → TolerancesView → List ToleranceRow
taken_with (effect.Begin mode) tolerances = tolerances.settings
taken_with other tolerances = tolerances.taken

-- for how many trades and settings a change wants room
abbrev pub rows_added : State → Ask → ℕ
rows_added s ask = rows_with (effect_of s ask) (planned_rows s.cycle)

abbrev pub settings_added : State → Ask → ℕ
settings_added s ask = settings_with (effect_of s ask)

-- a vote, or the last one
abbrev pub is_vote : Effect → Bool
is_vote effect.Complete = true
is_vote (effect.Vote member) = true
is_vote other = false

-- a command about a trade
abbrev pub is_of_trade : What → Bool
is_of_trade (Trade seller buyer product amount day) = true
is_of_trade (Affirm trade) = true
is_of_trade (End trade) = true
is_of_trade (Hold trade) = true
is_of_trade (Free trade) = true
is_of_trade what = false

-- a command that decides on a plan: it posts, or votes
abbrev pub decides : What → Bool
decides (Post cycle version solutions) = true
decides (Accept cycle version) = true
decides what = false

-- a trade that may be put last
pub record MayAllege (s : State) (seller buyer product amount : ℕ) : Type 0 where
  pub seller_there : seller < length s.roster.members
  pub buyer_there : buyer < length s.roster.members
  pub product_there : product < length s.roster.products
  pub different : seller ≢ buyer
  pub bound : gross_of product s.trades + amount ≤ gross_limit

-- the plan is proposed and may be executed, and there is room for one more vote
pub record MayComplete (s : State) : Type 0 where
  pub proposed : IsTrue (is_proposed s.cycle.phase)
  pub executable : IsExecutable (length s.roster.members) (length s.roster.products) s.trades s.cycle.plan
  pub room : length s.cycle.votes < MOST_MEMBERS

-- what it does may be done in this state
abbrev pub MayApply : State → Effect → Type 0
MayApply s (effect.Allege seller buyer product amount day submitter) = MayAllege s seller buyer product amount
MayApply s (effect.Affirm trade) = IsTrue (may_affirm (trade_numbered s.trades trade))
MayApply s (effect.End trade side) = IsTrue (may_end side (trade_numbered s.trades trade))
MayApply s (effect.Hold trade side) = IsTrue (may_hold side (trade_numbered s.trades trade))
MayApply s (effect.Free trade side) = IsTrue (may_free side (trade_numbered s.trades trade))
MayApply s (effect.Set setting) = is_crossed setting.floor setting.ceiling ≡ false
MayApply s (effect.Execute plan) = IsExecutable (length s.roster.members) (length s.roster.products) s.trades plan
MayApply s effect.Complete = MayComplete s
MayApply s (effect.Vote member) = length s.cycle.votes < MOST_MEMBERS
MayApply s other = ⊤
