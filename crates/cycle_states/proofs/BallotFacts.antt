-- The ballot of a proposal stays with any command that neither posts nor votes, since no trade changes its parties.
use Rattle.std.proofs.Common.{◌≡◌, ℕ, zero, suc, ◌+◌, ◌-◌, ◌<◌, ◌≤◌, ◌==◌, ◌&&◌, ◌||◌, nat_lt, Bool, true, false, List, [], ◌∷◌, ◌++◌, length, Option, Some, None, is_some, unwrap_or, IsTrue, All, slice_get, slice_set, if◌then◌else◌, refl, ap, sym, ◌∙◌, take, drop, take-append-drop, subst}
use Rattle.std.specs.List.{list_any}
use Rattle.std.proofs.lemmas.Bool.{false≢true}
use Rattle.std.proofs.lemmas.List.Elements.{All-head, All-tail, All-weaker}
use Rattle.command_types.specs.declared.ask.What.{What}
use Rattle.command_types.specs.declared.ask.What.TheVariants.{Hello, Trade, Affirm, End, Hold, Free, Tol, Nets, Statement, Freeze, Begin, Limits, Row, Pot, Post, Fetch, Next, Plan, Proof, Accept, Decline, Cancel, Bye, Unreadable}
use Rattle.command_types.specs.declared.figures.Cycle.{Cycle}
use Rattle.command_types.specs.declared.figures.State.{State}
use Rattle.command_types.specs.declared.plan.PlanRow.{PlanRow}
use Rattle.command_types.specs.declared.plan.PlanRow.TheVariants as step
use Rattle.command_types.specs.declared.trade.Side.{Side}
use Rattle.command_types.specs.declared.trade.Side.TheVariants.{Out, In}
use Rattle.command_types.specs.declared.trade.TradeRow.{TradeRow}
use Rattle.command_types.specs.declared.trade.TradeState.TheVariants.{Ended}
use Rattle.command_types.specs.CycleRefusals.{has_voted, has_voted_at, is_touched_at}
use Rattle.command_types.specs.Cycles.{is_proposed, may_break, broken_at}
use Rattle.command_types.specs.CycleSteps.{after_vote, is_frozen_and_marked}
use Rattle.command_types.specs.Machine.{first_of, member_of, product_of, refusals, side_at, side_of, state_by_party}
use Rattle.command_types.specs.Plans.{is_in_step, is_party_row, is_touched, touched_by}
use Rattle.command_types.specs.Roster.{member_place}
use Rattle.command_types.specs.Trades.{affirmed, alleged_row, changed_row, ended_by, freed_by, held_by, is_alleged, live_row, row_ended_by, row_with_hold, trade_numbered, with_changed, with_row}
use Rattle.acceptance.specs.Parties.{IsStepBelow, IsPlanBelow}
use Rattle.acceptance.proofs.FlagFacts.{voted_within}
use Rattle.acceptance.proofs.PartyFacts.{listed_agree, trade_there}
use Rattle.cycle_states.specs.declared.machine.ballot.Ballot.{Ballot}
use Rattle.cycle_states.specs.Ballot.{waiting, IsBallot, IsBallotIn, MayVote}
use Rattle.cycle_states.specs.Effects.{decides}
use Rattle.cycle_states.proofs.MachineFacts.{none_holds, not_false, place_within}
use Rattle.cycle_states.proofs.VoteRooms.{rest_fits, vote_fits, voted_last}

-- ---- the parties of the trades

-- each trade that is there has the same parties in the other rows
abbrev pub KeepParties : List TradeRow → List TradeRow → Type 0
KeepParties rows other = (trade m : ℕ) → IsTrue (is_some (trade_numbered rows trade)) → is_party_row (trade_numbered other trade) m ≡ is_party_row (trade_numbered rows trade) m

-- the change leaves a trade its parties
abbrev pub LeavesParties : (TradeRow → TradeRow) → Type 0
LeavesParties change = (row : TradeRow) (m : ℕ) → is_party_row (Some (change row)) m ≡ is_party_row (Some row) m

get_front : (rows more : List TradeRow) (k : ℕ) → IsTrue (is_some (slice_get rows k)) → slice_get (rows ++ more) k ≡ slice_get rows k
get_front [] more k there = absurd (false≢true there)
get_front (row ∷ rows) more zero there = refl
get_front (row ∷ rows) more (suc k) there = get_front rows more k there

numbered_front : (above : Bool) (rows more : List TradeRow) (k : ℕ) → IsTrue (is_some (if above then slice_get rows k else None)) → (if above then slice_get (rows ++ more) k else None) ≡ (if above then slice_get rows k else None)
numbered_front true rows more k there = get_front rows more k there
numbered_front false rows more k there = refl

-- with more trades behind them
more_parties : (rows more : List TradeRow) → KeepParties rows (rows ++ more)
more_parties rows more trade m there = ap (λ (o : Option TradeRow). is_party_row o m) (numbered_front (nat_lt 0 trade) rows more (trade - 1) there)

set_parties : (rows : List TradeRow) (k i m : ℕ) (row next : TradeRow) → slice_get rows k ≡ Some row → is_party_row (Some next) m ≡ is_party_row (Some row) m → is_party_row (slice_get (slice_set rows k next) i) m ≡ is_party_row (slice_get rows i) m
set_parties [] k i m row next is same = refl
set_parties (first ∷ rows) zero zero m row next is same = let one : first ≡ row = cc in same ∙ ap (λ (r : TradeRow). is_party_row (Some r) m) (sym one)
set_parties (first ∷ rows) zero (suc i) m row next is same = refl
set_parties (first ∷ rows) (suc k) zero m row next is same = refl
set_parties (first ∷ rows) (suc k) (suc i) m row next is same = set_parties rows k i m row next is same

numbered_set : (above : Bool) (rows : List TradeRow) (k i m : ℕ) (row next : TradeRow) → slice_get rows k ≡ Some row → is_party_row (Some next) m ≡ is_party_row (Some row) m →
    is_party_row (if above then slice_get (slice_set rows k next) i else None) m ≡ is_party_row (if above then slice_get rows i else None) m
numbered_set true rows k i m row next is same = set_parties rows k i m row next is same
numbered_set false rows k i m row next is same = refl

-- with one trade changed
changed_parties : (change : TradeRow → TradeRow) (rows : List TradeRow) (number : ℕ) → LeavesParties change → KeepParties rows (with_changed change rows number)
changed_parties change rows number leaves trade m there = by (nat_lt 0 number) (slice_get rows (number - 1)) refl
  where
    by : (above : Bool) (o : Option TradeRow) → slice_get rows (number - 1) ≡ o →
        is_party_row (trade_numbered (with_row rows number (changed_row change (if above then o else None))) trade) m ≡ is_party_row (trade_numbered rows trade) m
    by false o is = refl
    by true None is = refl
    by true (Some row) is = numbered_set (nat_lt 0 trade) rows (number - 1) (trade - 1) m row (change row) is (leaves row m)

hold_leaves : (held : Bool) (side : Side) → LeavesParties (row_with_hold held side)
hold_leaves held Out row m = refl
hold_leaves held In row m = refl

ended_either : (b : Bool) (side : Side) (row : TradeRow) (m : ℕ) → is_party_row (Some (if b then record row { state = Ended } else record row { mark = Some side })) m ≡ is_party_row (Some row) m
ended_either true side row m = refl
ended_either false side row m = refl

ended_leaves : (side : Side) → LeavesParties (row_ended_by side)
ended_leaves side row m = ended_either (is_alleged row.state || is_some row.mark) side row m

-- the first of them
pub front_parties : (rows : List TradeRow) (n : ℕ) → KeepParties (take n rows) rows
front_parties rows n trade m there =
    subst (λ (all : List TradeRow). is_party_row (trade_numbered all trade) m ≡ is_party_row (trade_numbered (take n rows) trade) m) (take-append-drop n rows)
    (more_parties (take n rows) (drop n rows) trade m there)

-- with one trade in an earlier form
pub back_parties : (rows : List TradeRow) (number : ℕ) (now was : TradeRow) → slice_get rows (number - 1) ≡ Some now → ((m : ℕ) → is_party_row (Some was) m ≡ is_party_row (Some now) m)
    → KeepParties (with_row rows number (Some was)) rows
back_parties rows number now was is same trade m there = sym (numbered_set (nat_lt 0 trade) rows (number - 1) (trade - 1) m now was is (same m))

-- ---- whom a plan touches

step_same : (rows other : List TradeRow) → KeepParties rows other → (n m : ℕ) (row : PlanRow) → IsStepBelow rows n row → is_in_step other m row ≡ is_in_step rows m row
step_same rows other keep n m (step.End trade) below = keep trade m (trade_there n (trade_numbered rows trade) below)
step_same rows other keep n m (step.Cut trade from to) below = keep trade m (trade_there n (trade_numbered rows trade) below)
step_same rows other keep n m (step.New product seller buyer amount day) below = refl

any_same : {X : Type 0} (p q : X → Bool) (xs : List X) → All (λ x. p x ≡ q x) xs → list_any p xs ≡ list_any q xs
any_same p q [] all = refl
any_same p q (x ∷ xs) all =
    ap (λ b. b || list_any p xs) (All-head (λ y. p y ≡ q y) x xs all)
    ∙ ap (λ b. q x || b) (any_same p q xs (All-tail (λ y. p y ≡ q y) x xs all))

touched_same : (rows other : List TradeRow) → KeepParties rows other → (n : ℕ) (plan : List PlanRow) → IsPlanBelow rows n plan → touched_by n other plan ≡ touched_by n rows plan
touched_same rows other keep n plan below =
    listed_agree (is_touched other plan) (is_touched rows plan) n
    (λ m. any_same (is_in_step other m) (is_in_step rows m) plan
    (All-weaker (IsStepBelow rows n) (λ row. is_in_step other m row ≡ is_in_step rows m row) (λ row here. step_same rows other keep n m row here) plan below))

-- ---- the ballot

-- where no plan is proposed any ballot will do
pub no_ballot : (members : ℕ) (rows : List TradeRow) (cycle : Cycle) (ballot : Ballot) → is_proposed cycle.phase ≡ false → IsBallot members rows cycle ballot
no_ballot members rows cycle ballot off = record {
  needed = λ on. absurd (false≢true (sym off ∙ on));
  voted = λ on. absurd (false≢true (sym off ∙ on));
  made = λ on. absurd (false≢true (sym off ∙ on));
  room = λ on. absurd (false≢true (sym off ∙ on));
}

module _ (members : ℕ) (rows : List TradeRow) (cycle : Cycle) (ballot : Ballot) (below : IsTrue (is_proposed cycle.phase) → IsPlanBelow rows members cycle.plan) (kept : IsBallot members rows cycle ballot) where
  rows_ballot : (other : List TradeRow) → KeepParties rows other → IsBallot members other cycle ballot
  rows_ballot other keep = record {
    needed = λ on. kept.needed on ∙ sym (touched_same rows other keep members cycle.plan (below on));
    voted = kept.voted;
    made = kept.made;
    room = kept.room;
  }

  ended_ballot : (t : Bool) (trade : ℕ) (other : List TradeRow) → KeepParties rows other → IsBallot members other (if t then broken_at cycle trade else cycle) ballot
  ended_ballot true trade other keep = no_ballot members other (broken_at cycle trade) ballot refl
  ended_ballot false trade other keep = rows_ballot other keep

-- it stays where trades are taken back
pub ballot_back : (members : ℕ) (rows other : List TradeRow) (cycle : Cycle) (ballot : Ballot) → (IsTrue (is_proposed cycle.phase) → IsPlanBelow other members cycle.plan) → KeepParties other rows → IsBallot members rows cycle ballot →
    IsBallot members other cycle ballot
ballot_back members rows other cycle ballot below keep kept = record {
  needed = λ on. kept.needed on ∙ touched_same other rows keep members cycle.plan (below on);
  voted = kept.voted;
  made = kept.made;
  room = kept.room;
}

-- it stays with any command that neither posts nor votes
pub ballot_stays : (s : State) (by : List ℕ) (what : What) (ballot : Ballot) → decides what ≡ false → (IsTrue (is_proposed s.cycle.phase) → IsPlanBelow s.trades (length s.roster.members) s.cycle.plan) → IsBallotIn s ballot →
    IsBallotIn (state_by_party s by what) ballot
ballot_stays s by (Hello name key) ballot plain below kept = kept
ballot_stays s by (Trade seller buyer product amount day) ballot plain below kept =
    let row = alleged_row (length s.trades + 1) (member_of s seller) (member_of s buyer) (product_of s product) amount day (side_of by seller) in
    rows_ballot (length s.roster.members) s.trades s.cycle ballot below kept (s.trades ++ row ∷ []) (more_parties s.trades (row ∷ []))
ballot_stays s by (Affirm trade) ballot plain below kept =
    rows_ballot (length s.roster.members) s.trades s.cycle ballot below kept (affirmed s.trades trade) (changed_parties live_row s.trades trade (λ row m. refl))
ballot_stays s by (End trade) ballot plain below kept =
    let side = side_at s by (trade_numbered s.trades trade) in
    ended_ballot (length s.roster.members) s.trades s.cycle ballot below kept (may_break s.cycle.phase && is_frozen_and_marked (trade_numbered s.trades trade)) trade (ended_by side s.trades trade)
    (changed_parties (row_ended_by side) s.trades trade (ended_leaves side))
ballot_stays s by (Hold trade) ballot plain below kept =
    let side = side_at s by (trade_numbered s.trades trade) in
    rows_ballot (length s.roster.members) s.trades s.cycle ballot below kept (held_by side s.trades trade) (changed_parties (row_with_hold true side) s.trades trade (hold_leaves true side))
ballot_stays s by (Free trade) ballot plain below kept =
    let side = side_at s by (trade_numbered s.trades trade) in
    rows_ballot (length s.roster.members) s.trades s.cycle ballot below kept (freed_by side s.trades trade) (changed_parties (row_with_hold false side) s.trades trade (hold_leaves false side))
ballot_stays s by (Tol other product side floor ceiling) ballot plain below kept = kept
ballot_stays s by (Nets product) ballot plain below kept = kept
ballot_stays s by Statement ballot plain below kept = kept
ballot_stays s by (Freeze day) ballot plain below kept = no_ballot _ _ _ ballot refl
ballot_stays s by (Begin cycle mode) ballot plain below kept = no_ballot _ _ _ ballot refl
ballot_stays s by (Limits product) ballot plain below kept = kept
ballot_stays s by (Row product seller buyer amount size sum) ballot plain below kept = kept
ballot_stays s by (Pot product member value size) ballot plain below kept = kept
ballot_stays s by (Post cycle version solutions) ballot plain below kept = absurd (false≢true (sym plain))
ballot_stays s by (Fetch cycle version) ballot plain below kept = kept
ballot_stays s by (Next position) ballot plain below kept = kept
ballot_stays s by (Plan cycle) ballot plain below kept = kept
ballot_stays s by (Proof cycle) ballot plain below kept = kept
ballot_stays s by (Accept cycle version) ballot plain below kept = absurd (false≢true (sym plain))
ballot_stays s by (Decline cycle version) ballot plain below kept = no_ballot _ _ _ ballot refl
ballot_stays s by (Cancel cycle) ballot plain below kept = no_ballot _ _ _ ballot refl
ballot_stays s by Bye ballot plain below kept = kept
ballot_stays s by (Unreadable at) ballot plain below kept = kept

-- the ballot after a vote
pub voted_ballot : (s : State) (member : ℕ) (left : List ℕ) (ballot next : Ballot) → MayVote s member → IsTrue (is_proposed s.cycle.phase) → IsBallotIn s ballot → next.votes.needed ≡ ballot.votes.needed
    → ((m : ℕ) → m < 256 → IsTrue (has_voted ballot.votes.needed m) → has_voted next.votes.accepted m ≡ has_voted (member ∷ ballot.votes.accepted) m) → next.made ≡ ballot.made → IsBallotIn (after_vote s member left) next
voted_ballot s member [] ballot next may on kept needed voted made = no_ballot _ _ _ next refl
voted_ballot s member (voter ∷ voters) ballot next may on kept needed voted made = record {
  needed = λ still. needed ∙ kept.needed on;
  voted = λ still m low need.
      let here : IsTrue (has_voted ballot.votes.needed m) = ap (λ (xs : List ℕ). has_voted xs m) (sym needed) ∙ need in
      voted m low here ∙ ap (λ b. (member == m) || b) (kept.voted on m low here) ∙ voted_last s.cycle.votes member m;
  made = λ still. made ∙ kept.made on;
  room = λ still.
      let there : has_voted ballot.votes.needed member ≡ true = ap (λ (xs : List ℕ). has_voted xs member) (kept.needed on) ∙ may.touched in
      subst (λ (xs : List ℕ). length (s.cycle.votes ++ member ∷ []) + length (waiting (s.cycle.votes ++ member ∷ []) xs) ≤ 256) (sym needed)
      (rest_fits s.cycle.votes ballot.votes.needed member there may.first (kept.room on));
}

-- a vote for which the plan waits has room
pub vote_room : (s : State) (member : ℕ) (ballot : Ballot) → IsTrue (is_proposed s.cycle.phase) → IsBallotIn s ballot → MayVote s member → length s.cycle.votes < 256
vote_room s member ballot on kept may =
    vote_fits s.cycle.votes ballot.votes.needed member (ap (λ (xs : List ℕ). has_voted xs member) (kept.needed on) ∙ may.touched) may.first (kept.room on)

-- and an accepted ACCEPT is one
pub accept_waits : (s : State) (name : List ℕ) (cycle version : ℕ) → first_of (refusals s (Some name) (Accept cycle version)) ≡ None → MayVote s (member_of s name)
accept_waits s name cycle version none =
    let tests = none_holds (refusals s (Some name) (Accept cycle version)) none in
    by (member_place s.roster name) refl (not_false (is_touched_at s (member_place s.roster name)) tests.1.1.1.1.1.0) tests.1.1.1.1.1.1.0
  where
    by : (o : Option ℕ) → member_place s.roster name ≡ o → is_touched_at s o ≡ true → has_voted_at s o ≡ false → MayVote s (unwrap_or o 0)
    by None is touched first = absurd (false≢true touched)
    by (Some member) is touched first = record {
      touched = voted_within (is_touched s.trades s.cycle.plan) (length s.roster.members) member (place_within s.roster name member is) ∙ touched;
      first = first;
    }
