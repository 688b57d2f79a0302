-- Of an ACCEPT no memory is wanted: a vote has room, and leaves room for those that are missing.
use Rattle.std.proofs.Common.{◌≡◌, ℕ, zero, suc, ◌-◌, ◌*◌, ◌≤◌, ◌<◌, Bool, true, false, List, [], ◌∷◌, length, take, None, unwrap_or, IsTrue, arith, refl, ap, sym, subst, ◌∙◌, length-append}
use Rattle.std.proofs.lemmas.Bool.{false≢true}
use Rattle.command_types.specs.declared.ask.Ask.{Ask}
use Rattle.command_types.specs.declared.ask.What.{What}
use Rattle.command_types.specs.declared.ask.What.TheVariants.{Accept}
use Rattle.command_types.specs.declared.figures.State.{State}
use Rattle.command_types.specs.Cycles.{is_proposed}
use Rattle.command_types.specs.CycleSteps.{after_vote, left_after}
use Rattle.command_types.specs.History.{History, longer, replayed}
use Rattle.command_types.specs.Machine.{first_of, member_of, refusals, state_after, state_by}
use Rattle.command_types.specs.Told.{is_accept}
use Rattle.command_types.proofs.HistoryFacts.{replayed_on}
use Rattle.cycle_states.specs.declared.machine.effect.Effect.{Effect}
use Rattle.cycle_states.specs.declared.offers.OpenAsk.TheVariants as asks
use Rattle.cycle_states.specs.Decision.{MayCommit}
use Rattle.cycle_states.specs.Effects.{MayApply}
use Rattle.cycle_states.specs.Machine.{MachineView}
use Rattle.cycle_states.specs.Offers.{open_ask}
use Rattle.cycle_states.specs.Ready.{ReadyView}
use Rattle.cycle_states.specs.Replayed.{IsReplayed}
use Rattle.cycle_states.proofs.EffectFacts.{vote_has_room}
use Rattle.cycle_states.proofs.KeptFacts.{accept_proposed}
use Rattle.cycle_states.proofs.MachineFacts.{not_refused}
use Rattle.house.specs.Chronicle.{HasVoteRoom}

-- the first n of a list are n at most
pub take_few : (n : ℕ) (xs : List ℕ) → length (take n xs) ≤ n
take_few zero xs = omega arith
take_few (suc n) [] = omega arith
take_few (suc n) (x ∷ xs) = omega (arith, take_few n xs)

-- what can't be true
pub never : (b : Bool) → (IsTrue b → ⊥) → b ≡ false
never true none = absurd (none refl)
never false none = refl

-- a command that asks something of the history is no ACCEPT
pub asks_no_vote : (what : What) → (open_ask what ≡ asks.Other → ⊥) → is_accept what ≡ false
asks_no_vote (Accept cycle version) asks = absurd (asks refl)
asks_no_vote what asks = refl

-- an accepted ACCEPT is of a proposed plan
vote_proposed : (s : State) (ask : Ask) → is_accept ask.what ≡ true → first_of (refusals s ask.by ask.what) ≡ None → IsTrue (is_proposed s.cycle.phase)
vote_proposed s ask vote none = of_what ask.what vote none
  where
    of_what : (what : What) → is_accept what ≡ true → first_of (refusals s ask.by what) ≡ None → IsTrue (is_proposed s.cycle.phase)
    of_what (Accept cycle version) vote none = accept_proposed s ask.by cycle version none
    of_what what vote none = absurd (false≢true vote)

-- the plan is executed, or one more has voted
after_fits : (s : State) (member room bytes : ℕ) (left : List ℕ) → bytes ≤ 51 → length s.cycle.votes < 256 → 51 * (256 - length s.cycle.votes) ≤ room →
    IsTrue (is_proposed (after_vote s member left).cycle.phase) → 51 * (256 - length (after_vote s member left).cycle.votes) ≤ room - bytes
after_fits s member room bytes [] few some fits = λ on. absurd (false≢true on)
after_fits s member room bytes (voter ∷ voters) few some fits = λ on. omega (arith, few, some, fits, length-append s.cycle.votes (member ∷ []))

vote_leaves : (s : State) (ask : Ask) (room bytes : ℕ) → is_accept ask.what ≡ true → bytes ≤ 51 → length s.cycle.votes < 256 → 51 * (256 - length s.cycle.votes) ≤ room →
    IsTrue (is_proposed (state_after s ask).cycle.phase) → 51 * (256 - length (state_after s ask).cycle.votes) ≤ room - bytes
vote_leaves s ask room bytes vote few some fits = of_what ask.what vote
  where
    of_what : (what : What) → is_accept what ≡ true → IsTrue (is_proposed (state_by s ask.by what).cycle.phase) → 51 * (256 - length (state_by s ask.by what).cycle.votes) ≤ room - bytes
    of_what (Accept cycle version) vote =
        let member = member_of s (unwrap_or ask.by []) in
        after_fits s member room bytes (left_after s member) few some fits
    of_what what vote = absurd (false≢true vote)

-- A vote that may be made has room for its record, and behind it there is room for the votes that are missing then.
module _ (m : MachineView) (ready : ReadyView) (h : History) (room : ℕ) (may : MayCommit m ready) (replayed_as : IsReplayed m.state h) (has : HasVoteRoom h room) (vote : is_accept ready.entry.ask.what ≡ true) where
  abbrev ask : Ask
  ask = ready.entry.ask

  votes_fit : (IsTrue (is_proposed m.state.cycle.phase)) × (length m.state.cycle.votes < 256)
  votes_fit = (
    vote_proposed m.state ask vote (not_refused m.state ask may.accepted),
    vote_has_room m.state (unwrap_or ask.by []) ask.what vote (subst (λ (e : Effect). MayApply m.state e) may.ready.effect may.ready.may),
  )

  there : 51 * (256 - length m.state.cycle.votes) ≤ room
  there = subst (λ (s : State). IsTrue (is_proposed s.cycle.phase) → 51 * (256 - length s.cycle.votes) ≤ room) (sym replayed_as.same) has votes_fit.0

  pub vote_fits : (bytes : ℕ) → bytes ≤ 51 → bytes ≤ room
  vote_fits bytes few = omega (arith, few, there, votes_fit.1)

  pub votes_left : (bytes : ℕ) → bytes ≤ 51 → HasVoteRoom (longer h (ready.entry ∷ [])) (room - bytes)
  votes_left bytes few =
      let next : replayed (longer h (ready.entry ∷ [])) ≡ state_after m.state ask = replayed_on h.base.state h.entries ready.entry ∙ ap (λ (s : State). state_after s ask) (sym replayed_as.same) in
      subst (λ (s : State). IsTrue (is_proposed s.cycle.phase) → 51 * (256 - length s.cycle.votes) ≤ room - bytes) (sym next)
      (vote_leaves m.state ask room bytes vote few votes_fit.1 there)
