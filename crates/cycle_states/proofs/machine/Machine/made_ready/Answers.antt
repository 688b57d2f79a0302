use Rattle.std.proofs.Common.{◌≡◌, ◌∙◌, ◌≤◌, [], true, is_ok, List, ℕ, IsTrue, None, Option, unwrap_or, ap, sym, subst, arith}
use Rattle.std.proofs.lemmas.Bool.{false≢true}
use Rattle.command_types.specs.declared.figures.Cycle.{Cycle}
use Rattle.command_types.specs.Machine.{answer_to, changes, first_of, party_answer, refusals, state_by_party}
use Rattle.command_types.specs.Roster.{Rows}
use Rattle.product_book.specs.Book.{BookView}
use Rattle.tolerance_sets.specs.Settings.{TolerancesView}
use Rattle.cycle_states.specs.declared.machine.ballot.Ballot.{Ballot}
use Rattle.cycle_states.specs.declared.machine.effect.Effect.{Effect}
use Rattle.cycle_states.specs.Frozen.{FrozenView}
use Rattle.cycle_states.specs.Ballot.{planned_rows, IsBallotIn}
use Rattle.cycle_states.specs.Effects.{effect_by, is_vote, rows_added, rows_with}
use Rattle.cycle_states.specs.Machine.{state_with, MachineView, IsWhole}
use Rattle.cycle_states.specs.Ready.{IsMade, IsReady, ReadyView}
use Rattle.cycle_states.proofs.MachineFacts.{accepted_answer, not_refused, recorded_changes}
use Rattle.cycle_states.proofs.EffectFacts.{accept_votes, change_told, few_rows}
use Rattle.cycle_states.proofs.PartyFacts.{caller_known, caller_named, change_asked}
use Rattle.cycle_states.proofs.RecordFacts.{few_posted}
use Rattle.cycle_states.proofs.machine.Machine.made_ready.Goals as goal

-- room takes away nothing of what the machine keeps
roomy : (roster : Rows) (book after : BookView) (taken more : TolerancesView) (cycle : Cycle) (ballot : Ballot) (frozen : FrozenView) → after ≡ record book { spare = after.spare } → more ≡ record taken { spare = more.spare } → book.spare ≤ after.spare →
    IsWhole roster book taken cycle ballot frozen → IsWhole roster after more cycle ballot frozen
roomy roster book after taken more cycle ballot frozen same settings keeps kept =
    subst (λ (b : BookView). IsWhole roster b more cycle ballot frozen) (sym same)
    (subst (λ (t : TolerancesView). IsWhole roster (record book { spare = after.spare }) t cycle ballot frozen) (sym settings) (kept.0, kept.1, kept.2, kept.3, omega (arith, kept.4, keeps)))

pub unreachable-requires : goal.unreachable-requires
unreachable-requires c =
    let s = c.args.self.now.state in
    let ask = c.args.entry.ask in
    change_asked s ask.by ask.what c.args.caller.now c.requires.caller c.in_default.not-Some (not_refused s ask c.requires.accepted) (recorded_changes ask.what (answer_to s ask) c.requires.accepted)

pub made_for-requires : goal.made_for-requires
made_for-requires c =
    let s = c.args.self.now.state in
    let ask = c.args.entry.ask in
    record {
      young = c.requires.young;
      change = recorded_changes ask.what (answer_to s ask) c.requires.accepted;
      caller = caller_known s.roster ask.by c.args.caller.now c.in-Some.caller c.requires.caller c.in-Some.is;
      accepted =
          subst (λ (by : Option (List ℕ)). first_of (refusals s by ask.what) ≡ None) (caller_named s.roster ask.by c.args.caller.now c.in-Some.caller c.requires.caller c.in-Some.is)
          (not_refused s ask c.requires.accepted);
    }

pub make_room-requires : goal.make_room-requires
make_room-requires c =
    let m = c.self.inside in
    let s = state_with m.roster m.book.rows m.tolerances.settings m.cycle in
    let ask = c.args.entry.ask in
    let named = caller_named c.args.self.now.state.roster ask.by c.args.caller.now c.in-Some.caller c.requires.caller c.in-Some.is in
    let made = c.in_ok-made.made in
    let is_made = subst (λ (view : MachineView). IsMade view.state c.in-Some.caller.name ask.what made) (sym c.self.view_is) c.in_ok-made.ensures.made in
    let none : first_of (refusals s ask.by ask.what) ≡ None = not_refused s ask (rw (← c.self.view_is) at c.requires.accepted) in
    let planned : planned_rows m.cycle ≡ c.planned-planned.result = ap (λ (view : MachineView). planned_rows view.state.cycle) c.self.view_is ∙ sym c.planned-planned.ensures in
    let same : rows_with (effect_by s (unwrap_or ask.by []) ask.what) (planned_rows m.cycle) ≡ rows_with made.effect c.planned-planned.result =
    ap (λ (by : Option (List ℕ)). rows_with (effect_by s (unwrap_or by []) ask.what) (planned_rows m.cycle)) named
    ∙ ap (λ (effect : Effect). rows_with effect (planned_rows m.cycle)) (sym is_made.does)
    ∙ ap (λ (n : ℕ). rows_with made.effect n) planned in
    subst (λ n. n ≤ 4194305) same (few_rows m.roster m.book.members m.book.products m.book.rows m.tolerances.settings m.cycle c.self.invariant.0 ask.by ask.what none)

pub returns-clause-room : goal.returns-clause-room
returns-clause-room c =
    let m = c.self.inside in
    let s = state_with m.roster m.book.rows m.tolerances.settings m.cycle in
    let ask = c.args.entry.ask in
    let named = caller_named c.args.self.now.state.roster ask.by c.args.caller.now c.in-Some.caller c.requires.caller c.in-Some.is in
    let made = c.in_ok-made.made in
    let is_made = subst (λ (view : MachineView). IsMade view.state c.in-Some.caller.name ask.what made) (sym c.self.view_is) c.in_ok-made.ensures.made in
    let planned : c.planned-planned.result ≡ planned_rows m.cycle = c.planned-planned.ensures ∙ ap (λ (view : MachineView). planned_rows view.state.cycle) (sym c.self.view_is) in
    let same : rows_with made.effect c.planned-planned.result ≡ rows_added s ask =
    ap (λ (effect : Effect). rows_with effect c.planned-planned.result) is_made.does
    ∙ ap (λ (by : Option (List ℕ)). rows_with (effect_by s (unwrap_or by []) ask.what) c.planned-planned.result) (sym named)
    ∙ ap (λ (n : ℕ). rows_with (effect_by s (unwrap_or ask.by []) ask.what) n) planned in
    subst (λ (view : MachineView). rows_added view.state ask ≤ c.make_room.new.book.spare) c.self.view_is (subst (λ (n : ℕ). n ≤ c.make_room.new.book.spare) same c.in_ok-make_room.ensures.room)

pub returns-in_err-make_room-clause-vote : goal.returns-in_err-make_room-clause-vote
returns-in_err-make_room-clause-vote c = λ vote.
    let s = c.args.self.now.state in
    let ask = c.args.entry.ask in
    let named = caller_named s.roster ask.by c.args.caller.now c.in-Some.caller c.requires.caller c.in-Some.is in
    let made = c.in_ok-made.made in
    let does : made.effect ≡ effect_by s (unwrap_or ask.by []) ask.what =
    c.in_ok-made.ensures.made.does ∙ ap (λ (by : Option (List ℕ)). effect_by s (unwrap_or by []) ask.what) (sym named) in
    let votes : IsTrue (is_vote made.effect) = ap is_vote does ∙ accept_votes s (unwrap_or ask.by []) ask.what vote in
    absurd (false≢true (sym (ap is_ok c.in_err-make_room.was) ∙ c.make_room.ensures.vote votes))

pub returns-clause-ready : goal.returns-clause-ready
returns-clause-ready c =
    let s = c.args.self.now.state in
    let ask = c.args.entry.ask in
    let named = caller_named c.args.self.now.state.roster ask.by c.args.caller.now c.in-Some.caller c.requires.caller c.in-Some.is in
    let made = c.in_ok-made.ensures.made in
    let none = not_refused s ask c.requires.accepted in
    let change : changes ask.what ≡ true = recorded_changes ask.what (answer_to s ask) c.requires.accepted in
    subst (λ (ready : ReadyView). IsReady s ready) (sym c.new.ensures) (record {
      answer = made.told ∙ ap (λ (by : Option (List ℕ)). party_answer s (unwrap_or by []) ask.what) (sym named) ∙ change_told s ask.by ask.what change ∙ sym (accepted_answer s ask none);
      effect = made.does ∙ ap (λ (by : Option (List ℕ)). effect_by s (unwrap_or by []) ask.what) (sym named);
      may = made.may;
      ballot = subst (λ (by : Option (List ℕ)). IsBallotIn (state_by_party s (unwrap_or by []) ask.what) c.in_ok-made.made.ballot) (sym named) made.ballot;
      solutions = made.solutions;
    })

pub returns-clause-few : goal.returns-clause-few
returns-clause-few c =
    let m = c.self.inside in
    let s = state_with m.roster m.book.rows m.tolerances.settings m.cycle in
    let ask = c.args.entry.ask in
    few_posted m.roster m.book.members m.book.products m.book.rows m.cycle c.self.invariant.0 m.tolerances.settings ask.by ask.what (not_refused s ask (rw (← c.self.view_is) at c.requires.accepted))

pub invariant_of-self : goal.invariant_of-self
invariant_of-self c =
    let m = c.self.inside in
    roomy m.roster m.book c.make_room.new.book m.tolerances c.make_room.new.tolerances m.cycle m.ballot m.frozen c.make_room.ensures.book c.make_room.ensures.tolerances c.make_room.ensures.keeps c.self.invariant

pub invariant_of-self-2 : goal.invariant_of-self-2
invariant_of-self-2 c =
    let m = c.self.inside in
    roomy m.roster m.book c.make_room.new.book m.tolerances c.make_room.new.tolerances m.cycle m.ballot m.frozen c.make_room.ensures.book c.make_room.ensures.tolerances c.make_room.ensures.keeps c.self.invariant
