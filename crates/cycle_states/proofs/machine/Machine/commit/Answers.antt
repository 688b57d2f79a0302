use Rattle.std.proofs.Common.{◌≡◌, ◌∙◌, ◌≤◌, ℕ, None, IsTrue, refl, ap, sym, subst}
use Rattle.command_types.specs.declared.answer.Answer.{Answer}
use Rattle.trade_history.specs.Laws.{is_execution}
use Rattle.command_types.specs.Machine.{accepted, answer_to, first_of, refusals, state_after}
use Rattle.command_types.specs.History.{solutions_posted}
use Rattle.cycle_states.specs.declared.machine.effect.Effect.{Effect}
use Rattle.cycle_states.specs.Effects.{applied, rows_with, settings_with, taken_with}
use Rattle.cycle_states.specs.declared.machine.ballot.Ballot.{Ballot}
use Rattle.cycle_states.specs.Ballot.{planned_rows, IsBallotIn}
use Rattle.cycle_states.specs.Machine.{state_with, MachineView}
use Rattle.cycle_states.proofs.MachineFacts.{recorded_changes, not_refused, accepted_answer}
use Rattle.cycle_states.proofs.CycleFacts.{stays_unbroken}
use Rattle.cycle_states.proofs.KeptFacts.{stays_kept}
use Rattle.cycle_states.proofs.EffectFacts.{effect_is_next}
use Rattle.cycle_states.specs.Frozen.{kept_with, AreOfFreeze}
use Rattle.cycle_states.proofs.FrozenFacts.{stays_frozen}
use Rattle.cycle_states.proofs.TakenFacts.{stays_taken}
use Rattle.posting.specs.Laws.{AreLeast, KeepsNets}
use Rattle.command_types.specs.declared.figures.State.{State}
use Rattle.cycle_states.proofs.CommitFacts.{least_posted, nets_kept}
use Rattle.cycle_states.proofs.machine.Machine.commit.Goals as goal

pub apply-requires-clause-may : goal.apply-requires-clause-may
apply-requires-clause-may c =
    let given = rw (← c.self.view_is) at c.requires.ready.may in
    rw c.into_parts-entry.ensures.effect given

pub apply-requires-clause-room : goal.apply-requires-clause-room
apply-requires-clause-room c =
    let m = c.self.inside in
    let does = rw (← c.self.view_is) at c.requires.ready.effect in
    let given = rw (← c.self.view_is) at c.requires.room in
    subst (λ (e : Effect). rows_with e (planned_rows m.cycle) ≤ m.book.spare) (sym (c.into_parts-entry.ensures.effect ∙ does)) given

pub apply-requires-clause-slot : goal.apply-requires-clause-slot
apply-requires-clause-slot c =
    let m = c.self.inside in
    let does = rw (← c.self.view_is) at c.requires.ready.effect in
    let given = rw (← c.self.view_is) at c.requires.slot in
    subst (λ (e : Effect). settings_with e ≤ m.tolerances.spare) (sym (c.into_parts-entry.ensures.effect ∙ does)) given

pub invariant_of-self : goal.invariant_of-self
invariant_of-self c =
    let m = c.self.inside in
    let s = state_with m.roster m.book.rows m.tolerances.settings m.cycle in
    let n = state_with m.roster c.apply.new.book.rows c.apply.new.tolerances.settings c.apply.new.cycle in
    let ask = c.args.ready.entry.ask in
    let none : first_of (refusals s ask.by ask.what) ≡ None = not_refused s ask (rw (← c.self.view_is) at c.requires.accepted) in
    let does = rw (← c.self.view_is) at c.requires.ready.effect in
    let on : n ≡ state_after s ask = c.apply.ensures.state ∙ ap (λ (e : Effect). applied s e) (c.into_parts-entry.ensures.effect ∙ does) ∙ effect_is_next s ask in
    let ballot = rw (← c.self.view_is) at c.requires.ready.ballot in (
      record {
        few_members = c.self.invariant.0.few_members;
        few_products = c.self.invariant.0.few_products;
        book = record {
          members_all = c.apply.ensures.members ∙ c.self.invariant.0.book.members_all;
          products_all = c.apply.ensures.products ∙ c.self.invariant.0.book.products_all;
        };
        unbroken = stays_unbroken s n ask on none c.self.invariant.0.unbroken;
        cycle_kept = stays_kept s n ask.by ask.what on none c.self.invariant.0.unbroken c.requires.ready.solutions c.self.invariant.0.cycle_kept;
      },
      subst (λ (b : Ballot). IsBallotIn n b) (sym c.into_parts-entry.ensures.ballot) (subst (λ (after : State). IsBallotIn after c.args.ready.ballot) (sym on) ballot),
      stays_taken s n ask m.tolerances c.apply.new.tolerances.taken on (c.apply.ensures.taken ∙ ap (λ (e : Effect). taken_with e m.tolerances) (c.into_parts-entry.ensures.effect ∙ does)) refl c.self.invariant.2,
      subst (λ (members : ℕ). AreOfFreeze members c.apply.new.book.rows c.apply.new.cycle.phase c.pass.new.self) (sym c.apply.ensures.members)
          (stays_frozen m.book.members s n ask m.frozen c.pass.new.self on (c.pass.ensures ∙ ap (λ (e : Effect). kept_with e m.frozen) (c.into_parts-entry.ensures.effect ∙ does)) none c.self.invariant.0.unbroken c.self.invariant.3),
      c.apply.ensures.planned,
    )

pub returns-clause-state : goal.returns-clause-state
returns-clause-state c =
    let m = c.self.inside in
    let s = state_with m.roster m.book.rows m.tolerances.settings m.cycle in
    let ask = c.args.ready.entry.ask in
    let does = rw (← c.self.view_is) at c.requires.ready.effect in
    c.apply.ensures.state
    ∙ ap (λ (e : Effect). applied s e) (c.into_parts-entry.ensures.effect ∙ does)
    ∙ effect_is_next s ask
    ∙ ap (λ (view : MachineView). state_after view.state ask) c.self.view_is

pub returns-clause-answer : goal.returns-clause-answer
returns-clause-answer c = c.into_parts-entry.ensures.answer ∙ c.requires.ready.answer

pub returns-clause-solutions : goal.returns-clause-solutions
returns-clause-solutions c = c.requires.ready.solutions

pub returns-clause-least : goal.returns-clause-least
returns-clause-least c =
    let m = c.self.inside in
    let ask = c.args.ready.entry.ask in
    let s = state_with m.roster m.book.rows m.tolerances.settings m.cycle in
    let none = not_refused s ask (rw (← c.self.view_is) at c.requires.accepted) in
    subst (λ (view : MachineView). AreLeast view.state.cycle.begun (solutions_posted ask.what)) c.self.view_is
    (least_posted m.roster m.book.members m.book.products m.book.rows m.tolerances.settings m.cycle c.self.invariant.0 c.rows-rows.ensures.trades c.rows-rows.ensures.bounded ask.by ask.what none c.requires.ready.solutions)

pub returns-clause-nets : goal.returns-clause-nets
returns-clause-nets c = λ told.
    let m = c.self.inside in
    let ask = c.args.ready.entry.ask in
    let s = state_with m.roster m.book.rows m.tolerances.settings m.cycle in
    let given = rw (← c.self.view_is) at c.requires.accepted in
    let none = not_refused s ask given in
    let change = recorded_changes ask.what (answer_to s ask) given in
    let answers : c.into_parts-entry.result.1 ≡ accepted s ask.by ask.what = returns-clause-answer c ∙ ap (λ (view : MachineView). answer_to view.state ask) (sym c.self.view_is) ∙ accepted_answer s ask none in
    let kept = nets_kept m.roster m.book.members m.book.products m.book.rows m.tolerances.settings m.cycle c.self.invariant.0 c.rows-rows.ensures.trades c.rows-rows.ensures.bounded ask.by ask.what change none c.requires.ready.solutions
    (subst (λ (answer : Answer). IsTrue (is_execution answer)) answers told) in
    let n = state_with m.roster c.apply.new.book.rows c.apply.new.tolerances.settings c.apply.new.cycle in
    let does = rw (← c.self.view_is) at c.requires.ready.effect in
    let on : n ≡ state_after s ask = c.apply.ensures.state ∙ ap (λ (e : Effect). applied s e) (c.into_parts-entry.ensures.effect ∙ does) ∙ effect_is_next s ask in
    subst (λ (view : MachineView). KeepsNets view.state.roster view.state n) c.self.view_is (subst (λ (after : State). KeepsNets m.roster s after) (sym on) kept)
