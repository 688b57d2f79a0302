use Rattle.std.proofs.Common.{◌≡◌, ◌∙◌, [], is_some, unwrap_or, IfSome, ap, refl, sym, subst}
use Rattle.command_types.specs.declared.figures.State.{State}
use Rattle.command_types.specs.Machine.{state_after}
use Rattle.cycle_states.specs.declared.machine.effect.Effect.{Effect}
use Rattle.cycle_states.specs.Effects.{applied, MayApply}
use Rattle.cycle_states.specs.Machine.{state_with, MachineView}
use Rattle.cycle_states.specs.Undo.{goes_back, is_of_one_row, LeadsBack, Undoes}
use Rattle.cycle_states.proofs.EffectFacts.{effect_is_next}
use Rattle.cycle_states.proofs.MachineFacts.{not_refused}
use Rattle.cycle_states.proofs.UndoFacts.{one_row, one_row_leaves, undoes}
use Rattle.cycle_states.proofs.machine.Machine.undo_of.Goals as goal

pub returns-clause-some : goal.returns-clause-some
returns-clause-some c =
    let s = c.args.self.now.state in
    let ask = c.args.ready.now.entry.ask in
    let may = subst (λ (e : Effect). MayApply s e) (sym c.effect.ensures) c.requires.ready.may in
    let rows = sym (ap (λ (view : MachineView). view.state.trades) c.self.view_is) in
    c.undo_for.ensures.some s rows may ∙ ap (λ (e : Effect). is_of_one_row s.trades e) (c.effect.ensures ∙ c.requires.ready.effect) ∙ one_row s (unwrap_or ask.by []) ask.what

pub returns-clause-back : goal.returns-clause-back
returns-clause-back c =
    let m = c.self.inside in
    let s = state_with m.roster m.book.rows m.tolerances.settings m.cycle in
    let ask = c.args.ready.now.entry.ask in
    let may = subst (λ (e : Effect). MayApply s e) (sym c.effect.ensures) (rw (← c.self.view_is) at c.requires.ready.may) in
    let does = c.effect.ensures ∙ (rw (← c.self.view_is) at c.requires.ready.effect) in
    let leads = subst (λ (after : State). IfSome c.undo_for.result (LeadsBack s after)) (ap (λ (e : Effect). applied s e) does ∙ effect_is_next s ask) (c.undo_for.ensures.back s refl may) in
    let some : is_some c.undo_for.result ≡ goes_back s ask.what =
    returns-clause-some c ∙ ap (λ (view : MachineView). goes_back view.state ask.what) (sym c.self.view_is) in
    let none = not_refused s ask (rw (← c.self.view_is) at c.requires.accepted) in
    subst (λ (view : MachineView). IfSome c.undo_for.result (Undoes view.state (state_after view.state ask))) c.self.view_is
    (undoes s (state_after s ask) (goes_back s ask.what) c.undo_for.result leads some (λ goes breaks. one_row_leaves s ask.by ask.what goes none c.self.invariant.0.unbroken breaks))
