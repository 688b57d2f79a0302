use Rattle.std.proofs.Common.{◌≡◌, Some, None, subst}
use Rattle.command_types.specs.declared.ask.What.{What}
use Rattle.command_types.specs.Machine.{first_of, refusals}
use Rattle.cycle_states.specs.Effects.{MayAllege}
use Rattle.cycle_states.specs.Machine.{state_with, MachineView}
use Rattle.cycle_states.proofs.EffectFacts.{may_allege}
use Rattle.cycle_states.proofs.machine.Machine.trade_effect.Goals as goal

pub returns-in-Trade-clause-may : goal.returns-in-Trade-clause-may
returns-in-Trade-clause-may c =
    let m = c.self.inside in
    let s = state_with m.roster m.book.rows m.tolerances.settings m.cycle in
    let by = c.args.caller.now.name in
    let terms = c.in-Trade in
    let Stands : What → Type 0 = λ what. first_of (refusals s (Some by) what) ≡ None in
    let none = subst Stands terms.is (rw (← c.self.view_is) at c.requires.accepted) in
    let may = may_allege s by terms.seller terms.buyer terms.product terms.amount terms.day none in
    subst (λ (view : MachineView). MayAllege view.state c.place_of_member.result c.place_of_member-in-Trade.result c.place_of_product.result terms.amount) c.self.view_is
    (rw (c.place_of_member.ensures, c.place_of_member-in-Trade.ensures, c.place_of_product.ensures) may)
