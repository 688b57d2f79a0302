use Rattle.std.proofs.Common.{◌≡◌, ◌∙◌, IfOk, Some, refl, ap, sym, subst}
use Rattle.command_types.specs.declared.answer.Answer.{Answer}
use Rattle.command_types.specs.Machine.{member_of, nets_answer, product_of}
use Rattle.command_types.specs.Roster.{is_operator}
use Rattle.cycle_states.specs.Machine.{state_with, MachineView}
use Rattle.cycle_states.proofs.MachineFacts.{own_answer, market_answer}
use Rattle.cycle_states.proofs.machine.Machine.nets.Goals as goal

pub returns-then-is_operator : goal.returns-then-is_operator
returns-then-is_operator c =
    let m = c.self.inside in
    let s = state_with m.roster m.book.rows m.tolerances.settings m.cycle in
    let by = c.args.caller.now.name in
    let product = c.args.product.now in
    let Tells : Answer → Type 0 = λ told. IfOk c.market_of.result (λ answer. answer ≡ told) in
    subst (λ (view : MachineView). Tells (nets_answer view.state by (product_of view.state product))) c.self.view_is
    (subst Tells
    (market_answer s (Some by) by product m.book.members c.place_of_product-product.result refl c.self.invariant.0.book.members_all c.place_of_product-product.ensures (ap (λ (view : MachineView). is_operator view.state.roster by) c.self.view_is ∙ sym c.is_operator.ensures ∙ c.if-is_operator.true))
    c.market_of.ensures)

pub returns : goal.returns
returns c =
    let m = c.self.inside in
    let s = state_with m.roster m.book.rows m.tolerances.settings m.cycle in
    let by = c.args.caller.now.name in
    let product = c.args.product.now in
    c.position_of.ensures
    ∙ own_answer s (Some by) by product c.place_of_product-product.result c.place_of-member.result refl c.place_of_product-product.ensures (c.place_of-member.ensures ∙ ap (λ (view : MachineView). member_of view.state by) (sym c.self.view_is))
    (ap (λ (view : MachineView). is_operator view.state.roster by) c.self.view_is ∙ sym c.is_operator.ensures ∙ c.if-is_operator.false)
    ∙ ap (λ (view : MachineView). nets_answer view.state by (product_of view.state product)) c.self.view_is
