use Rattle.std.proofs.Common.{◌∙◌, ap, ℕ}
use Rattle.command_types.specs.Machine.{first_of}
use Rattle.cycle_states.specs.Refusals.{product_refusals}
use Rattle.cycle_states.proofs.machine.Machine.check_product.Goals as goal

pub returns : goal.returns
returns c =
    c.check_place.ensures
    ∙ ap (λ (p : ℕ). first_of (product_refusals c.args.self.now.state p c.args.terms.now.amount c.args.terms.now.day)) c.place_named-product.ensures
