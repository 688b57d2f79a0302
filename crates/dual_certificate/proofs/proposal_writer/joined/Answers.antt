use Rattle.std.proofs.Common.{◌∙◌, ap, ℕ, ◌<◌, ◌++◌, length, arith, rules}
use Rattle.dual_certificate.proofs.TextFacts.{part_joined}
use Rattle.dual_certificate.proofs.proposal_writer.joined.Goals as goal

pub loop-product-init : goal.loop-product-init
loop-product-init c = λ roster olds news are. search rules

pub loop-product-preserved : goal.loop-product-preserved
loop-product-preserved c = λ roster olds news are.
    let n : ℕ = c.loop-product.product in
    let within : n < length c.args.parts.now = omega arith in
    part_joined roster olds news c.args.parts.now n c.loop-product.out.items c.extend_from_slice.new.self.items c.index-parts-product.result are (c.loop-product.invariant roster olds news are) within c.index-parts-product.is
    (c.in_ok-extend_from_slice.ensures.items ∙ ap (λ t. c.loop-product.out.items ++ t) c.deref.ensures.value)

pub returns : goal.returns
returns c = λ roster olds news are. search (rules, c.loop-product.invariant roster olds news are)
