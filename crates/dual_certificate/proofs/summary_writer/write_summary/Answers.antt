use Rattle.std.proofs.Common.{◌∙◌, ◌<◌, ◌++◌, ℕ, length, ap, arith}
use Rattle.network_laws.specs.Networks.{NetworkData}
use Rattle.dual_certificate.specs.ProposalText.{product_text}
use Rattle.dual_certificate.proofs.TextFacts.{summary_more}
use Rattle.dual_certificate.proofs.summary_writer.write_summary.Goals as goal

pub loop-product-preserved : goal.loop-product-preserved
loop-product-preserved c =
    let n : ℕ = c.loop-product.product in
    let first : n < length c.args.old.now = omega (arith, ap length c.products-products.ensures.rows) in
    let second : n < length c.args.solutions.now = omega (arith, ap length c.products-products.ensures.rows) in
    c.in_ok-put_head.ensures
    ∙ ap (λ (new : NetworkData). c.loop-product.out.items ++ product_text c.args.roster.now n c.index-old-product.result new) c.network-new.ensures.value
    ∙ summary_more c.args.roster.now c.args.old.now c.args.solutions.now n c.loop-product.out.items c.index-old-product.result c.index-solutions-product.result c.loop-product.invariant first second c.index-old-product.is c.index-solutions-product.is
