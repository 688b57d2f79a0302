use Rattle.std.proofs.Common.{length, arith, ap}
use Rattle.cycle_states.proofs.FrozenFacts.{one_more}
use Rattle.cycle_states.proofs.machine.frozen.frozen_products.Goals as goal

pub loop-product-init : goal.loop-product-init
loop-product-init c = (ap length c.new-kept.ensures.items, λ k d l. absurd (omega (arith, l, ap length c.new-kept.ensures.items)))

pub loop-product-preserved : goal.loop-product-preserved
loop-product-preserved c =
    one_more c.args.book.now.members c.args.book.now.rows c.loop-product.kept.items c.push.new.self.items c.in_ok-made.made c.loop-product.product c.loop-product.invariant.0 c.loop-product.invariant.1 c.in_ok-made.ensures c.in_ok-push.ensures.items

pub returns : goal.returns
returns c = c.loop-product.invariant.1
