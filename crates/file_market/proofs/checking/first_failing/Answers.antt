use Rattle.std.proofs.Common.{sym, ap, subst, ℕ, ◌<◌, length, arith}
use Rattle.file_market.specs.Check.{FailsSo}
use Rattle.file_market.proofs.FailingFacts.{found_first, none_more, fails_where_told}
use Rattle.file_market.proofs.checking.first_failing.Goals as goal

pub returns-in-Some : goal.returns-in-Some
returns-in-Some g c =
    let k : ℕ = c.loop-product.product in
    let products = ap length c.products-product-end.ensures.rows in
    let below : k < length c.args.terms.now.roster.now.products = omega (arith, products) in
    let within : k < length c.args.networks.now = omega (arith, below, c.requires.count) in
    let so = fails_where_told c.args.terms.now.roster.now c.args.terms.now.mode c.args.networks.now c.args.parts.now k c.in_ok-failure.failure c.in_ok-found.found.items c.deref.result.now
    c.deref.ensures.value (λ d. c.in_ok-found.ensures.each k d within) c.in_ok-failure.ensures in
    sym (found_first c.args.terms.now.roster.now c.args.terms.now.mode c.args.networks.now c.args.parts.now (length c.args.terms.now.roster.now.products) k c.in-Some.failure below c.loop-product.invariant
    (subst (FailsSo c.args.terms.now.roster.now c.args.terms.now.mode c.args.networks.now c.args.parts.now k) c.in-Some.is so))

pub loop-product-preserved : goal.loop-product-preserved
loop-product-preserved g c =
    let k : ℕ = c.loop-product.product in
    let products = ap length c.products-product-end.ensures.rows in
    let below : k < length c.args.terms.now.roster.now.products = omega (arith, products) in
    let within : k < length c.args.networks.now = omega (arith, below, c.requires.count) in
    let so = fails_where_told c.args.terms.now.roster.now c.args.terms.now.mode c.args.networks.now c.args.parts.now k c.in_ok-failure.failure c.in_ok-found.found.items c.deref.result.now
    c.deref.ensures.value (λ d. c.in_ok-found.ensures.each k d within) c.in_ok-failure.ensures in
    none_more c.args.terms.now.roster.now c.args.terms.now.mode c.args.networks.now c.args.parts.now k c.loop-product.invariant
    (subst (FailsSo c.args.terms.now.roster.now c.args.terms.now.mode c.args.networks.now c.args.parts.now k) c.in_default.is so)
