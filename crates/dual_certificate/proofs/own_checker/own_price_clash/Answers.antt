use Rattle.std.proofs.Common.{sym, ◌∙◌, arith}
use Rattle.network_laws.specs.Clash.{pair_price_clash}
use Rattle.dual_certificate.specs.Own.{own_pair}
use Rattle.network_laws.proofs.Clashes.{first_below-found, first_below-step}
use Rattle.dual_certificate.proofs.OwnClashes.{own_pair_found}
use Rattle.dual_certificate.proofs.own_checker.own_price_clash.Goals as goal

pub returns-in-Some : goal.returns-in-Some
returns-in-Some c =
    let k = c.loop-other.other in
    sym (first_below-found c.args.new.now.members k (own_pair (pair_price_clash c.args.limits.now c.args.new.now c.args.potentials.now) c.args.member) c.in-Some.clash (omega (arith, c.loop-other-test.true, c.members-other-end.ensures.value)) c.loop-other.invariant (own_pair_found (pair_price_clash c.args.limits.now c.args.new.now c.args.potentials.now) c.args.member c.loop-other.other c.price_clash_of-sold.result c.price_clash_of-bought.result c.or.result c.price_clash_of-sold.ensures c.price_clash_of-bought.ensures c.or.ensures ∙ c.in-Some.is))

pub loop-other-preserved : goal.loop-other-preserved
loop-other-preserved c =
    first_below-step c.loop-other.other (own_pair (pair_price_clash c.args.limits.now c.args.new.now c.args.potentials.now) c.args.member) c.loop-other.invariant (own_pair_found (pair_price_clash c.args.limits.now c.args.new.now c.args.potentials.now) c.args.member c.loop-other.other c.price_clash_of-sold.result c.price_clash_of-bought.result c.or.result c.price_clash_of-sold.ensures c.price_clash_of-bought.ensures c.or.ensures ∙ c.in_default.is)
