use Rattle.std.proofs.Common.{sym, ◌∙◌, arith}
use Rattle.network_laws.specs.Clash.{pair_bounds_clash}
use Rattle.dual_certificate.specs.Own.{own_pair}
use Rattle.network_laws.proofs.Clashes.{first_below-found}
use Rattle.dual_certificate.proofs.OwnClashes.{own_pair_found}
use Rattle.dual_certificate.proofs.own_checker.own_bounds_clash.Goals as goal

pub returns-in-Some : goal.returns-in-Some
returns-in-Some c =
    let k = c.loop-other.other in
    sym (first_below-found c.args.new.now.members k (own_pair (pair_bounds_clash c.args.limits.now c.args.new.now) c.args.member) c.in-Some.clash (omega (arith, c.loop-other-test.true, c.members-other-end.ensures.value)) c.loop-other.invariant (own_pair_found (pair_bounds_clash c.args.limits.now c.args.new.now) c.args.member c.loop-other.other c.bounds_clash_of-sold.result c.bounds_clash_of-bought.result c.or.result c.bounds_clash_of-sold.ensures c.bounds_clash_of-bought.ensures c.or.ensures ∙ c.in-Some.is))
