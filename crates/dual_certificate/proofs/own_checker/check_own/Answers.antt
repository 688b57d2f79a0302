use Rattle.std.proofs.Common.{Some, rules}
use Rattle.dual_certificate.proofs.OwnClashes.{own_iff, first_of_own_bounds}
use Rattle.dual_certificate.proofs.own_checker.check_own.Goals as goal

pub returns-in-Some-clause-certified : goal.returns-in-Some-clause-certified
returns-in-Some-clause-certified c =
    own_iff c.args.limits.now c.args.old.now c.args.new.now c.args.potentials.now c.args.member (Some c.in-Some.clash)
    (first_of_own_bounds c.args.limits.now c.args.old.now c.args.new.now c.args.potentials.now c.args.member c.own_bounds_clash.result c.in-Some.clash c.requires.new_members c.own_bounds_clash.ensures c.in-Some.is)

pub returns-clause-clash : goal.returns-clause-clash
returns-clause-clash c = search rules

pub returns-clause-certified : goal.returns-clause-certified
returns-clause-certified c =
    own_iff c.args.limits.now c.args.old.now c.args.new.now c.args.potentials.now c.args.member c.own_price_clash.result (returns-clause-clash c)
