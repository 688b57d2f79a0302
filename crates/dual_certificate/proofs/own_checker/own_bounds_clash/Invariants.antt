use Rattle.std.proofs.Common.{◌≡◌, None}
use Rattle.network_laws.specs.Clash.{first_below, pair_bounds_clash}
use Rattle.dual_certificate.specs.Own.{own_pair}
use Rattle.dual_certificate.proofs.own_checker.own_bounds_clash.Given as goal

abbrev pub invariant-loop-other : goal.invariant-loop-other
invariant-loop-other l = first_below l.other (own_pair (pair_bounds_clash l.limits l.new) l.member) ≡ None
