use Rattle.std.proofs.Common.{◌≡◌, None}
use Rattle.network_laws.specs.Clash.{first_below, net_clash}
use Rattle.dual_certificate.proofs.net_test.first_net_clash.Given as goal

abbrev pub invariant-loop-member : goal.invariant-loop-member
invariant-loop-member l = first_below l.member (net_clash l.old l.new) ≡ None
