use Rattle.std.proofs.Common.{◌≡◌}
use Rattle.server_tests.proofs.served.listener_of.Given as goal

abbrev pub invariant-loop-text : goal.invariant-loop-text
invariant-loop-text l = l.listener.handed ≡ 0
