use Rattle.server_tests.proofs.PremiseFacts.{untold_ends, untold_undisturbed}
use Rattle.server_tests.proofs.premises.a_script_over_what_tells_nothing_is_undisturbed.Goals as goal

pub returns-clause-ends : goal.returns-clause-ends
returns-clause-ends c = untold_ends

pub returns-clause-undisturbed : goal.returns-clause-undisturbed
returns-clause-undisturbed c = untold_undisturbed
