use Rattle.server_tests.proofs.PremiseFacts.{script_ends, script_undisturbed}
use Rattle.server_tests.proofs.premises.a_script_is_undisturbed.Goals as goal

pub returns-clause-ends : goal.returns-clause-ends
returns-clause-ends c = script_ends

pub returns-clause-undisturbed : goal.returns-clause-undisturbed
returns-clause-undisturbed c = script_undisturbed
