use Rattle.server_tests.proofs.PremiseFacts.{service_ends, service_undisturbed}
use Rattle.server_tests.proofs.premises.a_service_is_undisturbed.Goals as goal

pub returns-clause-ends : goal.returns-clause-ends
returns-clause-ends c = service_ends

pub returns-clause-undisturbed : goal.returns-clause-undisturbed
returns-clause-undisturbed c = service_undisturbed
