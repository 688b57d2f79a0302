use Rattle.server_tests.proofs.PremiseFacts.{seat_served}
use Rattle.server_tests.proofs.premises.a_seat_has_served.Goals as goal

pub returns-clause-served : goal.returns-clause-served
returns-clause-served c = seat_served
