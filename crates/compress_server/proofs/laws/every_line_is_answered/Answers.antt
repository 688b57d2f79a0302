use Rattle.compress_server.proofs.AnsweredFacts as facts
use Rattle.compress_server.proofs.laws.every_line_is_answered.Goals as goal

pub returns-clause-scripts : goal.returns-clause-scripts
returns-clause-scripts g c = facts.scripts_are_answered g.L.Door.Door.visits

pub returns-clause-services : goal.returns-clause-services
returns-clause-services g c = facts.services_are_answered g.L.Door.Door.visits
