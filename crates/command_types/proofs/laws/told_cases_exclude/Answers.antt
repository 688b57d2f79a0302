use Rattle.command_types.proofs.CaseFacts.{cases_exclude}
use Rattle.command_types.proofs.laws.told_cases_exclude.Goals as goal

pub returns : goal.returns
returns c = cases_exclude
