use Rattle.house.proofs.EndingFacts.{between}
use Rattle.house.proofs.calling_all.part.Goals as goal

pub returns : goal.returns
returns c = between c.args.commands.now c.args.from c.args.to c.requires.ordered
