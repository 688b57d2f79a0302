use Rattle.record_codec.proofs.SizeFacts.{solution_small}
use Rattle.record_codec.proofs.size.rows_of.Goals as goal

pub returns-clause-few : goal.returns-clause-few
returns-clause-few c = (solution_small c.args.solution.now c.network.ensures.solution).0

pub returns-clause-few_potentials : goal.returns-clause-few_potentials
returns-clause-few_potentials c = (solution_small c.args.solution.now c.network.ensures.solution).1
