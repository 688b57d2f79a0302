use Rattle.record_pool.proofs.SpelledFacts.{given}
use Rattle.record_pool.proofs.laws.changes_are_given_in_the_second_spelling.Goals as goal

pub returns : goal.returns
returns c = λ change entry spells. given change entry spells
