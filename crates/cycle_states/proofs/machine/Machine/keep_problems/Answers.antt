use Rattle.std.proofs.Common.{◌∙◌, sym}
use Rattle.std.proofs.lemmas.Bool.{false≢true}
use Rattle.cycle_states.proofs.machine.Machine.keep_problems.Goals as goal

pub returns-clause-vote : goal.returns-clause-vote
returns-clause-vote c = λ vote. absurd (false≢true (sym (c.asks_problems.ensures vote) ∙ c.if-not-asks_problems.false))
