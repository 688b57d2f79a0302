use Rattle.cycle_cancel.specs.Rounds.{IsRound}
use Rattle.cycle_cancel.proofs.round.lower_all.Given as goal

abbrev pub invariant-loop-arc : goal.invariant-loop-arc
invariant-loop-arc l = IsRound l.least l.residual.flows l.before l.next l.arc
