use Rattle.std.proofs.Common.{List, sym, subst}
use Rattle.network_laws.specs.Solutions.{ProblemData}
use Rattle.cycle_states.specs.Begun.{AreCheckedBy}
use Rattle.cycle_states.proofs.machine.Machine.refusal.Goals as goal

pub check-requires-clause-problems : goal.check-requires-clause-problems
check-requires-clause-problems c = subst (λ (problems : List ProblemData). AreCheckedBy c.args.self.now.state c.args.ask.now.what problems) (sym c.as_slice.ensures.value) c.in_ok-problems.ensures.problems
