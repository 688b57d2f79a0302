use Rattle.cycle_states.proofs.CycleFacts.{solving_limits}
use Rattle.cycle_states.proofs.machine.Machine.fetched.Goals as goal

pub problems-requires : goal.problems-requires
problems-requires c = solving_limits c.args.self.now.state.cycle.phase c.requires
