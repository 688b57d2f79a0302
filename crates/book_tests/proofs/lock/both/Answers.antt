use denote.Param.Send.{IsSend, param_send, arg_send, sendable}
use Rattle.std.proofs.Crossing.{crosses}
use Rattle.cycle_states.proofs.Sends.{plain_desk_send}
use Rattle.book_tests.specs.contracts.lock.whole_runs.WholeRuns as WholeRuns
use Rattle.book_tests.proofs.lock.both.Goals as goal

-- the desks may go to another thread

whole_runs_send : IsSend WholeRuns.the_row
whole_runs_send = search (plain_desk_send, sendable, crosses) depth 60

pub goes_in_runs-requires-send-D : goal.goes_in_runs-requires-send-D
goes_in_runs-requires-send-D g c κs within = search (param_send, arg_send, plain_desk_send)

pub goes_in_runs-requires-then-branch-send-D : goal.goes_in_runs-requires-then-branch-send-D
goes_in_runs-requires-then-branch-send-D g c κs within = search (param_send, arg_send, whole_runs_send)
