use denote.Param.Send.{param_send, arg_send}
use Rattle.cycle_states.proofs.Sends.{plain_desk_send}
use Rattle.book_tests.proofs.lock.many_passes.Goals as goal

-- the desk may go to another thread

pub close-desk-requires-send-T : goal.close-desk-requires-send-T
close-desk-requires-send-T g c κs = search (param_send, arg_send, plain_desk_send)
