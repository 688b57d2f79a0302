use denote.Param.Send.{param_send, arg_send}
use Rattle.cycle_states.proofs.Sends.{plain_desk_send}
use Rattle.book_tests.proofs.lock.opened.Goals as goal

-- the desk may go to another thread

pub new-requires-send-T : goal.new-requires-send-T
new-requires-send-T c κs = search (param_send, arg_send, plain_desk_send)
