use denote.Param.Send.{param_send, arg_send}
use Rattle.cycle_states.proofs.Sends.{plain_desk_send}
use Rattle.book_tests.proofs.lock.threads.split_off.Goals as goal

-- the desk may go to another thread

pub split-pass-requires-send-T : goal.split-pass-requires-send-T
split-pass-requires-send-T c κs = search (param_send, arg_send, plain_desk_send)
