use denote.Param.Send.{param_send, arg_send}
use Rattle.cycle_states.proofs.Sends.{plain_desk_send}
use Rattle.book_tests.proofs.lock.calls.is_answered.Goals as goal

-- the desk may go to another thread

pub call-reply-requires-send-T : goal.call-reply-requires-send-T
call-reply-requires-send-T g c κs = search (param_send, arg_send, plain_desk_send)
