use denote.Param.Send.{param_send, arg_send}
use Rattle.cycle_states.proofs.Sends.{plain_desk_send}
use Rattle.book_tests.proofs.lock.goes.Goals as goal

-- the desk may go to another thread

pub split-other-requires-send-T : goal.split-other-requires-send-T
split-other-requires-send-T g c κs = search (param_send, arg_send, plain_desk_send)

pub join-requires-send-T : goal.join-requires-send-T
join-requires-send-T g c κs = search (param_send, arg_send, plain_desk_send)

pub close-desk-requires-send-T : goal.close-desk-requires-send-T
close-desk-requires-send-T g c κs = search (param_send, arg_send, plain_desk_send)
