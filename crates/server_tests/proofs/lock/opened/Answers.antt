use denote.Param.Send.{param_send, arg_send}
use Rattle.cycle_states.proofs.Sends.{plain_desk_send}
use Rattle.server_tests.proofs.lock.opened.Goals as goal

pub new-requires-3-send-T : goal.new-requires-3-send-T
new-requires-3-send-T c κs = search (param_send, arg_send, plain_desk_send)
