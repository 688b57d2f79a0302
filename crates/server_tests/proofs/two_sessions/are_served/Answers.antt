use denote.Param.Send.{param_send, arg_send}
use Rattle.cycle_states.proofs.Sends.{plain_desk_send}
use Rattle.server_tests.proofs.two_sessions.are_served.Goals as goal

pub both_are_served-requires-send-D : goal.both_are_served-requires-send-D
both_are_served-requires-send-D g c κs = search (param_send, arg_send, plain_desk_send)
