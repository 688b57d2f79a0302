use denote.Param.Send.{param_send, arg_send}
use Rattle.cycle_states.proofs.Sends.{plain_desk_send}
use Rattle.server_tests.proofs.served_seats.history_served.Goals as goal

pub serve-requires-send-T : goal.serve-requires-send-T
serve-requires-send-T g c κs = search (param_send, arg_send, plain_desk_send)
