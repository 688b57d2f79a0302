use denote.Param.Send.{param_send, arg_send}
use Rattle.cycle_states.proofs.Sends.{plain_desk_send}
use Rattle.server_tests.proofs.unsolved.tells_want_of_memory.Goals as goal

pub serve_session-end-requires-send-T : goal.serve_session-end-requires-send-T
serve_session-end-requires-send-T g c κs = search (param_send, arg_send, plain_desk_send)
