use denote.Param.Send.{param_send, arg_send}
use Rattle.record_pool.proofs.Sends.{pool_send}
use Rattle.journal_tests.proofs.pools.a_pool_can_go_to_another_thread.Goals as goal

pub is_sent-requires-send-T : goal.is_sent-requires-send-T
is_sent-requires-send-T g c κs = search (param_send, arg_send, pool_send)
