-- A house may go to another thread where its disk may.
use denote.RattleType.{RattleType}
use denote.Param.Send.{IsSend, owning_send, sendable}
use Rattle.std.proofs.Crossing.{crosses}
use Rattle.outside.specs.declared.disk.Disk.{Ghosts}
use Rattle.journal_core.specs.contracts.frames.Frames as Frames
use Rattle.journal_core.specs.contracts.log.Log as FrameLog
use Rattle.cycle_states.specs.contracts.machine.undo.Undo as Undo
use Rattle.cycle_states.proofs.Sends.{machine_send, entry_send}
use Rattle.record_pool.proofs.Sends.{pool_send}
use Rattle.house.specs.contracts.batch.Batch as Batch
use Rattle.house.specs.contracts.chronicle.Chronicle as Chronicle
use Rattle.house.specs.contracts.past.Log as Log
use Rattle.house.specs.contracts.past.Past as Past
use Rattle.house.specs.contracts.house.House as House

-- a log owns nothing
log_send : IsSend Log.the_row
log_send = owning_send Log.the_type tt (λ d. tt) (λ k x w. tt)

past_send : IsSend Past.the_row
past_send = search (log_send, sendable, crosses) depth 60

chronicle_send : IsSend Chronicle.the_row
chronicle_send = search (past_send, pool_send, sendable, crosses) depth 60

undo_send : IsSend Undo.the_row
undo_send = search (sendable, crosses) depth 60 fits 100000

frame_log_send : IsSend FrameLog.the_row
frame_log_send = owning_send FrameLog.the_type tt (λ d. tt) (λ k x w. tt)

frames_send : IsSend Frames.the_row
frames_send = search (frame_log_send, sendable, crosses) depth 60

batch_send : IsSend Batch.the_row
batch_send = search (entry_send, undo_send, frames_send, sendable, crosses) depth 60 fits 100000

pub house_send : (D : RattleType) (g : Ghosts D.Denot) → IsSend D → IsSend (House.the_row D g)
house_send D g s = search (machine_send, batch_send, chronicle_send, sendable, crosses) depth 60 fits 100000
