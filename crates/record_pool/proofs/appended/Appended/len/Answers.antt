use Rattle.std.proofs.Common.{length, ap, arith}
use Rattle.record_pool.proofs.PlaceFacts.{frames_least}
use Rattle.record_pool.proofs.appended.Appended.len.Goals as goal

pub returns-clause-few : goal.returns-clause-few
returns-clause-few c = omega (arith, c.len.ensures, frames_least c.self.inside.marks.records, ap length c.self.invariant.frames, c.self.invariant.few)
