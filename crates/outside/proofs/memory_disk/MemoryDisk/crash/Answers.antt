use Rattle.std.proofs.Common.{◌≡◌, ◌∙◌, ap, sym, subst}
use Rattle.outside.specs.Disk.{may_leave}
use Rattle.outside.specs.MemoryDisk.{MemoryStore}
use Rattle.outside.proofs.DiskFacts.{left_same}
use Rattle.outside.proofs.memory_disk.MemoryDisk.crash.Goals as goal

pub returns-clause-image : goal.returns-clause-image
returns-clause-image c =
    let is : c.refill.new.bytes.items ≡ c.args.self.history.now.synced =
    c.refill.ensures.items ∙ c.deref.ensures.value ∙ c.self.invariant.0.synced ∙ ap (λ (s : MemoryStore). s.history.now.synced) c.self.view_is in
    rw c.clear.ensures.items (subst (may_leave c.args.self.history.now) (sym is) (left_same c.args.self.history.now.synced c.args.self.history.now.changes))
