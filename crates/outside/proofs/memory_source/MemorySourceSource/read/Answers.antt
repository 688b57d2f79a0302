use Rattle.std.proofs.Common.{◌≤◌, drop, length, arith, sym}
use Rattle.std.proofs.lemmas.List.{drop-drop}
use Rattle.std.proofs.Math.Seq.{take-add}
use Rattle.outside.proofs.FlowFacts.{next_bytes, front_written}
use Rattle.outside.proofs.memory_source.MemorySourceSource.read.Goals as goal

pub returns-clause-gives : goal.returns-clause-gives
returns-clause-gives c =
    let next = next_bytes c.self.inside.bytes.items c.self.inside.next c.copy_next-n.result in
    let count = rw c.deref-2.ensures.value at c.copy_next-n.ensures.count in
    let fits : c.copy_next-n.result ≤ length (drop c.self.inside.next c.self.inside.bytes.items) = omega (arith, count) in
    let front = front_written (drop c.self.inside.next c.self.inside.bytes.items) c.args.into.now c.copy_next-n.result fits in
    rw (← c.self.view_is, c.copy_next-n.ensures.copied, c.deref-2.ensures.value, front) next

pub returns-clause-after : goal.returns-clause-after
returns-clause-after c =
    let given = take-add c.self.inside.next c.copy_next-n.result c.self.inside.bytes.items in
    let left = sym (drop-drop c.copy_next-n.result c.self.inside.next c.self.inside.bytes.items) in
    rw (← c.self.view_is) (λ i. record { given = given i; left = left i; reads = c.saturating_add-self-inside.ensures i; failing = c.self.inside.failing.items; faults = c.self.inside.faults })
