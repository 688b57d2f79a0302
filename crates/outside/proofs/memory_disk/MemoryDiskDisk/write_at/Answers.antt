use Rattle.std.proofs.Common.{◌≡◌, ◌+◌, ◌++◌, length, List, ℕ, Some, ap, ◌∙◌, arith, length-append, [], ◌∷◌}
use Rattle.outside.specs.Disk.{History, after_write, settled_history}
use Rattle.outside.specs.MemoryDisk.{MemoryStore, replayed}
use Rattle.outside.specs.declared.memory_disk.Step.{Step}
use Rattle.outside.proofs.DiskFacts.{kept_write, replayed_write}
use Rattle.outside.proofs.memory_disk.MemoryDiskDisk.write_at.Goals as goal

pub invariant_of-self : goal.invariant_of-self
invariant_of-self c =
    let was = c.self.view_is ∙ c.in_ok-begin_step.ensures.counted in
    let count = length-append c.self.inside.steps.items (Step.Write c.args.at (length c.args.bytes.now) ∷ []) in (
      rw (c.push_reserved.ensures.items, c.push_all.ensures.items, c.write_over.ensures.items) (kept_write c.self.inside.first.items c.self.inside.steps.items c.self.inside.written.items c.self.inside.synced.items c.self.inside.content.items c.args.at c.args.bytes.now c.self.invariant.0),
      omega (arith, c.in_ok-begin_step.ensures.room, ap (λ (s : MemoryStore). s.used) was, ap (λ (s : MemoryStore). s.room) was, ap length c.push_all.ensures.items, length-append c.self.inside.written.items c.args.bytes.now),
      omega (arith, c.in_ok-begin_step.ensures.steps, ap (λ (s : MemoryStore). s.steps) was, ap (λ (s : MemoryStore). s.most_steps) was, ap length c.push_reserved.ensures.items, count),
      omega (arith, c.self.invariant.3),
      omega (arith, c.self.invariant.4, c.push_all.ensures.capacity),
      omega (arith, c.self.invariant.5),
      omega (arith, c.self.invariant.6, c.write_over.ensures.capacity),
      omega (arith, c.self.invariant.7, c.push_reserved.ensures.capacity),
    )

pub returns-clause-written : goal.returns-clause-written
returns-clause-written c =
    let was = c.self.view_is ∙ c.in_ok-begin_step.ensures.counted in
    ap (λ (h : History). Some h) (ap (λ (l : List Step). replayed l c.push_all.new.bytes.items (settled_history c.self.inside.first.items)) c.push_reserved.ensures.items ∙ ap (λ (l : List ℕ). replayed (c.self.inside.steps.items ++ Step.Write c.args.at (length c.args.bytes.now) ∷ []) l (settled_history c.self.inside.first.items)) c.push_all.ensures.items ∙ replayed_write c.self.inside.steps.items c.self.inside.written.items (settled_history c.self.inside.first.items) c.args.at c.args.bytes.now c.self.invariant.0.written ∙ ap (λ (s : MemoryStore). after_write c.args.at c.args.bytes.now s.history) was)

pub returns-clause-after : goal.returns-clause-after
returns-clause-after c =
    let was = c.self.view_is ∙ c.in_ok-begin_step.ensures.counted in
    let history = ap (λ (l : List Step). replayed l c.push_all.new.bytes.items (settled_history c.self.inside.first.items)) c.push_reserved.ensures.items ∙ ap (λ (l : List ℕ). replayed (c.self.inside.steps.items ++ Step.Write c.args.at (length c.args.bytes.now) ∷ []) l (settled_history c.self.inside.first.items)) c.push_all.ensures.items ∙ replayed_write c.self.inside.steps.items c.self.inside.written.items (settled_history c.self.inside.first.items) c.args.at c.args.bytes.now c.self.invariant.0.written ∙ ap (λ (s : MemoryStore). after_write c.args.at c.args.bytes.now s.history) was in
    let used : length c.self.inside.first.items + length c.push_all.new.bytes.items ≡ c.args.self.now.used + length c.args.bytes.now = omega (arith, ap (λ (s : MemoryStore). s.used) was, ap length c.push_all.ensures.items, length-append c.self.inside.written.items c.args.bytes.now) in
    let steps : length c.push_reserved.new.self.items ≡ c.args.self.now.steps + 1 =
    omega (arith, ap length c.push_reserved.ensures.items, length-append c.self.inside.steps.items (Step.Write c.args.at (length c.args.bytes.now) ∷ []), ap (λ (s : MemoryStore). s.steps) was) in
    λ i. record {
      history = history i;
      room = (was i).room;
      used = used i;
      most_steps = (was i).most_steps;
      steps = steps i;
      calls = (was i).calls;
      failing = (was i).failing;
      faults = (was i).faults;
    }
