use Rattle.std.proofs.Common.{◌≡◌, ◌+◌, length, List, Some, ap, ◌∙◌, arith, length-append, [], ◌∷◌}
use Rattle.outside.specs.Disk.{History, after_sync, settled_history}
use Rattle.outside.specs.MemoryDisk.{MemoryStore, replayed}
use Rattle.outside.specs.declared.memory_disk.Step.{Step}
use Rattle.outside.proofs.DiskFacts.{kept_sync, replayed_sync}
use Rattle.outside.proofs.memory_disk.MemoryDiskDisk.sync.Goals as goal

pub invariant_of-self : goal.invariant_of-self
invariant_of-self c =
    let was = c.self.view_is ∙ c.in_ok-begin_step.ensures.counted in
    let count = length-append c.self.inside.steps.items (Step.Sync ∷ []) in (
      rw (c.push_reserved.ensures.items, c.refill.ensures.items, c.deref.ensures.value) (kept_sync c.self.inside.first.items c.self.inside.steps.items c.self.inside.written.items c.self.inside.synced.items c.self.inside.content.items c.self.invariant.0),
      c.self.invariant.1,
      omega (arith, c.in_ok-begin_step.ensures.steps, ap (λ (s : MemoryStore). s.steps) was, ap (λ (s : MemoryStore). s.most_steps) was, ap length c.push_reserved.ensures.items, count),
      omega (arith, c.self.invariant.3),
      omega (arith, c.self.invariant.4),
      omega (arith, c.self.invariant.5, c.refill.ensures.capacity),
      omega (arith, c.self.invariant.6),
      omega (arith, c.self.invariant.7, c.push_reserved.ensures.capacity),
    )

pub returns-clause-synced : goal.returns-clause-synced
returns-clause-synced c =
    let was = c.self.view_is ∙ c.in_ok-begin_step.ensures.counted in
    ap (λ (h : History). Some h) (ap (λ (l : List Step). replayed l c.self.inside.written.items (settled_history c.self.inside.first.items)) c.push_reserved.ensures.items ∙ replayed_sync c.self.inside.steps.items c.self.inside.written.items (settled_history c.self.inside.first.items) ∙ ap (λ (s : MemoryStore). after_sync s.history) was)

pub returns-clause-after : goal.returns-clause-after
returns-clause-after c =
    let was = c.self.view_is ∙ c.in_ok-begin_step.ensures.counted in
    let history = ap (λ (l : List Step). replayed l c.self.inside.written.items (settled_history c.self.inside.first.items)) c.push_reserved.ensures.items ∙ replayed_sync c.self.inside.steps.items c.self.inside.written.items (settled_history c.self.inside.first.items) ∙ ap (λ (s : MemoryStore). after_sync s.history) was in
    let used : length c.self.inside.first.items + length c.self.inside.written.items ≡ c.args.self.now.used + 0 = omega (arith, ap (λ (s : MemoryStore). s.used) was) in
    let steps : length c.push_reserved.new.self.items ≡ c.args.self.now.steps + 1 =
    omega (arith, ap length c.push_reserved.ensures.items, length-append c.self.inside.steps.items (Step.Sync ∷ []), ap (λ (s : MemoryStore). s.steps) was) in
    λ i. record {
      history = history i;
      room = (was i).room;
      used = used i;
      most_steps = (was i).most_steps;
      steps = steps i;
      calls = (was i).calls;
      failing = (was i).failing;
      faults = (was i).faults;
    }
