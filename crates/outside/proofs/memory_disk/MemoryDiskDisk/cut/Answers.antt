use Rattle.std.proofs.Common.{◌≡◌, ◌+◌, length, List, Some, ap, ◌∙◌, arith, length-append, [], ◌∷◌}
use Rattle.outside.specs.Disk.{History, after_cut, settled_history}
use Rattle.outside.specs.MemoryDisk.{MemoryStore, replayed}
use Rattle.outside.specs.declared.memory_disk.Step.{Step}
use Rattle.outside.proofs.DiskFacts.{kept_cut, replayed_cut}
use Rattle.outside.proofs.memory_disk.MemoryDiskDisk.cut.Goals as goal

pub invariant_of-self : goal.invariant_of-self
invariant_of-self c =
    let was = c.self.view_is ∙ c.in_ok-begin_step.ensures.counted in
    let count = length-append c.self.inside.steps.items (Step.Cut c.args.length ∷ []) in (
      rw (c.push_reserved.ensures.items, c.shorten.ensures.items) (kept_cut c.self.inside.first.items c.self.inside.steps.items c.self.inside.written.items c.self.inside.synced.items c.self.inside.content.items c.args.length c.self.invariant.0),
      c.self.invariant.1,
      omega (arith, c.in_ok-begin_step.ensures.steps, ap (λ (s : MemoryStore). s.steps) was, ap (λ (s : MemoryStore). s.most_steps) was, ap length c.push_reserved.ensures.items, count),
      omega (arith, c.self.invariant.3),
      omega (arith, c.self.invariant.4),
      omega (arith, c.self.invariant.5),
      omega (arith, c.self.invariant.6, c.shorten.ensures.capacity),
      omega (arith, c.self.invariant.7, c.push_reserved.ensures.capacity),
    )

pub returns-clause-shortened : goal.returns-clause-shortened
returns-clause-shortened c =
    let was = c.self.view_is ∙ c.in_ok-begin_step.ensures.counted in
    ap (λ (h : History). Some h) (ap (λ (l : List Step). replayed l c.self.inside.written.items (settled_history c.self.inside.first.items)) c.push_reserved.ensures.items ∙ replayed_cut c.self.inside.steps.items c.self.inside.written.items (settled_history c.self.inside.first.items) c.args.length ∙ ap (λ (s : MemoryStore). after_cut c.args.length s.history) was)

pub returns-clause-after : goal.returns-clause-after
returns-clause-after c =
    let was = c.self.view_is ∙ c.in_ok-begin_step.ensures.counted in
    let history = ap (λ (l : List Step). replayed l c.self.inside.written.items (settled_history c.self.inside.first.items)) c.push_reserved.ensures.items ∙ replayed_cut c.self.inside.steps.items c.self.inside.written.items (settled_history c.self.inside.first.items) c.args.length ∙ ap (λ (s : MemoryStore). after_cut c.args.length s.history) was in
    let used : length c.self.inside.first.items + length c.self.inside.written.items ≡ c.args.self.now.used + 0 = omega (arith, ap (λ (s : MemoryStore). s.used) was) in
    let steps : length c.push_reserved.new.self.items ≡ c.args.self.now.steps + 1 =
    omega (arith, ap length c.push_reserved.ensures.items, length-append c.self.inside.steps.items (Step.Cut c.args.length ∷ []), ap (λ (s : MemoryStore). s.steps) was) in
    λ i. record {
      history = history i;
      room = (was i).room;
      used = used i;
      most_steps = (was i).most_steps;
      steps = steps i;
      calls = (was i).calls;
      failing = (was i).failing;
      faults = (was i).faults;
    }
