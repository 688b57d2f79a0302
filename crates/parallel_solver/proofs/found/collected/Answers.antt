use Rattle.std.proofs.Common.{◌≡◌, ◌++◌, ◌∷◌, [], sym, ◌∙◌, append_assoc, ap}
use Rattle.parallel_solver.proofs.Placed.{collected_step, never_missing}
use Rattle.parallel_solver.proofs.found.collected.Goals as goal

pub loop-slot-preserved : goal.loop-slot-preserved
loop-slot-preserved c =
    let i = c.loop-slot.invariant in
    let rest = c.next.new.self.rest.items in
    let order : (c.loop-slot.yielded ++ c.in-Some.slot ∷ []) ++ rest ≡ c.args.found.items = append_assoc c.loop-slot.yielded (c.in-Some.slot ∷ []) rest ∙ (ap (λ xs. c.loop-slot.yielded ++ xs) (sym c.in-Some.ensures.steps.0) ∙ i.order) in
    let split : c.loop-slot.yielded ++ c.in-Some.slot ∷ rest ≡ c.args.found.items = sym (append_assoc c.loop-slot.yielded (c.in-Some.slot ∷ []) rest) ∙ order in
    record {
      order = order;
      solved = collected_step c.args.pieces.now c.args.found.items c.loop-slot.yielded c.next.new.self.rest.items c.loop-slot.solutions.items c.push.new.self.items c.in-Some.slot c.in-Some-slot.solution c.requires.right.size c.requires.right.each
          split c.in-Some-slot.is c.in_ok-push.ensures.items i.solved;
    }

pub unreachable-requires : goal.unreachable-requires
unreachable-requires c =
    let order : c.loop-slot.yielded ++ c.in-Some.slot ∷ c.next.new.self.rest.items ≡ c.args.found.items = ap (λ xs. c.loop-slot.yielded ++ xs) (sym c.in-Some.ensures.steps.0) ∙ c.loop-slot.invariant.order in
    never_missing c.args.pieces.now c.args.found.items c.loop-slot.yielded c.next.new.self.rest.items c.in-Some.slot c.requires.right.size c.requires.all order c.in_default.is
