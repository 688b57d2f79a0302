use Rattle.std.proofs.Common.{◌≡◌, ◌-◌, ◌∷◌, [], take, ap, ◌∙◌}
use Rattle.std.proofs.lemmas.List.{append-nil}
use Rattle.parallel_solver.specs.Jobs.{IsRight}
use Rattle.parallel_solver.proofs.Rights.{all_front, all_last, one_put, all_put}
use Rattle.parallel_solver.proofs.found.put_all.Goals as goal

pub put-requires-clause-right : goal.put-requires-clause-right
put-requires-clause-right c = all_last (IsRight c.args.pieces.now) c.pop.new.self.items c.loop-one.done.items c.in-Some.one c.in-Some.ensures.items c.loop-one.invariant.1

pub loop-one-preserved : goal.loop-one-preserved
loop-one-preserved c = (
  c.put.ensures.right,
  all_front (IsRight c.args.pieces.now) c.pop.new.self.items (c.in-Some.one ∷ []) c.loop-one.done.items c.in-Some.ensures.items c.loop-one.invariant.1,
  one_put _ _ c.loop-one.found c.put.new.found c.loop-one.done.items c.pop.new.self.items c.in-Some.one c.in-Some.ensures.items c.put.ensures.found c.loop-one.invariant.2,
)

pub returns-clause-found : goal.returns-clause-found
returns-clause-found c =
    let e = c.in_default.ensures in
    let items = c.loop-one.done.items in
    let none : items ≡ [] = e.items ∙ (append-nil _ ∙ (e.rest ∙ ap (λ n. take (n - 1) items) e.cases.0)) in
    all_put _ c.loop-one.found c.args.done.items items none c.loop-one.invariant.2
