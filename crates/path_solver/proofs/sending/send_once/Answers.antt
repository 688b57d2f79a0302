use Rattle.std.proofs.Common.{◌≡◌, ℕ, ◌+◌, ◌-◌, ◌≤◌, ltb, length, get_or, set, take, refl, sym, ap, ◌∙◌, subst, inl, inr, arith}
use Rattle.std.proofs.lemmas.Bool.{cases_eq, lt-ltb, le-ltb, cond-true, cond-false}
use Rattle.std.proofs.lemmas.List.{get_or-take}
use Rattle.residual_graph.specs.Residual.{ResidualData}
use Rattle.residual_graph.specs.Arcs.{room, tail}
use Rattle.residual_graph.proofs.Walks.{path_can}
use Rattle.path_solver.specs.Rests.{AreSamePairs, IsSentAlong}
use Rattle.path_solver.specs.Trails.{IsTrail}
use Rattle.path_solver.specs.Labels.{top_of}
use Rattle.path_solver.proofs.Walks.{all_same}
use Rattle.path_solver.proofs.Resumed.{trail_behind}
use Rattle.path_solver.specs.Counts.{left_to_do}
use Rattle.path_solver.proofs.Phased.{residual_kept}
use Rattle.path_solver.proofs.SentAlong.{plain_path, sent}
use Rattle.path_solver.proofs.Shortest.{path_steps, shortest_sent, none_is_shorter}
use Rattle.path_solver.proofs.Pruned.{pruned_walk, pruned_less}
use Rattle.path_solver.proofs.Measured.{Fills, less_to_do}
use Rattle.path_solver.proofs.sending.send_once.Goals as goal

pub bottleneck_of-found-requires-clause-few : goal.bottleneck_of-found-requires-clause-few
bottleneck_of-found-requires-clause-few g c = omega (arith, c.in-Some.ensures.path.long, c.requires.trip.top, c.requires.trip.work.residual.few)

pub bottleneck_of-found-requires-clause-some : goal.bottleneck_of-found-requires-clause-some
bottleneck_of-found-requires-clause-some g c = omega (arith, c.between-most.ensures, c.in-Some.ensures.path.receives, c.if-surplus_of-eq0.false, c.surplus_of.ensures)

pub push_noting-filled-requires-clause-path : goal.push_noting-filled-requires-clause-path
push_noting-filled-requires-clause-path g c = plain_path c.bottleneck_of-found.result.amount c.in-Some.ensures.path c.bottleneck_of-found.ensures.all

pub returns-clause-over : goal.returns-clause-over
returns-clause-over g c =
    let x = c.bottleneck_of-found.result.amount in
    let flows = c.args.work.now.residual.flows in
    let path = take (top_of c.args.trip.now) c.walk.new.path in
    let walked = c.in-Some.ensures.path in
    let roomy = c.bottleneck_of-found.ensures.all in
    let members = ap (λ (r : ResidualData). r.members) c.push_noting-filled.ensures.pushed in
    let pushed = ap (λ (r : ResidualData). r.flows) c.push_noting-filled.ensures.pushed in
    let along : IsSentAlong c.args.trip.now.labels.now.prices.now c.args.work.now.residual c.push_noting-filled.new.residual c.args.work.now.balance.surplus.items c.args.work.now.balance.lack.items c.take_off.new.self.surplus.items c.take_off.new.self.lack.items =
    rw (c.take_off.ensures.surplus, c.take_off.ensures.lack)
    (sent c.args.work.now.residual c.push_noting-filled.new.residual c.args.work.now.balance.surplus.items x walked roomy
    (omega (arith, c.requires.trip.from, c.requires.trip.work.surplus))
    (omega (arith, walked.member, c.requires.trip.labels.levels, c.requires.trip.work.lack))
    (omega (arith, c.bottleneck_of-found.ensures.most, c.between-most.ensures))
    (omega (arith, c.bottleneck_of-found.ensures.most, c.between-most.ensures))
    members pushed) in
    record {
      work = record {
        residual = residual_kept c.args.work.now.residual c.push_noting-filled.new.residual along.members along.pairs c.requires.trip.work.residual;
        neighbours = c.push_noting-filled.ensures.neighbours;
        surplus = omega (arith, along.members, along.surplus_each, c.requires.trip.work.surplus);
        lack = omega (arith, along.members, along.lack_each, c.requires.trip.work.lack);
      };
      along = along;
      layers = c.walk.ensures.layers;
      pruned = pruned_less c.take_off.new.self.lack.items along.receivers
          (rw pushed
          (pruned_walk x c.args.trip.now.labels.now.prices.now c.args.work.now.balance.lack.items c.args.trip.now.labels.now.levels.now c.walk.new.layers (top_of c.args.trip.now + 1) flows path
          c.bottleneck_of-found.ensures.some
          c.walk.ensures.layers (path_can x flows path (plain_path x walked roomy).along) (path_steps walked c.requires.shortest.low)
          (λ k d l. (walked.arcs k d l, (walked.open_arcs k d l).1)) c.walk.ensures.pruned));
      fewer = c.walk.ensures.fewer;
      shortest = shortest_sent x c.args.work.now.residual c.push_noting-filled.new.residual walked roomy refl pushed along c.requires.shortest;
    }

pub returns-clause-few : goal.returns-clause-few
returns-clause-few g c =
    let x = c.bottleneck_of-found.result.amount in
    let flows = c.args.work.now.residual.flows in
    let p = c.args.trip.now.labels.now.prices.now in
    let levels = c.args.trip.now.labels.now.levels.now in
    let surplus = c.args.work.now.balance.surplus.items in
    let lack = c.args.work.now.balance.lack.items in
    let path = take (top_of c.args.trip.now) c.walk.new.path in
    let walked = c.in-Some.ensures.path in
    let plain = plain_path x walked c.bottleneck_of-found.ensures.all in
    let fills : Fills c.bottleneck_of-found.result.amount c.args.work.now.residual.flows (take (top_of c.args.trip.now) c.walk.new.path) (get_or c.args.work.now.balance.surplus.items c.args.trip.now.from 0) (get_or c.args.work.now.balance.lack.items c.in-Some.end 0) =
    elim (cases_eq c.bottleneck_of-found.result.amount (get_or c.args.work.now.balance.surplus.items c.args.trip.now.from 0)) [
      | inl e ↦ inr (inl e)
      | inr ne_s ↦
          elim (cases_eq c.bottleneck_of-found.result.amount (get_or c.args.work.now.balance.lack.items c.in-Some.end 0)) [
            | inl e ↦ inr (inr e)
            | inr ne_l ↦
                inl (c.bottleneck_of-found.ensures.reached (omega (arith, ne_s, ne_l, c.bottleneck_of-found.ensures.most, c.between-most.ensures)))
          ]
    ] in
    let less = less_to_do levels surplus lack c.args.trip.now.from c.in-Some.end plain (λ k d l. walked.steps k d l)
    c.bottleneck_of-found.ensures.some
    (omega (arith, c.requires.trip.from, c.requires.trip.work.surplus))
    (omega (arith, walked.member, c.requires.trip.labels.levels, c.requires.trip.work.lack))
    (omega (arith, c.bottleneck_of-found.ensures.most, c.between-most.ensures))
    (omega (arith, c.bottleneck_of-found.ensures.most, c.between-most.ensures)) fills in
    let now = ap (λ (r : ResidualData). left_to_do levels r.flows (set surplus c.args.trip.now.from (get_or surplus c.args.trip.now.from 0 - x)) (set lack c.in-Some.end (get_or lack c.in-Some.end 0 - x))) c.push_noting-filled.ensures.pushed in
    rw (c.take_off.ensures.surplus, c.take_off.ensures.lack) (omega (arith, less, now, c.push_noting-filled.ensures.counted))

pub returns-clause-shortest : goal.returns-clause-shortest
returns-clause-shortest g c _ =
    none_is_shorter c.requires.shortest

pub behind-requires : goal.behind-requires
behind-requires g c k d l =
    let x = c.bottleneck_of-found.result.amount in
    let path = take (top_of c.args.trip.now) c.walk.new.path in
    let walked = c.in-Some.ensures.path in
    let plain = plain_path x walked c.bottleneck_of-found.ensures.all in
    let same = all_same x c.args.work.now.residual.flows path (path_can x c.args.work.now.residual.flows path plain.along) in
    omega (arith, walked.arcs k d l, same.same_length, ap (λ (r : ResidualData). length r.flows) c.push_noting-filled.ensures.pushed)

pub returns-clause-begun : goal.returns-clause-begun
returns-clause-begun g c =
    let top = top_of c.args.trip.now in
    let path = c.walk.new.path in
    let new = c.push_noting-filled.new.residual in
    let n = c.behind.result.done in
    let walked = c.in-Some.ensures.path in
    let trail : IsTrail c.args.work.now.residual c.args.trip.now.labels.now.prices.now c.args.trip.now.labels.now.levels.now c.walk.new.layers c.walk.new.path 0 (top_of c.args.trip.now) c.in-Some.end c.args.trip.now.from = c.in-Some.ensures.trail in
    let long : length (take (top_of c.args.trip.now) c.walk.new.path) ≡ top_of c.args.trip.now = omega (arith, walked.long, trail.level) in
    let within : c.behind.result.done ≤ top_of c.args.trip.now = omega (arith, c.behind.ensures.done, c.push_noting-filled.ensures.within, long) in
    let plain = plain_path c.bottleneck_of-found.result.amount walked c.bottleneck_of-found.ensures.all in
    let same = all_same c.bottleneck_of-found.result.amount c.args.work.now.residual.flows (take top path) (path_can c.bottleneck_of-found.result.amount c.args.work.now.residual.flows (take top path) plain.along) in
    record {
      done = within;
      trail = trail_behind c.args.work.now.residual new c.args.trip.now.labels.now.prices.now c.args.trip.now.labels.now.levels.now c.walk.new.layers path top c.in-Some.end c.args.trip.now.from n c.behind.result.here c.requires.trip.work.residual
          (ap (λ (r : ResidualData). r.members) c.push_noting-filled.ensures.pushed)
          (subst (AreSamePairs c.args.work.now.residual.flows) (sym (ap (λ (r : ResidualData). r.flows) c.push_noting-filled.ensures.pushed)) same)
          trail within
          (λ k lt. omega (arith, c.push_noting-filled.ensures.open k (omega (arith, lt, c.behind.ensures.done)), ap (room new.flows) (get_or-take top path k 0 (omega (arith, lt, within)))))
          (λ lt. c.behind.ensures.here
          ∙ cond-true {A = ℕ} (ltb c.push_noting-filled.result (length (take top path))) (tail new.flows (get_or (take top path) c.push_noting-filled.result 0)) c.in-Some.end (lt-ltb c.push_noting-filled.result (length (take top path)) (omega (arith, lt, long, c.behind.ensures.done)))
          ∙ ap (tail new.flows) (get_or-take top path c.push_noting-filled.result 0 (omega (arith, lt, c.behind.ensures.done))) ∙ ap (λ j. tail new.flows (get_or path j 0)) (sym c.behind.ensures.done))
          (λ e. c.behind.ensures.here
          ∙ cond-false {A = ℕ} (ltb c.push_noting-filled.result (length (take top path))) (tail new.flows (get_or (take top path) c.push_noting-filled.result 0)) c.in-Some.end (le-ltb c.push_noting-filled.result (length (take top path)) (omega (arith, e, long, c.behind.ensures.done))));
    }
