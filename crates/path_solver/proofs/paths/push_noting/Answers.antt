use Rattle.std.proofs.Common.{◌≡◌, ◌+◌, ◌<◌, ◌≤◌, List, length, get_or, refl, arith, sym, ap, ◌∙◌, subst, inl, inr}
use Rattle.std.proofs.lemmas.Bool.{cases_lt}
use Rattle.residual_graph.specs.declared.flow.Flow.{Flow}
use Rattle.residual_graph.specs.Residual.{ResidualData}
use Rattle.residual_graph.specs.Arcs.{pair, no_flow, flow_at, room}
use Rattle.residual_graph.specs.Paths.{pushed_all}
use Rattle.path_solver.specs.Neighbours.{AreNeighbours, IsChanged}
use Rattle.path_solver.proofs.NotedAlong.{pair_inside, noted_next, noted_end}
use Rattle.residual_graph.proofs.Walks.{path_can, walk_arcs}
use Rattle.path_solver.proofs.Walks.{all_same}
use Rattle.path_solver.proofs.Resumed.{left_open, left_next}
use Rattle.path_solver.proofs.paths.push_noting.Goals as goal
use Rattle.path_solver.proofs.paths.push_noting.Goals.{then-room-eq0, else-room-eq0}

pub bounds-flows-arc : goal.bounds-flows-arc
bounds-flows-arc g c =
    let at = (c.places.invariant.1.later c.in-Some.place c.in-Some.ensures.member).1 in
    omega (arith, pair_inside c.args.found.amount c.args.residual.now c.args.path.now c.in-Some.place c.requires.path at, ap length c.flows.ensures.value, ap (λ (r : ResidualData). length r.flows) c.push_path.ensures.pushed)

pub note-requires-clause-seller : goal.note-requires-clause-seller
note-requires-clause-seller g c =
    let at = (c.places.invariant.1.later c.in-Some.place c.in-Some.ensures.member).1 in
    let l : pair (get_or c.args.path.now c.in-Some.place 0) < length c.push_path.new.self.flows =
    omega (arith, pair_inside c.args.found.amount c.args.residual.now c.args.path.now c.in-Some.place c.requires.path at, ap (λ (r : ResidualData). length r.flows) c.push_path.ensures.pushed) in
    let good = c.flows.ensures.residual.good (pair (get_or c.args.path.now c.in-Some.place 0)) no_flow l in
    omega (arith, good.seller, ap (λ (fs : List Flow). (flow_at fs (pair (get_or c.args.path.now c.in-Some.place 0))).seller) c.flows.ensures.value, ap (λ (r : ResidualData). r.members) c.push_path.ensures.pushed, c.places.invariant.1.noted.entries.one_each)

pub note-requires-clause-buyer : goal.note-requires-clause-buyer
note-requires-clause-buyer g c =
    let at = (c.places.invariant.1.later c.in-Some.place c.in-Some.ensures.member).1 in
    let l : pair (get_or c.args.path.now c.in-Some.place 0) < length c.push_path.new.self.flows =
    omega (arith, pair_inside c.args.found.amount c.args.residual.now c.args.path.now c.in-Some.place c.requires.path at, ap (λ (r : ResidualData). length r.flows) c.push_path.ensures.pushed) in
    let good = c.flows.ensures.residual.good (pair (get_or c.args.path.now c.in-Some.place 0)) no_flow l in
    omega (arith, good.buyer, ap (λ (fs : List Flow). (flow_at fs (pair (get_or c.args.path.now c.in-Some.place 0))).buyer) c.flows.ensures.value, ap (λ (r : ResidualData). r.members) c.push_path.ensures.pushed, c.places.invariant.1.noted.entries.one_each)

pub room-room-requires : goal.room-room-requires
room-room-requires g c =
    let at = (c.places.invariant.1.later c.in-Some.place c.in-Some.ensures.member).1 in
    let here = walk_arcs c.args.residual.now.flows c.requires.path.along.from c.args.path.now c.requires.path.along.to c.requires.path.along.walk c.in-Some.place 0 at in
    let same = all_same c.args.found.amount c.args.residual.now.flows c.args.path.now (path_can c.args.found.amount c.args.residual.now.flows c.args.path.now c.requires.path.along) in
    omega (arith, here, same.same_length, ap (λ (r : ResidualData). length r.flows) c.push_path.ensures.pushed)

pub places-preserved : goal.places-preserved
places-preserved g c =
    let x = c.args.found.amount in
    let r = c.args.residual.now in
    let path = c.args.path.now in
    let l = c.in-Some.place in
    let m = c.places.invariant.0 in
    let noted = c.places.invariant.1 in
    let at = noted.later l c.in-Some.ensures.member in
    let pushed_is : c.push_path.new.self.flows ≡ pushed_all c.args.found.amount c.args.residual.now.flows c.args.path.now = ap (λ (s : ResidualData). s.flows) c.push_path.ensures.pushed in
    let is : c.flows.result.now ≡ pushed_all c.args.found.amount c.args.residual.now.flows c.args.path.now = c.flows.ensures.value ∙ pushed_is in
    let less : c.if-room-eq0.behind ≤ c.places.behind =
    elim c.if-room-eq0.branch [
      | then-room-eq0 w ↦ omega (arith, w.behind-is, w.min-behind.ensures)
      | else-room-eq0 w ↦ omega (arith, w.behind-is)
    ] in
    let here : c.in-Some.place < c.if-room-eq0.behind → 0 < room (pushed_all c.args.found.amount c.args.residual.now.flows c.args.path.now) (get_or c.args.path.now c.in-Some.place 0) =
    λ lt.
    elim c.if-room-eq0.branch [
      | then-room-eq0 w ↦ absurd (omega (arith, lt, w.behind-is, w.min-behind.ensures))
      | else-room-eq0 w ↦ omega (arith, w.if-room-eq0.false, c.room-room.ensures, ap (λ (fs : List Flow). room fs (get_or c.args.path.now c.in-Some.place 0)) pushed_is)
    ] in (
      l + 1,
      noted_next x r path c.places.left c.take_lowest.new.self c.places.neighbours c.note.new.self m l c.members-members.ensures.residual c.requires.path noted c.in-Some.ensures.member c.in-Some.ensures.least c.in-Some.ensures.others
          (subst (λ (fs : List Flow). IsChanged (flow_at fs (pair (get_or c.args.path.now c.in-Some.place 0))) c.places.neighbours c.note.new.self) is c.note.ensures),
      left_next x r.flows path c.places.behind c.if-room-eq0.behind m l c.requires.path at.1 (λ k low high. noted.steady k low (omega (arith, high, at.1)) (c.in-Some.ensures.least k high)) c.places.invariant.2 less here,
    )

pub returns-clause-neighbours : goal.returns-clause-neighbours
returns-clause-neighbours g c =
    subst (λ (r : ResidualData). AreNeighbours r c.places.neighbours) (sym c.push_path.ensures.pushed)
    (noted_end c.args.found.amount c.args.residual.now c.args.path.now c.places.left c.places.neighbours c.places.invariant.0 c.members-members.ensures.residual c.requires.path c.places.invariant.1 (c.in_default.ensures.none refl))

pub returns-clause-within : goal.returns-clause-within
returns-clause-within g c = c.places.invariant.2.within

pub returns-clause-open : goal.returns-clause-open
returns-clause-open g c k lt =
    let left = c.places.invariant.2 in
    subst (λ (r : ResidualData). 0 < room r.flows (get_or c.args.path.now k 0)) (sym c.push_path.ensures.pushed)
    (elim (cases_lt k c.places.invariant.0) [
      | inl low ↦ left.each k low lt
      | inr high ↦ left_open c.args.found.amount c.args.residual.now.flows c.args.path.now k c.requires.path (omega (arith, lt, left.within)) (c.places.invariant.1.steady k high (omega (arith, lt, left.within)) (c.in_default.ensures.none refl k))
    ])

pub places-init : goal.places-init
places-init g c = (
  0,
  record {
    within = omega arith;
    noted = c.requires.neighbours;
    later = λ k on. (omega arith, c.requires.turning.inside k on);
    steady = λ k low high off. c.requires.turning.others k high off;
  },
  record {
    within = omega arith;
    each = λ k lt low. absurd (omega (arith, lt));
  },
)
