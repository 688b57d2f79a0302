use Rattle.std.proofs.Common.{◌≡◌, ◌+◌, ◌<◌, ◌≤◌, length, get_or, sym, ◌∙◌, arith, ap}
use Rattle.path_solver.specs.Levels.{IsSource, AreLevels, AreWholeLayers}
use Rattle.path_solver.specs.Rests.{IsSentAlong}
use Rattle.path_solver.proofs.Spreads.{amount_in}
use Rattle.path_solver.proofs.Phased.{feasible_kept, none_left, settled, phase_later, phase_sent}
use Rattle.path_solver.proofs.Counted.{counted_none, counted_round, counted_phase, counted_all}
use Rattle.path_solver.proofs.Pruned.{pruned_whole}
use Rattle.path_solver.proofs.Trails.{begun_none}
use Rattle.path_solver.proofs.WentBack.{searched_start}
use Rattle.path_solver.proofs.phases.settle_phases.Goals as goal

pub send_phase-requires-clause-trip : goal.send_phase-requires-clause-trip
send_phase-requires-clause-trip g c =
    let inv = c.phases.invariant in
    let levels : length c.layer.new.levels ≡ c.phases.work.residual.members = c.layer.auto.levels ∙ inv.searched.spread.one_each in
    let found : IsSource c.phases.work.balance.surplus.items c.layer.new.levels c.in-Some.source × AreLevels c.phases.work.residual.flows c.deref-in-phases.result.now c.phases.work.balance.lack.items c.layer.new.levels = rw c.in-Some.is at c.layer.ensures.layered in
    let from : c.in-Some.source < c.phases.work.residual.members = omega (arith, found.0.member, levels) in
    let whole : AreWholeLayers c.layer.new.levels c.layer.new.layers (get_or c.layer.new.levels c.in-Some.source 0 + 1) = rw c.in-Some.is at c.layer.ensures.whole in
    record {
      work = inv.work;
      labels = record {
        sorted = rw (c.deref-in-Some.ensures.value, c.deref-in-Some-2.ensures.value) inv.sorted;
        levels = sym levels;
      };
      layers = rw c.in-Some.is at c.layer.ensures.layers;
      top = rw c.in-Some.is at c.layer.ensures.low;
      room = omega (arith, inv.phase.members, c.requires.room.layers, ap length c.deref_mut-layers.ensures.value, c.phases.auto.layers, c.layer.auto.layers);
      path = omega (arith, inv.phase.members, c.requires.room.path, ap length c.deref_mut-path.ensures.value, c.phases.auto.path);
      from = from;
      pruned = pruned_whole c.phases.work.residual c.deref-in-Some-2.result.now c.phases.work.balance.lack.items c.layer.new.levels c.layer.new.layers (get_or c.layer.new.levels c.in-Some.source 0 + 1) inv.work.residual (sym levels) whole;
      begun = begun_none c.phases.work.residual c.deref-in-Some-2.result.now c.layer.new.levels c.layer.new.layers c.phases.path c.in-Some.source from c.at.result c.at.ensures.done c.at.ensures.here;
    }

pub senders_among-senders-requires-clause-small : goal.senders_among-senders-requires-clause-small
senders_among-senders-requires-clause-small g c v on =
    amount_in c.phases.work.balance.surplus.items v ((c.phases.invariant.senders v).0 on) (length c.send_phase.new.work.balance.surplus.items) (sym c.send_phase.ensures.along.surplus_each)

pub senders_among-senders-requires-clause-all : goal.senders_among-senders-requires-clause-all
senders_among-senders-requires-clause-all g c v some = (c.phases.invariant.senders v).1 (c.send_phase.ensures.along.senders v some)

pub receivers_among-receivers-requires-clause-small : goal.receivers_among-receivers-requires-clause-small
receivers_among-receivers-requires-clause-small g c v on =
    amount_in c.phases.work.balance.lack.items v ((c.phases.invariant.receivers v).0 on) (length c.send_phase.new.work.balance.lack.items) (sym c.send_phase.ensures.along.lack_each)

pub receivers_among-receivers-requires-clause-all : goal.receivers_among-receivers-requires-clause-all
receivers_among-receivers-requires-clause-all g c v some = (c.phases.invariant.receivers v).1 (c.send_phase.ensures.along.receivers v some)

pub next_phase-requires-clause-feasible : goal.next_phase-requires-clause-feasible
next_phase-requires-clause-feasible g c = feasible_kept c.args.work.now.residual.flows c.phases.work.residual.flows c.args.work.now.balance.surplus.items c.args.work.now.balance.lack.items c.phases.work.balance.surplus.items c.phases.work.balance.lack.items c.phases.invariant.phase.pairs c.phases.invariant.phase.owed c.requires.feasible

pub phases-init : goal.phases-init
phases-init g c = record {
  phase = c.requires.phase;
  counted = counted_none;
  work = c.requires.work;
  sorted = c.requires.sorted;
  senders = c.senders-senders.ensures;
  receivers = c.receivers-receivers.ensures;
  searched = searched_start c.args.work.now c.args.prices.now.by_member.items c.start-search.new.levels c.deref_mut-layers.result.now c.start-search.result c.receivers-receivers.result c.requires.work (c.start-search.auto.levels ∙ ap length c.deref_mut-levels.ensures.value ∙ sym c.requires.room.levels) c.receivers-receivers.ensures c.start-search.ensures.level c.start-search.ensures.now c.start-search.ensures.seen
      (λ v l. c.start-search.ensures.forgotten v (omega (arith, l, c.start-search.auto.levels)));
}

pub phases-preserved : goal.phases-preserved
phases-preserved g c =
    let inv = c.phases.invariant in
    let new = c.send_phase.new.work in
    let levels : length c.layer.new.levels ≡ c.phases.work.residual.members = c.layer.auto.levels ∙ inv.searched.spread.one_each in
    let found : IsSource c.phases.work.balance.surplus.items c.layer.new.levels c.in-Some.source × AreLevels c.phases.work.residual.flows c.deref-in-phases.result.now c.phases.work.balance.lack.items c.layer.new.levels = rw c.in-Some.is at c.layer.ensures.layered in
    let low : get_or c.layer.new.levels c.in-Some.source 0 ≤ c.phases.work.residual.members = rw c.in-Some.is at c.layer.ensures.low in
    let sent : IsSentAlong c.phases.prices.by_member.items c.phases.work.residual c.send_phase.new.work.residual c.phases.work.balance.surplus.items c.phases.work.balance.lack.items c.send_phase.new.work.balance.surplus.items c.send_phase.new.work.balance.lack.items = rw c.deref-in-Some-2.ensures.value at c.send_phase.ensures.along in
    let phase = phase_sent inv.phase sent in
    record {
      phase = phase;
      counted = counted_round c.in-Some.source inv.counted inv.work.residual inv.phase.members inv.phase.pairs.same_length (sym levels) (sym inv.work.surplus ∙ inv.phase.members) (sym inv.work.lack ∙ inv.phase.members)
          (rw c.deref-in-phases.ensures.value at found.1) (omega (arith, found.0.member, levels)) found.0.sends low c.send_phase.ensures.few (rw c.deref-in-Some-2.ensures.value at c.send_phase.ensures.deeper);
      work = c.send_phase.ensures.work;
      sorted = rw sent.members inv.sorted;
      senders = c.senders_among-senders.ensures;
      receivers = c.receivers_among-receivers.ensures;
      searched = searched_start new c.phases.prices.by_member.items c.start-search-in-Some.new.levels c.send_phase.new.layers c.start-search-in-Some.result c.receivers_among-receivers.result c.send_phase.ensures.work (omega (arith, c.start-search-in-Some.auto.levels, levels, sent.members)) c.receivers_among-receivers.ensures
          c.start-search-in-Some.ensures.level c.start-search-in-Some.ensures.now c.start-search-in-Some.ensures.seen (λ v l. c.start-search-in-Some.ensures.forgotten v (omega (arith, l, c.start-search-in-Some.auto.levels)));
    }

pub phases-preserved-in-None : goal.phases-preserved-in-None
phases-preserved-in-None g c =
    let inv = c.phases.invariant in
    record {
      phase = phase_later inv.phase c.next_phase.ensures.phase;
      counted = counted_phase inv.counted (omega (arith, c.next_phase.ensures.later));
      work = inv.work;
      sorted = c.next_phase.ensures.sorted;
      senders = inv.senders;
      receivers = inv.receivers;
      searched = c.next_phase.ensures.searched;
    }

pub returns-clause-settled : goal.returns-clause-settled
returns-clause-settled g c =
    settled c.requires.work.residual c.requires.feasible (sym c.phases.invariant.sorted.one_each ∙ c.phases.invariant.phase.members) (none_left c.phases.work.balance.surplus.items c.phases.senders c.phases.invariant.senders (c.is_empty.ensures.none.0 c.phases-test.false)) c.phases.invariant.phase

pub returns-clause-counted : goal.returns-clause-counted
returns-clause-counted g c = counted_all c.phases.invariant.counted c.phases.invariant.phase.few
