use Rattle.std.proofs.Common.{◌≡◌, true, false, not, eqb, length, get_or, refl, sym, ap, ◌∙◌, subst, inl, inr, arith, true≢false, ◌<◌}
use Rattle.std.proofs.lemmas.Bool.{cases_eq, and_parts, and_from, ne_eqb, false_from_ne_true}
use Rattle.member_set.specs.Members.{has}
use Rattle.path_solver.specs.Levels.{layer_at}
use Rattle.path_solver.specs.Labels.{IsSentOver, top_of}
use Rattle.path_solver.proofs.SentOver.{sent_over_more}
use Rattle.path_solver.proofs.Pruned.{nothing_more}
use Rattle.path_solver.proofs.Spreads.{amount_in}
use Rattle.path_solver.proofs.Blocked.{none_at_last}
use Rattle.path_solver.proofs.Trails.{begun_none}
use Rattle.path_solver.proofs.sending.send_phase.Goals as goal

pub senders-preserved : goal.senders-preserved
senders-preserved g c =
    let inv = c.senders.invariant in
    let at : get_or c.args.trip.now.labels.now.levels.now c.in-Some.member 0 ≡ top_of c.args.trip.now = (inv.left c.in-Some.member c.in-Some.ensures.member).1 in
    let over : IsSentOver c.args.trip.now.labels.now (top_of c.args.trip.now) c.senders.work c.send_all.new.work c.senders.layers c.send_all.new.layers =
    subst (λ n. IsSentOver c.args.trip.now.labels.now n c.senders.work c.send_all.new.work c.senders.layers c.send_all.new.layers) at c.send_all.ensures.over in
    record {
      over = sent_over_more inv.over over;
      left = λ v on. inv.left v (and_parts (not (eqb v c.in-Some.member)) (has c.senders.left v) (sym (c.in-Some.ensures.others v) ∙ on)).1;
      spent = λ v off on.
          elim (cases_eq v c.in-Some.member) [
            | inl e ↦
                ap (λ u. get_or c.send_all.new.work.balance.surplus.items u 0) e
                ∙ c.send_all.ensures.done (subst (λ n. has (layer_at c.send_all.new.layers n) c.in-Some.member ≡ true) (sym at) (subst (λ u. has (layer_at c.send_all.new.layers (top_of c.args.trip.now)) u ≡ true) e on))
            | inr ne ↦
                let off_left : has c.senders.left v ≡ false =
                false_from_ne_true (has c.senders.left v)
                (λ on_left. true≢false (sym (and_from (not (eqb v c.in-Some.member)) (has c.senders.left v) (ap not (ne_eqb v c.in-Some.member ne)) on_left) ∙ sym (c.in-Some.ensures.others v) ∙ off)) in
                let none = inv.spent v off_left (over.fewer (top_of c.args.trip.now) v on) in
                nothing_more (get_or c.senders.work.balance.surplus.items v 0) (get_or c.send_all.new.work.balance.surplus.items v 0) (over.along.senders v) none
          ];
      few = omega (arith, inv.few, c.send_all.ensures.few);
      sent = omega (arith, over.along.less, inv.sent);
    }

pub send_all-requires-clause-shortest : goal.send_all-requires-clause-shortest
send_all-requires-clause-shortest g c = rw (c.senders.invariant.left c.in-Some.member c.in-Some.ensures.member).1 c.senders.invariant.over.shortest

pub returns-clause-deeper : goal.returns-clause-deeper
returns-clause-deeper g c =
    let inv = c.senders.invariant in
    let len : length c.senders.work.balance.lack.items ≡ length c.args.trip.now.labels.now.levels.now = omega (arith, inv.over.along.lack_each, c.requires.trip.work.lack, c.requires.trip.labels.levels) in
    none_at_last c.senders.work.residual c.args.trip.now.labels.now.prices.now c.senders.work.balance.surplus.items c.senders.work.balance.lack.items c.args.trip.now.labels.now.levels.now c.senders.layers (top_of c.args.trip.now) inv.over.shortest inv.over.pruned
    (λ v receives. nothing_more (get_or c.args.work.now.balance.surplus.items v 0) (get_or c.senders.work.balance.surplus.items v 0) (inv.over.along.senders v) (c.requires.apart v (inv.over.along.receivers v receives)))
    (λ w receives. amount_in c.senders.work.balance.lack.items w receives (length c.args.trip.now.labels.now.levels.now) len)
    (λ v on. inv.spent v (c.in_default.ensures.none refl v) on)

pub send_all-requires-clause-trip : goal.send_all-requires-clause-trip
send_all-requires-clause-trip g c =
    let inv = c.senders.invariant in
    let member = inv.left c.in-Some.member c.in-Some.ensures.member in
    let at : get_or c.args.trip.now.labels.now.levels.now c.in-Some.member 0 ≡ top_of c.args.trip.now = member.1 in
    let from : c.in-Some.member < c.senders.work.residual.members = omega (arith, member.0, c.requires.trip.labels.levels, inv.over.along.members) in
    record {
      work = inv.over.work;
      labels = rw inv.over.along.members c.requires.trip.labels;
      layers = rw at inv.over.layers;
      top = omega (arith, at, c.requires.trip.top, inv.over.along.members);
      room = omega (arith, c.requires.trip.room, inv.over.along.members, c.senders.auto.layers);
      path = omega (arith, c.requires.trip.path, inv.over.along.members, c.senders.auto.path);
      from = from;
      pruned = rw at inv.over.pruned;
      begun = begun_none c.senders.work.residual c.args.trip.now.labels.now.prices.now c.args.trip.now.labels.now.levels.now c.senders.layers c.senders.path c.in-Some.member from c.at.result c.at.ensures.done c.at.ensures.here;
    }
