use Rattle.std.proofs.Common.{◌+◌, List, ℕ, get_or, length, ap, sym, subst, arith}
use Rattle.network_laws.specs.declared.rows.LimitRow.{LimitRow}
use Rattle.split_parts.specs.Labels.{AreSound, AreLabels, LeadsOn}
use Rattle.split_parts.proofs.Labelled.{sound_first, labels_one, labels_all}
use Rattle.split_parts.proofs.Trees.{AreJoinedTo, joined_more, joined_flat, lead_own}
use Rattle.split_parts.proofs.labels.join_rows.Goals as goal
use Rattle.split_parts.proofs.labels.join_rows.Goals.{then-join+then-links-parents+else-is_one, then-join+else-links-parents, else-join}

pub loop-at-init : goal.loop-at-init
loop-at-init c =
    let parents = c.args.parents.now in
    record {
      joined = (parents, lead_own parents c.requires.own, sound_first c.args.limits.now parents c.requires.size c.requires.own, λ k d l. absurd (omega arith));
      links = omega arith;
    }

pub loop-at-preserved : goal.loop-at-preserved
loop-at-preserved c =
    let limits = c.args.limits.now in
    let n = c.loop-at.at in
    let rows = ap length c.rows-rows.ensures.value in
    let step = subst (λ (rs : List LimitRow). LeadsOn (get_or rs n _) c.loop-at.parents c.join.new.parents) c.rows-rows.ensures.value c.join.ensures in
    let more = joined_more limits n _ c.loop-at.parents c.join.new.parents c.rows-rows.ensures.limits (omega (arith, c.loop-at-test.true)) c.join.auto.parents c.loop-at.invariant.joined step in
    let P : List ℕ → Type 0 = AreJoinedTo limits (n + 1) in
    let links = c.loop-at.invariant.links in
    elim c.if-join.branch [
      | then-join+then-links-parents+else-is_one w ↦
          record {
            joined = subst P (sym w.parents-is) (joined_flat limits (n + 1) c.join.new.parents w.flatten.new.parents more w.flatten.ensures);
            links = omega (arith, w.links-is);
          }
      | then-join+else-links-parents w ↦ record { joined = subst P (sym w.parents-is) more; links = omega (arith, w.links-is) }
      | else-join w ↦ record { joined = subst P (sym w.parents-is) more; links = omega (arith, w.links-is) }
    ]

pub returns-then-is_one : goal.returns-then-is_one
returns-then-is_one c =
    let limits = c.args.limits.now in
    let n = c.loop-at.at in
    let rows = ap length c.rows-rows.ensures.value in
    let step = subst (λ (rs : List LimitRow). LeadsOn (get_or rs n _) c.loop-at.parents c.join.new.parents) c.rows-rows.ensures.value c.join.ensures in
    let more = joined_more limits n _ c.loop-at.parents c.join.new.parents c.rows-rows.ensures.limits (omega (arith, c.loop-at-test.true)) c.join.auto.parents c.loop-at.invariant.joined step in
    labels_one limits c.flatten.new.parents c.rows-rows.ensures.limits (subst (AreSound limits) (sym (c.flatten.ensures more.0 more.1)) more.2) (c.is_one.ensures c.if-is_one.true)

pub returns : goal.returns
returns c =
    let limits = c.args.limits.now in
    let rows = ap length c.rows-rows.ensures.value in
    let joined = c.loop-at.invariant.joined in
    subst (AreLabels limits) (sym (c.flatten-2.ensures joined.0 joined.1)) (labels_all limits joined.0 c.loop-at.at c.rows-rows.ensures.limits joined.2 joined.3 (omega (arith, c.loop-at-test.false)))
