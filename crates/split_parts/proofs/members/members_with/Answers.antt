use Rattle.std.proofs.Common.{◌∙◌}
use Rattle.split_parts.proofs.Classes.{class_yes, class_next}
use Rattle.split_parts.proofs.members.members_with.Goals as goal

pub loop-member-preserved : goal.loop-member-preserved
loop-member-preserved c =
    let i = c.loop-member.invariant in
    let labels = c.args.labels.now in
    let n = c.loop-member.member in
    let here = c.loop-member-test.true in
    let f = c.requires.next.each n here in
    record {
      within = f.within;
      here = λ l. f.here l ∙ i.here here;
      class = class_next labels c.args.next.now c.push-in-loop-member.new.self.items c.args.label n c.requires.next here (i.here here)
          (class_yes labels c.args.label n c.loop-member.members.items c.push-in-loop-member.new.self.items i.class (i.here here) c.in_ok-push-2.ensures.items);
    }
