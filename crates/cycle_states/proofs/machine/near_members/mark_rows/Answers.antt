use Rattle.std.proofs.Common.{◌≡◌, ◌+◌, ◌-◌, ◌<◌, None, length, drop, subst, arith}
use Rattle.std.proofs.lemmas.List.{drop_all}
use Rattle.network_laws.specs.declared.rows.LimitRow.{LimitRow}
use Rattle.cycle_states.specs.NearMembers.{AreMarks}
use Rattle.cycle_states.proofs.NearFacts.{marks_more, marks_of_none}
use Rattle.cycle_states.proofs.machine.near_members.mark_rows.Goals as goal

abbrev no_limit : LimitRow
no_limit = record { seller = 0; buyer = 0; lower = 0; upper = None }

pub loop-left-init : goal.loop-left-init
loop-left-init c = record {
  end = omega arith;
  marks = marks_of_none c.args.rows.now (length c.args.rows.now) c.args.member c.args.sold.now c.args.bought.now (drop_all (length c.args.rows.now) c.args.rows.now (omega arith)) c.requires.blank;
}

pub loop-left-preserved : goal.loop-left-preserved
loop-left-preserved c =
    let rows = c.args.rows.now in
    let k = c.loop-left.left - 1 in
    let within : k < length rows = omega (arith, c.loop-left-test.true, c.loop-left.invariant.end) in
    let good = c.requires.rows.good k no_limit within in
    let here : c.loop-left.left ≡ k + 1 = omega (arith, c.loop-left-test.true) in
    record {
      end = omega (arith, c.loop-left.invariant.end);
      marks = marks_more rows k no_limit c.args.member c.loop-left.sold c.loop-left.bought _ _ within (omega (arith, good.seller, c.requires.few)) (omega (arith, good.buyer, c.requires.few)) c.mark.ensures c.mark-in-loop-left.ensures
          (subst (λ n. AreMarks (drop n rows) c.args.member c.loop-left.sold c.loop-left.bought) here c.loop-left.invariant.marks);
    }

pub returns : goal.returns
returns c =
    let over : c.loop-left.left ≡ 0 = omega (arith, c.loop-left-test.false) in
    subst (λ n. AreMarks (drop n c.args.rows.now) c.args.member c.loop-left.sold c.loop-left.bought) over c.loop-left.invariant.marks
