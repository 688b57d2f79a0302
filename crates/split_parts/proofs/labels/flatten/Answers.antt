use Rattle.std.proofs.Common.{◌≡◌, ◌<◌, length, arith}
use Rattle.split_parts.proofs.Trees.{flat_is, flat_step, flat_low}
use Rattle.split_parts.proofs.labels.flatten.Goals as goal

pub bounds-parents-parents : goal.bounds-parents-parents
bounds-parents-parents c =
    let size = c.loop-member.auto.parents in
    let here : c.loop-member.member < length c.loop-member.parents = omega (arith, c.loop-member-test.true) in
    let low = c.loop-member.invariant.low c.loop-member.member here in
    omega arith

pub loop-member-preserved : goal.loop-member-preserved
loop-member-preserved c =
    let i = c.loop-member.invariant in
    let size = c.loop-member.auto.parents in
    let here : c.loop-member.member < length c.loop-member.parents = omega (arith, c.loop-member-test.true) in
    record {
      low = flat_low c.loop-member.parents c.loop-member.member i.low here;
      leads = λ labels h. let now = i.leads labels h in flat_step c.loop-member.parents labels c.loop-member.member now.0 here now.1;
    }

pub returns : goal.returns
returns c =
    λ labels h.
    let now = c.loop-member.invariant.leads labels h in
    let end : length c.loop-member.parents ≡ c.loop-member.member = let e = c.loop-member.auto.member-end in let s = c.loop-member.auto.parents in omega (arith, c.loop-member-test.false) in
    flat_is c.loop-member.parents labels now.0 (λ k lk. now.1 k (omega arith))
