use Rattle.std.proofs.Common.{ℕ, List, length, ap, ◌∙◌, arith}
use Rattle.std.proofs.lemmas.List.{with_items_is}
use Rattle.path_solver.specs.Phases.{raised_price}
use Rattle.path_solver.proofs.Raised.{groups_raised}
use Rattle.path_solver.proofs.prices.Prices.raise.Goals as goal

pub returns-clause-sorted : goal.returns-clause-sorted
returns-clause-sorted c =
    let old = c.args.self.now in
    let groups = with_items_is c.args.self.now.groups c.move_up.new.groups (c.move_up.auto.groups ∙ c.deref_mut.ensures.len) in
    let prices = with_items_is c.args.self.now.by_member c.loop-member.prices (c.loop-member.auto.prices ∙ c.deref_mut-prices.ensures.len) in
    rw (groups, prices) (groups_raised old.by_member.items c.loop-member.prices c.args.levels.now old.groups.items c.move_up.new.groups c.args.reached.now old.top c.requires.sorted (c.loop-member.auto.prices ∙ ap length c.deref_mut-prices.ensures.value) (c.move_up.auto.groups ∙ ap length c.deref_mut.ensures.value) c.requires.reached c.requires.most c.requires.room
    (λ v l. c.loop-member.invariant.done v (omega (arith, l, ap length c.deref_mut-prices.ensures.value, c.loop-member-test.false)) ∙ ap (λ (p : List ℕ). raised_price c.args.levels.now p v) c.deref_mut-prices.ensures.value)
    (rw c.deref_mut.ensures.value at c.move_up.ensures.moved) (rw c.deref_mut.ensures.value at c.move_up.ensures.lowest) (rw c.deref_mut.ensures.value at c.move_up.ensures.others))
