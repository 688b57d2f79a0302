use Rattle.std.proofs.Common.{◌<◌, length, ap, ◌∙◌, arith}
use Rattle.linked_rows.proofs.Pools.{length_lists}
use Rattle.linked_rows.proofs.Pushing.{can_take, taken_high, fresh, list_inside, last_low, pool_now, lists_now}
use Rattle.linked_rows.proofs.TakingFacts.{pool_by_length, pool_by_len}
use Rattle.linked_rows.proofs.rows.Rows.push_back.Goals as goal

pub take_free-place-requires : goal.take_free-place-requires
take_free-place-requires g c =
    let pool = pool_by_length _ _ _ _ _ _ _ _ c.self.invariant c.self.inside.links.ok.0 c.self.inside.values.ok.0 in
    can_take _ _ _ _ _ _ pool (rw (← c.self.view_is) at c.requires.room)

pub put_last-requires-clause-end : goal.put_last-requires-clause-end
put_last-requires-clause-end g c =
    let pool = pool_by_length _ _ _ _ _ _ _ _ c.self.invariant c.self.inside.links.ok.0 c.self.inside.values.ok.0 in
    let low : c.args.list < c.self.inside.lists = omega (arith, length_lists _ _ _ _ _ _ c.self.invariant, rw (← c.self.view_is) at c.requires.list) in
    rw c.take_free-place.ensures.links (list_inside _ _ _ _ _ _ pool (rw (← c.self.view_is) at c.requires.room) c.args.value c.args.list low)

pub put_last-requires-clause-place : goal.put_last-requires-clause-place
put_last-requires-clause-place g c =
    let pool = pool_by_length _ _ _ _ _ _ _ _ c.self.invariant c.self.inside.links.ok.0 c.self.inside.values.ok.0 in
    rw (c.take_free-place.ensures.links, c.take_free-place.ensures.place) (taken_high _ _ _ _ _ _ pool (rw (← c.self.view_is) at c.requires.room) c.args.value)

pub put_last-requires-clause-last : goal.put_last-requires-clause-last
put_last-requires-clause-last g c =
    let pool = pool_by_length _ _ _ _ _ _ _ _ c.self.invariant c.self.inside.links.ok.0 c.self.inside.values.ok.0 in
    let low : c.args.list < c.self.inside.lists = omega (arith, length_lists _ _ _ _ _ _ c.self.invariant, rw (← c.self.view_is) at c.requires.list) in
    rw c.take_free-place.ensures.links (last_low _ _ _ _ _ _ pool (rw (← c.self.view_is) at c.requires.room) c.args.value c.args.list low)

pub invariant_of-self : goal.invariant_of-self
invariant_of-self g c =
    let pool = pool_by_length _ _ _ _ _ _ _ _ c.self.invariant c.self.inside.links.ok.0 c.self.inside.values.ok.0 in
    let low : c.args.list < c.self.inside.lists = omega (arith, length_lists _ _ _ _ _ _ c.self.invariant, rw (← c.self.view_is) at c.requires.list) in
    let now = pool_now _ _ _ _ _ _ pool (rw (← c.self.view_is) at c.requires.room) c.args.value c.args.list low in
    let links = rw c.take_free-place.ensures.place at (rw c.take_free-place.ensures.links at c.put_last.ensures.items) in
    let long_links = c.put_last.new.links.ok.0 ∙ ap length links in
    let long_values = c.take_free-place.new.values.ok.0 ∙ ap length c.take_free-place.ensures.values in
    rw (links, c.take_free-place.ensures.values, c.put_last.ensures.capacity, c.take_free-place.ensures.links_capacity, c.take_free-place.ensures.values_capacity)
    (pool_by_len _ _ _ _ _ _ _ _ now long_links long_values)

pub returns-clause-lists : goal.returns-clause-lists
returns-clause-lists g c =
    let pool = pool_by_length _ _ _ _ _ _ _ _ c.self.invariant c.self.inside.links.ok.0 c.self.inside.values.ok.0 in
    let low : c.args.list < c.self.inside.lists = omega (arith, length_lists _ _ _ _ _ _ c.self.invariant, rw (← c.self.view_is) at c.requires.list) in
    let is = lists_now _ _ _ _ _ _ pool (rw (← c.self.view_is) at c.requires.room) c.args.value c.args.list low in
    let links = rw c.take_free-place.ensures.place at (rw c.take_free-place.ensures.links at c.put_last.ensures.items) in
    rw (links, c.take_free-place.ensures.values, c.take_free-place.ensures.place, ← c.self.view_is) is

pub returns-clause-fresh : goal.returns-clause-fresh
returns-clause-fresh g c =
    let pool = pool_by_length _ _ _ _ _ _ _ _ c.self.invariant c.self.inside.links.ok.0 c.self.inside.values.ok.0 in
    rw (c.take_free-place.ensures.place, ← c.self.view_is) (fresh _ _ _ _ _ _ pool (rw (← c.self.view_is) at c.requires.room) c.args.value)
