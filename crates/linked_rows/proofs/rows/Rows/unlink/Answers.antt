use Rattle.std.proofs.Common.{◌≡◌, ◌+◌, ◌-◌, ap, ◌∙◌, arith}
use Rattle.std.specs.Prelude.{slice_get}
use Rattle.std.proofs.lemmas.Option.{slice_get_read}
use Rattle.linked_rows.proofs.Live.{live_low, live_high, live_before, live_after, live_value, last_free, value_is, pool_back, lists_back}
use Rattle.linked_rows.proofs.rows.Rows.unlink.Goals as goal

pub take_out-requires-clause-place : goal.take_out-requires-clause-place
take_out-requires-clause-place g c = live_high _ _ _ _ _ _ c.self.invariant c.args.node.place (rw (← c.self.view_is) at c.requires)

pub take_out-requires-clause-first : goal.take_out-requires-clause-first
take_out-requires-clause-first g c = live_before _ _ _ _ _ _ c.self.invariant c.args.node.place (rw (← c.self.view_is) at c.requires)

pub take_out-requires-clause-next : goal.take_out-requires-clause-next
take_out-requires-clause-next g c = live_after _ _ _ _ _ _ c.self.invariant c.args.node.place (rw (← c.self.view_is) at c.requires)

pub put_last-requires-clause-place : goal.put_last-requires-clause-place
put_last-requires-clause-place g c =
    omega (arith, live_high _ _ _ _ _ _ c.self.invariant c.args.node.place (rw (← c.self.view_is) at c.requires), c.take_out.ensures.len, c.self.inside.links.ok.0, c.take_out.new.links.ok.0)

pub put_last-requires-clause-last : goal.put_last-requires-clause-last
put_last-requires-clause-last g c =
    rw c.take_out.ensures.items (last_free _ _ _ _ _ _ c.self.invariant c.args.node.place (rw (← c.self.view_is) at c.requires))

pub overflow_sub-node : goal.overflow_sub-node
overflow_sub-node g c = omega (arith, live_low _ _ _ _ _ _ c.self.invariant c.args.node.place (rw (← c.self.view_is) at c.requires))

pub overflow_sub-node-2 : goal.overflow_sub-node-2
overflow_sub-node-2 g c = omega (arith, live_low _ _ _ _ _ _ c.self.invariant c.args.node.place (rw (← c.self.view_is) at c.requires))

pub index-requires : goal.index-requires
index-requires g c = omega (arith, live_value _ _ _ _ _ _ c.self.invariant c.args.node.place (rw (← c.self.view_is) at c.requires), c.self.inside.values.ok.0)

pub invariant_of-self : goal.invariant_of-self
invariant_of-self g c =
    let pool = pool_back _ _ _ _ _ _ c.self.invariant c.args.node.place (rw (← c.self.view_is) at c.requires) in
    rw (c.put_last.ensures.items, c.take_out.ensures.items, c.put_last.ensures.capacity, c.take_out.ensures.capacity, c.put_last.ensures.len, c.take_out.ensures.len) pool

pub returns-clause-value : goal.returns-clause-value
returns-clause-value g c =
    let live = rw (← c.self.view_is) at c.requires in
    let low = live_value _ _ _ _ _ _ c.self.invariant c.args.node.place live in
    let place : c.args.node.place - (c.self.inside.lists + 1) ≡ c.args.node.place - c.self.inside.lists - 1 = omega arith in
    rw (← c.self.view_is)
    (value_is _ _ _ _ _ _ c.self.invariant c.args.node.place live
    ∙ ap (λ i. slice_get c.self.inside.values.items i) place
    ∙ slice_get_read c.self.inside.values.items c.self.inside.values.len (c.args.node.place - c.self.inside.lists - 1) c.index.result.now c.self.inside.values.ok.0 (omega (arith, low, c.self.inside.values.ok.0)) c.index.ensures)

pub returns-clause-lists : goal.returns-clause-lists
returns-clause-lists g c =
    let is = lists_back _ _ _ _ _ _ c.self.invariant c.args.node.place (rw (← c.self.view_is) at c.requires) in
    rw (c.put_last.ensures.items, c.take_out.ensures.items, ← c.self.view_is) is
