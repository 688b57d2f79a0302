use Rattle.std.proofs.Common.{◌≡◌, ◌+◌, ◌-◌, ap, set, ◌∙◌, arith}
use Rattle.linked_rows.specs.Pool.{lists_in}
use Rattle.linked_rows.proofs.Live.{live_low, live_value, lists_written}
use Rattle.linked_rows.proofs.rows.Rows.set.Goals as goal

pub overflow_sub-node : goal.overflow_sub-node
overflow_sub-node g c = omega (arith, live_low _ _ _ _ _ _ c.self.invariant c.args.node.place (rw (← c.self.view_is) at c.requires))

pub overflow_sub-node-2 : goal.overflow_sub-node-2
overflow_sub-node-2 g c = omega (arith, live_low _ _ _ _ _ _ c.self.invariant c.args.node.place (rw (← c.self.view_is) at c.requires))

pub index_mut-requires : goal.index_mut-requires
index_mut-requires g c = omega (arith, live_value _ _ _ _ _ _ c.self.invariant c.args.node.place (rw (← c.self.view_is) at c.requires), c.self.inside.values.ok.0)

pub returns : goal.returns
returns g c =
    let place : c.args.node.place - c.self.inside.lists - 1 ≡ c.args.node.place - (c.self.inside.lists + 1) = omega arith in
    let is = lists_written _ _ _ _ _ _ c.self.invariant c.args.node.place (rw (← c.self.view_is) at c.requires) c.args.value in
    rw (← c.self.view_is)
    (ap (λ ls. record { lists = ls; spare = c.self.inside.spare })
    (ap (λ i. lists_in c.self.inside.links.items (set c.self.inside.values.items i c.args.value) c.self.inside.lists) place ∙ is))
