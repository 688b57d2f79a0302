use Rattle.std.proofs.Common.{◌≡◌, ◌+◌, ◌-◌, ap, ◌∙◌, arith}
use Rattle.std.specs.Prelude.{slice_get}
use Rattle.std.proofs.lemmas.Option.{slice_get_read}
use Rattle.linked_rows.proofs.Live.{live_low, live_value, value_is}
use Rattle.linked_rows.proofs.rows.Rows.get.Goals as goal

pub overflow_sub-node : goal.overflow_sub-node
overflow_sub-node g c = omega (arith, live_low _ _ _ _ _ _ c.self.invariant c.args.node.place (rw (← c.self.view_is) at c.requires))

pub overflow_sub-node-2 : goal.overflow_sub-node-2
overflow_sub-node-2 g c = omega (arith, live_low _ _ _ _ _ _ c.self.invariant c.args.node.place (rw (← c.self.view_is) at c.requires))

pub index-requires : goal.index-requires
index-requires g c = omega (arith, live_value _ _ _ _ _ _ c.self.invariant c.args.node.place (rw (← c.self.view_is) at c.requires), c.self.inside.values.ok.0)

pub returns : goal.returns
returns g c =
    let live = rw (← c.self.view_is) at c.requires in
    let low = live_value _ _ _ _ _ _ c.self.invariant c.args.node.place live in
    let place : c.args.node.place - (c.self.inside.lists + 1) ≡ c.args.node.place - c.self.inside.lists - 1 = omega arith in
    rw (← c.self.view_is)
    (value_is _ _ _ _ _ _ c.self.invariant c.args.node.place live
    ∙ ap (λ i. slice_get c.self.inside.values.items i) place
    ∙ slice_get_read c.self.inside.values.items c.self.inside.values.len (c.args.node.place - c.self.inside.lists - 1) c.index.result.now c.self.inside.values.ok.0 (omega (arith, low, c.self.inside.values.ok.0)) c.index.ensures)
