use Rattle.std.proofs.Common.{sym, ap, Some, ◌∙◌, arith}
use Rattle.linked_rows.proofs.LinkFacts.{after_read}
use Rattle.linked_rows.proofs.Live.{live_high, live_next, next_some, next_none}
use Rattle.linked_rows.proofs.rows.Rows.next.Goals as goal

pub index-requires : goal.index-requires
index-requires g c =
    let live = rw (← c.self.view_is) at c.requires in
    omega (arith, live_high _ _ _ _ _ _ c.self.invariant c.args.node.place live, c.self.inside.links.ok.0)

pub returns-then-place-self-clause-node : goal.returns-then-place-self-clause-node
returns-then-place-self-clause-node g c =
    let live = rw (← c.self.view_is) at c.requires in
    let high = live_high _ _ _ _ _ _ c.self.invariant c.args.node.place live in
    let here = after_read c.self.inside.links.items c.args.node.place c.self.inside.links.len c.index.result.now c.index.ensures (omega (arith, high, c.self.inside.links.ok.0)) c.self.inside.links.ok.0 in
    rw (← c.self.view_is) (sym (next_none _ _ _ _ _ _ c.self.invariant c.args.node.place live (omega (arith, here))))

pub returns-else-place-self-clause-node : goal.returns-else-place-self-clause-node
returns-else-place-self-clause-node g c =
    let live = rw (← c.self.view_is) at c.requires in
    let high = live_high _ _ _ _ _ _ c.self.invariant c.args.node.place live in
    let here = after_read c.self.inside.links.items c.args.node.place c.self.inside.links.len c.index.result.now c.index.ensures (omega (arith, high, c.self.inside.links.ok.0)) c.self.inside.links.ok.0 in
    rw (← c.self.view_is) (ap Some here ∙ sym (next_some _ _ _ _ _ _ c.self.invariant c.args.node.place live (omega (arith, here))))

pub returns-else-place-self-clause-live : goal.returns-else-place-self-clause-live
returns-else-place-self-clause-live g c =
    let live = rw (← c.self.view_is) at c.requires in
    let high = live_high _ _ _ _ _ _ c.self.invariant c.args.node.place live in
    let here = after_read c.self.inside.links.items c.args.node.place c.self.inside.links.len c.index.result.now c.index.ensures (omega (arith, high, c.self.inside.links.ok.0)) c.self.inside.links.ok.0 in
    rw (← c.self.view_is, here) (live_next _ _ _ _ _ _ c.self.invariant c.args.node.place live (omega (arith, here)))
