use Rattle.std.proofs.Common.{◌<◌, sym, ap, Some, ◌∙◌, arith}
use Rattle.linked_rows.proofs.LinkFacts.{after_read}
use Rattle.linked_rows.proofs.Pools.{length_lists, list_first, list_empty, live_first}
use Rattle.linked_rows.proofs.Once.{stand_once}
use Rattle.linked_rows.proofs.rows.Rows.first.Goals as goal

pub index-requires : goal.index-requires
index-requires g c =
    let many = length_lists _ _ _ _ _ _ c.self.invariant in
    let small = rw (← c.self.view_is) at c.requires in
    omega (arith, many, small, c.self.invariant.size, c.self.inside.links.ok.0)

pub returns-then-place-list-clause-node : goal.returns-then-place-list-clause-node
returns-then-place-list-clause-node g c =
    let many = length_lists _ _ _ _ _ _ c.self.invariant in
    let small = rw (← c.self.view_is) at c.requires in
    let low : c.args.list < c.self.inside.lists = omega (arith, many, small) in
    let here = after_read c.self.inside.links.items c.args.list c.self.inside.links.len c.index.result.now c.index.ensures (omega (arith, low, c.self.invariant.size, c.self.inside.links.ok.0)) c.self.inside.links.ok.0 in
    rw (← c.self.view_is) (sym (list_empty _ _ _ _ _ _ c.self.invariant c.args.list low (omega (arith, here))))

pub returns-else-place-list-clause-node : goal.returns-else-place-list-clause-node
returns-else-place-list-clause-node g c =
    let many = length_lists _ _ _ _ _ _ c.self.invariant in
    let small = rw (← c.self.view_is) at c.requires in
    let low : c.args.list < c.self.inside.lists = omega (arith, many, small) in
    let here = after_read c.self.inside.links.items c.args.list c.self.inside.links.len c.index.result.now c.index.ensures (omega (arith, low, c.self.invariant.size, c.self.inside.links.ok.0)) c.self.inside.links.ok.0 in
    rw (← c.self.view_is) (ap Some here ∙ sym (list_first _ _ _ _ _ _ c.self.invariant c.args.list low (λ e. omega (arith, here, e))))

pub returns-then-place-list-clause-once : goal.returns-then-place-list-clause-once
returns-then-place-list-clause-once g c = rw (← c.self.view_is) (stand_once _ _ _ _ _ _ c.self.invariant)

pub returns-else-place-list-clause-once : goal.returns-else-place-list-clause-once
returns-else-place-list-clause-once g c = rw (← c.self.view_is) (stand_once _ _ _ _ _ _ c.self.invariant)

pub returns-else-place-list-clause-live : goal.returns-else-place-list-clause-live
returns-else-place-list-clause-live g c =
    let many = length_lists _ _ _ _ _ _ c.self.invariant in
    let small = rw (← c.self.view_is) at c.requires in
    let low : c.args.list < c.self.inside.lists = omega (arith, many, small) in
    let here = after_read c.self.inside.links.items c.args.list c.self.inside.links.len c.index.result.now c.index.ensures (omega (arith, low, c.self.invariant.size, c.self.inside.links.ok.0)) c.self.inside.links.ok.0 in
    rw (← c.self.view_is, here) (live_first _ _ _ _ _ _ c.self.invariant c.args.list low (λ e. omega (arith, here, e)))
