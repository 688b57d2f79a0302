use Rattle.std.proofs.Common.{arith, ap, ◌∙◌}
use Rattle.linked_rows.specs.Links.{joined, before}
use Rattle.linked_rows.proofs.LinkFacts.{after_read, before_read}
use Rattle.linked_rows.proofs.links.take_out.Goals as goal

pub join-requires-clause-first : goal.join-requires-clause-first
join-requires-clause-first c =
    omega (arith, before_read c.args.links.now.items c.args.place c.args.links.now.len c.index-link.result.now c.index-link.ensures (omega arith) c.args.links.now.ok.0, c.requires.first)

pub join-requires-clause-next : goal.join-requires-clause-next
join-requires-clause-next c =
    omega (arith, after_read c.args.links.now.items c.args.place c.args.links.now.len c.index-link.result.now c.index-link.ensures (omega arith) c.args.links.now.ok.0, c.requires.next)

pub returns-clause-items : goal.returns-clause-items
returns-clause-items c =
    let first = before_read c.args.links.now.items c.args.place c.args.links.now.len c.index-link.result.now c.index-link.ensures (omega arith) c.args.links.now.ok.0 in
    let next = after_read c.args.links.now.items c.args.place c.args.links.now.len c.index-link.result.now c.index-link.ensures (omega arith) c.args.links.now.ok.0 in
    c.join.ensures.items ∙ ap (λ a. joined c.args.links.now.items a c.index-link.result.now.after) first ∙ ap (λ b. joined c.args.links.now.items (before c.args.links.now.items c.args.place) b) next
