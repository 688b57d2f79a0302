use Rattle.std.proofs.Common.{arith, ap, ◌∙◌}
use Rattle.linked_rows.specs.Links.{joined}
use Rattle.linked_rows.proofs.LinkFacts.{before_read}
use Rattle.linked_rows.proofs.links.put_last.Goals as goal

pub join-requires-clause-first : goal.join-requires-clause-first
join-requires-clause-first c =
    omega (arith, before_read c.args.links.now.items c.args.end c.args.links.now.len c.index.result.now c.index.ensures (omega arith) c.args.links.now.ok.0, c.requires.last)

pub returns-clause-items : goal.returns-clause-items
returns-clause-items c =
    let last = before_read c.args.links.now.items c.args.end c.args.links.now.len c.index.result.now c.index.ensures (omega arith) c.args.links.now.ok.0 in
    c.join-2.ensures.items ∙ ap (λ xs. joined xs c.args.place c.args.end) c.join.ensures.items
    ∙ ap (λ a. joined (joined c.args.links.now.items a c.args.place) c.args.place c.args.end) last
