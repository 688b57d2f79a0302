use Rattle.std.proofs.Common.{arith}
use Rattle.linked_rows.proofs.LinkFacts.{joined_by_writes}
use Rattle.linked_rows.proofs.links.join.Goals as goal

pub returns-clause-items : goal.returns-clause-items
returns-clause-items c =
    joined_by_writes c.args.links.now.items c.args.first c.args.next c.args.links.now.len c.index_mut.result.now c.index_mut-2.result.now (omega arith) (omega arith) c.args.links.now.ok.0 c.index_mut.ensures.value c.index_mut-2.ensures.value
