use Rattle.std.proofs.Common.{length, ap}
use Rattle.linked_rows.proofs.Alone.{pool_alone, lists_alone}
use Rattle.linked_rows.proofs.rows.Rows.new.Goals as goal

pub invariant_of-result : goal.invariant_of-result
invariant_of-result g c = rw c.in_ok-links.ensures (pool_alone c.args.lists c.new.result.items _ _ (ap length c.new.ensures.items))

pub returns-clause-lists : goal.returns-clause-lists
returns-clause-lists g c = rw c.in_ok-links.ensures (lists_alone c.args.lists c.new.result.items)
