use Rattle.std.proofs.Common.{◌+◌, ◌*◌, ltb, rules}
use Rattle.std.proofs.lemmas.List.Sorted.{IsPartitionPoint-from_clause, IsPartitionedBy-ltb}
use Rattle.network_laws.specs.Networks.{place}
use Rattle.network_laws.proofs.RowOrder.{not_falling, cursor_from_point}
use Rattle.network_laws.proofs.walk.first_row.Goals as goal

pub returns-clause-cursor : goal.returns-clause-cursor
returns-clause-cursor c =
    let rows = c.args.rows.now in
    let w = c.args.seller * 65536 + c.args.buyer in
    let point = IsPartitionPoint-from_clause (λ p. ltb (place p) w) rows c.partition_point.result c.partition_point.ensures.partitioned (IsPartitionedBy-ltb place rows w (not_falling rows c.requires.rising)) (λ a r q k. search rules) in
    cursor_from_point rows c.partition_point.result w (search rules) point
