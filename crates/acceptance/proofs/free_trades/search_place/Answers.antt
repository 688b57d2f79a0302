use Rattle.std.proofs.Common.{◌-◌, ltb, List, length, take, drop, get_or, rules, sym, ap, ◌∙◌}
use Rattle.std.proofs.Math.Seq.{take-length}
use Rattle.std.proofs.lemmas.Bool.{ltb-true}
use Rattle.std.proofs.lemmas.List.{length-drop}
use Rattle.std.proofs.lemmas.List.Sorted.{IsPartitionPoint-from_clause, IsPartitionedBy-ltb, IsNonDecreasingBy-take, IsNonDecreasingBy-drop}
use Rattle.command_types.specs.declared.trade.TradeRow.{TradeRow}
use Rattle.command_types.specs.Plans.{free_rows}
use Rattle.acceptance.specs.Planning.{trade_place}
use Rattle.acceptance.proofs.SortedTrades.{from_is_all}
use Rattle.acceptance.proofs.free_trades.search_place.Goals as goal

pub returns-clause-sorted : goal.returns-clause-sorted
returns-clause-sorted c =
    let rows : List TradeRow = c.args.rows.now in
    let n = c.partition_point-first.result in
    IsNonDecreasingBy-take trade_place (length rows - n) (drop n rows) (IsNonDecreasingBy-drop trade_place n rows c.requires)

pub returns-clause-free : goal.returns-clause-free
returns-clause-free c = λ product seller buyer low.
    let rows : List TradeRow = c.args.rows.now in
    let n = c.partition_point-first.result in
    let point =
    IsPartitionPoint-from_clause (λ row. ltb (trade_place row) c.args.place) rows n c.partition_point-first.ensures.partitioned (IsPartitionedBy-ltb trade_place rows c.args.place c.requires) (λ a r q k. search rules) in
    ap (λ xs. free_rows xs product seller buyer) (ap (λ k. take k (drop n rows)) (sym (length-drop n rows)) ∙ take-length (drop n rows))
    ∙ from_is_all product seller buyer c.args.place rows n low c.partition_point-first.ensures.bound (λ k d l m. ltb-true (trade_place (get_or rows k d)) c.args.place (point.0 k d l m))
