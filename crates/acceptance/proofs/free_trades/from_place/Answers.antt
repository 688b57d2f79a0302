use Rattle.std.proofs.Common.{◌-◌, List, length, take, drop, sym, ap, ◌∙◌}
use Rattle.std.proofs.Math.Seq.{take-length}
use Rattle.std.proofs.lemmas.List.{length-drop}
use Rattle.std.proofs.lemmas.List.Sorted.{IsNonDecreasingBy-take, IsNonDecreasingBy-drop}
use Rattle.command_types.specs.declared.trade.TradeRow.{TradeRow}
use Rattle.command_types.specs.Plans.{free_rows}
use Rattle.acceptance.specs.Planning.{trade_place}
use Rattle.acceptance.proofs.SortedTrades.{from_is_all}
use Rattle.acceptance.proofs.free_trades.from_place.Goals as goal

pub returns-clause-sorted : goal.returns-clause-sorted
returns-clause-sorted c =
    let rows : List TradeRow = c.args.rows.now in
    let n = c.passed.result in
    IsNonDecreasingBy-take trade_place (length rows - n) (drop n rows) (IsNonDecreasingBy-drop trade_place n rows c.requires)

pub returns-clause-free : goal.returns-clause-free
returns-clause-free c = λ product seller buyer low.
    let rows : List TradeRow = c.args.rows.now in
    let n = c.passed.result in
    ap (λ xs. free_rows xs product seller buyer) (ap (λ k. take k (drop n rows)) (sym (length-drop n rows)) ∙ take-length (drop n rows))
    ∙ from_is_all product seller buyer c.args.place rows n low c.passed.ensures.end c.passed.ensures.before
