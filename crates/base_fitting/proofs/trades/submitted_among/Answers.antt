use Rattle.std.proofs.Common.{is_some, take, arith}
use Rattle.std.proofs.lemmas.List.{length-take}
use Rattle.std.proofs.lemmas.List.Sums.{count_by-le-length, length-filter}
use Rattle.command_types.specs.declared.trade.TradeRow.{TradeRow}
use Rattle.base_fitting.proofs.trades.submitted_among.Goals as goal

pub overflow_add-count : goal.overflow_add-count
overflow_add-count c =
    let rows = take c.loop-row.row-index c.args.rows.now in
    omega (
      arith,
      c.loop-row.invariant,
      length-filter (λ (row : TradeRow). is_some row.submitter) rows,
      count_by-le-length (λ (row : TradeRow). is_some row.submitter) rows,
      length-take c.loop-row.row-index c.args.rows.now,
      c.loop-row-test.true,
      c.well_formed,
    )
