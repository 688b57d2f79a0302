use Rattle.std.proofs.Common.{◌≡◌, ◌++◌, take, All}
use Rattle.std.specs.List.{flat_map}
use Rattle.command_types.specs.Bases.{trade_spelling}
use Rattle.base_codec.specs.Writing.{IsTradeForm}
use Rattle.base_codec.proofs.put.put_each_trade.Given as goal

abbrev pub invariant-loop-row : goal.invariant-loop-row
invariant-loop-row l =
    (l.out.items ≡ l.fn.out.items ++ flat_map trade_spelling (take l.row-index l.rows)) × All IsTradeForm (take l.row-index l.rows)
