-- A base that can be written has a spelling.
use Rattle.std.proofs.Common.{ℕ, suc, List, [], ◌∷◌, All}
use Rattle.std.proofs.lemmas.List.Elements.{All-head, All-tail}
use Rattle.command_types.specs.declared.trade.TradeRow.{TradeRow}
use Rattle.command_types.specs.Bases.{AreNumbered, AreTradeRows}
use Rattle.base_codec.specs.Writing.{IsTradeForm}

pub trade_rows : (number : ℕ) (rows : List TradeRow) → AreNumbered number rows → All IsTradeForm rows → AreTradeRows number rows
trade_rows number [] numbered forms = tt
trade_rows number (row ∷ rows) numbered forms =
    let form = All-head IsTradeForm row rows forms in (
      record { numbered = numbered.0; seller = form.seller; buyer = form.buyer; product = form.product; amount = form.amount; day = form.day; free = numbered.1 },
      trade_rows (suc number) rows numbered.2 (All-tail IsTradeForm row rows forms),
    )
