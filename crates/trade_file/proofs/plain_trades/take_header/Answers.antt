use Rattle.std.proofs.Common.{◌∙◌, sym}
use Rattle.trade_file.proofs.PlainTradeFacts.{takes_header}
use Rattle.trade_file.proofs.plain_trades.take_header.Goals as goal

pub returns-then-is_header : goal.returns-then-is_header
returns-then-is_header c =
    takes_header c.args.text.now c.cut_line.result.0.now c.cut_line.result.1.now c.cut_line.ensures (sym c.is_header.ensures ∙ c.if-is_header.true)
