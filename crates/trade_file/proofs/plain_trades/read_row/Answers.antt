use Rattle.std.proofs.Common.{arith}
use Rattle.trade_file.proofs.PlainTradeFacts.{reads_trade}
use Rattle.trade_file.proofs.plain_trades.read_row.Goals as goal

pub returns-clause-trade : goal.returns-clause-trade
returns-clause-trade c =
    reads_trade c.args.roster.now c.args.text.now c.in_ok-seller.end c.in_ok-buyer.end c.in_ok-product.end _ c.in_ok-seller.seller c.in_ok-buyer.buyer c.in_ok-product.product _
    c.in_ok-seller.ensures.named c.in_ok-buyer.ensures.named c.in_ok-product.ensures.named c.in-Some.ensures c.if-seller-buyer.false
    (omega (arith, c.get.ensures.value, c.if-get-gt-MOST_TRADE_AMOUNT.false))
