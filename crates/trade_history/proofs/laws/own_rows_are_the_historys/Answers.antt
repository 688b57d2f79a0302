use Rattle.trade_history.proofs.Listed.{own_rows_are_the_historys}
use Rattle.trade_history.proofs.laws.own_rows_are_the_historys.Goals as goal

pub returns : goal.returns
returns c = own_rows_are_the_historys
