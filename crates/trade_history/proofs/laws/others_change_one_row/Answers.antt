use Rattle.trade_history.proofs.Whole.{others_change_one_row}
use Rattle.trade_history.proofs.laws.others_change_one_row.Goals as goal

pub returns : goal.returns
returns c = others_change_one_row
