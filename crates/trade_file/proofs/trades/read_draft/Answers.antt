use Rattle.trade_file.proofs.trades.read_draft.Goals as goal

pub returns-in-Ok-Some-clause-trades : goal.returns-in-Ok-Some-clause-trades
returns-in-Ok-Some-clause-trades g c = rw c.in-Ok-Some.field-0-is at c.in-Ok-Some.ensures
