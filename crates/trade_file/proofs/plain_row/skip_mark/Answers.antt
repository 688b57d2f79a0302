use Rattle.std.proofs.Common.{◌∙◌, sym, arith}
use Rattle.std.proofs.lemmas.List.{take_rest}
use Rattle.csv.proofs.ReadFacts.{strip-short}
use Rattle.trade_file.proofs.PlainReadFacts.{marked, unmarked}
use Rattle.trade_file.proofs.plain_row.skip_mark.Goals as goal

pub returns-then-text-lt3 : goal.returns-then-text-lt3
returns-then-text-lt3 c = sym (strip-short c.args.text.now (omega arith))

pub returns-then-is_mark : goal.returns-then-is_mark
returns-then-is_mark c = take_rest c.args.text.now 3 ∙ sym (marked c.args.text.now (omega arith) (sym c.is_mark.ensures ∙ c.if-is_mark.true))

pub returns : goal.returns
returns c = sym (unmarked c.args.text.now (omega arith) (sym c.is_mark.ensures ∙ c.if-is_mark.false))
