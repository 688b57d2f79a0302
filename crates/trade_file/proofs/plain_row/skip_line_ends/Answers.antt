use Rattle.std.proofs.Common.{◌≡◌, ◌∙◌, ◌+◌, sym, ap, true, length, drop, get_or, arith}
use Rattle.std.proofs.lemmas.List.{drop_all, drop_more, take_rest}
use Rattle.trade_file.specs.PlainRow.{is_line_end, first_record}
use Rattle.trade_file.proofs.PlainFacts.{line_end_first}
use Rattle.trade_file.proofs.plain_row.skip_line_ends.Goals as goal

pub loop-at-preserved : goal.loop-at-preserved
loop-at-preserved c =
    let text = c.args.text.now in
    let at = c.loop-at.at in
    let ended : is_line_end (get_or text at 0) ≡ true = sym c.ends_line.ensures ∙ c.if-not-ends_line.false in
    sym (line_end_first (get_or text at 0) (drop (at + 1) text) ended) ∙ ap first_record (sym (drop_more text at 0 (omega arith))) ∙ c.loop-at.invariant

pub returns-then-not-ends_line : goal.returns-then-not-ends_line
returns-then-not-ends_line c = ap first_record (take_rest c.args.text.now c.loop-at.at) ∙ c.loop-at.invariant

pub returns : goal.returns
returns c =
    let text = c.args.text.now in
    ap first_record (take_rest text (length text) ∙ drop_all (length text) text (omega arith) ∙ sym (drop_all c.loop-at.at text (omega arith))) ∙ c.loop-at.invariant
