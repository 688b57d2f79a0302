use Rattle.std.proofs.Common.{◌++◌, take, decimal, ap, sym, arith, ◌∙◌}
use Rattle.std.proofs.lemmas.Fmt.{decimal_digit}
use Rattle.command_text.proofs.put.put_number.Goals as goal

pub returns-then-number-eq0-clause-text : goal.returns-then-number-eq0-clause-text
returns-then-number-eq0-clause-text c =
    let before = take c.args.at c.args.into.now in
    c.put.ensures.text ∙ ap (λ digits. before ++ digits) (sym (decimal_digit 0 (omega arith))) ∙ ap (λ n. before ++ decimal n) (sym c.if-number-eq0.true)
