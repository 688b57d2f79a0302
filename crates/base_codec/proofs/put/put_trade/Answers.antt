use Rattle.std.proofs.Common.{◌++◌, ◌∙◌, List, ℕ, ap, append_assoc}
use Rattle.base_codec.specs.Writing.{terms_spelling, marks_spelling}
use Rattle.base_codec.proofs.put.put_trade.Goals as goal

pub returns-clause-appends : goal.returns-clause-appends
returns-clause-appends c =
    let row = c.args.row.now in
    let out = c.args.out.now.items in
    c.in_ok-put_marks.ensures ∙ ap (λ (l : List ℕ). l ++ marks_spelling row) c.in_ok-put_terms.ensures.appends ∙ append_assoc out (terms_spelling row) (marks_spelling row)
