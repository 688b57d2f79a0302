use Rattle.std.proofs.Common.{◌≡◌, ◌+◌, ◌-◌, take, drop, ap, ◌∙◌, arith, length-drop}
use lib.Seq.{paste}
use Rattle.std.proofs.lemmas.List.Edits.{take-paste}
use Rattle.journal_core.proofs.walked.part.Goals as goal

pub returns : goal.returns
returns c =
    let all = c.args.bytes.items in
    let first = c.args.first in
    let n = c.args.last - first in
    let same : n ≡ 0 + n = omega arith in
    c.shrink_to_fit.ensures.items ∙ c.truncate.ensures.items ∙ ap (take n) c.copy_within.ensures.items ∙ ap (λ k. take k (paste all 0 (drop first all) n)) same
    ∙ take-paste all 0 (drop first all) n (omega arith) (omega (arith, c.requires.within, c.requires.order, length-drop first all))
