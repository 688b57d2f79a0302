use Rattle.std.proofs.Common.{◌≡◌, ◌∙◌, ◌+◌, ◌-◌, ◌∷◌, length, take, drop, sym, ap, arith, length-drop}
use Rattle.std.proofs.lemmas.List.{take_all}
use Rattle.dual_certificate.specs.ProposalLine.{pieces}
use Rattle.dual_certificate.proofs.PieceFacts.{cut_at}
use Rattle.dual_certificate.proofs.pieces.cut.Goals as goal

pub returns-in-Some-clause-some : goal.returns-in-Some-clause-some
returns-in-Some-clause-some c =
    let text = c.args.text.now in
    let at = c.in-Some.at in
    let all : take (length text - (at + 1)) (drop (at + 1) text) ≡ drop (at + 1) text = take_all _ _ (omega (arith, length-drop (at + 1) text)) in
    cut_at c.args.byte text at (sym c.in-Some.ensures.place) ∙ ap (λ t. take at text ∷ pieces c.args.byte t) (sym all)
