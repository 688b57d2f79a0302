use Rattle.std.proofs.Common.{◌≡◌, ◌∙◌, ◌<◌, ◌+◌, ◌++◌, List, ℕ, ℤ, pos, [], ◌∷◌, length, take, get_or, sym, ap, arith, rules, w32, SFits}
use Rattle.std.proofs.lemmas.Int.{to_z-of_z}
use Rattle.std.proofs.lemmas.List.{take_more, length-take-le}
use Rattle.dual_certificate.specs.ProposalText.{pots_text, pot_text}
use Rattle.dual_certificate.proofs.TextFacts.{behind, pots_push}
use Rattle.dual_certificate.proofs.proposal_writer.put_pots.Goals as goal

pub loop-member-preserved : goal.loop-member-preserved
loop-member-preserved c =
    let roster = c.args.roster.now in
    let values : List ℤ = c.args.values.now in
    let n : ℕ = c.loop-member.member in
    let value : ℤ = get_or values n (pos 0) in
    let l : n < length values = omega arith in
    let size : length (take n values) ≡ n = length-take-le n values (omega arith) in
    let front : take (n + 1) values ≡ take n values ++ (value ∷ []) = take_more values n (pos 0) l in
    let fits : SFits w32 value = search rules in
    behind c.args.out.now.items c.loop-member.out.items c.put_pot.new.out.items (pots_text roster 0 (take n values)) (pot_text roster n value) c.loop-member.invariant (simp to_z-of_z at c.in_ok-put_pot.ensures)
    ∙ ap (λ t. c.args.out.now.items ++ t) (sym (ap (pots_text roster 0) front ∙ pots_push roster 0 n (take n values) value (omega (arith, size))))
