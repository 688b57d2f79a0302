use Rattle.std.proofs.Common.{◌≡◌, ℕ, ◌+◌, ◌≤◌, List, [], ◌∷◌, length, get_or, sym, ◌∙◌, arith}
use Rattle.std.specs.List.{concat}
use Rattle.record_pool.proofs.PageFacts.{full_length, four}
use Rattle.record_pool.proofs.pages.number_at.Goals as goal

pub returns : goal.returns
returns c =
    let all = concat c.args.pages.now in
    let inside : c.args.at + 4 ≤ length all = omega (arith, c.requires.within, full_length c.args.pages.now c.requires.full) in
    let cells : ◌≡◌ {A = List ℕ} (c.byte_at.result ∷ c.byte_at-2.result ∷ c.byte_at-3.result ∷ c.byte_at-4.result ∷ []) (
    get_or all c.args.at 0 ∷ get_or all (c.args.at + 1) 0 ∷ get_or all (c.args.at + 2) 0 ∷ get_or all (c.args.at + 3) 0 ∷ []) =
    λ i. c.byte_at.ensures i ∷ c.byte_at-2.ensures i ∷ c.byte_at-3.ensures i ∷ c.byte_at-4.ensures i ∷ [] in
    c.number_of.ensures ∙ cells ∙ sym (four all c.args.at inside)
