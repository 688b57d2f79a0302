use Rattle.std.proofs.Common.{◌≡◌, ◌∙◌, ℕ, sym, refl, arith}
use Rattle.std.proofs.lemmas.List.{get_or-replicate}
use Rattle.trade_file.specs.TradeFile.{product_total}
use Rattle.trade_file.proofs.trade_draft.TradeDraft.new.Goals as goal

pub returns-clause-draft : goal.returns-clause-draft
returns-clause-draft c = λ product l.
    let z = get_or-replicate {A = ℕ} 64 product 0 0 l in
    let n : product_total c.new.result.items product ≡ 0 = rw c.new.ensures.items refl in
    (z ∙ sym n, omega (arith, z))
