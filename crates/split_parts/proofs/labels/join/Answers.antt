use Rattle.std.proofs.Common.{◌≢◌, ◌<◌, ◌∙◌, List, ℕ, Some, length, set, min, rules, sym, subst, arith}
use Rattle.split_parts.specs.Labels.{LeadTo, JoinsRow}
use Rattle.split_parts.proofs.Trees.{lead_same, lead_joined}
use Rattle.split_parts.proofs.labels.join.Goals as goal

pub returns-then-seller-buyer : goal.returns-then-seller-buyer
returns-then-seller-buyer c =
    λ labels h.
    let a = c.label_of-seller.ensures.label labels h in
    let b = c.label_of-buyer.ensures.label labels a.0 in
    (labels, b.0, lead_same c.args.row labels (λ _. sym a.1 ∙ c.if-seller-buyer.true ∙ b.1))

pub returns : goal.returns
returns c =
    λ labels h.
    let a = c.label_of-seller.ensures.label labels h in
    let b = c.label_of-buyer.ensures.label labels a.0 in
    let low = c.label_of-seller.ensures.below in
    let low' = c.label_of-buyer.ensures.below in
    let size = c.label_of-seller.auto.parents in
    let size' = c.label_of-buyer.auto.parents in
    let s = c.label_of-seller.result in
    let t = c.label_of-buyer.result in
    let open' : c.args.row.upper ≢ Some 0 = search rules in
    let ls : s < length c.label_of-seller.new.parents = omega (arith, c.requires.seller) in
    let lt : t < length c.label_of-buyer.new.parents = omega (arith, c.requires.buyer) in
    let P : ℕ → ℕ → Type 0 = λ x z. (labels' : List ℕ) × LeadTo (set c.label_of-buyer.new.parents x z) labels' × JoinsRow c.args.row labels labels' in
    subst (λ z. P c.max.result z) (sym c.min.ensures) (subst (λ x. P x (min s t)) (sym c.max.ensures)
    (lead_joined c.args.row c.label_of-buyer.new.parents labels s t b.0 (omega arith) lt open' a.1 b.1 (a.0.root s ls c.label_of-seller.ensures.root) (b.0.root t lt c.label_of-buyer.ensures.root) c.if-seller-buyer.false))
