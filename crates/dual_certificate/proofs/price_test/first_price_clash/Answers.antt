use Rattle.std.proofs.Common.{◌≡◌, ◌/◌, ◌%◌, ◌<◌, ◌≤◌, SFits, w64, rules, ap, sym, ◌∙◌, ⊎_elim}
use Rattle.std.proofs.lemmas.Bool.{both_ways, cases_lt}
use Rattle.std.proofs.lemmas.Int.{to_z-of_z}
use Rattle.network_laws.specs.Limits.{reduced}
use Rattle.network_laws.specs.Clash.{price_clash}
use Rattle.dual_certificate.specs.Walks.{no_pair, rows_price_clash}
use Rattle.dual_certificate.proofs.Walked.{price_found}
use Rattle.dual_certificate.proofs.PairFacts.{prices_find_rows, none_at_next, first_found, none_found}
use Rattle.dual_certificate.proofs.price_test.first_price_clash.Goals as goal

pub returns-in-Some : goal.returns-in-Some
returns-in-Some c =
    let pairs = c.args.pairs.now in
    let ps = c.args.potentials.now in
    let p = c.loop-pair.pair.place in
    let l = c.is_pair.ensures.0 c.loop-pair-test.true in
    let amount = c.amount-amount.result in
    let bounds = c.bounds-bounds.result in
    let cost = c.reduced_cost-cost.result in
    let fits : SFits w64 cost = search rules in
    let clash = simp to_z-of_z at c.clash_with_price.ensures in
    let priced : cost ≡ reduced ps (p / 65536) (p % 65536) = c.reduced_cost-cost.ensures.value ∙ ap (λ i. reduced ps i c.buyer-buyer.result) c.seller-seller.ensures ∙ ap (reduced ps (p / 65536)) c.buyer-buyer.ensures in
    let found = price_found pairs.limits.now pairs.rows.now ps (p / 65536) (p % 65536) amount bounds.lower bounds.upper cost c.clash_with_price.result c.amount-amount.ensures c.bounds-bounds.ensures.lower c.bounds-bounds.ensures.upper priced (clash ∙ ap (λ i. price_clash i c.buyer-buyer.result amount bounds.lower bounds.upper cost) c.seller-seller.ensures ∙ ap (λ j. price_clash (p / 65536) j amount bounds.lower bounds.upper cost) c.buyer-buyer.ensures) in
    sym (first_found pairs (rows_price_clash pairs.limits.now pairs.rows.now ps) c.requires.pairs.few p c.in-Some.clash c.loop-pair.invariant.none (c.loop-pair.invariant.pair.seller l, c.loop-pair.invariant.pair.buyer l) (found ∙ c.in-Some.is))

pub loop-pair-preserved : goal.loop-pair-preserved
loop-pair-preserved c =
    let pairs = c.args.pairs.now in
    let ps = c.args.potentials.now in
    let p = c.loop-pair.pair.place in
    let amount = c.amount-amount.result in
    let bounds = c.bounds-bounds.result in
    let cost = c.reduced_cost-cost.result in
    let fits : SFits w64 cost = search rules in
    let clash = simp to_z-of_z at c.clash_with_price.ensures in
    let priced : cost ≡ reduced ps (p / 65536) (p % 65536) = c.reduced_cost-cost.ensures.value ∙ ap (λ i. reduced ps i c.buyer-buyer.result) c.seller-seller.ensures ∙ ap (reduced ps (p / 65536)) c.buyer-buyer.ensures in
    let found = price_found pairs.limits.now pairs.rows.now ps (p / 65536) (p % 65536) amount bounds.lower bounds.upper cost c.clash_with_price.result c.amount-amount.ensures c.bounds-bounds.ensures.lower c.bounds-bounds.ensures.upper priced (clash ∙ ap (λ i. price_clash i c.buyer-buyer.result amount bounds.lower bounds.upper cost) c.seller-seller.ensures ∙ ap (λ j. price_clash (p / 65536) j amount bounds.lower bounds.upper cost) c.buyer-buyer.ensures) in
    record {
      pair = c.next-pair.ensures.pair;
      none = none_at_next pairs (rows_price_clash pairs.limits.now pairs.rows.now ps) c.requires.pairs.few p c.next-pair.result.place (prices_find_rows pairs ps) c.loop-pair.invariant.none (found ∙ c.in_default.is) c.next-pair.ensures.passed;
    }

pub returns : goal.returns
returns c =
    let pairs = c.args.pairs.now in
    let p = c.loop-pair.pair.place in
    let past : no_pair ≤ p = ⊎_elim (λ (l : p < no_pair). absurd (both_ways c.is_pair.result c.loop-pair-test.false (c.is_pair.ensures.1 l))) (λ (g : no_pair ≤ p). g) (cases_lt p no_pair) in
    sym (none_found pairs (rows_price_clash pairs.limits.now pairs.rows.now c.args.potentials.now) c.requires.pairs.few p c.loop-pair.invariant.none past)
