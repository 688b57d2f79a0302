use Rattle.std.proofs.Common.{◌≡◌, ◌/◌, ◌%◌, ◌<◌, ◌≤◌, SFits, w64, rules, ap, ◌∙◌, ⊎_elim}
use Rattle.std.proofs.lemmas.Bool.{both_ways, cases_lt}
use Rattle.std.proofs.lemmas.Int.{to_z-of_z}
use Rattle.network_laws.specs.Limits.{reduced}
use Rattle.network_laws.specs.Clash.{bounds_clash, price_clash}
use Rattle.dual_certificate.specs.Walks.{no_pair, rows_bounds_clash, rows_price_clash}
use Rattle.dual_certificate.proofs.Walked.{bounds_found, price_found}
use Rattle.dual_certificate.proofs.PairFacts.{bounds_find_rows, prices_find_rows, none_at_next, none_found}
use Rattle.dual_certificate.proofs.clean_test.are_clean.Goals as goal
use Rattle.dual_certificate.proofs.clean_test.are_clean.Goals.{After-loop-pair}

pub loop-pair-preserved : goal.loop-pair-preserved
loop-pair-preserved c =
    let pairs = c.args.pairs.now in
    let ps = c.args.potentials.now in
    let p = c.loop-pair.pair.place in
    let amount = c.amount-amount.result in
    let bounds = c.bounds-bounds.result in
    let cost = c.reduced_cost-cost.result in
    let fits : SFits w64 cost = search rules in
    let clash = simp to_z-of_z at c.clash_with_price.ensures in
    let priced : cost ≡ reduced ps (p / 65536) (p % 65536) = c.reduced_cost-cost.ensures.value ∙ ap (λ i. reduced ps i c.buyer-buyer.result) c.seller-seller.ensures ∙ ap (reduced ps (p / 65536)) c.buyer-buyer.ensures in
    let within = bounds_found pairs.limits.now pairs.rows.now (p / 65536) (p % 65536) amount bounds.lower bounds.upper c.clash_with_bounds.result c.amount-amount.ensures c.bounds-bounds.ensures.lower c.bounds-bounds.ensures.upper
    (c.clash_with_bounds.ensures ∙ ap (λ i. bounds_clash i c.buyer-buyer.result amount bounds.lower bounds.upper) c.seller-seller.ensures ∙ ap (λ j. bounds_clash (p / 65536) j amount bounds.lower bounds.upper) c.buyer-buyer.ensures) in
    let found = price_found pairs.limits.now pairs.rows.now ps (p / 65536) (p % 65536) amount bounds.lower bounds.upper cost c.clash_with_price.result c.amount-amount.ensures c.bounds-bounds.ensures.lower c.bounds-bounds.ensures.upper priced
    (clash ∙ ap (λ i. price_clash i c.buyer-buyer.result amount bounds.lower bounds.upper cost) c.seller-seller.ensures ∙ ap (λ j. price_clash (p / 65536) j amount bounds.lower bounds.upper cost) c.buyer-buyer.ensures) in
    record {
      pair = c.next-pair.ensures.pair;
      bounds = none_at_next pairs (rows_bounds_clash pairs.limits.now pairs.rows.now) c.requires.pairs.few p c.next-pair.result.place (bounds_find_rows pairs) c.loop-pair.invariant.bounds (within ∙ c.in_default.is) c.next-pair.ensures.passed;
      prices = none_at_next pairs (rows_price_clash pairs.limits.now pairs.rows.now ps) c.requires.pairs.few p c.next-pair.result.place (prices_find_rows pairs ps) c.loop-pair.invariant.prices (found ∙ c.in_default-clash_with_price.is) c.next-pair.ensures.passed;
    }

past : (c : After-loop-pair) → no_pair ≤ c.loop-pair.pair.place
past c =
    let p = c.loop-pair.pair.place in
    ⊎_elim (λ (l : p < no_pair). absurd (both_ways c.is_pair.result c.loop-pair-test.false (c.is_pair.ensures.1 l))) (λ (g : no_pair ≤ p). g) (cases_lt p no_pair)

pub returns-clause-bounds : goal.returns-clause-bounds
returns-clause-bounds c = λ is.
    let pairs = c.args.pairs.now in
    none_found pairs (rows_bounds_clash pairs.limits.now pairs.rows.now) c.requires.pairs.few c.loop-pair.pair.place c.loop-pair.invariant.bounds (past c)

pub returns-clause-prices : goal.returns-clause-prices
returns-clause-prices c = λ is.
    let pairs = c.args.pairs.now in
    none_found pairs (rows_price_clash pairs.limits.now pairs.rows.now c.args.potentials.now) c.requires.pairs.few c.loop-pair.pair.place c.loop-pair.invariant.prices (past c)
