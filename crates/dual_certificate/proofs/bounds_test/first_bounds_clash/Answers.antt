use Rattle.std.proofs.Common.{◌/◌, ◌%◌, ◌<◌, ◌≤◌, ap, sym, ◌∙◌, ⊎_elim}
use Rattle.std.proofs.lemmas.Bool.{both_ways, cases_lt}
use Rattle.network_laws.specs.Clash.{bounds_clash}
use Rattle.dual_certificate.specs.Walks.{no_pair, rows_bounds_clash}
use Rattle.dual_certificate.proofs.Walked.{bounds_found}
use Rattle.dual_certificate.proofs.PairFacts.{first_found, none_found}
use Rattle.dual_certificate.proofs.bounds_test.first_bounds_clash.Goals as goal

pub returns-in-Some : goal.returns-in-Some
returns-in-Some c =
    let pairs = c.args.pairs.now in
    let p = c.loop-pair.pair.place in
    let l = c.is_pair.ensures.0 c.loop-pair-test.true in
    let found = bounds_found pairs.limits.now pairs.rows.now (p / 65536) (p % 65536) c.amount-amount.result c.bounds-bounds.result.lower c.bounds-bounds.result.upper c.clash_with_bounds.result c.amount-amount.ensures c.bounds-bounds.ensures.lower c.bounds-bounds.ensures.upper (c.clash_with_bounds.ensures ∙ ap (λ i. bounds_clash i c.buyer.result c.amount-amount.result c.bounds-bounds.result.lower c.bounds-bounds.result.upper) c.seller.ensures ∙ ap (λ j. bounds_clash (p / 65536) j c.amount-amount.result c.bounds-bounds.result.lower c.bounds-bounds.result.upper) c.buyer.ensures) in
    sym (first_found pairs (rows_bounds_clash pairs.limits.now pairs.rows.now) c.requires.pairs.few p c.in-Some.clash c.loop-pair.invariant.none (c.loop-pair.invariant.pair.seller l, c.loop-pair.invariant.pair.buyer l) (found ∙ c.in-Some.is))

pub returns : goal.returns
returns c =
    let pairs = c.args.pairs.now in
    let p = c.loop-pair.pair.place in
    let past : no_pair ≤ p = ⊎_elim (λ (l : p < no_pair). absurd (both_ways c.is_pair.result c.loop-pair-test.false (c.is_pair.ensures.1 l))) (λ (g : no_pair ≤ p). g) (cases_lt p no_pair) in
    sym (none_found pairs (rows_bounds_clash pairs.limits.now pairs.rows.now) c.requires.pairs.few p c.loop-pair.invariant.none past)
