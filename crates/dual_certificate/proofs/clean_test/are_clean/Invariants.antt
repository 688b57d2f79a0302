use Rattle.std.proofs.Common.{◌-◌}
use Rattle.dual_certificate.specs.Walks.{IsAtPair, no_pair, rows_bounds_clash, rows_price_clash}
use Rattle.dual_certificate.proofs.PairFacts.{FindsNone}
use Rattle.dual_certificate.proofs.clean_test.are_clean.Given as goal

abbrev pub invariant-loop-pair : goal.invariant-loop-pair
invariant-loop-pair l = record {
  pair : IsAtPair l.pairs l.pair;
  bounds : FindsNone l.pairs.members (rows_bounds_clash l.pairs.limits.now l.pairs.rows.now) l.pair.place;
  prices : FindsNone l.pairs.members (rows_price_clash l.pairs.limits.now l.pairs.rows.now l.potentials) l.pair.place;
}

abbrev pub decreases-loop-pair : goal.decreases-loop-pair
decreases-loop-pair l = no_pair - l.pair.place
