use Rattle.std.proofs.Common.{subst, sym}
use Rattle.std.proofs.lemmas.List.{append-nil}
use Rattle.cycle_states.specs.PairPlaces.{ArePast, pair_place}
use Rattle.cycle_states.proofs.PlaceFacts.{nothing_passed}
use Rattle.cycle_states.proofs.machine.proof_rows.add_pairs.Goals as goal

pub loop-seller-init : goal.loop-seller-init
loop-seller-init c = record {
  rows = sym (append-nil c.args.rows.now.items);
  past = subst (λ at. ArePast c.args.part.now at (pair_place 0 c.args.member)) (sym c.first-before.ensures) (nothing_passed c.args.part.now (pair_place 0 c.args.member));
}
