use Rattle.std.proofs.Common.{◌≡◌, ◌++◌}
use Rattle.command_types.specs.Books.{listed_below}
use Rattle.command_types.specs.MemberProofs.{pair_row}
use Rattle.cycle_states.specs.MemberProofs.{part_in}
use Rattle.cycle_states.specs.PairPlaces.{ArePast, pair_place}
use Rattle.cycle_states.proofs.machine.proof_rows.add_pairs.Given as goal

abbrev pub invariant-loop-seller : goal.invariant-loop-seller
invariant-loop-seller l = record {
  rows : l.rows.items ≡ l.initial.rows.items ++ listed_below l.seller (λ i. listed_below l.part.problem.now.network.members (pair_row (part_in l.part) l.member i));
  past : ArePast l.part l.before (pair_place l.seller l.member);
}
