use Rattle.std.proofs.Common.{◌≡◌, ◌++◌}
use Rattle.command_types.specs.Books.{listed_below}
use Rattle.command_types.specs.MemberProofs.{pair_row}
use Rattle.cycle_states.specs.MemberProofs.{part_in}
use Rattle.cycle_states.specs.PairPlaces.{ArePast, pair_place}
use Rattle.cycle_states.proofs.machine.proof_rows.add_sold.Given as goal

abbrev pub invariant-loop-buyer : goal.invariant-loop-buyer
invariant-loop-buyer l = record {
  rows : l.rows.items ≡ l.initial.rows.items ++ listed_below l.buyer (pair_row (part_in l.part) l.member l.member);
  past : ArePast l.part l.before (pair_place l.member l.buyer);
}
