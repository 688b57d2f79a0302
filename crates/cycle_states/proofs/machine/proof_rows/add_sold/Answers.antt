use Rattle.std.proofs.Common.{◌+◌, sym, arith}
use Rattle.command_types.specs.MemberProofs.{pair_row}
use Rattle.tolerance_sets.proofs.Walk.{one_more}
use Rattle.cycle_states.specs.MemberProofs.{part_in, told_row}
use Rattle.cycle_states.specs.PairPlaces.{pair_place}
use Rattle.cycle_states.proofs.PlaceFacts.{later}
use Rattle.cycle_states.proofs.ToldFacts.{own_sold}
use Rattle.cycle_states.proofs.machine.proof_rows.add_sold.Goals as goal

pub loop-buyer-preserved : goal.loop-buyer-preserved
loop-buyer-preserved c =
    let part = part_in c.args.part.now in
    let member = c.args.member in
    let buyer = c.loop-buyer.buyer in
    record {
      rows = one_more buyer (pair_row part member member) c.args.rows.now.items c.loop-buyer.rows.items c.add_pair.new.rows.items (told_row part member buyer) c.loop-buyer.invariant.rows c.in_ok-before.ensures.rows (sym (own_sold part member buyer));
      past = later c.args.part.now c.in_ok-before.before (pair_place member buyer) (pair_place member (buyer + 1)) c.in_ok-before.ensures.after (omega arith);
    }
