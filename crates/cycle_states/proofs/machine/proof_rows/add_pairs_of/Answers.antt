use Rattle.std.proofs.Common.{◌+◌, ◌++◌, ap, sym, ◌∙◌, arith}
use Rattle.command_types.specs.Books.{listed_below}
use Rattle.command_types.specs.MemberProofs.{pair_row}
use Rattle.cycle_states.specs.MemberProofs.{part_in}
use Rattle.cycle_states.specs.PairPlaces.{pair_place}
use Rattle.cycle_states.proofs.PlaceFacts.{later}
use Rattle.cycle_states.proofs.machine.proof_rows.add_pairs_of.Goals as goal

pub returns-then-seller-member-clause-before : goal.returns-then-seller-member-clause-before
returns-then-seller-member-clause-before c =
    later c.args.part.now c.args.before (pair_place c.args.seller c.args.member) (pair_place (c.args.seller + 1) c.args.member) c.requires.before (omega arith)

pub returns-clause-before : goal.returns-clause-before
returns-clause-before c =
    later c.args.part.now c.in_ok-after.after (pair_place c.args.seller c.args.member) (pair_place (c.args.seller + 1) c.args.member) c.in_ok-after.ensures.after (omega arith)

pub returns-then-seller-member-clause-rows : goal.returns-then-seller-member-clause-rows
returns-then-seller-member-clause-rows c =
    let part = part_in c.args.part.now in
    c.in_ok-add_sold.ensures ∙ ap (λ s. c.args.rows.now.items ++ listed_below part.problem.network.members (pair_row part c.args.member s)) (sym c.if-seller-member.true)
