use Rattle.std.proofs.Common.{◌≡◌}
use Rattle.command_types.specs.Books.{listed_below}
use Rattle.cycle_states.specs.MemberProofs.{asked_rows}
use Rattle.cycle_states.proofs.machine.member_proofs.proof_rows.Given as goal

abbrev pub invariant-loop-product : goal.invariant-loop-product
invariant-loop-product l = l.rows.items ≡ listed_below l.product (asked_rows l.proof)
