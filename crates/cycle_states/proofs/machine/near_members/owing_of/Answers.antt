use Rattle.cycle_states.proofs.NearFacts.{none_marked}
use Rattle.cycle_states.proofs.machine.near_members.owing_of.Goals as goal

pub mark_rows-requires-clause-blank : goal.mark_rows-requires-clause-blank
mark_rows-requires-clause-blank c = none_marked c.args.member
