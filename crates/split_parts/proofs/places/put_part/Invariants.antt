use Rattle.split_parts.proofs.Placed.{AreHere}
use Rattle.split_parts.proofs.places.put_part.Given as goal

abbrev pub invariant-loop-number : goal.invariant-loop-number
invariant-loop-number l = AreHere l.members l.part l.number l.initial.places l.places
