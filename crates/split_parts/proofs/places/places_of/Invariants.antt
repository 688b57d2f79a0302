use Rattle.split_parts.specs.Places.{ArePlaces}
use Rattle.split_parts.proofs.places.places_of.Given as goal

abbrev pub invariant-loop-part : goal.invariant-loop-part
invariant-loop-part l = ArePlaces l.parts l.members l.part l.places.items
