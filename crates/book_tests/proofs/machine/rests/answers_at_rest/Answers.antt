use Rattle.std.proofs.Common.{refl, arith}
use Rattle.book_tests.proofs.Changes.{lead_none, young_led}
use Rattle.book_tests.proofs.machine.rests.answers_at_rest.Goals as goal

pub answers-requires : goal.answers-requires
answers-requires c = young_led 0 _ _ c.in_ok-machine.ensures (omega arith) (lead_none 0 _ _ refl)
