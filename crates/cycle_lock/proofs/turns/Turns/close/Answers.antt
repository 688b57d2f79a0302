use Rattle.std.proofs.Common.{ap, ◌∙◌, ◌∷◌, Some}
use Rattle.cycle_lock.proofs.turns.Turns.close.Goals as goal

pub take_out-requires-clause-took : goal.take_out-requires-clause-took
take_out-requires-clause-took g c κs within = let t = c.enter.ensures.took.2 in (t.0, t.1 ∙ ap (λ l. (0, Some t.0) ∷ l) c.into_seat-seat.ensures.3)
