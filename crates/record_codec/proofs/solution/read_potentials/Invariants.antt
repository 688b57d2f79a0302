use Rattle.std.proofs.Common.{◌≡◌, ◌-◌}
use Rattle.record_codec.specs.Reading.{potentials_at}
use Rattle.record_codec.proofs.LoopFacts.{with_front}
use Rattle.record_codec.proofs.solution.read_potentials.Given as goal

abbrev pub invariant-loop : goal.invariant-loop
invariant-loop l = with_front l.potentials.items (potentials_at (l.count - l.counter) l.unread.rest.now) ≡ potentials_at l.count l.fn.unread.rest.now
