use Rattle.std.proofs.Common.{◌≡◌, ◌-◌}
use Rattle.record_codec.proofs.LoopFacts.{with_front}
use Rattle.base_codec.specs.Reading.{names_each}
use Rattle.base_codec.proofs.parts.read_each_name.Given as goal

abbrev pub invariant-loop : goal.invariant-loop
invariant-loop l = with_front l.names.items (names_each (l.count - l.counter) l.unread.rest.now) ≡ names_each l.count l.fn.unread.rest.now
