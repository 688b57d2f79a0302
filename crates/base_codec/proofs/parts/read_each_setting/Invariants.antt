use Rattle.std.proofs.Common.{◌≡◌, ◌-◌}
use Rattle.record_codec.proofs.LoopFacts.{with_front}
use Rattle.base_codec.specs.Reading.{settings_each}
use Rattle.base_codec.proofs.parts.read_each_setting.Given as goal

abbrev pub invariant-loop : goal.invariant-loop
invariant-loop l = with_front l.rows.items (settings_each (l.count - l.counter) l.next l.unread.rest.now) ≡ settings_each l.count 0 l.fn.unread.rest.now
