use Rattle.std.proofs.Common.{◌≡◌, ◌-◌, ◌+◌}
use Rattle.record_codec.proofs.LoopFacts.{with_front}
use Rattle.base_codec.specs.Reading.{trades_each}
use Rattle.base_codec.proofs.parts.read_each_trade.Given as goal

abbrev pub invariant-loop-index : goal.invariant-loop-index
invariant-loop-index l = with_front l.rows.items (trades_each (l.count - l.index) (l.index + 1) l.unread.rest.now) ≡ trades_each l.count 1 l.fn.unread.rest.now
