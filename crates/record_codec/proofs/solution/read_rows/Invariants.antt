use Rattle.std.proofs.Common.{◌≡◌, ◌-◌, ◌≤◌}
use Rattle.record_codec.specs.Reading.{rows_at}
use Rattle.record_codec.proofs.LoopFacts.{with_front}
use Rattle.record_codec.proofs.solution.read_rows.Given as goal

abbrev pub invariant-loop : goal.invariant-loop
invariant-loop l =
    (with_front l.rows.items (rows_at (l.count - l.counter) l.members l.next l.room l.unread.rest.now) ≡ rows_at l.count l.members 0 1000000000000000000 l.fn.unread.rest.now)
    × (l.room ≤ 1000000000000000000)
