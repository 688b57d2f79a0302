use Rattle.std.proofs.Common.{◌≡◌, ◌+◌, ◌*◌, ◌/◌}
use Rattle.record_pool.specs.Marks.{place_at}
use Rattle.record_pool.proofs.appended.Appended.place.Given as goal

abbrev pub invariant-loop-before : goal.invariant-loop-before
invariant-loop-before l = l.at ≡ place_at l.self-inside.marks.records (16 * (l.number / 16) + l._before)
