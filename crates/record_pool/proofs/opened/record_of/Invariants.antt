use Rattle.std.proofs.Common.{◌+◌, ◌*◌, ◌/◌, drop}
use Rattle.journal_core.specs.Records.{AreAhead}
use Rattle.record_pool.proofs.opened.record_of.Given as goal

abbrev pub invariant-loop-before : goal.invariant-loop-before
invariant-loop-before l = AreAhead l.ahead.at l.ahead.rest.now (drop (16 * (l.number / 16) + l._before) l.marks.records)
