use Rattle.std.proofs.Common.{◌≡◌, ◌+◌, take, ◌++◌}
use Rattle.record_codec.proofs.short.put_at.Given as goal

abbrev pub invariant-loop-i : goal.invariant-loop-i
invariant-loop-i l = take (l.at + l.i) l.into ≡ take l.at l.fn.into ++ take l.i l.bytes
