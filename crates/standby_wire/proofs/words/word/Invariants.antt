use Rattle.std.proofs.Common.{◌≡◌, drop}
use Rattle.standby_wire.specs.Words.{word}
use Rattle.standby_wire.proofs.words.word.Given as goal

abbrev pub invariant-loop-byte : goal.invariant-loop-byte
invariant-loop-byte l = word (drop l.byte-index l.text) (drop l.end l.input) ≡ word l.text (drop l.fn.at l.input)
