use Rattle.std.proofs.Common.{◌≡◌, Some, map, drop, string_bytes, fold}
use Rattle.program_words.specs.Parting.{parted_with, no_parts, read_parts}
use Rattle.program_words.proofs.parting.parts_of.Given as goal

abbrev pub invariant-loop-word : goal.invariant-loop-word
invariant-loop-word l = fold parted_with (Some (read_parts l.parts)) (map string_bytes (drop l.word-index l.words)) ≡ fold parted_with (Some no_parts) (map string_bytes l.words)
