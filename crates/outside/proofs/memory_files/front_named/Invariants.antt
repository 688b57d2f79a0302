use Rattle.std.proofs.Common.{◌≡◌, drop}
use Rattle.outside.specs.MemoryFiles.{bytes_named}
use Rattle.outside.proofs.memory_files.front_named.Given as goal

abbrev pub invariant-loop-file : goal.invariant-loop-file
invariant-loop-file l = bytes_named l.files l.name ≡ bytes_named (drop l.file-index l.files) l.name
