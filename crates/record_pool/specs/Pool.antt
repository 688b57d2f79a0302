-- The changes of a journal in memory.
use Rattle.std.specs.Prelude.{ℕ, List, ◌++◌}
use Rattle.command_types.specs.declared.spelling.Spelling.{Spelling}
use Rattle.command_types.specs.declared.spelling.Spelling.TheVariants.{First, Second}
use Rattle.command_types.specs.Spelling.{number_spelling}
use Rattle.recovery.specs.Bodies.{Written}

-- each change's bytes with their spelling, and for how many more bytes of frames there is room without memory
pub record PoolView : Type 0 where
  pub changes : List Written
  pub room : ℕ

-- the bytes in the second spelling: those of the first tell no moment, which is 0
abbrev pub spelled_from : Spelling → List ℕ → List ℕ
spelled_from First bytes = number_spelling 0 ++ bytes
spelled_from Second bytes = bytes

abbrev pub spelled : Written → List ℕ
spelled change = spelled_from change.0 change.1
