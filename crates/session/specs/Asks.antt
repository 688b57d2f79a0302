-- What is read of a line that may be too long.
use Rattle.std.specs.Prelude.{ℕ, Bool, true, false, List, Option, Some, None, Result, Ok, Err}
use Rattle.command_types.specs.declared.cycle.Mode.{Mode}
use Rattle.command_types.specs.declared.line.Line.{Line}
use Rattle.command_types.specs.declared.line.Line.TheVariants.{Propose, Accept}
use Rattle.command_types.specs.Grammar.{line_within}
use Rattle.command_text.specs.declared.bad_line.BadLine.{BadLine}
use Rattle.command_text.specs.ReadOf.{read_of}

-- what is read of a line; one that is too long can't be read
abbrev pub read_within : List ℕ → Result Line BadLine
read_within line = read_of (line_within line)

-- what was read, as the grammar says it
abbrev pub line_read : Result Line BadLine → Result Line ℕ
line_read (Ok line) = Ok line
line_read (Err fault) = Err fault.at

-- the cycle and the mode of a PROPOSE
abbrev pub proposal_in : Result Line ℕ → Option (ℕ × Mode)
proposal_in (Ok (Propose cycle mode)) = Some (cycle, mode)
proposal_in read = None

-- a vote for a plan
abbrev pub is_vote : Result Line ℕ → Bool
is_vote (Ok (Accept cycle version)) = true
is_vote read = false
