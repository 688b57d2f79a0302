-- What is answered of a line: the line, or the first byte that is not of its form.
use Rattle.std.specs.Prelude.{ℕ, Result, Ok, Err}
use Rattle.command_types.specs.declared.line.Line.{Line}
use Rattle.command_text.specs.declared.bad_line.BadLine.{BadLine}

-- what the grammar says of a line, with the place of its fault in a type of its own
abbrev pub read_of : Result Line ℕ → Result Line BadLine
read_of (Ok line) = Ok line
read_of (Err at) = Err (record { at = at })
