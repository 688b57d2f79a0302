-- How many bytes a journal takes for a change: a name has one byte more than its text, a number eight bytes, a day four; a record begins with the moment's eight bytes, the seat's four, the party and one byte for the kind; its frame has five bytes more.
use Rattle.std.specs.Prelude.{ℕ, ◌+◌, ◌*◌, List, [], length, sum_by, Option, Some, None, unwrap_or}
use Rattle.network_laws.specs.Solutions.{SolutionData}
use Rattle.units_core.specs.declared.limits.TheConstants.{MOST_JOURNAL}
use Rattle.command_types.specs.declared.ask.Ask.{Ask}
use Rattle.command_types.specs.declared.ask.Entry.{Entry}
use Rattle.command_types.specs.declared.ask.What.{What}
use Rattle.command_types.specs.declared.ask.What.TheVariants.{Trade, Affirm, End, Hold, Free, Tol, Freeze, Begin, Post, Accept, Decline, Cancel}

-- the most bytes that a journal may have
abbrev pub journal_limit : ℕ
journal_limit = MOST_JOURNAL

-- a name has a byte for its length
abbrev pub name_size : List ℕ → ℕ
name_size name = 1 + length name

-- a ceiling has a byte that tells whether it is given
abbrev pub ceiling_size : Option ℕ → ℕ
ceiling_size None = 1
ceiling_size (Some ceiling) = 9

-- a solution: the member count, the number of rows, twelve bytes for each row and four for each potential
abbrev pub solution_size : SolutionData → ℕ
solution_size solution = 6 + 12 * length solution.network.rows + 4 * length solution.potentials

-- the fields of a change; other commands have none
abbrev pub fields_size : What → ℕ
fields_size (Trade seller buyer product amount day) = name_size seller + name_size buyer + name_size product + 12
fields_size (Affirm trade) = 8
fields_size (End trade) = 8
fields_size (Hold trade) = 8
fields_size (Free trade) = 8
fields_size (Tol other product side floor ceiling) = name_size other + name_size product + 9 + ceiling_size ceiling
fields_size (Freeze day) = 4
fields_size (Begin cycle mode) = 9
fields_size (Post cycle version solutions) = 18 + sum_by solution_size solutions
fields_size (Accept cycle version) = 16
fields_size (Decline cycle version) = 16
fields_size (Cancel cycle) = 8
fields_size what = 0

-- the record of a change
abbrev pub record_size : Ask → ℕ
record_size ask = 12 + name_size (unwrap_or ask.by []) + 1 + fields_size ask.what

-- the record with its frame
abbrev pub frame_size : Ask → ℕ
frame_size ask = 5 + record_size ask

-- the frames of these changes
abbrev pub frames_size : List Entry → ℕ
frames_size entries = sum_by (λ entry. frame_size entry.ask) entries
