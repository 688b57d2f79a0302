-- The records of a body: in which spelling each is, and which one turns the body from the first to the second.
use Rattle.std.specs.Prelude.{ℕ, Bool, false, List, [], ◌∷◌, if◌then◌else◌}
use Rattle.std.specs.Str.{bytes_eq}
use Rattle.command_types.specs.declared.spelling.Spelling.{Spelling}
use Rattle.command_types.specs.declared.spelling.Spelling.TheVariants.{First, Second}
use Rattle.command_types.specs.Spelling.{turn}

-- bytes that are to spell a change, and in which spelling
abbrev pub Written : Type 0
Written = Spelling × List ℕ

-- such bytes, and the place of their gate
abbrev pub Placed : Type 0
Placed = ℕ × Written

-- the record turns a body that is in this spelling: those behind it are in the second
abbrev pub turns : Spelling → List ℕ → Bool
turns First bytes = bytes_eq bytes turn
turns Second bytes = false

-- of a body that begins in this spelling, the records that are to spell changes: all but the one that turns it
abbrev pub changes_in : Spelling → List (List ℕ) → List Written
changes_in spelling [] = []
changes_in spelling (bytes ∷ records) =
    if turns spelling bytes then changes_in Second records else (spelling, bytes) ∷ changes_in spelling records

-- the same, of records with the places of their gates
abbrev pub changes_of : Spelling → List (ℕ × List ℕ) → List Placed
changes_of spelling [] = []
changes_of spelling (r ∷ records) =
    if turns spelling r.1 then changes_of Second records else (r.0, (spelling, r.1)) ∷ changes_of spelling records

-- the spelling in which it goes on behind them
abbrev pub spelling_after : Spelling → List (List ℕ) → Spelling
spelling_after spelling [] = spelling
spelling_after spelling (bytes ∷ records) = spelling_after (if turns spelling bytes then Second else spelling) records
