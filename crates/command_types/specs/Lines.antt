-- The lines of an input: bytes are cut at line feeds.
use Rattle.std.specs.Prelude.{ℕ, ◌-◌, slice_index, Bool, ◌&&◌, ◌==◌, nat_lt, List, [], ◌∷◌, ◌++◌, length, take, fold, if◌then◌else◌}
use Rattle.units_core.specs.declared.limits.TheConstants.{MOST_LINE}

-- the most bytes that a line may have before its line feed
abbrev pub line_limit : ℕ
line_limit = MOST_LINE

-- the last byte is a carriage return
abbrev pub ends_with_return : List ℕ → Bool
ends_with_return line = nat_lt 0 (length line) && (slice_index line (length line - 1) == 13)

-- the line without one carriage return at its end
abbrev pub without_return : List ℕ → List ℕ
without_return line = if ends_with_return line then take (length line - 1) line else line

-- a line that a line feed ended: one carriage return before it is dropped, but counts for the line's length
abbrev pub ended_line : List ℕ → List ℕ
ended_line line = if nat_lt line_limit (length line) then line else without_return line

-- the lines that were ended so far, and what has come of the next one
pub record Cut : Type 0 where
  pub whole : List (List ℕ)
  pub rest : List ℕ

-- one more byte: a line feed ends the line
abbrev pub cut_on : Cut → ℕ → Cut
cut_on cut byte =
    if byte == 10 then record { whole = cut.whole ++ ended_line cut.rest ∷ []; rest = [] }
    else record { whole = cut.whole; rest = cut.rest ++ byte ∷ [] }

-- no byte has come
abbrev pub empty_cut : Cut
empty_cut = record { whole = []; rest = [] }

-- the lines that these bytes hold
abbrev pub cut_of : List ℕ → Cut
cut_of bytes = fold cut_on empty_cut bytes

-- a last line without a line feed counts if it is not empty
abbrev pub last_line : List ℕ → List (List ℕ)
last_line [] = []
last_line (byte ∷ bytes) = (byte ∷ bytes) ∷ []

-- the lines of an input that has ended
abbrev pub lines_of : List ℕ → List (List ℕ)
lines_of bytes = (cut_of bytes).whole ++ last_line (cut_of bytes).rest
