-- A line that is read word by word.
use Rattle.std.specs.Prelude.{◌≡◌, ℕ, ◌+◌, nat_lt, List, [], ◌∷◌, length, drop, Result, Ok, Err, if◌then◌else◌}
use Rattle.command_types.specs.Grammar.{Cursor, Taken, words_of}
use Rattle.command_text.specs.declared.bad_line.BadLine.{BadLine}

-- the words from a place of a line on; behind the line there is none
abbrev pub words_from : List ℕ → ℕ → List (List ℕ)
words_from line at = if nat_lt (length line) at then [] else words_of (drop at line)

-- how a line stands that was read up to this place
abbrev pub cursor_at : List ℕ → ℕ → Cursor
cursor_at line at = record { words = words_from line at; place = at; size = length line }

-- the word is the next one, and then this is left
pub record IsNext (old : Cursor) (word : List ℕ) (new : Cursor) : Type 0 where
  pub words : old.words ≡ word ∷ new.words
  pub place : new.place ≡ old.place + length word + 1
  pub size : new.size ≡ old.size

-- what was read of the next word, with what is left behind it
abbrev pub taken_of : {A : Type 0} → Result A BadLine → Cursor → Result (Taken A) ℕ
taken_of (Ok value) rest = Ok (record { value = value; rest = rest })
taken_of (Err bad) rest = Err bad.at
