-- What the lines of an input have to do with its bytes.
use Rattle.std.specs.Prelude.{◌≡◌, ◌≢◌, ℕ, List, [], ◌∷◌, ◌++◌, map, All, codes}
use Rattle.command_types.specs.Lines.{Cut, ended_line, cut_of}

-- these lines, each with its line feed
abbrev pub joined : List (List ℕ) → List ℕ
joined [] = []
joined (line ∷ lines) = line ++ codes "\n" ++ joined lines

-- no byte is a line feed
abbrev pub IsOneLine : List ℕ → Type 0
IsOneLine line = All (λ byte. byte ≢ 10) line

-- The lines as they stood, with their line feeds and the rest behind them, are the bytes: no byte is lost, doubled or moved. No line
-- feed is left in any of them. What is read of each is the line without one carriage return at its end, if it is not too long.
pub record IsCutOf (bytes : List ℕ) (cut : Cut) : Type 0 where
  pub lines : List (List ℕ)
  pub bytes_are : bytes ≡ joined lines ++ cut.rest
  pub whole : cut.whole ≡ map ended_line lines
  pub each : All IsOneLine lines
  pub rest : IsOneLine cut.rest

-- the lines of each input are cut so
abbrev pub CutLinesJoin : Type 0
CutLinesJoin = (bytes : List ℕ) → IsCutOf bytes (cut_of bytes)
