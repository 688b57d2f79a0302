-- What a session read and wrote, by its end.
use Rattle.std.specs.Prelude.{◌≡◌, ◌⊎◌, ℕ, Bool, ◌<◌, ◌≤◌, false, List, ◌++◌, length, Option}
use Rattle.outside.specs.Flow.{Flow, Gives, IsAtEnd}
use Rattle.session.specs.declared.serve.SessionEnd.{SessionEnd}
use Rattle.session.specs.declared.serve.SessionEnd.TheVariants.{Ended, SourceFault, SinkFault, Limit, Memory}
use Rattle.command_types.specs.Lines.{cut_of, lines_of}
use Rattle.session.specs.Serving.{Sight, Written, Left, CutOff}
use Rattle.units_core.specs.declared.limits.TheConstants.{MOST_INPUT}

-- how many bytes a session takes at most
abbrev pub session_limit : ℕ
session_limit = MOST_INPUT

-- how many bytes a session reads at once, at most
abbrev pub most_piece : ℕ
most_piece = 65536

-- Of the bytes that were read the last came at once. The text was cut off at the replies to the first of the lines, and behind those to the lines that ended before.
pub record CutLate (clock : ℕ → Bool) (start : Sight) (begun taken : Option (List ℕ)) (now : Sight) (bytes : List ℕ) (lines : List (List ℕ)) : Type 0 where
  pub early : List ℕ
  pub late : List ℕ
  pub split : bytes ≡ early ++ late
  pub few : length late ≤ most_piece
  pub cut : CutOff clock start (cut_of early).whole begun taken now lines

-- What was read and what was written, by the session's end.
abbrev pub Ends : (ℕ → Bool) → Sight → Option Flow → Option Flow → Option (List ℕ) → Option (List ℕ) → Sight → SessionEnd → Type 0
Ends clock start opened flow begun taken now Ended =
    (bytes : List ℕ) × Gives opened flow bytes
    × ((IsAtEnd flow × (length bytes < session_limit) × Written clock start begun taken now (lines_of bytes))
    ⊎ ((length bytes ≤ session_limit) × Left clock start begun taken now (cut_of bytes).whole))
Ends clock start opened flow begun taken now SourceFault =
    (bytes : List ℕ) × Gives opened flow bytes × (length bytes < session_limit)
    × ((written : Written clock start begun taken now (cut_of bytes).whole) × (written.to.over ≡ false))
Ends clock start opened flow begun taken now Limit =
    (bytes : List ℕ) × Gives opened flow bytes × (length bytes ≡ session_limit)
    × ((written : Written clock start begun taken now (cut_of bytes).whole) × (written.to.over ≡ false))
Ends clock start opened flow begun taken now SinkFault =
    (bytes : List ℕ) × Gives opened flow bytes
    × (((length bytes ≤ session_limit) × CutLate clock start begun taken now bytes (cut_of bytes).whole)
    ⊎ (IsAtEnd flow × (length bytes < session_limit) × CutLate clock start begun taken now bytes (lines_of bytes)))
Ends clock start opened flow begun taken now Memory = (flow ≡ opened) × (taken ≡ begun) × (now ≡ start)
