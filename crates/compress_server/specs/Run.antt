-- What the program does with its input, its output and its errors.
use Rattle.std.specs.Prelude.{◌≡◌, ◌⊎◌, ℕ, Bool, true, false, List, ◌++◌, ◌<◌, ◌≤◌, length, Option}
use Rattle.outside.specs.Flow.{Flow, Gives, IsAtEnd, Takes, TakesFront}
use Rattle.command_types.specs.History.{end_of, longer}
use Rattle.command_types.specs.Lines.{cut_of, lines_of}
use Rattle.command_types.specs.declared.ask.Entry.{Entry}
use Rattle.command_types.specs.Session.{Standing, IsTalk, IsSession, nobody}
use Rattle.house.specs.House.{HouseView, figures_of, is_stopped}
use Rattle.session.specs.Ending.{session_limit, most_piece}

-- nobody has greeted, at the end of the history of a house that was just opened
abbrev pub at_first : HouseView → Standing
at_first v = record { position = end_of v.history; speaker = nobody; stopped = false; over = false }

-- The lines were replied to by the house v, which is now w, in one session of seat 0, and the whole text was written. The history has grown by the changes of these lines, in order, and by no others. A stop that the session knows is the house's, and a stop of the house it knows.
pub record IsReplied (clock : ℕ → Bool) (v w : HouseView) (begun taken : Option (List ℕ)) (lines : List (List ℕ)) : Type 0 where
  pub text : List ℕ
  pub session : IsSession clock (figures_of v) w.history 0 (at_first v) lines text
  pub all : w.history ≡ longer v.history session.made
  pub stops : session.to.stopped ≡ true → is_stopped w ≡ true
  pub known : is_stopped w ≡ true → session.to.stopped ≡ true
  pub took : Takes begun taken text

-- The first of the lines were replied to, up to an accepted BYE, and their whole text was written.
pub record IsLeft (clock : ℕ → Bool) (v w : HouseView) (begun taken : Option (List ℕ)) (lines : List (List ℕ)) : Type 0 where
  pub said : List (List ℕ)
  pub others : List (List ℕ)
  pub order : lines ≡ said ++ others
  pub replied : IsReplied clock v w begun taken said
  pub over : replied.session.to.over ≡ true

-- Of the bytes that were read the last came at once. The replies to the lines that ended before are a front of the text, within this many of its bytes.
pub record IsAhead (clock : ℕ → Bool) (v w : HouseView) (bytes text : List ℕ) (count : ℕ) : Type 0 where
  pub early : List ℕ
  pub late : List ℕ
  pub split : bytes ≡ early ++ late
  pub few : length late ≤ most_piece
  pub front : List ℕ
  pub back : List ℕ
  pub order : text ≡ front ++ back
  pub within : length front ≤ count
  pub made : List Entry
  pub to : Standing
  pub talk : IsTalk clock (figures_of v) w.history 0 (at_first v) (cut_of early).whole front made to

-- The first of the lines were replied to, in one session of seat 0, and of their text a front was written that is not the whole. The replies to all lines but those that the last bytes ended are in it whole. The history has grown by the changes of these lines, in order, and by no others. A stop that the session knows is the house's, and a stop of the house it knows.
pub record IsCutOff (clock : ℕ → Bool) (v w : HouseView) (begun taken : Option (List ℕ)) (bytes : List ℕ) (lines : List (List ℕ)) : Type 0 where
  pub said : List (List ℕ)
  pub others : List (List ℕ)
  pub order : lines ≡ said ++ others
  pub text : List ℕ
  pub session : IsSession clock (figures_of v) w.history 0 (at_first v) said text
  pub all : w.history ≡ longer v.history session.made
  pub stops : session.to.stopped ≡ true → is_stopped w ≡ true
  pub known : is_stopped w ≡ true → session.to.stopped ≡ true
  pub took : TakesFront begun taken text
  pub ahead : IsAhead clock v w bytes text took.0

-- the input was read to its end and all its lines were replied to, or those up to an accepted BYE were
abbrev pub IsWhole : (ℕ → Bool) → HouseView → HouseView → Option Flow → Option Flow → Option (List ℕ) → Option (List ℕ) → Type 0
IsWhole clock v w opened flow begun taken =
    (bytes : List ℕ) × Gives opened flow bytes
    × ((IsAtEnd flow × (length bytes < session_limit) × IsReplied clock v w begun taken (lines_of bytes))
    ⊎ ((length bytes ≤ session_limit) × IsLeft clock v w begun taken (cut_of bytes).whole))

-- the whole lines were replied to, without a BYE among them
abbrev pub IsOpen : (ℕ → Bool) → HouseView → HouseView → Option (List ℕ) → Option (List ℕ) → List (List ℕ) → Type 0
IsOpen clock v w begun taken lines = (replied : IsReplied clock v w begun taken lines) × (replied.session.to.over ≡ false)

-- the input was read up to a fault
abbrev pub IsBrokenOff : (ℕ → Bool) → HouseView → HouseView → Option Flow → Option Flow → Option (List ℕ) → Option (List ℕ) → Type 0
IsBrokenOff clock v w opened flow begun taken =
    (bytes : List ℕ) × Gives opened flow bytes × (length bytes < session_limit) × IsOpen clock v w begun taken (cut_of bytes).whole

-- the input was read up to the session's limit
abbrev pub IsAtLimit : (ℕ → Bool) → HouseView → HouseView → Option Flow → Option Flow → Option (List ℕ) → Option (List ℕ) → Type 0
IsAtLimit clock v w opened flow begun taken =
    (bytes : List ℕ) × Gives opened flow bytes × (length bytes ≡ session_limit) × IsOpen clock v w begun taken (cut_of bytes).whole

-- the output failed at the replies to the first of the whole lines, or of all lines of an input that was read to its end
abbrev pub IsUnwritten : (ℕ → Bool) → HouseView → HouseView → Option Flow → Option Flow → Option (List ℕ) → Option (List ℕ) → Type 0
IsUnwritten clock v w opened flow begun taken =
    (bytes : List ℕ) × Gives opened flow bytes
    × (((length bytes ≤ session_limit) × IsCutOff clock v w begun taken bytes (cut_of bytes).whole)
    ⊎ (IsAtEnd flow × (length bytes < session_limit) × IsCutOff clock v w begun taken bytes (lines_of bytes)))
