-- The whole talk of a standby that has all that its primary had.
use Rattle.std.specs.Prelude.{ℕ, ◌-◌, List, [], ◌∷◌, ◌++◌, map}
use Rattle.command_types.specs.History.{end_of}
use Rattle.outside.specs.Flow.{Takes}
use Rattle.house.specs.House.{HouseView}
use Rattle.standby_wire.specs.Lines.{hello_line}
use Rattle.standby.specs.Ending.{line_of, nexts}
use Rattle.standby.specs.declared.follow.FollowEnd.TheVariants.{Caught}
use Rattle.standby.specs.declared.peer.Said.{Said}
use Rattle.standby.specs.declared.peer.Said.TheVariants.{Next, Bye}
use Rattle.standby_link.specs.Followed.{Streams, Followed}
use Rattle.standby_link.specs.Written.{line_text}
use Rattle.standby_link.specs.declared.login.Login.{Login}

-- the text of some lines
abbrev pub lines_text : Login → List Said → List ℕ
lines_text login [] = []
lines_text login (line ∷ lines) = line_text login line ++ lines_text login lines

-- the lines of following from the end of one history to that of a later one, where there is no more
abbrev pub whole_talk : HouseView → HouseView → List Said
whole_talk old new = nexts (end_of old.history) (end_of new.history - end_of old.history) ++ Next (end_of new.history) ∷ Bye ∷ []

-- A standby that has all that its primary had wrote HELLO, the question for its last entry if it compares, a NEXT for each length that its history had in turn, and BYE.
abbrev pub CaughtUpText : Type 0
CaughtUpText =
    (login : Login) (first now : Streams) (old new : HouseView) (f : Followed login first now old new Caught)
    → Takes first.taken now.taken (hello_line login.name login.key ++ lines_text login (map line_of f.asked ++ whole_talk old new))
