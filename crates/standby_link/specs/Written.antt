-- Lines as a wire writes them.
use Rattle.std.specs.Prelude.{◌≡◌, ℕ, ◌<◌, Bool, true, false, List, [], ◌∷◌, ◌++◌, length, Option}
use Rattle.outside.specs.Flow.{Takes}
use Rattle.standby_wire.specs.Lines.{hello_line, next_line, bye_line}
use Rattle.standby.specs.Sent.{Sent}
use Rattle.standby.specs.declared.peer.Said.{Said}
use Rattle.standby.specs.declared.peer.Said.TheVariants.{Hello, Next, Bye}
use Rattle.standby_link.specs.declared.login.Login.{Login}

-- the text of a line
abbrev pub line_text : Login → Said → List ℕ
line_text login Hello = hello_line login.name login.key
line_text login (Next position) = next_line position
line_text login Bye = bye_line

-- the text of the lines that were said
abbrev pub text_of : Login → List Sent → List ℕ
text_of login [] = []
text_of login (sent ∷ others) = line_text login sent.line ++ text_of login others

-- From before to after, the sink took the lines that were said; where one was cut, a front of them that leaves at least a byte out.
abbrev pub Writes : Login → List Sent → Bool → Option (List ℕ) → Option (List ℕ) → Type 0
Writes login said false before after = Takes before after (text_of login said)
Writes login said true before after =
    (front : List ℕ) × (rest : List ℕ) × (text_of login said ≡ front ++ rest) × (0 < length rest) × Takes before after front
