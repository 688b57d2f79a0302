-- What was written where a standby has all that its primary had.
use Rattle.std.proofs.Common.{◌≡◌, ℕ, ◌-◌, false, List, [], ◌∷◌, ◌++◌, map, Option, refl, sym, ap, ◌∙◌, subst}
use Rattle.outside.specs.Flow.{Takes}
use Rattle.outside.proofs.FlowFacts.{takes_both}
use Rattle.command_types.specs.History.{end_of}
use Rattle.standby.specs.Ending.{line_of, nexts}
use Rattle.standby.specs.Sent.{Sent}
use Rattle.standby.specs.declared.peer.Said.{Said}
use Rattle.standby_wire.specs.Lines.{hello_line}
use Rattle.standby_link.specs.Talk.{CaughtUpText, lines_text, whole_talk}
use Rattle.standby_link.specs.Written.{line_text, text_of, Writes}
use Rattle.standby_link.specs.declared.login.Login.{Login}

-- the text of what was said is that of its lines
text_lines : (login : Login) (said : List Sent) → text_of login said ≡ lines_text login (map line_of said)
text_lines login [] = refl
text_lines login (sent ∷ others) = ap (λ t. line_text login sent.line ++ t) (text_lines login others)

pub caught_text : CaughtUpText
caught_text login first now old new f =
    let g = f.greeted in
    let uncut : Writes g.wire.start.login g.wire.said false g.wire.start.taken g.wire.taken =
    subst (λ c. Writes g.wire.start.login g.wire.said c g.wire.start.taken g.wire.taken) g.cut g.is.writes in
    let by_login : Takes g.wire.start.taken g.wire.taken (text_of login g.wire.said) = subst (λ (l : Login). Takes g.wire.start.taken g.wire.taken (text_of l g.wire.said)) g.party uncut in
    let nexts_said : List Said = nexts (end_of old.history) (end_of new.history - end_of old.history) in
    let lines : text_of login g.wire.said ≡ lines_text login (map line_of f.asked ++ whole_talk old new) =
    text_lines login g.wire.said ∙ ap (lines_text login) (f.lines.says ∙ ap (λ (last : List Said). map line_of f.asked ++ (nexts_said ++ last)) f.lines.are_last) in
    let all : Takes first.taken g.wire.taken (hello_line login.name login.key ++ text_of login g.wire.said) =
    takes_both first.taken g.wire.start.taken g.wire.taken (hello_line login.name login.key) (text_of login g.wire.said) g.greets by_login in
    subst (λ (t : Option (List ℕ)). Takes first.taken t (hello_line login.name login.key ++ lines_text login (map line_of f.asked ++ whole_talk old new))) (sym g.taken)
    (subst (λ t. Takes first.taken g.wire.taken (hello_line login.name login.key ++ t)) lines all)
