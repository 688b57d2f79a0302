-- Commands that are answered in turn, and one more.
use Rattle.std.proofs.Common.{◌≡◌, ℕ, ◌+◌, ◌<◌, Bool, List, [], ◌∷◌, ◌++◌, length, get_or, drop, set, refl, sym, ap, ◌∙◌, subst, arith}
use Rattle.std.proofs.lemmas.List.{get_or-drop, drop-set-lt, drop_more}
use Rattle.command_types.specs.declared.ask.Entry.{Entry}
use Rattle.command_types.specs.declared.answer.Reply.{Reply}
use Rattle.command_types.specs.declared.figures.Figures.{Figures}
use Rattle.command_types.specs.History.{History}
use Rattle.command_types.specs.InTurn.{AreToldInTurn, IsToldNext}

-- one more is answered behind them
pub told_more : (figures : Figures) (before mid after : Bool) (h middle next : History) (commands : List Entry) (replies : List Reply) (command : Entry) (reply : Reply)
    → AreToldInTurn figures before mid h commands replies middle → IsToldNext figures mid after middle command reply next → AreToldInTurn figures before after h (commands ++ command ∷ []) (replies ++ reply ∷ []) next
told_more figures before mid after h middle next [] [] command reply told one =
    (next, after, subst (λ (x : History × Bool). IsToldNext figures x.1 after x.0 command reply next) (λ i. (told.0 i, told.1 i)) one, (refl, refl))
told_more figures before mid after h middle next [] (r ∷ replies) command reply told one = absurd told
told_more figures before mid after h middle next (c ∷ commands) [] command reply told one = absurd told
told_more figures before mid after h middle next (c ∷ commands) (r ∷ replies) command reply told one =
    (told.0, told.1, told.2, told_more figures told.1 mid after told.0 middle next commands replies command reply told.3 one)

-- the command that is taken next is as it came
pub same_next : (old now : List Entry) (i : ℕ) (d : Entry) → drop i now ≡ drop i old → get_or now i d ≡ get_or old i d
same_next old now i d same =
    let here : i + 0 ≡ i = omega arith in
    sym (ap (λ (k : ℕ). get_or now k d) here) ∙ (sym (get_or-drop i now 0 d) ∙ (ap (λ (xs : List Entry). get_or xs 0 d) same ∙ (get_or-drop i old 0 d ∙ ap (λ (k : ℕ). get_or old k d) here)))

-- and those behind it stay
pub rest_next : (old now : List Entry) (i : ℕ) (d : Entry) → i < length now → length now ≡ length old → drop i now ≡ drop i old → drop (i + 1) (set now i d) ≡ drop (i + 1) old
rest_next old now i d lt long same =
    let both : get_or now i d ∷ drop (i + 1) now ≡ get_or old i d ∷ drop (i + 1) old = sym (drop_more now i d lt) ∙ (same ∙ drop_more old i d (omega arith)) in
    let tail : drop (i + 1) now ≡ drop (i + 1) old = cc in
    drop-set-lt (i + 1) now i d (omega arith) ∙ tail
