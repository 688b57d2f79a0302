-- Histories that grow.
use Rattle.std.proofs.Common.{◌≡◌, ℕ, Bool, List, [], ◌∷◌, ◌++◌, sym, ap, inl, inr, ◌∙◌, append_assoc}
use Rattle.std.proofs.lemmas.List.{append-nil}
use Rattle.std.proofs.lemmas.List.Sums.{fold-append}
use Rattle.command_types.specs.declared.ask.Ask.{Ask}
use Rattle.command_types.specs.declared.ask.Entry.{Entry}
use Rattle.command_types.specs.declared.answer.Reply.{Reply}
use Rattle.command_types.specs.declared.figures.Figures.{Figures}
use Rattle.command_types.specs.declared.figures.State.{State}
use Rattle.command_types.specs.Machine.{state_after}
use Rattle.command_types.specs.History.{History, IsAcceptedIn, IsLegalFrom, end_of, longer, replayed_from}
use Rattle.command_types.specs.Told.{IsTold, IsNotRecorded, IsMemory}

-- the state after one more change
pub replayed_on : (s : State) (es : List Entry) (entry : Entry) → replayed_from s (es ++ entry ∷ []) ≡ state_after (replayed_from s es) entry.ask
replayed_on s es entry = fold-append (λ state e. state_after state e.ask) s es (entry ∷ [])

-- a legal history goes on by a change that the machine accepts
pub legal_on : (s : State) (es : List Entry) (entry : Entry) → IsLegalFrom s es → IsAcceptedIn (replayed_from s es) entry → IsLegalFrom s (es ++ entry ∷ [])
legal_on s [] entry legal here = (here, tt)
legal_on s (e ∷ es) entry (now, later) here = (now, legal_on (state_after s e.ask) es entry later here)

-- what is told in a history is told in a longer one
pub told_longer : (figures : Figures) (before after : Bool) (h : History) (more : List Entry) (seat : ℕ) (ask : Ask) (reply : Reply) →
    IsTold figures before after h seat ask reply → IsTold figures before after (longer h more) seat ask reply
told_longer figures before after h more seat ask reply t = record {
  front = t.front;
  back = t.back ++ more;
  split = ap (λ es. es ++ more) t.split ∙ append_assoc t.front t.back more;
  place = t.place;
  one = t.one;
}

-- a read or a refusal of the machine, told at the history's end
pub told_read : (figures : Figures) (before after : Bool) (h : History) (seat : ℕ) (ask : Ask) (reply : Reply) → reply.at ≡ end_of h →
    IsNotRecorded h.base h.entries ask reply.answer → IsTold figures before after h seat ask reply
told_read figures before after h seat ask reply place here =
    record { front = h.entries; back = []; split = sym (append-nil h.entries); place = place; one = inr (inl here) }

-- want of memory, told at the history's end
pub told_memory : (figures : Figures) (before after : Bool) (h : History) (seat : ℕ) (ask : Ask) (reply : Reply) → reply.at ≡ end_of h →
    IsMemory figures ask.what reply.answer → IsTold figures before after h seat ask reply
told_memory figures before after h seat ask reply place is =
    record { front = h.entries; back = []; split = sym (append-nil h.entries); place = place; one = inr (inr (inr is)) }
