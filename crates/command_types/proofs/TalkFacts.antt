-- Sessions that go on by one more line.
use Rattle.std.proofs.Common.{ℕ, Bool, List, [], ◌∷◌, ◌++◌, Option, Result, Ok, refl, sym, ap, ◌∙◌, append_assoc, inl, inr}
use Rattle.std.proofs.lemmas.List.{append-nil}
use Rattle.command_types.specs.declared.ask.Ask.{Ask}
use Rattle.command_types.specs.declared.ask.Entry.{Entry}
use Rattle.command_types.specs.declared.answer.Answer.{Answer}
use Rattle.command_types.specs.declared.answer.Answer.TheVariants.{Begun, Problems}
use Rattle.command_types.specs.declared.answer.Reply.{Reply}
use Rattle.command_types.specs.declared.figures.Figures.{Figures}
use Rattle.command_types.specs.declared.line.Line.{Line}
use Rattle.command_types.specs.declared.line.Line.TheVariants.{Propose}
use Rattle.command_types.specs.Roster.{Rows}
use Rattle.command_types.specs.History.{History, longer}
use Rattle.command_types.specs.Grammar.{line_within}
use Rattle.command_types.specs.Session.{Speaker, Standing, Mark, mark_of, IsAsked, GoesOnFetched, GoesOnBegun, IsReplied, IsAnswered, IsTalk, ask_begin, ask_fetch, ask_post}
use Rattle.command_types.proofs.HistoryFacts.{told_longer}

-- what is asked in a history is asked in a longer one
pub asked_longer : (clock : ℕ → Bool) (figures : Figures) (h : History) (more : List Entry) (seat : ℕ) (from : Mark) (ask : Ask) (reply : Reply) (made : List Entry) (to : Mark) →
    IsAsked clock figures h seat from ask reply made to → IsAsked clock figures (longer h more) seat from ask reply made to
asked_longer clock figures h more seat from ask reply made to a = record {
  time = a.time;
  before = a.before;
  told = told_longer figures a.before to.stopped h more seat ask reply a.told;
  later = a.later;
  known = a.known;
  stays = a.stays;
  runs = a.runs;
  keeps = a.keeps;
  position = a.position;
}

fetched_on_longer : (answer : Answer) (clock : ℕ → Bool) (figures : Figures) (h : History) (more : List Entry) (seat : ℕ) (mid : Mark) (by : Option (List ℕ)) (cycle version begun_at : ℕ) (fetched reply : Reply) (made : List Entry) (to : Mark) →
    GoesOnFetched answer clock figures h seat mid by cycle version begun_at fetched reply made to → GoesOnFetched answer clock figures (longer h more) seat mid by cycle version begun_at fetched reply made to
fetched_on_longer (Problems problems) clock figures h more seat mid by cycle version begun_at fetched reply made to (inl unsolved) = inl unsolved
fetched_on_longer (Problems problems) clock figures h more seat mid by cycle version begun_at fetched reply made to (inr p) =
    inr (record { solutions = p.solutions; solved = p.solved; moment = p.moment; asked = asked_longer clock figures h more seat mid (ask_post by cycle version p.solutions p.moment) reply made to p.asked })
fetched_on_longer answer clock figures h more seat mid by cycle version begun_at fetched reply made to last = last

begun_on_longer : (answer : Answer) (clock : ℕ → Bool) (figures : Figures) (h : History) (more : List Entry) (seat : ℕ) (mid : Mark) (by : Option (List ℕ)) (cycle : ℕ) (begun reply : Reply) (made : List Entry) (to : Mark) →
    GoesOnBegun answer clock figures h seat mid by cycle begun reply made to → GoesOnBegun answer clock figures (longer h more) seat mid by cycle begun reply made to
begun_on_longer (Begun number version) clock figures h more seat mid by cycle begun reply made to f = record {
  fetched = f.fetched;
  mid = f.mid;
  first = f.first;
  others = f.others;
  moment = f.moment;
  asked = asked_longer clock figures h more seat mid (ask_fetch by cycle version f.moment) f.fetched f.first f.mid f.asked;
  goes_on = fetched_on_longer f.fetched.answer clock figures h more seat f.mid by cycle version begun.at f.fetched reply f.others to f.goes_on;
  order = f.order;
}
begun_on_longer answer clock figures h more seat mid by cycle begun reply made to last = last

replied_longer : (clock : ℕ → Bool) (figures : Figures) (h : History) (more : List Entry) (seat : ℕ) (from : Mark) (rows : Rows) (speaker : Speaker) (read : Result Line ℕ) (reply : Reply) (made : List Entry) (to : Mark) →
    IsReplied clock figures h seat from rows speaker read reply made to → IsReplied clock figures (longer h more) seat from rows speaker read reply made to
replied_longer clock figures h more seat from rows speaker (Ok (Propose cycle mode)) reply made to p = record {
  begun = p.begun;
  mid = p.mid;
  first = p.first;
  others = p.others;
  moment = p.moment;
  asked = asked_longer clock figures h more seat from (ask_begin speaker.party cycle mode p.moment) p.begun p.first p.mid p.asked;
  goes_on = begun_on_longer p.begun.answer clock figures h more seat p.mid speaker.party cycle p.begun reply p.others to p.goes_on;
  order = p.order;
}
replied_longer clock figures h more seat from rows speaker read reply made to a = (a.0, asked_longer clock figures h more seat from _ reply made to a.1)

-- what is answered in a history is answered in a longer one
pub answered_longer : (clock : ℕ → Bool) (figures : Figures) (h : History) (more : List Entry) (seat : ℕ) (from : Standing) (line head : List ℕ) (first : List Entry) (to : Standing) →
    IsAnswered clock figures h seat from line head first to → IsAnswered clock figures (longer h more) seat from line head first to
answered_longer clock figures h more seat from line head first to a = record {
  reply = a.reply;
  open_yet = a.open_yet;
  replied = replied_longer clock figures h more seat (mark_of from) h.base.state.roster from.speaker (line_within line) a.reply first (mark_of to) a.replied;
  text = a.text;
  speaker = a.speaker;
  over = a.over;
}

pub talk_longer : (clock : ℕ → Bool) (figures : Figures) (h : History) (more : List Entry) (seat : ℕ) (from : Standing) (lines : List (List ℕ)) (text : List ℕ) (made : List Entry) (to : Standing) →
    IsTalk clock figures h seat from lines text made to → IsTalk clock figures (longer h more) seat from lines text made to
talk_longer clock figures h more seat from [] text made to t = t
talk_longer clock figures h more seat from (line ∷ lines) text made to (next, head, rest, first, others, answered, is_text, is_made, talk) = (
  next,
  head,
  rest,
  first,
  others,
  answered_longer clock figures h more seat from line head first next answered,
  is_text,
  is_made,
  talk_longer clock figures h more seat next lines rest others to talk,
)

talk_one : (clock : ℕ → Bool) (figures : Figures) (h : History) (seat : ℕ) (from : Standing) (line head : List ℕ) (first : List Entry) (to : Standing) →
    IsAnswered clock figures h seat from line head first to → IsTalk clock figures h seat from (line ∷ []) head first to
talk_one clock figures h seat from line head first to a =
    (to, head, [], first, [], a, sym (append-nil head), sym (append-nil first), (refl, refl, refl))

-- one more line at the end
pub talk_on : (clock : ℕ → Bool) (figures : Figures) (h : History) (seat : ℕ) (from : Standing) (lines : List (List ℕ)) (text : List ℕ) (made : List Entry) (mid : Standing) (line head : List ℕ) (first : List Entry) (to : Standing) →
    IsTalk clock figures h seat from lines text made mid → IsAnswered clock figures h seat mid line head first to →
    IsTalk clock figures h seat from (lines ++ line ∷ []) (text ++ head) (made ++ first) to
talk_on clock figures h seat from [] text made mid line head first to (no_text, no_made, same) a =
    rw (no_text, no_made) (talk_one clock figures h seat from line head first to (rw same at a))
talk_on clock figures h seat from (l ∷ lines) text made mid line head first to (next, own, rest, one, others, answered, is_text, is_made, talk) a = (
  next,
  own,
  rest ++ head,
  one,
  others ++ first,
  answered,
  ap (λ v. v ++ head) is_text ∙ append_assoc own rest head,
  ap (λ v. v ++ first) is_made ∙ append_assoc one others first,
  talk_on clock figures h seat next lines rest others mid line head first to talk a,
)
