-- The reply to a line is right in what its session has seen by then.
use Rattle.std.proofs.Common.{◌≡◌, ℕ, Bool, false, List, Option, Result, Ok, refl, sym, subst, ◌∙◌, inl, inr}
use Rattle.std.proofs.lemmas.Bool.{false≢true}
use Rattle.command_types.specs.declared.ask.Ask.{Ask}
use Rattle.command_types.specs.declared.ask.Entry.{Entry}
use Rattle.command_types.specs.declared.answer.Answer.{Answer}
use Rattle.command_types.specs.declared.answer.Answer.TheVariants.{Begun, Problems, No}
use Rattle.command_types.specs.declared.answer.Reply.{Reply}
use Rattle.command_types.specs.declared.figures.Figures.{Figures}
use Rattle.command_types.specs.declared.line.Line.{Line}
use Rattle.command_types.specs.declared.line.Line.TheVariants.{Propose}
use Rattle.command_types.specs.declared.refusal.Refusal.TheVariants.{Memory}
use Rattle.command_types.specs.Roster.{Rows}
use Rattle.command_types.specs.History.{History}
use Rattle.command_types.specs.Told.{is_accept, IsTold}
use Rattle.command_types.specs.Grammar.{line_within}
use Rattle.command_types.specs.Session.{Speaker, Mark, IsAsked, IsLast, GoesOnFetched, GoesOnBegun, IsReplied, ask_begin, ask_fetch, ask_post}
use Rattle.session.specs.Given.{IsRight, IsGiven}
use Rattle.session.specs.Serving.{Seat, Sight, mark, roster_of, Answers}

module _ (figures : Figures) (h : History) (seat : ℕ) where
  -- a command that was asked is answered right
  right_asked : {clock : ℕ → Bool} (from : Mark) (ask : Ask) (reply : Reply) (made : List Entry) (to : Mark) → IsAsked clock figures h seat from ask reply made to → IsRight figures h seat reply
  right_asked from ask reply made to a = (ask, a.before, to.stopped, a.told)

  -- so is the last one, after which nothing more is asked
  right_last : (last : Reply) (mid : Mark) (reply : Reply) (made : List Entry) (to : Mark) → IsRight figures h seat last → IsLast last mid reply made to → IsRight figures h seat reply
  right_last last mid reply made to right (same, none, stays) = subst (IsRight figures h seat) (sym same) right

  -- want of memory is right wherever another reply to a command is that gives no vote
  right_memory : (ask : Ask) (before after : Bool) (reply : Reply) → is_accept ask.what ≡ false → IsTold figures before after h seat ask reply → IsRight figures h seat (record { at = reply.at; answer = No Memory })
  right_memory ask before after reply other told =
      (ask, before, after, record { front = told.front; back = told.back; split = told.split; place = told.place; one = inr (inr (inr (record { same = refl; takes = λ e. absurd (false≢true (sym other ∙ e)) }))) })

  right_fetched : (clock : ℕ → Bool) (answer : Answer) (mid : Mark) (by : Option (List ℕ)) (cycle version : ℕ) (begun fetched reply : Reply) (made : List Entry) (to : Mark) → IsRight figures h seat (record { at = begun.at; answer = No Memory }) → IsRight figures h seat fetched →
      GoesOnFetched answer clock figures h seat mid by cycle version begun.at fetched reply made to → IsRight figures h seat reply
  right_fetched clock (Problems problems) mid by cycle version begun fetched reply made to none right (inl unsolved) =
      right_last (record { at = begun.at; answer = No Memory }) mid reply made to none unsolved
  right_fetched clock (Problems problems) mid by cycle version begun fetched reply made to none right (inr p) = right_asked mid (ask_post by cycle version p.solutions p.moment) reply made to p.asked
  right_fetched clock answer mid by cycle version begun fetched reply made to none right last = right_last fetched mid reply made to right last

  right_begun : (clock : ℕ → Bool) (answer : Answer) (mid : Mark) (by : Option (List ℕ)) (cycle : ℕ) (begun reply : Reply) (made : List Entry) (to : Mark) → IsRight figures h seat begun → IsRight figures h seat (record { at = begun.at; answer = No Memory }) →
      GoesOnBegun answer clock figures h seat mid by cycle begun reply made to → IsRight figures h seat reply
  right_begun clock (Begun number version) mid by cycle begun reply made to began none f =
      right_fetched clock f.fetched.answer f.mid by cycle version begun f.fetched reply f.others to none (right_asked mid (ask_fetch by cycle version f.moment) f.fetched f.first f.mid f.asked) f.goes_on
  right_begun clock answer mid by cycle begun reply made to began none last = right_last begun mid reply made to began last

  -- a line's reply is right, the last of a PROPOSE too
  right_replied : (clock : ℕ → Bool) (from : Mark) (rows : Rows) (speaker : Speaker) (read : Result Line ℕ) (reply : Reply) (made : List Entry) (to : Mark) → IsReplied clock figures h seat from rows speaker read reply made to → IsRight figures h seat reply
  right_replied clock from rows speaker (Ok (Propose cycle mode)) reply made to p =
      let ask : Ask = ask_begin speaker.party cycle mode p.moment in
      right_begun clock p.begun.answer p.mid speaker.party cycle p.begun reply p.others to (right_asked from ask p.begun p.first p.mid p.asked)
      (right_memory ask p.asked.before p.mid.stopped p.begun refl p.asked.told) p.goes_on
  right_replied clock from rows speaker read reply made to a = right_asked from _ reply made to a.1

-- after the call a line's reply may be written
pub given_after : {clock : ℕ → Bool} (old new : Sight) (before after : Speaker) (line : List ℕ) (reply : Reply) → Answers clock old new before after line reply → IsGiven new reply
given_after {clock} old new before after line reply a =
    let R : Seat → Type 0 = λ s. IsRight s.figures new.history s.number reply in
    subst R (sym a.grows.seat) (right_replied old.seat.figures new.history old.seat.number clock (mark old) (roster_of old) before (line_within line) reply a.made (mark new) a.replied)
