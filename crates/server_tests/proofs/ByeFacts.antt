-- BYE is answered, whatever the desk was when it was made and whichever seat says it.
use Rattle.std.proofs.Common.{refl, arith, inl, inr, ℕ, true, false, List, [], ◌∷◌, None}
use Rattle.std.specs.Fmt.{digits}
use Rattle.command_types.specs.declared.answer.Answer.TheVariants.{Bye as Left}
use Rattle.command_types.specs.declared.answer.Reply.{Reply}
use Rattle.command_types.specs.declared.ask.Ask.{Ask}
use Rattle.command_types.specs.declared.ask.What.TheVariants.{Bye}
use Rattle.command_types.specs.declared.figures.Figures.{Figures}
use Rattle.command_types.specs.Session.{Standing, mark_of, nobody, IsAsked, IsAnswered, IsTalk}
use Rattle.server_tests.specs.Premises.{clock, replied, first_history}

-- before the line, and after it
abbrev pub at_first : Standing
at_first = record { position = 0; speaker = nobody; stopped = false; over = false }

abbrev pub gone : Standing
gone = record at_first { over = true }

abbrev pub line : List ℕ
line = 66 ∷ 89 ∷ 69 ∷ []

abbrev ask : Ask
ask = record { by = None; what = Bye; moment = 0 }

abbrev reply : Reply
reply = record { at = 0; answer = Left }

module _ (figures : Figures) (seat : ℕ) where
  asked : IsAsked clock figures first_history seat (mark_of at_first) ask reply [] (mark_of gone)
  asked = record {
    before = false;
    time = record { now = 0; told = refl; same = omega arith };
    told = record { front = []; back = []; split = refl; place = refl; one = inr (inl (record { no_change = refl; same = refl })) };
    later = omega arith;
    known = λ x. cc;
    stays = λ x. cc;
    runs = λ x. refl;
    keeps = refl;
    position = refl;
  }

  answered : IsAnswered clock figures first_history seat at_first line replied [] gone
  unfolding digits
  answered = record { reply = reply; open_yet = refl; replied = (0, asked); text = refl; speaker = refl; over = refl }

  pub talk : IsTalk clock figures first_history seat at_first (line ∷ []) replied [] gone
  talk = (gone, replied, [], [], [], answered, refl, refl, (refl, refl, refl))
