-- Replies that were written whole stay so.
use Rattle.std.proofs.Common.{ℕ, Bool, ◌≤◌, List, [], ◌++◌, false, refl, sym, subst, ap, ◌∙◌, append_assoc, arith}
use Rattle.command_types.specs.declared.ask.Entry.{Entry}
use Rattle.command_types.specs.History.{History}
use Rattle.command_types.specs.Session.{nobody, Standing, IsTalk}
use Rattle.command_types.proofs.TalkFacts.{talk_longer}
use Rattle.session.specs.Serving.{Sight, standing, Grows, AreWithin}

-- a talk in a history that has grown
pub talk_there : (clock : ℕ → Bool) (start old new : Sight) (made : List Entry) (lines : List (List ℕ)) (text : List ℕ) (talked : List Entry) (to : Standing) → Grows old new made →
    IsTalk clock start.seat.figures old.history start.seat.number (standing start nobody false) lines text talked to →
    IsTalk clock start.seat.figures new.history start.seat.number (standing start nobody false) lines text talked to
talk_there clock start old new made lines text talked to g talk =
    let H : History → Type 0 = λ h. IsTalk clock start.seat.figures h start.seat.number (standing start nobody false) lines text talked to in
    subst H (sym g.grown) (talk_longer clock start.seat.figures old.history g.more start.seat.number (standing start nobody false) lines text talked to talk)

-- with more text behind them, of which no less is written
pub within_more : {clock : ℕ → Bool} (start old new : Sight) (made : List Entry) (lines : List (List ℕ)) (text more : List ℕ) (n m : ℕ) → Grows old new made → n ≤ m → AreWithin clock start old lines text n → AreWithin clock start new lines (text ++ more) m
within_more {clock} start old new made lines text more n m g le w = record {
  front = w.front;
  back = w.back ++ more;
  order = ap (λ t. t ++ more) w.order ∙ append_assoc w.front w.back more;
  within = omega (arith, w.within, le);
  made = w.made;
  to = w.to;
  talk = talk_there clock start old new made lines w.front w.made w.to g w.talk;
}

-- where no less is written
pub within_still : {clock : ℕ → Bool} (start now : Sight) (lines : List (List ℕ)) (text : List ℕ) (n m : ℕ) → n ≤ m → AreWithin clock start now lines text n → AreWithin clock start now lines text m
within_still start now lines text n m le w = record {
  front = w.front;
  back = w.back;
  order = w.order;
  within = omega (arith, w.within, le);
  made = w.made;
  to = w.to;
  talk = w.talk;
}

-- before the first line
pub within_none : {clock : ℕ → Bool} (start : Sight) (n : ℕ) → AreWithin clock start start [] [] n
within_none start n = record { front = []; back = []; order = refl; within = omega arith; made = []; to = standing start nobody false; talk = (refl, refl, refl) }
