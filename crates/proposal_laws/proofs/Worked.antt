-- A PROPOSE in small histories, worked by hand.
use Rattle.std.proofs.Common.{◌≡◌, ℕ, true, false, List, [], ◌∷◌, Some, refl, sym, inl, inr, arith}
use Rattle.std.specs.Fmt.{digits}
use Rattle.std.proofs.lemmas.List.{append-nil}
use Rattle.std.proofs.lemmas.List.Elements.{All-cons, All-nil}
use Rattle.command_types.specs.declared.ask.Entry.{Entry}
use Rattle.command_types.specs.declared.ask.What.TheVariants.{Begin, Post, Cancel}
use Rattle.command_types.specs.declared.answer.Answer.{Answer}
use Rattle.command_types.specs.declared.answer.Answer.TheVariants.{Begun, Nothing, Problems, No}
use Rattle.command_types.specs.declared.answer.Reply.{Reply}
use Rattle.command_types.specs.declared.cycle.Mode.TheVariants.{Conservative}
use Rattle.command_types.specs.declared.cycle.Phase.TheVariants.{None as NoPhase}
use Rattle.command_types.specs.declared.refusal.Refusal.{Refusal}
use Rattle.command_types.specs.declared.refusal.Refusal.TheVariants.{WrongPhase, WrongVersion}
use Rattle.command_types.specs.Machine.{answer_to}
use Rattle.command_types.specs.History.{History, longer, replayed, entries_of_seat}
use Rattle.command_types.specs.Grammar.{line_within}
use Rattle.command_types.specs.Details.{reply_text}
use Rattle.command_types.specs.Session.{Standing, Mark, IsAsked, IsProposed, IsAnswered, speaker_after, is_bye, ask_begin, ask_fetch, ask_post}
use Rattle.proposal_laws.specs.Laws.{is_overtaken}
use Rattle.proposal_laws.specs.Texts.{IsPlain}
use Rattle.proposal_laws.specs.Examples.{name_ops, change, history_of, figures_of, at_0, greeted, posted, cancelled, begun_by_two, propose_line, IsProposedIn, IsOvertakenIn, nothing_text, phase_text, version_text, frozen, begin_line, begun_text, IsBegunAlone}

abbrev at : ℕ → Mark
at n = record { position = n; stopped = false }

abbrev told : ℕ → Answer → Reply
told n answer = record { at = n; answer = answer }

abbrev begin : Entry
begin = change 0 (Begin 1 Conservative)

-- the history goes on by this change behind the BEGIN
abbrev then : Entry → History
then e = history_of (begin ∷ e ∷ [])

begun : (e : Entry) → IsAsked at_0 (figures_of (then e)) (then e) 0 (at 1) (ask_begin (Some name_ops) 1 Conservative 0) (told 2 (Begun 1 1)) (begin ∷ []) (at 2)
begun e = record {
  time = record { now = 0; told = refl; same = refl };
  before = false;
  told = record {
    front = begin ∷ [];
    back = e ∷ [];
    split = refl;
    place = refl;
    one = inl (record { before = []; last = refl; change = refl; same = refl });
  };
  later = omega arith;
  known = λ x. cc;
  stays = λ x. cc;
  runs = λ x. refl;
  keeps = refl;
  position = refl;
}

fetched : IsAsked at_0 (figures_of posted) posted 0 (at 2) (ask_fetch (Some name_ops) 1 1 0) (told 2 (Problems [])) [] (at 2)
fetched = record {
  time = record { now = 0; told = refl; same = refl };
  before = false;
  told = record {
    front = begin ∷ [];
    back = change 0 (Post 1 1 []) ∷ [];
    split = refl;
    place = refl;
    one = inr (inl (record { no_change = refl; same = refl }));
  };
  later = omega arith;
  known = λ x. cc;
  stays = λ x. cc;
  runs = λ x. refl;
  keeps = refl;
  position = refl;
}

closes : IsAsked at_0 (figures_of posted) posted 0 (at 2) (ask_post (Some name_ops) 1 1 [] 0) (told 3 (Nothing 1 1)) (change 0 (Post 1 1 []) ∷ []) (at 3)
closes = record {
  time = record { now = 0; told = refl; same = refl };
  before = false;
  told = record {
    front = begin ∷ change 0 (Post 1 1 []) ∷ [];
    back = [];
    split = refl;
    place = refl;
    one = inl (record { before = begin ∷ []; last = refl; change = refl; same = refl });
  };
  later = omega arith;
  known = λ x. cc;
  stays = λ x. cc;
  runs = λ x. refl;
  keeps = refl;
  position = refl;
}

refused : (e : Entry) (refusal : Refusal) → No refusal ≡ answer_to (replayed (then e)) (ask_fetch (Some name_ops) 1 1 0) →
    IsAsked at_0 (figures_of (then e)) (then e) 0 (at 2) (ask_fetch (Some name_ops) 1 1 0) (told 3 (No refusal)) [] (at 3)
refused e refusal same = record {
  time = record { now = 0; told = refl; same = refl };
  before = false;
  told = record {
    front = begin ∷ e ∷ [];
    back = [];
    split = refl;
    place = refl;
    one = inr (inl (record { no_change = refl; same = same }));
  };
  later = omega arith;
  known = λ x. cc;
  stays = λ x. cc;
  runs = λ x. cc;
  keeps = refl;
  position = refl;
}

abbrev at_end : Standing
at_end = record greeted { position = 3 }

-- the one line is answered
abbrev answered : (h : History) (text : List ℕ) (reply : Reply) (made : List Entry) → IsProposed at_0 (figures_of h) h 0 (at 1) (Some name_ops) 1 Conservative reply made (at 3) →
    text ≡ reply_text h.base.state.roster reply → at_end.speaker ≡ speaker_after greeted.speaker (line_within propose_line) reply.answer → false ≡ is_bye reply.answer →
    IsAnswered at_0 (figures_of h) h 0 greeted propose_line text made at_end
answered h text reply made proposed is_text speaker over = record { reply = reply; open_yet = refl; replied = proposed; text = is_text; speaker = speaker; over = over }

abbrev session : (h : History) (text : List ℕ) (made : List Entry) → IsAnswered at_0 (figures_of h) h 0 greeted propose_line text made at_end → made ≡ entries_of_seat h 0 1 → IsProposedIn h text
session h text made a own = record { made = made; to = at_end; talk = (at_end, text, [], made, [], a, sym (append-nil text), sym (append-nil made), (refl, refl, refl)); own = own }

pub is_posted : IsProposedIn posted nothing_text
unfolding digits
is_posted =
    session posted nothing_text (begin ∷ change 0 (Post 1 1 []) ∷ []) (answered posted nothing_text (told 3 (Nothing 1 1)) (begin ∷ change 0 (Post 1 1 []) ∷ []) (record {
      begun = told 2 (Begun 1 1);
      mid = at 2;
      first = begin ∷ [];
      others = change 0 (Post 1 1 []) ∷ [];
      moment = 0;
      asked = begun (change 0 (Post 1 1 []));
      goes_on = record {
        fetched = told 2 (Problems []);
        mid = at 2;
        first = [];
        others = change 0 (Post 1 1 []) ∷ [];
        moment = 0;
        asked = fetched;
        goes_on = inr (record { solutions = []; solved = tt; moment = 0; asked = closes });
        order = refl;
      };
      order = refl;
    }) refl refl refl) refl

-- a PROPOSE whose FETCH is refused
abbrev refused_at : (e : Entry) (refusal : Refusal) → No refusal ≡ answer_to (replayed (then e)) (ask_fetch (Some name_ops) 1 1 0) → IsProposed at_0 (figures_of (then e)) (then e) 0 (at 1) (Some name_ops) 1 Conservative (told 3 (No refusal)) (begin ∷ []) (at 3)
refused_at e refusal same = record {
  begun = told 2 (Begun 1 1);
  mid = at 2;
  first = begin ∷ [];
  others = [];
  moment = 0;
  asked = begun e;
  goes_on = record { fetched = told 3 (No refusal); mid = at 3; first = []; others = []; moment = 0; asked = refused e refusal same; goes_on = (refl, refl, refl); order = refl };
  order = refl;
}

is_overtaken_in : (e : Entry) (refusal : Refusal) (text : List ℕ) → No refusal ≡ answer_to (replayed (then e)) (ask_fetch (Some name_ops) 1 1 0) → text ≡ reply_text (then e).base.state.roster (told 3 (No refusal)) →
    begin ∷ [] ≡ entries_of_seat (then e) 0 1 → is_overtaken refusal ≡ true → IsOvertakenIn (then e) text
is_overtaken_in e refusal text same is_text own kind =
    let a = answered (then e) text (told 3 (No refusal)) (begin ∷ []) (refused_at e refusal same) is_text refl refl in
    record {
      session = session (then e) text (begin ∷ []) a own;
      turn = record { from = greeted; line = propose_line; text = text; made = begin ∷ []; to = at_end; answered = a };
      only = refl;
      begun = told 2 (Begun 1 1);
      began = refl;
      overtaken = record { number = 1; version = 1; accepted = refl; refusal = refusal; overtaken = kind; refused = refl };
    }

pub is_cancelled : IsOvertakenIn cancelled phase_text
unfolding digits
is_cancelled = is_overtaken_in (change 1 (Cancel 1)) (WrongPhase NoPhase) phase_text refl refl refl refl

pub is_begun_by_two : IsOvertakenIn begun_by_two version_text
unfolding digits
is_begun_by_two = is_overtaken_in (change 1 (Begin 1 Conservative)) (WrongVersion 2) version_text refl refl refl refl

begins : IsAsked at_0 (figures_of frozen) (longer frozen (begin ∷ [])) 0 (at 1) (ask_begin (Some name_ops) 1 Conservative 0) (told 2 (Begun 1 1)) (begin ∷ []) (at 2)
begins = record {
  time = record { now = 0; told = refl; same = refl };
  before = false;
  told = record {
    front = begin ∷ [];
    back = [];
    split = refl;
    place = refl;
    one = inl (record { before = []; last = refl; change = refl; same = refl });
  };
  later = omega arith;
  known = λ x. cc;
  stays = λ x. cc;
  runs = λ x. refl;
  keeps = refl;
  position = refl;
}

abbrev at_two : Standing
at_two = record greeted { position = 2 }

-- a BEGIN with which all premises of the law on a script's text are met
pub is_begun_alone : IsBegunAlone begun_text
unfolding digits
is_begun_alone =
    let a : IsAnswered at_0 (figures_of frozen) (longer frozen (begin ∷ [])) 0 greeted begin_line begun_text (begin ∷ []) at_two =
    record { reply = told 2 (Begun 1 1); open_yet = refl; replied = (0, begins); text = refl; speaker = refl; over = refl } in
    record {
      made = begin ∷ [];
      to = at_two;
      talk = (at_two, begun_text, [], begin ∷ [], [], a, sym (append-nil begun_text), refl, (refl, refl, refl));
      plain = All-cons IsPlain (record { from = greeted; line = begin_line; text = begun_text; made = begin ∷ []; to = at_two; answered = a }) [] (refl, refl) (All-nil IsPlain);
    }
