-- What the program's one session says of its input and its output, over a house.
use Rattle.std.proofs.Common.{◌≡◌, ◌⊎◌, ℕ, Bool, ◌+◌, ◌^◌, ◌≤◌, arith, true, false, List, [], Option, refl, sym, subst, ap, inl, inr, ◌∙◌}
use Rattle.std.proofs.lemmas.List.{append-nil}
use Rattle.outside.specs.Flow.{Flow, IsAtEnd}
use Rattle.command_types.specs.declared.ask.Entry.{Entry}
use Rattle.command_types.specs.declared.figures.Figures.{Figures}
use Rattle.command_types.specs.History.{IsLegal, longer, end_of, entries_of_seat}
use Rattle.command_types.specs.Lines.{cut_of, lines_of}
use Rattle.command_types.specs.Session.{Mark, Standing, IsSession, IsTalk}
use Rattle.cycle_lock.specs.declared.pass.Pass.{Pass}
use Rattle.cycle_lock.specs.Passes as passes
use Rattle.house.specs.House.{HouseView, figures_of, is_stopped}
use Rattle.session.specs.declared.serve.SessionEnd.{SessionEnd}
use Rattle.session.specs.declared.serve.SessionEnd.TheVariants.{Ended, SourceFault, SinkFault, Limit, Memory}
use Rattle.session.specs.Serving.{Seat, Sight, of_pass, Grows, Written, Left}
use Rattle.session.specs.Ending.{CutLate, Ends}
use Rattle.compress_server.specs.Run.{at_first, IsReplied, IsLeft, IsAhead, IsCutOff, IsOpen}
use Rattle.compress_server.specs.Script.{ScriptEnds}
use Rattle.compress_server.proofs.OnlyFacts.{since, seen_all, own_all}

-- what a pass of this lock has seen of a house before the first line
abbrev pub first_sight : passes.LockId → HouseView → Sight
first_sight lock v = record { seat = record { lock = lock; figures = figures_of v; number = 0; splits = 4294967295 }; history = v.history; stopped = false }

-- the first pass of a lock round a house that runs
pub first_at : (v : HouseView) (pass : Pass) → passes.figures_of pass ≡ figures_of v → passes.seat_of pass ≡ 0 → passes.seen pass ≡ v.history → passes.saw_stop pass ≡ false → passes.may_split pass + 1 ≡ 2 ^ 32 → of_pass pass ≡ first_sight (passes.lock_of pass) v
first_at v pass figures number history stop left =
    let splits : passes.may_split pass ≡ 4294967295 = omega arith in
    λ i. record { seat = record { lock = passes.lock_of pass; figures = figures i; number = number i; splits = splits i }; history = history i; stopped = stop i }

-- The house w was given back by the lock, which the house v had gone into. Its history goes on from what was seen, with no further change of the seat. No number that a pass may still have had has a change.
pub record IsClosed (v w : HouseView) (now : Sight) : Type 0 where
  pub rest : List Entry
  pub goes_on : w.history ≡ longer now.history rest
  pub own : entries_of_seat w.history 0 (end_of v.history) ≡ entries_of_seat now.history 0 (end_of v.history)
  pub none : (n : ℕ) → 2 ^ 32 ≤ n + now.seat.splits → entries_of_seat w.history n (end_of v.history) ≡ []
  pub stop : now.stopped ≡ true → is_stopped w ≡ true
  pub lone : now.seat.splits ≡ 4294967295 → is_stopped w ≡ true → now.stopped ≡ true

module _ (lock : passes.LockId) (v w : HouseView) (now : Sight) (closed : IsClosed v w now) where
  module _ (made : List Entry) (g : Grows (first_sight lock v) now made) where
    none_else : (n : ℕ) → 1 ≤ n → entries_of_seat w.history n (end_of v.history) ≡ []
    none_else n up =
        let splits : now.seat.splits ≡ 4294967295 = ap (λ (s : Seat). s.splits) g.seat in
        closed.none n (omega (arith, up, splits))

    seen_whole : w.history ≡ now.history
    seen_whole = seen_all v.history now.history w.history g.more closed.rest g.grown closed.goes_on none_else closed.own

    did_all : g.more ≡ made
    did_all = sym (own_all v.history now.history w.history g.more closed.rest g.grown closed.goes_on none_else closed.own) ∙ g.own

    -- the history has grown by what the session did
    all_made : w.history ≡ longer v.history made
    all_made = seen_whole ∙ g.grown ∙ ap (λ es. longer v.history es) did_all

    -- the session knows a stop of the house
    knows_stop : is_stopped w ≡ true → now.stopped ≡ true
    knows_stop = closed.lone (ap (λ (s : Seat). s.splits) g.seat)

    all_own : made ≡ entries_of_seat w.history 0 (end_of v.history)
    all_own = sym g.own ∙ sym (since v.history w.history g.more 0 (seen_whole ∙ g.grown))

  -- where the session saw nothing new, nothing is new
  stays : now ≡ first_sight lock v → w.history ≡ v.history
  stays there =
      let grows : Grows (first_sight lock v) now [] = record {
        seat = ap (λ (s : Sight). s.seat) there;
        more = [];
        grown = ap (λ (s : Sight). s.history) there ∙ ap (λ es. record v.history { entries = es }) (sym (append-nil v.history.entries));
        own = refl;
        legal = λ legal. subst (λ (s : Sight). IsLegal s.history) (sym there) legal;
      } in
      seen_whole [] grows ∙ ap (λ (s : Sight). s.history) there

  -- a talk of the session is one in the history that was given back
  abbrev session_of : {clock : ℕ → Bool} (lines : List (List ℕ)) (text : List ℕ) (made : List Entry) (to : Standing) → Grows (first_sight lock v) now made → IsTalk clock (figures_of v) now.history 0 (at_first v) lines text made to →
      IsSession clock (figures_of v) w.history 0 (at_first v) lines text
  session_of {clock = clock} lines text made to grows talk = record {
    made = made;
    to = to;
    talk = subst (λ h. IsTalk clock (figures_of v) h 0 (at_first v) lines text made to) (sym (seen_whole made grows)) talk;
    own = all_own made grows;
  }

  module _ (begun taken : Option (List ℕ)) where
    abbrev replied : {clock : ℕ → Bool} (lines : List (List ℕ)) → Written clock (first_sight lock v) begun taken now lines → IsReplied clock v w begun taken lines
    replied lines r = record {
      text = r.text;
      session = session_of lines r.text r.made r.to r.grows r.talk;
      all = all_made r.made r.grows;
      stops = λ stopped. closed.stop (sym (ap (λ (m : Mark). m.stopped) r.there) ∙ stopped);
      known = λ stopped. ap (λ (m : Mark). m.stopped) r.there ∙ knows_stop r.made r.grows stopped;
      took = r.took;
    }

    open_replied : {clock : ℕ → Bool} (lines : List (List ℕ)) (r : Written clock (first_sight lock v) begun taken now lines) → r.to.over ≡ false → IsOpen clock v w begun taken lines
    open_replied lines r e = (replied lines r, e)

    left_replied : {clock : ℕ → Bool} (lines : List (List ℕ)) → Left clock (first_sight lock v) begun taken now lines → IsLeft clock v w begun taken lines
    left_replied lines l = record {
      said = l.said;
      others = l.others;
      order = l.order;
      replied = replied l.said l.written;
      over = l.over;
    }

    ahead_of : {clock : ℕ → Bool} (bytes : List ℕ) (lines : List (List ℕ)) (r : CutLate clock (first_sight lock v) begun taken now bytes lines) → IsAhead clock v w bytes r.cut.text r.cut.took.0
    ahead_of {clock = clock} bytes lines r = record {
      early = r.early;
      late = r.late;
      split = r.split;
      few = r.few;
      front = r.cut.whole.front;
      back = r.cut.whole.back;
      order = r.cut.whole.order;
      within = r.cut.whole.within;
      made = r.cut.whole.made;
      to = r.cut.whole.to;
      talk = subst (λ h. IsTalk clock (figures_of v) h 0 (at_first v) (cut_of r.early).whole r.cut.whole.front r.cut.whole.made r.cut.whole.to) (sym (seen_whole r.cut.made r.cut.grows)) r.cut.whole.talk;
    }

    cut_off : {clock : ℕ → Bool} (bytes : List ℕ) (lines : List (List ℕ)) → CutLate clock (first_sight lock v) begun taken now bytes lines → IsCutOff clock v w begun taken bytes lines
    cut_off bytes lines late = let r = late.cut in record {
      said = r.said;
      others = r.others;
      order = r.order;
      text = r.text;
      session = session_of r.said r.text r.made r.to r.grows r.talk;
      all = all_made r.made r.grows;
      stops = λ stopped. closed.stop (sym (ap (λ (m : Mark). m.stopped) r.there) ∙ stopped);
      known = λ stopped. ap (λ (m : Mark). m.stopped) r.there ∙ knows_stop r.made r.grows stopped;
      took = r.took;
      ahead = ahead_of bytes lines late;
    }

    module _ (flow : Option Flow) (bytes : List ℕ) (P Q : Type 0) where
      ended_either : {clock : ℕ → Bool} → (IsAtEnd flow × P × Written clock (first_sight lock v) begun taken now (lines_of bytes)) ⊎ (Q × Left clock (first_sight lock v) begun taken now (cut_of bytes).whole) →
          (IsAtEnd flow × P × IsReplied clock v w begun taken (lines_of bytes)) ⊎ (Q × IsLeft clock v w begun taken (cut_of bytes).whole)
      ended_either (inl (at_end, short, r)) = inl (at_end, short, replied (lines_of bytes) r)
      ended_either (inr (short, l)) = inr (short, left_replied (cut_of bytes).whole l)

      cut_either : {clock : ℕ → Bool} → (P × CutLate clock (first_sight lock v) begun taken now bytes (cut_of bytes).whole) ⊎ (IsAtEnd flow × Q × CutLate clock (first_sight lock v) begun taken now bytes (lines_of bytes)) →
          (P × IsCutOff clock v w begun taken bytes (cut_of bytes).whole) ⊎ (IsAtEnd flow × Q × IsCutOff clock v w begun taken bytes (lines_of bytes))
      cut_either (inl (short, r)) = inl (short, cut_off bytes (cut_of bytes).whole r)
      cut_either (inr (at_end, short, r)) = inr (at_end, short, cut_off bytes (lines_of bytes) r)

    ends_first : (clock : ℕ → Bool) (opened flow : Option Flow) (end : SessionEnd) → Ends clock (first_sight lock v) opened flow begun taken now end → ScriptEnds clock v w opened flow begun taken end
    ends_first clock opened flow Ended (bytes, gives, either) = (bytes, gives, ended_either flow bytes _ _ either)
    ends_first clock opened flow SourceFault (bytes, gives, short, (r, open_yet)) = (bytes, gives, short, open_replied (cut_of bytes).whole r open_yet)
    ends_first clock opened flow SinkFault (bytes, gives, either) = (bytes, gives, cut_either flow bytes _ _ either)
    ends_first clock opened flow Limit (bytes, gives, size, (r, open_yet)) = (bytes, gives, size, open_replied (cut_of bytes).whole r open_yet)
    ends_first clock opened flow Memory (same, none_taken, there) = (same, none_taken, stays there)

-- a session over a new desk is a script
pub script_ends : (clock : ℕ → Bool) (lock : passes.LockId) (v w : HouseView) (start : Sight) (opened flow : Option Flow) (begun taken : Option (List ℕ)) (now : Sight) (end : SessionEnd) → start ≡ first_sight lock v → IsClosed v w now →
    Ends clock start opened flow begun taken now end → ScriptEnds clock v w opened flow begun taken end
script_ends clock lock v w start opened flow begun taken now end e closed ends =
    let P : Sight → Type 0 = λ s. Ends clock s opened flow begun taken now end in
    ends_first lock v w now closed begun taken clock opened flow end (subst P e ends)

-- a session keeps its seat
pub seat_stays : (clock : ℕ → Bool) (start : Sight) (opened flow : Option Flow) (begun taken : Option (List ℕ)) (now : Sight) (end : SessionEnd) → Ends clock start opened flow begun taken now end → now.seat ≡ start.seat
seat_stays clock start opened flow begun taken now Ended (bytes, gives, inl (at_end, short, r)) = r.grows.seat
seat_stays clock start opened flow begun taken now Ended (bytes, gives, inr (short, l)) = l.written.grows.seat
seat_stays clock start opened flow begun taken now SourceFault (bytes, gives, short, (r, open_yet)) = r.grows.seat
seat_stays clock start opened flow begun taken now SinkFault (bytes, gives, inl (short, r)) = r.cut.grows.seat
seat_stays clock start opened flow begun taken now SinkFault (bytes, gives, inr (at_end, short, r)) = r.cut.grows.seat
seat_stays clock start opened flow begun taken now Limit (bytes, gives, size, (r, open_yet)) = r.grows.seat
seat_stays clock start opened flow begun taken now Memory (same, none_taken, there) = ap (λ (s : Sight). s.seat) there

-- what a lock tells of the house that it gives back
pub closed_on : (v w : HouseView) (pass : Pass) → end_of v.history ≡ (figures_of v).opening → passes.seat_of pass ≡ 0 → passes.figures_of pass ≡ figures_of v → figures_of w ≡ passes.figures_of pass → passes.Continues w.history (passes.seen pass)
    → passes.StandsFor pass (passes.seat_of pass)
    → ((n : ℕ) → passes.StandsFor pass n → entries_of_seat w.history n (figures_of w).opening ≡ passes.made_by n pass)
    → ((n : ℕ) → 2 ^ 32 ≤ n + passes.may_split pass → entries_of_seat w.history n (figures_of w).opening ≡ [])
    → (passes.saw_stop pass ≡ true → is_stopped w ≡ true) → (passes.may_split pass + 1 ≡ 2 ^ 32 → is_stopped w ≡ true → passes.saw_stop pass ≡ true) → IsClosed v w (of_pass pass)
closed_on v w pass opened number figures given goes_on mine made none stop lone =
    let later : (passes.figures_of pass).opening ≡ end_of v.history = ap (λ (f : Figures). f.opening) figures ∙ sym opened in
    let last : (figures_of w).opening ≡ end_of v.history = ap (λ (f : Figures). f.opening) given ∙ later in
    let own : entries_of_seat w.history 0 (figures_of w).opening ≡ entries_of_seat (passes.seen pass) 0 (passes.figures_of pass).opening =
    made 0 (subst (λ n. passes.StandsFor pass n) number mine) in
    record {
      rest = goes_on.0;
      goes_on = goes_on.1;
      own = ap (λ n. entries_of_seat w.history 0 n) (sym last) ∙ own ∙ ap (λ n. entries_of_seat (passes.seen pass) 0 n) later;
      none = λ n up. ap (λ k. entries_of_seat w.history n k) (sym last) ∙ none n up;
      stop = stop;
      lone = λ splits. lone (omega (arith, splits));
    }
