-- Histories that grow while a session asks.
use Rattle.std.proofs.Common.{◌≡◌, ◌⊎◌, ℕ, ◌≤◌, ◌-◌, ◌==◌, Bool, IsTrue, true, false, not, List, [], ◌++◌, length, drop, filter, Option, Some, None, refl, sym, subst, ap, ◌∙◌, append_assoc, arith, inl, inr}
use Rattle.std.proofs.lemmas.List.{append-nil, length-append}
use Rattle.std.proofs.Math.Seq.{drop-append_seam}
use Rattle.std.proofs.lemmas.List.Elements.{filter-append}
use Rattle.std.proofs.lemmas.List.Filters.{length-filter_both}
use Rattle.network_laws.specs.Solutions.{ProblemData, SolutionData}
use Rattle.network_laws.specs.Solved.{AreSolved}
use Rattle.command_types.specs.declared.ask.Ask.{Ask}
use Rattle.command_types.specs.declared.ask.Entry.{Entry}
use Rattle.command_types.specs.declared.answer.Answer.{Answer}
use Rattle.command_types.specs.declared.answer.Answer.TheVariants.{Begun, Problems, No}
use Rattle.command_types.specs.declared.answer.Reply.{Reply}
use Rattle.command_types.specs.declared.cycle.Mode.{Mode}
use Rattle.command_types.specs.declared.refusal.Refusal.TheVariants.{Memory}
use Rattle.command_types.specs.declared.figures.Figures.{Figures}
use Rattle.command_types.specs.Told.{IsTold}
use Rattle.command_types.specs.History.{History, IsLegal, end_of, longer, recorded, is_recorded, entries_of_seat}
use Rattle.command_types.specs.Session.{Mark, IsTime, IsAsked, IsLast, IsUnsolved, IsPosted, GoesOnFetched, IsFetched, GoesOnBegun, ask_begin, ask_fetch, ask_post}
use Rattle.command_types.proofs.TalkFacts.{asked_longer}
use Rattle.cycle_lock.specs.declared.pass.Pass.{Pass}
use Rattle.cycle_lock.specs.Passes.{lock_of, seat_of, figures_of, seen, saw_stop, Continues, may_split}
use Rattle.session.specs.Serving.{Seat, Sight, of_pass, mark, roster_of, own_of, Grows, Asks}
use Rattle.session.specs.Proposing.{begun_version, has_problems, Posts, Fetches, Proposes}

pub longer_longer : (h : History) (made more : List Entry) → longer (longer h made) more ≡ longer h (made ++ more)
longer_longer h made more = ap (λ es. record h { entries = es }) (append_assoc h.entries made more)

-- the roster stays
pub same_roster : (old new : Sight) (made : List Entry) → Grows old new made → roster_of new ≡ roster_of old
same_roster old new made g = ap (λ (h : History). h.base.state.roster) g.grown

-- nothing came
pub grows_none : (desk : Sight) → Grows desk desk []
grows_none desk = record {
  seat = refl;
  more = [];
  grown = ap (λ es. record (desk.history) { entries = es }) (sym (append-nil desk.history.entries));
  own = refl;
  legal = λ legal. legal;
}

-- first these came, and then those
pub grows_both : (a b c : Sight) (made more : List Entry) → Grows a b made → Grows b c more → Grows a c (made ++ more)
grows_both a b c made more g h =
    let N : ℕ → Type 0 = λ n. own_of n h.more ≡ more in
    record {
      seat = h.seat ∙ g.seat;
      more = g.more ++ h.more;
      grown = h.grown ∙ ap (λ v. longer v h.more) g.grown ∙ longer_longer a.history g.more h.more;
      own = filter-append (λ (entry : Entry). entry.seat == a.seat.number) g.more h.more
          ∙ ap (λ es. es ++ own_of a.seat.number h.more) g.own ∙ ap (λ es. made ++ es) (subst N (ap (λ (s : Seat). s.number) g.seat) h.own);
      legal = λ legal. h.legal (g.legal legal);
    }

-- what was asked still stands in a history that has grown since
pub asked_there : {clock : ℕ → Bool} (seat : Seat) (from : Mark) (mid new : Sight) (ask : Ask) (reply : Reply) (made more : List Entry) (to : Mark) → Grows mid new more →
    IsAsked clock seat.figures mid.history seat.number from ask reply made to → IsAsked clock seat.figures new.history seat.number from ask reply made to
asked_there {clock} seat from mid new ask reply made more to g a =
    let H : History → Type 0 = λ h. IsAsked clock seat.figures h seat.number from ask reply made to in
    subst H (sym g.grown) (asked_longer clock seat.figures mid.history g.more seat.number from ask reply made to a)

-- no memory for solutions
pub unsolved : {clock : ℕ → Bool} (desk : Sight) (by : Option (List ℕ)) (cycle version begun_at : ℕ) (problems : List ProblemData) (reply : Reply) → reply ≡ record { at = begun_at; answer = No Memory } →
    Posts clock desk desk by cycle version begun_at problems reply
unsolved desk by cycle version begun_at problems reply is = record { made = []; grows = grows_none desk; goes_on = inl (is, refl, refl) }

-- the solutions are posted
pub posted : {clock : ℕ → Bool} (old new : Sight) (by : Option (List ℕ)) (cycle version begun_at : ℕ) (problems : List ProblemData) (solutions : List SolutionData) (reply : Reply) → AreSolved problems solutions → {moment : ℕ} →
    Asks clock old new (ask_post by cycle version solutions moment) reply → Posts clock old new by cycle version begun_at problems reply
posted old new by cycle version begun_at problems solutions reply solved {moment} a =
    record { made = _; grows = a.grows; goes_on = inr (record { solutions = solutions; solved = solved; moment = moment; asked = a.asked }) }

-- one command, and nothing after it
one_more : (old new : Sight) (made : List Entry) → Grows old new made → Grows old new (made ++ [])
one_more old new made g = let P : List Entry → Type 0 = λ es. Grows old new es in subst P (sym (append-nil made)) g

goes_given : {clock : ℕ → Bool} (answer : Answer) (problems : List ProblemData) (old : Sight) (h : History) (mid : Mark) (by : Option (List ℕ)) (cycle version begun_at : ℕ) (fetched reply : Reply) (made : List Entry) (to : Mark) → answer ≡ Problems problems →
    IsUnsolved begun_at mid reply made to ⊎ IsPosted clock old.seat.figures h old.seat.number mid by cycle version problems reply made to →
    GoesOnFetched answer clock old.seat.figures h old.seat.number mid by cycle version begun_at fetched reply made to
goes_given {clock} answer problems old h mid by cycle version begun_at fetched reply made to is p =
    let A : Answer → Type 0 = λ a. GoesOnFetched a clock old.seat.figures h old.seat.number mid by cycle version begun_at fetched reply made to in subst A (sym is) p

-- the problems are given
pub fetched_on : {clock : ℕ → Bool} (old mid new : Sight) (by : Option (List ℕ)) (cycle version begun_at : ℕ) (problems : List ProblemData) (fetched reply : Reply) → fetched.answer ≡ Problems problems → {moment : ℕ} →
    Asks clock old mid (ask_fetch by cycle version moment) fetched → Posts clock mid new by cycle version begun_at problems reply → Fetches clock old new by cycle version begun_at reply
fetched_on {clock} old mid new by cycle version begun_at problems fetched reply is {moment} a p =
    let S : Seat → Type 0 = λ s. IsUnsolved begun_at (mark mid) reply p.made (mark new) ⊎ IsPosted clock s.figures new.history s.number (mark mid) by cycle version problems reply p.made (mark new) in
    record {
      made = recorded old.seat.number (ask_fetch by cycle version moment) fetched.answer ++ p.made;
      grows = grows_both old mid new _ p.made a.grows p.grows;
      fetched = record {
        fetched = fetched;
        mid = mark mid;
        first = recorded old.seat.number (ask_fetch by cycle version moment) fetched.answer;
        others = p.made;
        moment = moment;
        asked = asked_there old.seat (mark old) mid new (ask_fetch by cycle version moment) fetched _ p.made (mark mid) p.grows a.asked;
        goes_on = goes_given fetched.answer problems old new.history (mark mid) by cycle version begun_at fetched reply p.made (mark new) is (subst S a.grows.seat p.goes_on);
        order = refl;
      };
    }

ends_fetched : (clock : ℕ → Bool) (answer : Answer) (old : Sight) (h : History) (mid : Mark) (by : Option (List ℕ)) (cycle version begun_at : ℕ) (fetched reply : Reply) (made : List Entry) (to : Mark) → has_problems answer ≡ false →
    IsLast fetched mid reply made to → GoesOnFetched answer clock old.seat.figures h old.seat.number mid by cycle version begun_at fetched reply made to
ends_fetched clock (Problems problems) old h mid by cycle version begun_at fetched reply made to none last = absurd (let bad = none in cc)
ends_fetched clock answer old h mid by cycle version begun_at fetched reply made to none last = last

-- no problems are given
pub fetched_last : {clock : ℕ → Bool} (old new : Sight) (by : Option (List ℕ)) (cycle version begun_at : ℕ) (fetched : Reply) → has_problems fetched.answer ≡ false → {moment : ℕ} →
    Asks clock old new (ask_fetch by cycle version moment) fetched → Fetches clock old new by cycle version begun_at fetched
fetched_last {clock} old new by cycle version begun_at fetched none {moment} a = record {
  made = recorded old.seat.number (ask_fetch by cycle version moment) fetched.answer ++ [];
  grows = one_more old new _ a.grows;
  fetched = record {
    fetched = fetched;
    mid = mark new;
    first = recorded old.seat.number (ask_fetch by cycle version moment) fetched.answer;
    others = [];
    moment = moment;
    asked = a.asked;
    goes_on = ends_fetched clock fetched.answer old new.history (mark new) by cycle version begun_at fetched fetched [] (mark new) none (refl, refl, refl);
    order = refl;
  };
}

goes_begun : {clock : ℕ → Bool} (answer : Answer) (version : ℕ) (old : Sight) (h : History) (mid : Mark) (by : Option (List ℕ)) (cycle : ℕ) (begun reply : Reply) (made : List Entry) (to : Mark) → begun_version answer ≡ Some version →
    IsFetched clock old.seat.figures h old.seat.number mid by cycle version begun.at reply made to → GoesOnBegun answer clock old.seat.figures h old.seat.number mid by cycle begun reply made to
goes_begun {clock} (Begun number v) version old h mid by cycle begun reply made to is f =
    let same : v ≡ version = let e = is in cc in
    let V : ℕ → Type 0 = λ n. IsFetched clock old.seat.figures h old.seat.number mid by cycle n begun.at reply made to in subst V (sym same) f
goes_begun answer version old h mid by cycle begun reply made to is f = absurd (let bad = is in cc)

ends_begun : (clock : ℕ → Bool) (answer : Answer) (old : Sight) (h : History) (mid : Mark) (by : Option (List ℕ)) (cycle : ℕ) (begun reply : Reply) (made : List Entry) (to : Mark) → begun_version answer ≡ None →
    IsLast begun mid reply made to → GoesOnBegun answer clock old.seat.figures h old.seat.number mid by cycle begun reply made to
ends_begun clock (Begun number v) old h mid by cycle begun reply made to none last = absurd (let bad = none in cc)
ends_begun clock answer old h mid by cycle begun reply made to none last = last

-- a version is begun
pub begun_on : {clock : ℕ → Bool} (old mid new : Sight) (by : Option (List ℕ)) (cycle version : ℕ) (mode : Mode) (begun reply : Reply) → begun_version begun.answer ≡ Some version → {moment : ℕ} →
    Asks clock old mid (ask_begin by cycle mode moment) begun → Fetches clock mid new by cycle version begun.at reply → Proposes clock old new by cycle mode reply
begun_on {clock} old mid new by cycle version mode begun reply is {moment} a f =
    let S : Seat → Type 0 = λ s. IsFetched clock s.figures new.history s.number (mark mid) by cycle version begun.at reply f.made (mark new) in
    record {
      made = recorded old.seat.number (ask_begin by cycle mode moment) begun.answer ++ f.made;
      grows = grows_both old mid new _ f.made a.grows f.grows;
      proposed = record {
        begun = begun;
        mid = mark mid;
        first = recorded old.seat.number (ask_begin by cycle mode moment) begun.answer;
        others = f.made;
        moment = moment;
        asked = asked_there old.seat (mark old) mid new (ask_begin by cycle mode moment) begun _ f.made (mark mid) f.grows a.asked;
        goes_on = goes_begun begun.answer version old new.history (mark mid) by cycle begun reply f.made (mark new) is (subst S a.grows.seat f.fetched);
        order = refl;
      };
    }

-- none is begun
pub begun_last : {clock : ℕ → Bool} (old new : Sight) (by : Option (List ℕ)) (cycle : ℕ) (mode : Mode) (begun : Reply) → begun_version begun.answer ≡ None → {moment : ℕ} →
    Asks clock old new (ask_begin by cycle mode moment) begun → Proposes clock old new by cycle mode begun
begun_last {clock} old new by cycle mode begun none {moment} a = record {
  made = recorded old.seat.number (ask_begin by cycle mode moment) begun.answer ++ [];
  grows = one_more old new _ a.grows;
  proposed = record {
    begun = begun;
    mid = mark new;
    first = recorded old.seat.number (ask_begin by cycle mode moment) begun.answer;
    others = [];
    moment = moment;
    asked = a.asked;
    goes_on = ends_begun clock begun.answer old new.history (mark new) by cycle begun begun [] (mark new) none (refl, refl, refl);
    order = refl;
  };
}

-- what came after a history is the rest of a longer one
pub later_own : (h : History) (more : List Entry) (seat : ℕ) → entries_of_seat (longer h more) seat (end_of h) ≡ own_of seat more
later_own h more seat =
    let size : end_of h - h.base.position ≡ length h.entries = omega arith in
    ap (λ (n : ℕ). own_of seat (drop n (h.entries ++ more))) size ∙ ap (own_of seat) (drop-append_seam h.entries more)

-- a filter lets no more pass than there are
passed_few : {A : Type 0} (p : A → Bool) (xs : List A) → length (filter p xs) ≤ length xs
passed_few p xs = let both = length-filter_both p (λ x. not (p x)) (λ x. refl) xs in omega (arith, both)

-- what a call in its turn tells
pub asks_called : {clock : ℕ → Bool} (p q : Pass) (ask : Ask) (reply : Reply) → IsTime clock ask.moment → lock_of q ≡ lock_of p → seat_of q ≡ seat_of p → figures_of q ≡ figures_of p → may_split q ≡ may_split p → Continues (seen q) (seen p) → reply.at ≡ end_of (seen q) → IsLegal (seen q) →
    ((before : Bool) × (saw_stop p ≡ true → before ≡ true) × (before ≡ true → saw_stop q ≡ true) × IsTold (figures_of q) before (saw_stop q) (seen q) (seat_of q) ask reply) →
    entries_of_seat (seen q) (seat_of p) (end_of (seen p)) ≡ recorded (seat_of p) ask reply.answer → (IsTrue (is_recorded ask.what reply.answer) → saw_stop q ≡ false) → Asks clock (of_pass p) (of_pass q) ask reply
asks_called p q ask reply time lock seat figures splits goes place legal told later runs =
    let T : Figures × ℕ → Type 0 = λ x. IsTold x.0 told.0 (saw_stop q) (seen q) x.1 ask reply in
    let ends : end_of (seen q) ≡ end_of (longer (seen p) goes.0) = ap (λ (h : History). end_of h) goes.1 in
    let own : own_of (seat_of p) goes.0 ≡ recorded (seat_of p) ask reply.answer =
    sym (later_own (seen p) goes.0 (seat_of p)) ∙ (ap (λ (h : History). entries_of_seat h (seat_of p) (end_of (seen p))) (sym goes.1) ∙ later) in
    let few : length (recorded (seat_of p) ask reply.answer) ≤ length goes.0 =
    subst (λ (es : List Entry). length es ≤ length goes.0) own (passed_few (λ (entry : Entry). entry.seat == seat_of p) goes.0) in
    record {
      grows = record {
        seat = λ i. record { lock = lock i; figures = figures i; number = seat i; splits = splits i };
        more = goes.0;
        grown = goes.1;
        own = own;
        legal = λ old. legal;
      };
      asked = record {
        time = time;
        before = told.0;
        told = subst T (λ i. (figures i, seat i)) told.3;
        later = omega (arith, few, place, ends, length-append (seen p).entries goes.0);
        known = told.1;
        stays = told.2;
        runs = runs;
        keeps = refl;
        position = sym place;
      };
    }
