-- The ACCEPT of a proposal: the last one executes its plan, and any other is a vote more.
use Rattle.std.proofs.Common.{◌≡◌, ℕ, Bool, true, false, cond, not, ◌&&◌, ◌||◌, ◌==◌, List, [], ◌∷◌, ◌++◌, Option, Some, None, unwrap_or, refl, sym, ap, ◌∙◌, subst, eqb-true}
use Rattle.std.specs.List.{list_any, list_all}
use Rattle.command_types.specs.declared.ask.Ask.{Ask}
use Rattle.command_types.specs.declared.ask.What.TheVariants.{Accept}
use Rattle.command_types.specs.declared.answer.Answer.TheVariants.{Executed}
use Rattle.command_types.specs.declared.cycle.Phase.{Phase}
use Rattle.command_types.specs.declared.cycle.Phase.TheVariants.{None as NoPhase, Frozen, Solving, Proposed, Broken}
use Rattle.command_types.specs.declared.figures.Cycle.{Cycle}
use Rattle.command_types.specs.declared.figures.State.{State}
use Rattle.command_types.specs.declared.trade.TradeRow.{TradeRow}
use Rattle.command_types.specs.Roster.{Rows, member_place}
use Rattle.command_types.specs.Plans.{executed, count_of, is_end, is_cut, is_new}
use Rattle.command_types.specs.Cycles.{is_proposed}
use Rattle.command_types.specs.CycleRefusals.{has_voted, is_touched_at}
use Rattle.command_types.specs.CycleSteps.{touched_in, left_after, executed_answer, vote_answer, accept_answer, after_vote, after_accept}
use Rattle.command_types.specs.Machine.{member_of}
use Rattle.trade_history.specs.Moments.{Moment, is_at, accepts, drops}
use Rattle.trade_history.specs.Executes.{takes, plan_at, touched_at, has_accepted, have_accepted, is_accepted_now, are_live}
use Rattle.trade_history.specs.Search.{Cut, is_executed, execution_in, execution_of_cut, execution_at}
use Rattle.trade_history.specs.Book.{Book, with_execution}
use Rattle.trade_history.specs.Laws.{TellsExecution}
use Rattle.trade_history.proofs.Kept.{IsProposed, InPhase, Keeps}
use Rattle.trade_history.proofs.PlainSteps.{cut-later}
use Rattle.trade_history.proofs.OpeningSteps.{opening-noted}
use Rattle.trade_history.proofs.Outcome.{now_of, IsOutcome, executed-keeps}
use Rattle.trade_history.proofs.PostSteps.{same_post}
use Rattle.trade_history.proofs.Ballots.{filter-none, filter-some, any-first, any-push}

-- the command of a vote
abbrev pub accept_ask : Option (List ℕ) → ℕ → ℕ → ℕ → Ask
accept_ask by time c v = record { by = by; what = Accept c v; moment = time }

accepts-now : (roster : Rows) (by : Option (List ℕ)) (time : ℕ) (c v member : ℕ) (book : Book) → member_place roster (unwrap_or by []) ≡ Some member → (x : ℕ) →
    accepts roster c v x (now_of (accept_ask by time c v) book) ≡ (member == x)
accepts-now roster by time c v member book place x =
    ap (λ b. b && is_at (member_place roster (unwrap_or by [])) x) (same_post c v) ∙ ap (λ o. is_at o x) place

-- the votes with this one are the ACCEPTs with this one
accepted-now : (roster : Rows) (number : ℕ) (trades : List TradeRow) (cycle : Cycle) (book : Book) (by : Option (List ℕ)) (time : ℕ) (member : ℕ) (p : IsProposed roster number trades cycle book) →
    member_place roster (unwrap_or by []) ≡ Some member → (x : ℕ) →
    has_accepted roster cycle.number cycle.version (now_of (accept_ask by time cycle.number cycle.version) book ∷ p.cut.later) x ≡ has_voted (member ∷ cycle.votes) x
accepted-now roster number trades cycle book by time member p place x =
    ap (λ b. b || has_accepted roster cycle.number cycle.version p.cut.later x) (accepts-now roster by time cycle.number cycle.version member book place x)
    ∙ ap (λ b. (member == x) || b) (sym (p.votes x))

all-now : (roster : Rows) (number : ℕ) (trades : List TradeRow) (cycle : Cycle) (book : Book) (by : Option (List ℕ)) (time : ℕ) (member : ℕ) (p : IsProposed roster number trades cycle book) →
    member_place roster (unwrap_or by []) ≡ Some member → (members : List ℕ) →
    have_accepted roster cycle.number cycle.version (now_of (accept_ask by time cycle.number cycle.version) book ∷ p.cut.later) members ≡ list_all (has_voted (member ∷ cycle.votes)) members
all-now roster number trades cycle book by time member p place members =
    λ i. list_all (λ x. accepted-now roster number trades cycle book by time member p place x i) members

-- the moments, cut at the posting, with this vote
abbrev cut_now : Moment → Cut → Cut
cut_now now cut = record { later = now ∷ cut.later; posted = cut.posted; before = cut.before }

-- what executes at a vote
pub execution-accepted : (roster : Rows) (number : ℕ) (trades : List TradeRow) (cycle : Cycle) (book : Book) (by : Option (List ℕ)) (time : ℕ) (p : IsProposed roster number trades cycle book) →
    execution_at roster number (now_of (accept_ask by time cycle.number cycle.version) book ∷ book.moments)
    ≡ cond (is_executed roster cycle.number cycle.version p.opening p.cut.posted (now_of (accept_ask by time cycle.number cycle.version) book ∷ p.cut.later) book.rows)
    (Some (record { cycle = cycle.number; version = cycle.version; plan = plan_at roster p.opening p.cut.posted })) None
execution-accepted roster number trades cycle book by time p =
    ap (execution_of_cut roster number cycle.number cycle.version book.rows)
    (cut-later cycle.number cycle.version (now_of (accept_ask by time cycle.number cycle.version) book) book.moments p.cut refl p.cuts)
    ∙ ap (execution_in roster cycle.number cycle.version book.rows (cut_now (now_of (accept_ask by time cycle.number cycle.version) book) p.cut)) p.opens

executed_true : (d n a w l : Bool) → d ≡ false → n ≡ true → a ≡ true → w ≡ false → l ≡ true → (not d && (n && a && not w) && l) ≡ true
executed_true d n a w l e1 e2 e3 e4 e5 = rw (e1, e2, e3, e4, e5) refl

executed_false : (d n a w l : Bool) → a ≡ false → (not d && (n && a && not w) && l) ≡ false
executed_false true n a w l e = refl
executed_false false true a w l e = rw e refl
executed_false false false a w l e = refl

is_executed-true : (roster : Rows) (number : ℕ) (trades : List TradeRow) (cycle : Cycle) (book : Book) (by : Option (List ℕ)) (time : ℕ) (p : IsProposed roster number trades cycle book) →
    have_accepted roster cycle.number cycle.version (now_of (accept_ask by time cycle.number cycle.version) book ∷ p.cut.later) (touched_at roster p.opening p.cut.posted) ≡ true →
    is_executed roster cycle.number cycle.version p.opening p.cut.posted (now_of (accept_ask by time cycle.number cycle.version) book ∷ p.cut.later) book.rows ≡ true
is_executed-true roster number trades cycle book by time p all =
    let now = now_of (accept_ask by time cycle.number cycle.version) book in
    executed_true (list_any (drops cycle.number) p.cut.later)
    (is_accepted_now roster cycle.number cycle.version now (touched_at roster p.opening p.cut.posted))
    (have_accepted roster cycle.number cycle.version (now ∷ p.cut.later) (touched_at roster p.opening p.cut.posted))
    (have_accepted roster cycle.number cycle.version p.cut.later (touched_at roster p.opening p.cut.posted))
    (are_live (takes roster.products p.opening) book.rows)
    p.calm
    (any-first (λ x. accepts roster cycle.number cycle.version x now) (has_accepted roster cycle.number cycle.version p.cut.later) (touched_at roster p.opening p.cut.posted) all p.waits)
    all p.waits p.live

is_executed-false : (roster : Rows) (number : ℕ) (trades : List TradeRow) (cycle : Cycle) (book : Book) (by : Option (List ℕ)) (time : ℕ) (p : IsProposed roster number trades cycle book) →
    have_accepted roster cycle.number cycle.version (now_of (accept_ask by time cycle.number cycle.version) book ∷ p.cut.later) (touched_at roster p.opening p.cut.posted) ≡ false →
    is_executed roster cycle.number cycle.version p.opening p.cut.posted (now_of (accept_ask by time cycle.number cycle.version) book ∷ p.cut.later) book.rows ≡ false
is_executed-false roster number trades cycle book by time p all =
    let now = now_of (accept_ask by time cycle.number cycle.version) book in
    executed_false (list_any (drops cycle.number) p.cut.later)
    (is_accepted_now roster cycle.number cycle.version now (touched_at roster p.opening p.cut.posted))
    (have_accepted roster cycle.number cycle.version (now ∷ p.cut.later) (touched_at roster p.opening p.cut.posted))
    (have_accepted roster cycle.number cycle.version p.cut.later (touched_at roster p.opening p.cut.posted))
    (are_live (takes roster.products p.opening) book.rows)
    all

-- the cycle with a vote more
abbrev with_vote : Cycle → ℕ → Cycle
with_vote cycle member = record cycle { votes = cycle.votes ++ member ∷ [] }

proposed-voted : (roster : Rows) (number : ℕ) (trades : List TradeRow) (cycle : Cycle) (book : Book) (by : Option (List ℕ)) (time : ℕ) (member : ℕ) (p : IsProposed roster number trades cycle book) →
    member_place roster (unwrap_or by []) ≡ Some member →
    have_accepted roster cycle.number cycle.version (now_of (accept_ask by time cycle.number cycle.version) book ∷ p.cut.later) (touched_at roster p.opening p.cut.posted) ≡ false →
    IsProposed roster number trades (with_vote cycle member) (record { moments = now_of (accept_ask by time cycle.number cycle.version) book ∷ book.moments; rows = book.rows })
proposed-voted roster number trades cycle book by time member p place waits = record {
  opening = p.opening;
  has = opening-noted roster number trades cycle (with_vote cycle member) book p.opening (now_of (accept_ask by time cycle.number cycle.version) book) (λ b before. refl) refl refl p.has;
  live = p.live;
  cut = cut_now (now_of (accept_ask by time cycle.number cycle.version) book) p.cut;
  cuts = cut-later cycle.number cycle.version (now_of (accept_ask by time cycle.number cycle.version) book) book.moments p.cut refl p.cuts;
  opens = p.opens;
  calm = p.calm;
  plan = p.plan;
  touched = p.touched;
  within = p.within;
  votes = λ x. any-push (λ voter. voter == x) cycle.votes member ∙ sym (accepted-now roster number trades cycle book by time member p place x);
  waits = waits;
  fresh = p.fresh;
}

accept_by : (number : ℕ) (s : State) (book : Book) (by : Option (List ℕ)) (time : ℕ) (member : ℕ) (p : IsProposed s.roster number s.trades s.cycle book) (left : List ℕ) → s.cycle.phase ≡ Proposed → Keeps s.roster number s.trades s.cycle book →
    member_place s.roster (unwrap_or by []) ≡ Some member → left_after s member ≡ left →
    IsOutcome number s (after_vote s member left) book (accept_ask by time s.cycle.number s.cycle.version) (vote_answer s.cycle left)
accept_by number s book by time member p [] proposed keeps place is =
    let now = now_of (accept_ask by time s.cycle.number s.cycle.version) book in
    let plan = plan_at s.roster p.opening p.cut.posted in
    let all : have_accepted s.roster s.cycle.number s.cycle.version (now ∷ p.cut.later) (touched_at s.roster p.opening p.cut.posted) ≡ true =
    all-now s.roster number s.trades s.cycle book by time member p place (touched_at s.roster p.opening p.cut.posted)
    ∙ ap (list_all (has_voted (member ∷ s.cycle.votes))) (sym p.touched)
    ∙ filter-none (has_voted (member ∷ s.cycle.votes)) (touched_in s s.cycle.plan) is in
    let execution : execution_at s.roster number (now ∷ book.moments) ≡ Some (record { cycle = s.cycle.number; version = s.cycle.version; plan = plan }) =
    execution-accepted s.roster number s.trades s.cycle book by time p
    ∙ ap (λ t. cond t (Some (record { cycle = s.cycle.number; version = s.cycle.version; plan = plan })) None) (is_executed-true s.roster number s.trades s.cycle book by time p all) in
    let rows : executed s.cycle.plan book.rows ≡ with_execution (execution_at s.roster number (now ∷ book.moments)) book.rows =
    ap (λ steps. executed steps book.rows) p.plan ∙ sym (ap (λ e. with_execution e book.rows) execution) in
    record {
      roster = refl;
      keeps = subst (λ rs. Keeps s.roster number (after_vote s member []).trades (after_vote s member []).cycle (record { moments = now ∷ book.moments; rows = rs })) rows
          (executed-keeps s.roster number s.trades s.cycle book now s.cycle.plan refl keeps);
      told = subst (λ e. TellsExecution (Accept s.cycle.number s.cycle.version) e (executed_answer s.cycle)) (sym execution)
          (ap (λ steps. Executed s.cycle.number s.cycle.version (count_of is_end steps) (count_of is_cut steps) (count_of is_new steps)) p.plan);
    }
accept_by number s book by time member p (voter ∷ voters) proposed keeps place is =
    let now = now_of (accept_ask by time s.cycle.number s.cycle.version) book in
    let plan = plan_at s.roster p.opening p.cut.posted in
    let all : have_accepted s.roster s.cycle.number s.cycle.version (now ∷ p.cut.later) (touched_at s.roster p.opening p.cut.posted) ≡ false =
    all-now s.roster number s.trades s.cycle book by time member p place (touched_at s.roster p.opening p.cut.posted)
    ∙ ap (list_all (has_voted (member ∷ s.cycle.votes))) (sym p.touched)
    ∙ filter-some (has_voted (member ∷ s.cycle.votes)) (touched_in s s.cycle.plan) voter voters is in
    let execution : execution_at s.roster number (now ∷ book.moments) ≡ None =
    execution-accepted s.roster number s.trades s.cycle book by time p
    ∙ ap (λ t. cond t (Some (record { cycle = s.cycle.number; version = s.cycle.version; plan = plan })) None) (is_executed-false s.roster number s.trades s.cycle book by time p all) in
    let rows : book.rows ≡ with_execution (execution_at s.roster number (now ∷ book.moments)) book.rows = sym (ap (λ e. with_execution e book.rows) execution) in
    record {
      roster = refl;
      keeps = subst (λ rs. Keeps s.roster number s.trades (with_vote s.cycle member) (record { moments = now ∷ book.moments; rows = rs })) rows
          (record {
            numbered = keeps.numbered;
            free = keeps.free;
            count = keeps.count;
            phase = subst (λ phase. InPhase phase s.roster number s.trades (with_vote s.cycle member) (record { moments = now ∷ book.moments; rows = book.rows })) (sym proposed)
                (proposed-voted s.roster number s.trades s.cycle book by time member p place all);
          });
      told = subst (λ e. TellsExecution (Accept s.cycle.number s.cycle.version) e (vote_answer s.cycle (voter ∷ voters))) (sym execution) refl;
    }

accept-phase : (phase : Phase) (number : ℕ) (s : State) (book : Book) (by : Option (List ℕ)) (time : ℕ) (member : ℕ) → s.cycle.phase ≡ phase → is_proposed phase ≡ true → InPhase phase s.roster number s.trades s.cycle book →
    Keeps s.roster number s.trades s.cycle book → member_place s.roster (unwrap_or by []) ≡ Some member →
    IsOutcome number s (after_accept s member) book (accept_ask by time s.cycle.number s.cycle.version) (accept_answer s member)
accept-phase NoPhase number s book by time member at is p keeps place = cc
accept-phase Frozen number s book by time member at is p keeps place = cc
accept-phase Solving number s book by time member at is p keeps place = cc
accept-phase Proposed number s book by time member at is p keeps place = accept_by number s book by time member p (left_after s member) at keeps place refl
accept-phase Broken number s book by time member at is p keeps place = cc

place_of : (s : State) (o : Option ℕ) → is_touched_at s o ≡ true → o ≡ Some (unwrap_or o 0)
place_of s None is = cc
place_of s (Some member) is = refl

pub accept-outcome : (number : ℕ) (s : State) (book : Book) (by : Option (List ℕ)) (time : ℕ) (c v : ℕ) → is_proposed s.cycle.phase ≡ true → (c == s.cycle.number) ≡ true → (v == s.cycle.version) ≡ true →
    is_touched_at s (member_place s.roster (unwrap_or by [])) ≡ true → Keeps s.roster number s.trades s.cycle book →
    IsOutcome number s (after_accept s (member_of s (unwrap_or by []))) book (accept_ask by time c v) (accept_answer s (member_of s (unwrap_or by [])))
accept-outcome number s book by time c v is same same_version touched keeps =
    subst (λ k. IsOutcome number s (after_accept s (member_of s (unwrap_or by []))) book (accept_ask by time k v) (accept_answer s (member_of s (unwrap_or by [])))) (sym (eqb-true c s.cycle.number same))
    (subst (λ w. IsOutcome number s (after_accept s (member_of s (unwrap_or by []))) book (accept_ask by time s.cycle.number w) (accept_answer s (member_of s (unwrap_or by [])))) (sym (eqb-true v s.cycle.version same_version))
    (accept-phase s.cycle.phase number s book by time (member_of s (unwrap_or by [])) refl is keeps.phase keeps (place_of s (member_place s.roster (unwrap_or by [])) touched)))
