-- The POST of solutions: it executes where its plan touches nobody, and stands as proposed elsewhere.
use Rattle.std.proofs.Common.{◌≡◌, ℕ, suc, Bool, true, false, cond, ◌&&◌, ◌==◌, List, [], ◌∷◌, length, Option, Some, None, refl, sym, ap, ◌∙◌, subst, eq-eqb, eqb-true}
use Rattle.std.proofs.lemmas.Bool.{cond-true}
use Rattle.std.proofs.lemmas.List.{length-map}
use Rattle.network_laws.specs.Solutions.{SolutionData}
use Rattle.command_types.specs.declared.ask.Ask.{Ask}
use Rattle.command_types.specs.declared.ask.What.TheVariants.{Post}
use Rattle.command_types.specs.declared.answer.Answer.TheVariants.{Nothing}
use Rattle.command_types.specs.declared.cycle.Phase.{Phase}
use Rattle.command_types.specs.declared.cycle.Phase.TheVariants.{None as NoPhase, Frozen, Solving, Proposed, Broken}
use Rattle.command_types.specs.declared.figures.Cycle.{Cycle}
use Rattle.command_types.specs.declared.figures.State.{State}
use Rattle.command_types.specs.declared.trade.TradeRow.{TradeRow}
use Rattle.command_types.specs.Roster.{Rows}
use Rattle.command_types.specs.Plans.{plan_of, touched_by, executed}
use Rattle.command_types.specs.Cycles.{is_solving, old_networks, new_networks, plan_on, posted_plan, proposed_with}
use Rattle.command_types.specs.CycleSteps.{touched_in, proposed_or_done, proposed_answer, after_post, post_answer}
use Rattle.trade_history.specs.Executes.{takes, marked, marked_row, rows_at, networks_from, plan_at, touched_at, is_empty, are_live, have_accepted}
use Rattle.trade_history.specs.Search.{opening_of, later_by, cut_at_post, execution_in, execution_of_cut, execution_at}
use Rattle.trade_history.specs.Book.{Book, with_execution, AreNumbered}
use Rattle.trade_history.specs.Laws.{TellsExecution}
use Rattle.trade_history.proofs.Touches.{AreWithin, plan-within}
use Rattle.trade_history.proofs.Kept.{IsSolving, IsProposed, InPhase, Keeps}
use Rattle.trade_history.proofs.OpeningSteps.{opening-noted}
use Rattle.trade_history.proofs.Outcome.{now_of, IsOutcome, executed-keeps}

-- the command of a posting
abbrev pub post_ask : Option (List ℕ) → ℕ → ℕ → ℕ → List SolutionData → Ask
post_ask by time c v solutions = record { by = by; what = Post c v solutions; moment = time }

pub plan-posted : (roster : Rows) (number : ℕ) (trades : List TradeRow) (cycle : Cycle) (book : Book) (by : Option (List ℕ)) (time : ℕ) (c v : ℕ) (solutions : List SolutionData) (p : IsSolving roster number trades cycle book) →
    posted_plan cycle trades solutions ≡ plan_at roster p.opening (now_of (post_ask by time c v solutions) book)
plan-posted roster number trades cycle book by time c v solutions p =
    ap (λ day. plan_on day trades (old_networks cycle.begun) (new_networks solutions)) p.has.day
    ∙ ap (λ olds. plan_of trades olds (new_networks solutions) p.opening.day) p.networks
    ∙ ap (λ rows. plan_of rows (networks_from (length roster.members) rows 0 roster.products) (new_networks solutions) p.opening.day) p.has.same

touched-posted : (roster : Rows) (number : ℕ) (trades : List TradeRow) (cycle : Cycle) (book : Book) (by : Option (List ℕ)) (time : ℕ) (c v : ℕ) (solutions : List SolutionData) (p : IsSolving roster number trades cycle book) →
    touched_by (length roster.members) trades (posted_plan cycle trades solutions) ≡ touched_at roster p.opening (now_of (post_ask by time c v solutions) book)
touched-posted roster number trades cycle book by time c v solutions p =
    ap (touched_by (length roster.members) trades) (plan-posted roster number trades cycle book by time c v solutions p)
    ∙ ap (λ rows. touched_by (length roster.members) rows (plan_at roster p.opening (now_of (post_ask by time c v solutions) book))) p.has.same

-- a command names its own cycle and version
pub same_post : (c v : ℕ) → ((c == c) && (v == v)) ≡ true
same_post c v = rw (eq-eqb c c refl, eq-eqb v v refl) refl

cut-posted : (by : Option (List ℕ)) (time : ℕ) (c v : ℕ) (solutions : List SolutionData) (book : Book) →
    cut_at_post c v (now_of (post_ask by time c v solutions) book ∷ book.moments) ≡ Some (record { later = []; posted = now_of (post_ask by time c v solutions) book; before = book.moments })
cut-posted by time c v solutions book =
    cond-true ((c == c) && (v == v)) (Some (record { later = []; posted = now_of (post_ask by time c v solutions) book; before = book.moments }))
    (later_by (now_of (post_ask by time c v solutions) book) (cut_at_post c v book.moments)) (same_post c v)

and_live : (e l : Bool) → l ≡ true → (e && l) ≡ e
and_live true l is = is
and_live false l is = refl

-- what executes at a posting
pub execution-posted : (roster : Rows) (number : ℕ) (trades : List TradeRow) (cycle : Cycle) (book : Book) (by : Option (List ℕ)) (time : ℕ) (c v : ℕ) (solutions : List SolutionData) (p : IsSolving roster number trades cycle book) →
    c ≡ cycle.number →
    execution_at roster number (now_of (post_ask by time c v solutions) book ∷ book.moments)
    ≡ cond (is_empty (touched_at roster p.opening (now_of (post_ask by time c v solutions) book)))
    (Some (record { cycle = c; version = v; plan = plan_at roster p.opening (now_of (post_ask by time c v solutions) book) })) None
execution-posted roster number trades cycle book by time c v solutions p same =
    ap (execution_of_cut roster number c v book.rows) (cut-posted by time c v solutions book)
    ∙ ap (execution_in roster c v book.rows (record { later = []; posted = now_of (post_ask by time c v solutions) book; before = book.moments }))
    (ap (λ n. opening_of number n book.moments) same ∙ p.has.found)
    ∙ ap (λ t. cond t (Some (record { cycle = c; version = v; plan = plan_at roster p.opening (now_of (post_ask by time c v solutions) book) })) None)
    (and_live (is_empty (touched_at roster p.opening (now_of (post_ask by time c v solutions) book))) (are_live (takes roster.products p.opening) book.rows) p.live)

posted-proposed : (roster : Rows) (number : ℕ) (trades : List TradeRow) (cycle : Cycle) (book : Book) (by : Option (List ℕ)) (time : ℕ) (c v : ℕ) (solutions : List SolutionData) (p : IsSolving roster number trades cycle book)
    (member : ℕ) (members : List ℕ) → AreNumbered 0 book.rows → c ≡ cycle.number → v ≡ cycle.version →
    touched_at roster p.opening (now_of (post_ask by time c v solutions) book) ≡ member ∷ members →
    IsProposed roster number trades (proposed_with cycle solutions (posted_plan cycle trades solutions)) (record { moments = now_of (post_ask by time c v solutions) book ∷ book.moments; rows = book.rows })
posted-proposed roster number trades cycle book by time c v solutions p member members are same same_version touched = record {
  opening = p.opening;
  has = opening-noted roster number trades cycle (proposed_with cycle solutions (posted_plan cycle trades solutions)) book p.opening (now_of (post_ask by time c v solutions) book) (λ b before. refl) refl refl p.has;
  live = p.live;
  cut = record { later = []; posted = now_of (post_ask by time c v solutions) book; before = book.moments };
  cuts = subst (λ k. cut_at_post k cycle.version (now_of (post_ask by time c v solutions) book ∷ book.moments) ≡ Some (record { later = []; posted = now_of (post_ask by time c v solutions) book; before = book.moments })) same
      (subst (λ w. cut_at_post c w (now_of (post_ask by time c v solutions) book ∷ book.moments) ≡ Some (record { later = []; posted = now_of (post_ask by time c v solutions) book; before = book.moments })) same_version
      (cut-posted by time c v solutions book));
  opens = p.has.found;
  calm = refl;
  plan = plan-posted roster number trades cycle book by time c v solutions p;
  touched = touched-posted roster number trades cycle book by time c v solutions p;
  within = subst (λ plan. AreWithin (length book.rows) plan) (sym (plan-posted roster number trades cycle book by time c v solutions p))
      (subst (λ n. AreWithin n (plan_at roster p.opening (now_of (post_ask by time c v solutions) book))) (length-map book.rows (marked_row (takes roster.products p.opening)))
      (plan-within (rows_at roster p.opening (now_of (post_ask by time c v solutions) book))
      (networks_from (length roster.members) (rows_at roster p.opening (now_of (post_ask by time c v solutions) book)) 0 roster.products) (new_networks solutions) p.opening.day
      (numbered-marked 0 (takes roster.products p.opening) book.rows are)));
  votes = λ m. refl;
  waits = ap (have_accepted roster cycle.number cycle.version []) touched;
  fresh = p.fresh;
}
  where
    numbered-marked : (n : ℕ) (t : ℕ → Bool) (rows : List TradeRow) → AreNumbered n rows → AreNumbered n (marked t rows)
    numbered-marked n t [] are = tt
    numbered-marked n t (row ∷ rows) (here, rest) = (here, numbered-marked (suc n) t rows rest)

pub post_by : (number : ℕ) (s : State) (book : Book) (by : Option (List ℕ)) (time : ℕ) (c v : ℕ) (solutions : List SolutionData) (p : IsSolving s.roster number s.trades s.cycle book) (members : List ℕ) →
    Keeps s.roster number s.trades s.cycle book → c ≡ s.cycle.number → v ≡ s.cycle.version →
    touched_in s (posted_plan s.cycle s.trades solutions) ≡ members →
    IsOutcome number s (proposed_or_done s solutions (posted_plan s.cycle s.trades solutions) members) book (post_ask by time c v solutions) (proposed_answer s solutions members)
post_by number s book by time c v solutions p [] keeps same same_version is =
    let now = now_of (post_ask by time c v solutions) book in
    let plan = plan_at s.roster p.opening now in
    let touched : touched_at s.roster p.opening now ≡ [] = sym (touched-posted s.roster number s.trades s.cycle book by time c v solutions p) ∙ is in
    let execution : execution_at s.roster number (now ∷ book.moments) ≡ Some (record { cycle = c; version = v; plan = plan }) =
    execution-posted s.roster number s.trades s.cycle book by time c v solutions p same
    ∙ ap (λ t. cond (is_empty t) (Some (record { cycle = c; version = v; plan = plan })) None) touched in
    let rows : executed (posted_plan s.cycle s.trades solutions) book.rows ≡ with_execution (execution_at s.roster number (now ∷ book.moments)) book.rows =
    ap (λ steps. executed steps book.rows) (plan-posted s.roster number s.trades s.cycle book by time c v solutions p) ∙ sym (ap (λ e. with_execution e book.rows) execution) in
    record {
      roster = refl;
      keeps = subst (λ rs. Keeps s.roster number (proposed_or_done s solutions (posted_plan s.cycle s.trades solutions) []).trades (proposed_or_done s solutions (posted_plan s.cycle s.trades solutions) []).cycle (record { moments = now ∷ book.moments; rows = rs })) rows
          (executed-keeps s.roster number s.trades s.cycle book now (posted_plan s.cycle s.trades solutions) refl keeps);
      told = subst (λ e. TellsExecution (Post c v solutions) e (Nothing s.cycle.number s.cycle.version)) (sym execution) (sym (ap (λ k. Nothing k v) same ∙ ap (λ w. Nothing s.cycle.number w) same_version));
    }
post_by number s book by time c v solutions p (member ∷ members) keeps same same_version is =
    let now = now_of (post_ask by time c v solutions) book in
    let plan = plan_at s.roster p.opening now in
    let touched : touched_at s.roster p.opening now ≡ member ∷ members = sym (touched-posted s.roster number s.trades s.cycle book by time c v solutions p) ∙ is in
    let execution : execution_at s.roster number (now ∷ book.moments) ≡ None =
    execution-posted s.roster number s.trades s.cycle book by time c v solutions p same
    ∙ ap (λ t. cond (is_empty t) (Some (record { cycle = c; version = v; plan = plan })) None) touched in
    let rows : book.rows ≡ with_execution (execution_at s.roster number (now ∷ book.moments)) book.rows = sym (ap (λ e. with_execution e book.rows) execution) in
    record {
      roster = refl;
      keeps = subst (λ rs. Keeps s.roster number s.trades (proposed_with s.cycle solutions (posted_plan s.cycle s.trades solutions)) (record { moments = now ∷ book.moments; rows = rs })) rows
          (record {
            numbered = keeps.numbered;
            free = keeps.free;
            count = keeps.count;
            phase = posted-proposed s.roster number s.trades s.cycle book by time c v solutions p member members keeps.numbered same same_version touched;
          });
      told = subst (λ e. TellsExecution (Post c v solutions) e (proposed_answer s solutions (member ∷ members))) (sym execution) refl;
    }

post-phase : (phase : Phase) (number : ℕ) (s : State) (book : Book) (by : Option (List ℕ)) (time : ℕ) (c v : ℕ) (solutions : List SolutionData) → is_solving phase ≡ true → InPhase phase s.roster number s.trades s.cycle book →
    Keeps s.roster number s.trades s.cycle book → c ≡ s.cycle.number → v ≡ s.cycle.version → IsOutcome number s (after_post s solutions) book (post_ask by time c v solutions) (post_answer s solutions)
post-phase NoPhase number s book by time c v solutions is p keeps same same_version = cc
post-phase Frozen number s book by time c v solutions is p keeps same same_version = cc
post-phase Solving number s book by time c v solutions is p keeps same same_version =
    post_by number s book by time c v solutions p (touched_in s (posted_plan s.cycle s.trades solutions)) keeps same same_version refl
post-phase Proposed number s book by time c v solutions is p keeps same same_version = cc
post-phase Broken number s book by time c v solutions is p keeps same same_version = cc

pub post-outcome : (number : ℕ) (s : State) (book : Book) (by : Option (List ℕ)) (time : ℕ) (c v : ℕ) (solutions : List SolutionData) → is_solving s.cycle.phase ≡ true → (c == s.cycle.number) ≡ true → (v == s.cycle.version) ≡ true →
    Keeps s.roster number s.trades s.cycle book → IsOutcome number s (after_post s solutions) book (post_ask by time c v solutions) (post_answer s solutions)
post-outcome number s book by time c v solutions is same same_version keeps =
    post-phase s.cycle.phase number s book by time c v solutions is keeps.phase keeps (eqb-true c s.cycle.number same) (eqb-true v s.cycle.version same_version)
