-- What the search finds executes.
use Rattle.std.proofs.Common.{◌≡◌, ℕ, Bool, true, false, cond, not, ◌&&◌, List, [], ◌∷◌, ◌++◌, Option, Some, None, IsTrue, refl, sym, ap, subst}
use Rattle.std.specs.List.{list_any}
use Rattle.command_types.specs.declared.ask.What.{What}
use Rattle.command_types.specs.declared.ask.What.TheVariants.{Post, Accept}
use Rattle.command_types.specs.declared.trade.TradeRow.{TradeRow}
use Rattle.command_types.specs.Roster.{Rows}
use Rattle.trade_history.specs.Moments.{Moment, is_post, drops}
use Rattle.trade_history.specs.Executes.{Opening, Executes, OpensCycle, takes, plan_at, touched_at, is_complete, are_live}
use Rattle.trade_history.specs.Search.{Cut, opening_of, later_by, cut_at_post, Execution, is_executed, execution_in, execution_of_cut, execution_by, execution_at}
use Rattle.trade_history.proofs.Openings.{found-opens, opens-longer}

-- a cut at a POST
pub record CutsAt (cycle version : ℕ) (moments : List Moment) (cut : Cut) : Type 0 where
  pub split : moments ≡ cut.later ++ cut.posted ∷ cut.before
  pub post : IsTrue (is_post cycle version cut.posted.ask.what)

pub some_cut : (a b : Cut) → Some a ≡ Some b → a ≡ b
some_cut a b e = cc

later_cut : (cycle version : ℕ) (moment : Moment) (moments : List Moment) (o : Option Cut) (cut : Cut) → ((c : Cut) → o ≡ Some c → CutsAt cycle version moments c) → later_by moment o ≡ Some cut → CutsAt cycle version (moment ∷ moments) cut
later_cut cycle version moment moments None cut rest e = cc
later_cut cycle version moment moments (Some c) cut rest e =
    let at = rest c refl in
    subst (CutsAt cycle version (moment ∷ moments)) (some_cut (record { later = moment ∷ c.later; posted = c.posted; before = c.before }) cut e)
    (record { split = ap (λ ms. moment ∷ ms) at.split; post = at.post })

cut_here : (cycle version : ℕ) (moment : Moment) (moments : List Moment) (cut : Cut) (b : Bool) → is_post cycle version moment.ask.what ≡ b → ((c : Cut) → cut_at_post cycle version moments ≡ Some c → CutsAt cycle version moments c) →
    cond b (Some (record { later = []; posted = moment; before = moments })) (later_by moment (cut_at_post cycle version moments)) ≡ Some cut → CutsAt cycle version (moment ∷ moments) cut
cut_here cycle version moment moments cut true is rest e =
    subst (CutsAt cycle version (moment ∷ moments)) (some_cut (record { later = []; posted = moment; before = moments }) cut e) (record { split = refl; post = is })
cut_here cycle version moment moments cut false is rest e = later_cut cycle version moment moments (cut_at_post cycle version moments) cut rest e

pub cut-splits : (cycle version : ℕ) (moments : List Moment) (cut : Cut) → cut_at_post cycle version moments ≡ Some cut → CutsAt cycle version moments cut
cut-splits cycle version [] cut e = cc
cut-splits cycle version (moment ∷ moments) cut e =
    cut_here cycle version moment moments cut (is_post cycle version moment.ask.what) refl (cut-splits cycle version moments) e

-- the parts of an execution
pub record IsExecuted (roster : Rows) (cycle version : ℕ) (opening : Opening) (posted : Moment) (later : List Moment) (rows : List TradeRow) : Type 0 where
  pub stands : list_any (drops cycle) later ≡ false
  pub complete : is_complete roster cycle version (touched_at roster opening posted) later ≡ true
  pub live : are_live (takes roster.products opening) rows ≡ true

three : (d c l : Bool) → (not d && c && l) ≡ true → (d ≡ false) × (c ≡ true) × (l ≡ true)
three true c l e = cc
three false true l e = (refl, refl, e)
three false false l e = cc

executed-parts : (roster : Rows) (cycle version : ℕ) (opening : Opening) (posted : Moment) (later : List Moment) (rows : List TradeRow) → is_executed roster cycle version opening posted later rows ≡ true →
    IsExecuted roster cycle version opening posted later rows
executed-parts roster cycle version opening posted later rows e =
    let parts = three (list_any (drops cycle) later) (is_complete roster cycle version (touched_at roster opening posted) later) (are_live (takes roster.products opening) rows) e in
    record { stands = parts.0; complete = parts.1; live = parts.2 }

some_execution : (a b : Execution) → Some a ≡ Some b → a ≡ b
some_execution a b e = cc

found_whole : (roster : Rows) (number cycle version : ℕ) (moments : List Moment) (rows : List TradeRow) (cut : Cut) (opening : Opening) (execution : Execution) (b : Bool) →
    CutsAt cycle version moments cut → opening_of number cycle cut.before ≡ Some opening → is_executed roster cycle version opening cut.posted cut.later rows ≡ b →
    cond b (Some (record { cycle = cycle; version = version; plan = plan_at roster opening cut.posted })) None ≡ Some execution → Executes roster number moments rows execution.cycle execution.version execution.plan
found_whole roster number cycle version moments rows cut opening execution true cuts opens whole e =
    let parts = executed-parts roster cycle version opening cut.posted cut.later rows whole in
    subst (λ x. Executes roster number moments rows x.cycle x.version x.plan) (some_execution (record { cycle = cycle; version = version; plan = plan_at roster opening cut.posted }) execution e)
    (record {
      later = cut.later;
      posted = cut.posted;
      before = cut.before;
      split = cuts.split;
      post = cuts.post;
      opening = opening;
      opens = subst (λ ms. OpensCycle number cycle ms opening) (sym cuts.split)
          (opens-longer number cycle cut.later (cut.posted ∷ cut.before) opening
          (opens-longer number cycle (cut.posted ∷ []) cut.before opening (found-opens number cycle cut.before opening opens)));
      stands = parts.stands;
      complete = parts.complete;
      live = parts.live;
      same = refl;
    })
found_whole roster number cycle version moments rows cut opening execution false cuts opens whole e = cc

found_in : (roster : Rows) (number cycle version : ℕ) (moments : List Moment) (rows : List TradeRow) (cut : Cut) (o : Option Opening) (execution : Execution) →
    CutsAt cycle version moments cut → opening_of number cycle cut.before ≡ o → execution_in roster cycle version rows cut o ≡ Some execution → Executes roster number moments rows execution.cycle execution.version execution.plan
found_in roster number cycle version moments rows cut None execution cuts opens e = cc
found_in roster number cycle version moments rows cut (Some opening) execution cuts opens e =
    found_whole roster number cycle version moments rows cut opening execution (is_executed roster cycle version opening cut.posted cut.later rows) cuts opens refl e

found_cut : (roster : Rows) (number cycle version : ℕ) (moments : List Moment) (rows : List TradeRow) (o : Option Cut) (execution : Execution) →
    cut_at_post cycle version moments ≡ o → execution_of_cut roster number cycle version rows o ≡ Some execution → Executes roster number moments rows execution.cycle execution.version execution.plan
found_cut roster number cycle version moments rows None execution cuts e = cc
found_cut roster number cycle version moments rows (Some cut) execution cuts e =
    found_in roster number cycle version moments rows cut (opening_of number cycle cut.before) execution (cut-splits cycle version moments cut cuts) refl e

found_by : (roster : Rows) (number : ℕ) (moments : List Moment) (rows : List TradeRow) (what : What) (execution : Execution) → execution_by roster number moments rows what ≡ Some execution →
    Executes roster number moments rows execution.cycle execution.version execution.plan
found_by roster number moments rows (Post cycle version solutions) execution e = found_cut roster number cycle version moments rows (cut_at_post cycle version moments) execution refl e
found_by roster number moments rows (Accept cycle version) execution e = found_cut roster number cycle version moments rows (cut_at_post cycle version moments) execution refl e
found_by roster number moments rows what execution e = cc

-- what the search finds at a moment executes there, in any history
pub found-executes : (roster : Rows) (number : ℕ) (now : Moment) (before : List Moment) (execution : Execution) → execution_at roster number (now ∷ before) ≡ Some execution →
    Executes roster number (now ∷ before) now.rows execution.cycle execution.version execution.plan
found-executes roster number now before execution e = found_by roster number (now ∷ before) now.rows now.ask.what execution e
