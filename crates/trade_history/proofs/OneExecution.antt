-- At an accepted command nothing executes but what the search finds.
use Rattle.std.proofs.Common.{◌≡◌, ℕ, Bool, true, false, cond, not, ◌&&◌, ◌||◌, ◌==◌, List, [], ◌∷◌, ◌++◌, Option, Some, None, refl, sym, ap, ◌∙◌, subst, eqb-true}
use Rattle.std.proofs.lemmas.Bool.{and_parts, both_ways}
use Rattle.std.specs.List.{list_any}
use Rattle.network_laws.specs.Solutions.{SolutionData}
use Rattle.command_types.specs.declared.ask.What.{What}
use Rattle.command_types.specs.declared.ask.What.TheVariants.{Post, Accept}
use Rattle.command_types.specs.declared.cycle.Phase.{Phase}
use Rattle.command_types.specs.declared.cycle.Phase.TheVariants.{None as NoPhase, Frozen, Solving, Proposed, Broken}
use Rattle.command_types.specs.declared.figures.Cycle.{Cycle}
use Rattle.command_types.specs.declared.figures.State.{State}
use Rattle.command_types.specs.declared.plan.PlanRow.{PlanRow}
use Rattle.command_types.specs.declared.trade.TradeRow.{TradeRow}
use Rattle.command_types.specs.Roster.{Rows}
use Rattle.command_types.specs.Cycles.{is_solving, is_proposed}
use Rattle.trade_history.specs.Moments.{Moment, is_post, is_accept, drops}
use Rattle.trade_history.specs.Executes.{Opening, Executes, takes, plan_at, touched_at, have_accepted, is_accepted_now, is_complete, is_empty, are_live}
use Rattle.trade_history.specs.Search.{Cut, opening_of, cut_at_post, Execution, is_executed, execution_at}
use Rattle.trade_history.specs.Book.{Book}
use Rattle.trade_history.proofs.Kept.{is_fresh, IsSolving, IsProposed, InPhase, Keeps}
use Rattle.trade_history.proofs.Openings.{opens-found}
use Rattle.trade_history.proofs.Outcome.{now_of}
use Rattle.trade_history.proofs.PostSteps.{post_ask, execution-posted}
use Rattle.trade_history.proofs.AcceptSteps.{accept_ask, execution-accepted}
use Rattle.trade_history.proofs.Legal.{Accepts, none-holds, post-legal, accept-legal}
use Rattle.trade_history.proofs.OneCut.{one-cut}

-- who accepts now gives an ACCEPT
accept_more : (a b rest : Bool) → (rest ≡ true → a ≡ true) → ((a && b) || rest) ≡ true → a ≡ true
accept_more true b rest more e = refl
accept_more false b rest more e = more e

accept-now : (roster : Rows) (cycle version : ℕ) (now : Moment) (members : List ℕ) → is_accepted_now roster cycle version now members ≡ true → is_accept cycle version now.ask.what ≡ true
accept-now roster cycle version now [] e = cc
accept-now roster cycle version now (member ∷ members) e =
    accept_more (is_accept cycle version now.ask.what) _ (is_accepted_now roster cycle version now members) (accept-now roster cycle version now members) e

complete_accepts : (roster : Rows) (cycle version : ℕ) (members : List ℕ) (now : Moment) (since : List Moment) → is_complete roster cycle version members (now ∷ since) ≡ true → is_accept cycle version now.ask.what ≡ true
complete_accepts roster cycle version members now since e =
    accept-now roster cycle version now members
    (and_parts (is_accepted_now roster cycle version now members) (have_accepted roster cycle version (now ∷ since) members)
    (and_parts (is_accepted_now roster cycle version now members && have_accepted roster cycle version (now ∷ since) members) (not (have_accepted roster cycle version since members)) e).0).0

first_same : (a b : Moment) (xs ys : List Moment) → a ∷ xs ≡ b ∷ ys → a ≡ b
first_same a b xs ys e = cc

rest_same : (a b : Moment) (xs ys : List Moment) → a ∷ xs ≡ b ∷ ys → xs ≡ ys
rest_same a b xs ys e = cc

-- a plan executes at its own POST, which touches nobody, or at an ACCEPT
pub data AtNow (now : Moment) (moments : List Moment) (cycle version : ℕ) (members : List ℕ) (later : List Moment) (posted : Moment) (before : List Moment) : Type 0 where
  at_post : later ≡ [] → now ≡ posted → moments ≡ before → is_post cycle version now.ask.what ≡ true → is_empty members ≡ true → AtNow now moments cycle version members later posted before
  at_accept : (since : List Moment) → later ≡ now ∷ since → moments ≡ since ++ posted ∷ before → is_accept cycle version now.ask.what ≡ true → AtNow now moments cycle version members later posted before

at_now : (roster : Rows) (now : Moment) (moments : List Moment) (cycle version : ℕ) (members : List ℕ) (later : List Moment) (posted : Moment) (before : List Moment) →
    now ∷ moments ≡ later ++ posted ∷ before → is_post cycle version posted.ask.what ≡ true → is_complete roster cycle version members later ≡ true → AtNow now moments cycle version members later posted before
at_now roster now moments cycle version members [] posted before split post complete =
    let same = first_same now posted moments before split in
    at_post refl same (rest_same now posted moments before split) (ap (λ m. is_post cycle version m.ask.what) same ∙ post) complete
at_now roster now moments cycle version members (m ∷ since) posted before split post complete =
    let same = first_same now m moments (since ++ posted ∷ before) split in
    at_accept since (ap (λ x. x ∷ since) (sym same)) (rest_same now m moments (since ++ posted ∷ before) split)
    (ap (λ x. is_accept cycle version x.ask.what) same ∙ complete_accepts roster cycle version members m since complete)

some_opening : (a b : Opening) → Some a ≡ Some b → a ≡ b
some_opening a b e = cc

-- the one opening of a cycle
same_opening : (number k n : ℕ) (moments : List Moment) (one other : Opening) → opening_of number k moments ≡ Some one → k ≡ n → opening_of number n moments ≡ Some other → one ≡ other
same_opening number k n moments one other found same is = some_opening one other (sym found ∙ ap (λ m. opening_of number m moments) same ∙ is)

-- what is found, where the test for it holds
found_so : (found : Option Execution) (t : Bool) (one other : Execution) → found ≡ cond t (Some one) None → t ≡ true → one ≡ other → found ≡ Some other
found_so found t one other is passes same = is ∙ ap (λ b. cond b (Some one) None) passes ∙ ap Some same

only_post : (roster : Rows) (number : ℕ) (trades : List TradeRow) (cycle : Cycle) (book : Book) (by : Option (List ℕ)) (time : ℕ) (c w : ℕ) (solutions : List SolutionData) (p : IsSolving roster number trades cycle book) → c ≡ cycle.number →
    (k v : ℕ) (plan : List PlanRow) (x : Executes roster number (now_of (post_ask by time c w solutions) book ∷ book.moments) book.rows k v plan) →
    AtNow (now_of (post_ask by time c w solutions) book) book.moments k v (touched_at roster x.opening x.posted) x.later x.posted x.before →
    execution_at roster number (now_of (post_ask by time c w solutions) book ∷ book.moments) ≡ Some (record { cycle = k; version = v; plan = plan })
only_post roster number trades cycle book by time c w solutions p same k v plan x (at_post no_later is_now is_before post empty) =
    let now = now_of (post_ask by time c w solutions) book in
    let parts = and_parts (c == k) (w == v) post in
    let same_k : c ≡ k = eqb-true c k parts.0 in
    let same_v : w ≡ v = eqb-true w v parts.1 in
    let opening : x.opening ≡ p.opening =
    same_opening number k cycle.number book.moments x.opening p.opening (opens-found number k (now ∷ book.moments) x.opening x.opens) (sym same_k ∙ same) p.has.found in
    let touched : touched_at roster p.opening now ≡ touched_at roster x.opening x.posted = λ i. touched_at roster (sym opening i) (is_now i) in
    let planned : plan_at roster p.opening now ≡ plan = (λ i. plan_at roster (sym opening i) (is_now i)) ∙ sym x.same in
    found_so (execution_at roster number (now ∷ book.moments)) (is_empty (touched_at roster p.opening now)) (record { cycle = c; version = w; plan = plan_at roster p.opening now })
    (record { cycle = k; version = v; plan = plan }) (execution-posted roster number trades cycle book by time c w solutions p same) (ap is_empty touched ∙ empty)
    (λ i. record { cycle = same_k i; version = same_v i; plan = planned i })
only_post roster number trades cycle book by time c w solutions p same k v plan x (at_accept since is_later is_rest accept) = absurd (both_ways false refl accept)

all_three : (d c l : Bool) → d ≡ false → c ≡ true → l ≡ true → (not d && c && l) ≡ true
all_three d c l e f g = rw (e, f, g) refl

-- the same posting, with this vote
executed_same : (roster : Rows) (rows : List TradeRow) (now : Moment) (n k w v : ℕ) (one other : Opening) (a b : Cut) → n ≡ k → w ≡ v → one ≡ other → a ≡ b →
    is_executed roster k v other b.posted (now ∷ b.later) rows ≡ true → is_executed roster n w one a.posted (now ∷ a.later) rows ≡ true
executed_same roster rows now n k w v one other a b same_n same_w same_o same_cut e =
    (λ i. is_executed roster (same_n i) (same_w i) (same_o i) (same_cut i).posted (now ∷ (same_cut i).later) rows) ∙ e

only_accept : (roster : Rows) (number : ℕ) (trades : List TradeRow) (cycle : Cycle) (book : Book) (by : Option (List ℕ)) (time : ℕ) (p : IsProposed roster number trades cycle book) →
    (k v : ℕ) (plan : List PlanRow) (x : Executes roster number (now_of (accept_ask by time cycle.number cycle.version) book ∷ book.moments) book.rows k v plan) →
    AtNow (now_of (accept_ask by time cycle.number cycle.version) book) book.moments k v (touched_at roster x.opening x.posted) x.later x.posted x.before →
    execution_at roster number (now_of (accept_ask by time cycle.number cycle.version) book ∷ book.moments) ≡ Some (record { cycle = k; version = v; plan = plan })
only_accept roster number trades cycle book by time p k v plan x (at_post no_later is_now is_before post empty) = absurd (both_ways false refl post)
only_accept roster number trades cycle book by time p k v plan x (at_accept since is_later is_rest accept) =
    let now = now_of (accept_ask by time cycle.number cycle.version) book in
    let parts = and_parts (cycle.number == k) (cycle.version == v) accept in
    let same_k : cycle.number ≡ k = eqb-true cycle.number k parts.0 in
    let same_v : cycle.version ≡ v = eqb-true cycle.version v parts.1 in
    let stands : list_any (drops k) (now ∷ since) ≡ false = sym (ap (list_any (drops k)) is_later) ∙ x.stands in
    let fresh : is_fresh k v p.cut.before ≡ true = (λ i. is_fresh (sym same_k i) (sym same_v i) p.cut.before) ∙ p.fresh in
    let cuts : cut_at_post k v (since ++ x.posted ∷ x.before) ≡ Some p.cut = (λ i. cut_at_post (sym same_k i) (sym same_v i) (sym is_rest i)) ∙ p.cuts in
    let cut : record { later = since; posted = x.posted; before = x.before } ≡ p.cut = one-cut k v since x.posted x.before p.cut stands x.post fresh cuts in
    let opening : x.opening ≡ p.opening =
    same_opening number k cycle.number book.moments x.opening p.opening (opens-found number k (now ∷ book.moments) x.opening x.opens) (sym same_k) p.has.found in
    let whole : is_executed roster k v x.opening x.posted (now ∷ since) book.rows ≡ true =
    all_three (list_any (drops k) (now ∷ since)) (is_complete roster k v (touched_at roster x.opening x.posted) (now ∷ since)) (are_live (takes roster.products x.opening) book.rows) stands
    (sym (ap (is_complete roster k v (touched_at roster x.opening x.posted)) is_later) ∙ x.complete) x.live in
    let here : is_executed roster cycle.number cycle.version p.opening p.cut.posted (now ∷ p.cut.later) book.rows ≡ true =
    executed_same roster book.rows now cycle.number k cycle.version v p.opening x.opening p.cut (record { later = since; posted = x.posted; before = x.before }) same_k same_v (sym opening) (sym cut) whole in
    let planned : plan_at roster p.opening p.cut.posted ≡ plan = (λ i. plan_at roster (sym opening i) (sym cut i).posted) ∙ sym x.same in
    found_so (execution_at roster number (now ∷ book.moments)) (is_executed roster cycle.number cycle.version p.opening p.cut.posted (now ∷ p.cut.later) book.rows)
    (record { cycle = cycle.number; version = cycle.version; plan = plan_at roster p.opening p.cut.posted }) (record { cycle = k; version = v; plan = plan })
    (execution-accepted roster number trades cycle book by time p) here (λ i. record { cycle = same_k i; version = same_v i; plan = planned i })

-- what executes is what the search finds
abbrev pub IsOnly : Rows → ℕ → List Moment → List TradeRow → Type 0
IsOnly roster number moments rows = (k v : ℕ) (plan : List PlanRow) → Executes roster number moments rows k v plan → execution_at roster number moments ≡ Some (record { cycle = k; version = v; plan = plan })

at-now : (roster : Rows) (number : ℕ) (now : Moment) (moments : List Moment) (rows : List TradeRow) (k v : ℕ) (plan : List PlanRow) (x : Executes roster number (now ∷ moments) rows k v plan) →
    AtNow now moments k v (touched_at roster x.opening x.posted) x.later x.posted x.before
at-now roster number now moments rows k v plan x = at_now roster now moments k v (touched_at roster x.opening x.posted) x.later x.posted x.before x.split x.post x.complete

none_only : (now : Moment) (moments : List Moment) (k v : ℕ) (members : List ℕ) (later : List Moment) (posted : Moment) (before : List Moment) →
    is_post k v now.ask.what ≡ false → is_accept k v now.ask.what ≡ false → AtNow now moments k v members later posted before → ⊥
none_only now moments k v members later posted before no_post no_accept (at_post no_later is_now is_before post empty) = both_ways (is_post k v now.ask.what) no_post post
none_only now moments k v members later posted before no_post no_accept (at_accept since is_later is_rest accept) = both_ways (is_accept k v now.ask.what) no_accept accept

post_phase : (phase : Phase) (roster : Rows) (number : ℕ) (trades : List TradeRow) (cycle : Cycle) (book : Book) (by : Option (List ℕ)) (time : ℕ) (c w : ℕ) (solutions : List SolutionData) → is_solving phase ≡ true → c ≡ cycle.number →
    InPhase phase roster number trades cycle book → IsOnly roster number (now_of (post_ask by time c w solutions) book ∷ book.moments) book.rows
post_phase NoPhase roster number trades cycle book by time c w solutions is same p = absurd (both_ways false refl is)
post_phase Frozen roster number trades cycle book by time c w solutions is same p = absurd (both_ways false refl is)
post_phase Solving roster number trades cycle book by time c w solutions is same p = λ k v plan x.
    only_post roster number trades cycle book by time c w solutions p same k v plan x (at-now roster number (now_of (post_ask by time c w solutions) book) book.moments book.rows k v plan x)
post_phase Proposed roster number trades cycle book by time c w solutions is same p = absurd (both_ways false refl is)
post_phase Broken roster number trades cycle book by time c w solutions is same p = absurd (both_ways false refl is)

accept_phase : (phase : Phase) (roster : Rows) (number : ℕ) (trades : List TradeRow) (cycle : Cycle) (book : Book) (by : Option (List ℕ)) (time : ℕ) → is_proposed phase ≡ true →
    InPhase phase roster number trades cycle book → IsOnly roster number (now_of (accept_ask by time cycle.number cycle.version) book ∷ book.moments) book.rows
accept_phase NoPhase roster number trades cycle book by time is p = absurd (both_ways false refl is)
accept_phase Frozen roster number trades cycle book by time is p = absurd (both_ways false refl is)
accept_phase Solving roster number trades cycle book by time is p = absurd (both_ways false refl is)
accept_phase Proposed roster number trades cycle book by time is p = λ k v plan x.
    only_accept roster number trades cycle book by time p k v plan x (at-now roster number (now_of (accept_ask by time cycle.number cycle.version) book) book.moments book.rows k v plan x)
accept_phase Broken roster number trades cycle book by time is p = absurd (both_ways false refl is)

pub one-execution : (number : ℕ) (s : State) (book : Book) (by : Option (List ℕ)) (time : ℕ) (what : What) → Keeps s.roster number s.trades s.cycle book →
    Accepts s by what → IsOnly s.roster number (now_of (record { by = by; what = what; moment = time }) book ∷ book.moments) book.rows
one-execution number s book by time (Post c v solutions) keeps is =
    let legal = post-legal s by c v solutions (none-holds s by (Post c v solutions) is) in
    post_phase s.cycle.phase s.roster number s.trades s.cycle book by time c v solutions legal.0 (eqb-true c s.cycle.number legal.1) keeps.phase
one-execution number s book by time (Accept c v) keeps is =
    let legal = accept-legal s by c v (none-holds s by (Accept c v) is) in
    subst (λ n. IsOnly s.roster number (now_of (accept_ask by time n v) book ∷ book.moments) book.rows) (sym (eqb-true c s.cycle.number legal.1))
    (subst (λ w. IsOnly s.roster number (now_of (accept_ask by time s.cycle.number w) book ∷ book.moments) book.rows) (sym (eqb-true v s.cycle.version legal.2))
    (accept_phase s.cycle.phase s.roster number s.trades s.cycle book by time legal.0 keeps.phase))
one-execution number s book by time what keeps is = λ k v plan x.
    absurd (none_only (now_of (record { by = by; what = what; moment = time }) book) book.moments k v (touched_at s.roster x.opening x.posted) x.later x.posted x.before refl refl
    (at-now s.roster number (now_of (record { by = by; what = what; moment = time }) book) book.moments book.rows k v plan x))
