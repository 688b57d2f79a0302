-- What a seat knows and has seen, where the history has grown, or where another view stands at a place.
use Rattle.std.proofs.Common.{◌≡◌, ◌≢◌, ℕ, suc, zero, ◌+◌, ◌<◌, ◌≤◌, Bool, true, false, ◌==◌, ◌||◌, List, [], ◌∷◌, ◌++◌, length, drop, set, sym, refl, ap, ◌∙◌, subst, ⊎_elim, arith, length-append, append_assoc}
use mathlib.Core.Option.{some, some-injective, some-ne-none}
use mathlib.Core.Logic.{dite}
use native.Mathlib.Decide.{ℕ_discrete}
use lib.ListN.{get_elem?}
use Rattle.atomic_table.proofs.Lists.{at_set, set_here, set_else, at_longer}
use Rattle.std.proofs.lemmas.List.{append-nil, drop-append-le}
use Rattle.std.proofs.lemmas.List.Elements.{filter-append}
use Rattle.command_types.specs.declared.ask.Entry.{Entry}
use Rattle.command_types.specs.declared.figures.Figures.{Figures}
use Rattle.cycle_lock.specs.declared.rule.View.{View}
use Rattle.cycle_lock.specs.declared.rule.Stage.{Stage}
use Rattle.cycle_lock.specs.declared.rule.Stage.TheVariants.{Resting, Waiting, HasTurn, Serving, Passed, Drawn, Joined}
use Rattle.cycle_lock.specs.Stage.{has_turn}
use Rattle.cycle_lock.specs.Views.{owned, splits_left, width, blank}
use Rattle.cycle_lock.specs.Accounts.{times, FitsAccount, Extends, opening_count, by}
use Rattle.cycle_lock.specs.Kept.{KnowsDesk, FitsGuest, Fits, Quiet, AllSaw}
use Rattle.cycle_lock.specs.Numbers.{Counted}
use Rattle.cycle_lock.specs.declared.rule.Account.{Account}
use Rattle.cycle_lock.proofs.Joins.{by_more}
use Rattle.cycle_lock.proofs.Owners.{AreOf, by_others}
use Rattle.cycle_lock.proofs.Numbers.{total_two, times_within, times-append}

pub fits_set : (log : List Entry) (stop : Bool) (figures : Figures) (vs : List View) (id : ℕ) (w : View) → Fits log stop figures w
    → ((j : ℕ) (u : View) → j ≢ id → get_elem? vs j ≡ some u → Fits log stop figures u)
    → (j : ℕ) (u : View) → get_elem? (set vs id w) j ≡ some u → Fits log stop figures u
fits_set log stop figures vs id w mine others j u p = ⊎_elim
    (λ (x : (j ≡ id) × (w ≡ u)). subst (λ (z : View). Fits log stop figures z) x.1 mine)
    (λ (x : (j ≢ id) × (get_elem? vs j ≡ some u)). others j u x.0 x.1)
    (at_set vs id j w u p)

pub quiet_before : (vs : List View) (id : ℕ) (v w : View) → get_elem? vs id ≡ some v → has_turn v.stage ≡ false → Quiet (set vs id w) → Quiet vs
quiet_before vs id v w at still quiet j u p = dite (ℕ_discrete j id)
    (λ e. let same : u ≡ v = some-injective u v (sym p ∙ (ap (λ (k : ℕ). get_elem? vs k) e ∙ at)) in ap (λ (z : View). has_turn z.stage) same ∙ still)
    (λ ne. quiet j u (set_else vs id j w ne ∙ p))

below : (vs : List View) (i : ℕ) (v : View) → get_elem? vs i ≡ some v → i < length vs
below [] i v e = absurd (some-ne-none v (sym e))
below (x ∷ xs) zero v e = omega arith
below (x ∷ xs) (suc i) v e = let h = below xs i v e in omega arith

-- while a seat has the turn, nothing is said of the slot
pub loud : (vs : List View) (id : ℕ) (v w : View) → get_elem? vs id ≡ some v → has_turn w.stage ≡ true → Quiet (set vs id w) → ⊥
loud vs id v w at st quiet = let f : has_turn w.stage ≡ false = quiet id w (set_here vs id w (below vs id v at)) in let bad : true ≡ false = sym st ∙ f in absurd (cc)

pub not_true : (b : Bool) → (b ≡ true → ⊥) → b ≡ false
not_true true n = absurd (n refl)
not_true false n = refl

pub knows_other : (log log' : List Entry) (stop stop' : Bool) (figures : Figures) (known : List Entry) (halted : Bool) (st : Stage) → (has_turn st ≡ true → ⊥) → KnowsDesk log stop figures st known halted → KnowsDesk log' stop' figures st known halted
knows_other log log' stop stop' figures known halted Resting n k = tt
knows_other log log' stop stop' figures known halted Waiting n k = tt
knows_other log log' stop stop' figures known halted HasTurn n k = absurd (n refl)
knows_other log log' stop stop' figures known halted Serving n k = absurd (n refl)
knows_other log log' stop stop' figures known halted Passed n k = tt
knows_other log log' stop stop' figures known halted Drawn n k = tt
knows_other log log' stop stop' figures known halted Joined n k = tt

-- entries of another number are no entries of this one
pub by_other : (n number opening : ℕ) (log more : List Entry) → opening ≤ length log → AreOf number more → n ≢ number → by n (drop opening (log ++ more)) ≡ by n (drop opening log)
by_other n number opening log more le own ne = by_more n opening log more le ∙ (ap (λ (x : List Entry). by n (drop opening log) ++ x) (by_others n number more own ne) ∙ append-nil (by n (drop opening log)))

pub account_first : (n : ℕ) (a b : Account) (st : Stage) → 1 ≤ times n a.stands → 1 ≤ times n (owned st a b)
account_first n a b Resting h = h
account_first n a b Waiting h = h
account_first n a b HasTurn h = h
account_first n a b Serving h = omega (arith, times-append n a.stands b.stands)
account_first n a b Passed h = h
account_first n a b Drawn h = h
account_first n a b Joined h = omega (arith, times-append n a.stands b.stands)

-- a history that has grown fits an account that has no part in what was added
pub account_grows : (log log' more : List Entry) (stop stop' : Bool) (figures : Figures) (a : Account) → FitsAccount log stop figures a → log' ≡ log ++ more → (stop ≡ true → stop' ≡ true)
    → ((n : ℕ) → 1 ≤ times n a.stands → by n (drop (opening_count figures) log') ≡ by n (drop (opening_count figures) log)) → FitsAccount log' stop' figures a
account_grows log log' more stop stop' figures a f grown still theirs = record {
  same = f.same;
  later = f.later;
  mine = f.mine;
  begins = (f.begins.0 ++ more, grown ∙ (ap (λ (x : List Entry). x ++ more) f.begins.1 ∙ append_assoc a.seen f.begins.0 more));
  stops = λ e. still (f.stops e);
  made = λ n h. theirs n h ∙ f.made n h;
}

pub guest_grows : (log log' more : List Entry) (stop stop' : Bool) (figures : Figures) (a g : Account) (st : Stage) → FitsGuest log stop figures st a g → log' ≡ log ++ more → (stop ≡ true → stop' ≡ true)
    → ((n : ℕ) → 1 ≤ times n (owned st a g) → by n (drop (opening_count figures) log') ≡ by n (drop (opening_count figures) log)) → FitsGuest log' stop' figures st a g
guest_grows log log' more stop stop' figures a g Resting f grown still theirs = tt
guest_grows log log' more stop stop' figures a g Waiting f grown still theirs = tt
guest_grows log log' more stop stop' figures a g HasTurn f grown still theirs = tt
guest_grows log log' more stop stop' figures a g Serving f grown still theirs = (account_grows log log' more stop stop' figures g f.0 grown still (λ n h. theirs n (omega (arith, times-append n a.stands g.stands))), f.1)
guest_grows log log' more stop stop' figures a g Passed f grown still theirs = tt
guest_grows log log' more stop stop' figures a g Drawn f grown still theirs = tt
guest_grows log log' more stop stop' figures a g Joined f grown still theirs = account_grows log log' more stop stop' figures g f grown still (λ n h. theirs n (omega (arith, times-append n a.stands g.stands)))

prefix_nil : (xs ys : List Entry) → xs ++ ys ≡ [] → xs ≡ []
prefix_nil [] ys e = refl
prefix_nil (x ∷ xs) ys e = absurd (cc)

-- where the whole has no entry of a number, a beginning has none
pub none_before : (n opening : ℕ) (log seen : List Entry) → opening ≤ length seen → Extends log seen → by n (drop opening log) ≡ [] → by n (drop opening seen) ≡ []
none_before n opening log seen le pre nobody = prefix_nil (by n (drop opening seen)) (by n pre.0)
    (sym (filter-append (λ (x : Entry). x.seat == n) (drop opening seen) pre.0) ∙ (ap (by n) (sym (drop-append-le opening seen pre.0 le)) ∙ (ap (λ (x : List Entry). by n (drop opening x)) (sym pre.1) ∙ nobody)))

-- numbers that are too large for what a view splits_left split off were not drawn
pub far_enough : (next n : ℕ) (vs : List View) (since : List Entry) (c : Counted next vs since) (id : ℕ) (v : View) → get_elem? vs id ≡ some v → splits_left v ≡ v.account.left → 4294967296 ≤ n + v.account.left → next ≤ n
far_enough next n vs since c id v at is far = let m = c.small in dite (ℕ_discrete (splits_left v) 0) (λ z. omega arith) (λ nz. let p : 0 < splits_left v = omega arith in let t = c.splitter id v at p in omega arith)

pub blank_fits : (log : List Entry) (stop : Bool) (figures : Figures) → FitsAccount log stop figures blank
blank_fits log stop figures = record { same = λ e. absurd (cc); later = λ e. absurd (cc); mine = λ e. absurd (cc); begins = (log, refl); stops = λ e. absurd (cc); made = λ n h. absurd (omega arith) }

pub or_left : (a b : Bool) → a ≡ true → (a || b) ≡ true
or_left true b e = refl
or_left false b e = absurd (cc)

pub or_true : (a b : Bool) (P : Type 0) → (a || b) ≡ true → (a ≡ true → P) → (b ≡ true → P) → P
or_true true b P e f g = f refl
or_true false b P e f g = g e

pub quiet_front : (vs ws : List View) → Quiet (vs ++ ws) → Quiet vs
quiet_front vs ws q j u p = q j u (at_longer vs ws j u p)

pub saw_set : (vs : List View) (id : ℕ) (w : View) → (1 ≤ width w → w.account.stop ≡ true) → ((j : ℕ) (u : View) → j ≢ id → get_elem? vs j ≡ some u → 1 ≤ width u → u.account.stop ≡ true) → AllSaw (set vs id w)
saw_set vs id w mine others j u p = ⊎_elim
    (λ (x : (j ≡ id) × (w ≡ u)). subst (λ (z : View). 1 ≤ width z → z.account.stop ≡ true) x.1 mine)
    (λ (x : (j ≢ id) × (get_elem? vs j ≡ some u)). others j u x.0 x.1)
    (at_set vs id j w u p)

-- while no number but the first was drawn, one is alone
pub alone_there : (next : ℕ) (vs : List View) (since : List Entry) (c : Counted next vs since) (id j : ℕ) (v u : View) → get_elem? vs id ≡ some v → get_elem? vs j ≡ some u → j ≢ id → 1 ≤ width v → 1 ≤ width u → next ≡ 1 → ⊥
alone_there next vs since c id j v u p q ne has has' one = let f = c.few in let t = total_two width vs j id u v q p ne in absurd (omega arith)

-- an account that is not spent stands for a number
pub stands_for : (number : ℕ) (stands : List ℕ) → 1 ≤ times number stands → 1 ≤ length stands
stands_for number stands h = let t = times_within number stands in omega arith

pub account_within : (a b : Account) (st : Stage) → length a.stands ≤ length (owned st a b)
account_within a b Resting = omega arith
account_within a b Waiting = omega arith
account_within a b HasTurn = omega arith
account_within a b Serving = omega (arith, length-append a.stands b.stands)
account_within a b Passed = omega arith
account_within a b Drawn = omega arith
account_within a b Joined = omega (arith, length-append a.stands b.stands)
