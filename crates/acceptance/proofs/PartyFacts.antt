-- Whom a plan touches, as flags and as a list.
use Rattle.std.proofs.Common.{◌≡◌, ℕ, zero, suc, ◌+◌, ◌-◌, ◌<◌, ◌≤◌, ◌++◌, [], Bool, true, false, ◌||◌, nat_lt, List, take, drop, Option, Some, None, refl, sym, ap, subst, ◌∙◌, inl, inr, arith, eqb, eq-eqb, ne_eqb, lt-ltb, le-ltb, is_some}
use Rattle.std.specs.Prelude.{IsTrue}
use Rattle.std.specs.List.{list_any}
use Rattle.std.proofs.lemmas.Bool.{cases_eq, cases_lt}
use Rattle.std.proofs.lemmas.List.{append-nil, take-append-drop}
use Rattle.std.proofs.lemmas.List.Elements.{All-weaker}
use Rattle.std.proofs.lemmas.List.Folds.{list_any_none, list_any-append}
use Rattle.command_types.specs.declared.plan.PlanRow.{PlanRow}
use Rattle.command_types.specs.declared.plan.PlanRow.TheVariants.{End, Cut, New}
use Rattle.command_types.specs.declared.trade.TradeRow.{TradeRow}
use Rattle.command_types.specs.Books.{listed_below}
use Rattle.command_types.specs.CycleRefusals.{has_voted}
use Rattle.command_types.specs.Plans.{only_if, is_party_row, is_in_step, is_touched, touched_by}
use Rattle.command_types.specs.Trades.{trade_numbered}
use Rattle.acceptance.specs.Parties.{HasPartiesBelow, IsStepBelow, IsPlanBelow}
use Rattle.acceptance.specs.Votes.{is_flagged, flagged}
use Rattle.acceptance.proofs.FlagFacts.{marked, voted_within, voted_past}

-- a trade that has parties is there
pub trade_there : (n : ℕ) (o : Option TradeRow) → HasPartiesBelow n o → IsTrue (is_some o)
trade_there n None h = absurd h
trade_there n (Some row) h = refl

pub parties_of : (n : ℕ) (o : Option TradeRow) (row : TradeRow) → o ≡ Some row → HasPartiesBelow n o → (row.seller < n) × (row.buyer < n)
parties_of n o row is h = subst (HasPartiesBelow n) is h

-- the parties of a step, beside the members before
pub added_parties : (before seller buyer between after step : Bool) → between ≡ (seller || before) → after ≡ (buyer || between) → step ≡ (seller || buyer) → after ≡ (before || step)
added_parties before seller buyer between after step e e' e'' = e' ∙ ap (λ t. buyer || t) e ∙ regroup before seller buyer ∙ ap (λ t. before || t) (sym e'')
  where
    regroup : (before seller buyer : Bool) → (buyer || (seller || before)) ≡ (before || (seller || buyer))
    regroup true true true = refl
    regroup true true false = refl
    regroup true false true = refl
    regroup true false false = refl
    regroup false true true = refl
    regroup false true false = refl
    regroup false false true = refl
    regroup false false false = refl

party_past : (n m : ℕ) (o : Option TradeRow) → n ≤ m → HasPartiesBelow n o → is_party_row o m ≡ false
party_past n m None le h = refl
party_past n m (Some row) le (seller, buyer) =
    ap (λ t. t || eqb row.buyer m) (ne_eqb row.seller m (omega arith)) ∙ ne_eqb row.buyer m (omega arith)

-- no step has a party past those below n
step_past : (rows : List TradeRow) (n m : ℕ) (step : PlanRow) → n ≤ m → IsStepBelow rows n step → is_in_step rows m step ≡ false
step_past rows n m (End trade) le h = party_past n m (trade_numbered rows trade) le h
step_past rows n m (Cut trade from to) le h = party_past n m (trade_numbered rows trade) le h
step_past rows n m (New product seller buyer amount day) le (in_seller, in_buyer) =
    ap (λ t. t || eqb buyer m) (ne_eqb seller m (omega arith)) ∙ ne_eqb buyer m (omega arith)

touched_past : (rows : List TradeRow) (n m : ℕ) (plan : List PlanRow) → n ≤ m → IsPlanBelow rows n plan → is_touched rows plan m ≡ false
touched_past rows n m plan le h =
    list_any_none (is_in_step rows m) plan (All-weaker (IsStepBelow rows n) (λ step. is_in_step rows m step ≡ false) (λ step below. step_past rows n m step le below) plan h)

parties_below : (n most : ℕ) (row : Option TradeRow) → n ≤ most → HasPartiesBelow n row → HasPartiesBelow most row
parties_below n most None few below = below
parties_below n most (Some row) few below = (omega (arith, few, below.0), omega (arith, few, below.1))

pub step_below : (rows : List TradeRow) (n most : ℕ) → n ≤ most → (step : PlanRow) → IsStepBelow rows n step → IsStepBelow rows most step
step_below rows n most few (End trade) below = parties_below n most (trade_numbered rows trade) few below
step_below rows n most few (Cut trade from to) below = parties_below n most (trade_numbered rows trade) few below
step_below rows n most few (New product seller buyer amount day) below = (omega (arith, few, below.0), omega (arith, few, below.1))

-- members below a number are below a larger one
pub plan_below : (rows : List TradeRow) (n most : ℕ) (plan : List PlanRow) → n ≤ most → IsPlanBelow rows n plan → IsPlanBelow rows most plan
plan_below rows n most plan few below = All-weaker (IsStepBelow rows n) (IsStepBelow rows most) (step_below rows n most few) plan below

or_last : (t : Bool) → (t || true) ≡ true
or_last true = refl
or_last false = refl

-- those below one number more
pub one_below : (k m : ℕ) → (eqb k m || nat_lt m k) ≡ nat_lt m (k + 1)
one_below k m = elim (cases_lt m k) as (λ _. (eqb k m || nat_lt m k) ≡ nat_lt m (k + 1)) [
  | inl less ↦ ap (λ t. eqb k m || t) (lt-ltb m k less) ∙ or_last (eqb k m) ∙ sym (lt-ltb m (k + 1) (omega arith))
  | inr past ↦ elim (cases_eq k m) as (λ _. (eqb k m || nat_lt m k) ≡ nat_lt m (k + 1)) [
    | inl same ↦ ap (λ t. t || nat_lt m k) (eq-eqb k m same) ∙ sym (lt-ltb m (k + 1) (omega arith))
    | inr other ↦ ap (λ t. t || nat_lt m k) (ne_eqb k m other) ∙ le-ltb m k past ∙ sym (le-ltb m (k + 1) (omega (arith, other)))
  ]
]

any_front : (test : PlanRow → Bool) (i : ℕ) (plan : List PlanRow) → list_any test (take i plan) ≡ true → list_any test plan ≡ true
any_front test i plan e =
    ap (list_any test) (sym (take-append-drop i plan)) ∙ list_any-append test (take i plan) (drop i plan) ∙ ap (λ t. t || list_any test (drop i plan)) e

-- where all members are found in the first steps, no other step has further ones
pub all_found : (words : List ℕ) (rows : List TradeRow) (plan : List PlanRow) (n i : ℕ) → IsPlanBelow rows n plan → ((m : ℕ) → is_flagged words m ≡ nat_lt m n) → ((m : ℕ) → is_flagged words m ≡ list_any (is_in_step rows m) (take i plan)) →
    (m : ℕ) → is_flagged words m ≡ is_touched rows plan m
all_found words rows plan n i below all front m = elim (cases_lt m n) as (λ _. is_flagged words m ≡ is_touched rows plan m) [
  | inl within ↦ (let found : is_flagged words m ≡ true = all m ∙ lt-ltb m n within in found ∙ sym (any_front (is_in_step rows m) i plan (sym (front m) ∙ found)))
  | inr past ↦ all m ∙ le-ltb m n past ∙ sym (touched_past rows n m plan past below)
]

-- lists of members by tests that agree
pub listed_agree : (f g : ℕ → Bool) (n : ℕ) → ((m : ℕ) → f m ≡ g m) → listed_below n (marked f) ≡ listed_below n (marked g)
listed_agree f g zero h = refl
listed_agree f g (suc n) h =
    ap (λ xs. xs ++ marked f n) (listed_agree f g n h) ∙ ap (λ t. listed_below n (marked g) ++ only_if t n) (h n)

-- those past n add nothing where the test fails
listed_short : (f : ℕ → Bool) (n k : ℕ) → ((m : ℕ) → n ≤ m → f m ≡ false) → listed_below (k + n) (marked f) ≡ listed_below n (marked f)
listed_short f n zero none = ap (λ i. listed_below i (marked f)) (let e : 0 + n ≡ n = omega arith in e)
listed_short f n (suc k) none =
    let e : suc k + n ≡ suc (k + n) = omega arith in
    ap (λ i. listed_below i (marked f)) e
    ∙ ap (λ t. listed_below (k + n) (marked f) ++ only_if t (k + n)) (none (k + n) (omega arith))
    ∙ append-nil (listed_below (k + n) (marked f)) ∙ listed_short f n k none

pub flagged_touched : (words : List ℕ) (rows : List TradeRow) (plan : List PlanRow) (n : ℕ) → ((m : ℕ) → is_flagged words m ≡ is_touched rows plan m) → n ≤ 256 → IsPlanBelow rows n plan → flagged words ≡ touched_by n rows plan
unfolding flagged
flagged_touched words rows plan n h le below =
    let all : 256 ≡ 256 - n + n = omega arith in
    listed_agree (is_flagged words) (is_touched rows plan) 256 h
    ∙ ap (λ i. listed_below i (marked (is_touched rows plan))) all
    ∙ listed_short (is_touched rows plan) n (256 - n) (λ m past. touched_past rows n m plan past below)

-- and so the test of those listed
pub voted_touched : (words : List ℕ) (rows : List TradeRow) (plan : List PlanRow) → ((m : ℕ) → is_flagged words m ≡ is_touched rows plan m) → IsPlanBelow rows 256 plan → (m : ℕ) → has_voted (flagged words) m ≡ is_touched rows plan m
unfolding flagged
voted_touched words rows plan h below m = elim (cases_lt m 256) as (λ _. has_voted (flagged words) m ≡ is_touched rows plan m) [
  | inl within ↦ voted_within (is_flagged words) 256 m within ∙ h m
  | inr past ↦ voted_past (is_flagged words) 256 m past ∙ sym (touched_past rows 256 m plan past below)
]

listed_none : (f : ℕ → Bool) (n : ℕ) → ((m : ℕ) → f m ≡ false) → listed_below n (marked f) ≡ []
listed_none f zero h = refl
listed_none f (suc n) h = ap (λ xs. xs ++ marked f n) (listed_none f n h) ∙ ap (λ t. only_if t n) (h n)

pub flagged_none : (words : List ℕ) → ((m : ℕ) → is_flagged words m ≡ false) → flagged words ≡ []
unfolding flagged
flagged_none words h = listed_none (is_flagged words) 256 h
