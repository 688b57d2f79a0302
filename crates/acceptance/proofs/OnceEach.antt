-- No trade has two steps of a plan.
use Rattle.std.proofs.Common.{◌≡◌, ◌≢◌, ℕ, ◌+◌, ◌-◌, ◌<◌, ◌≤◌, ◌==◌, nat_lt, Bool, true, false, cond, eqb, List, [], ◌∷◌, length, get_or, slice_get, Some, None, refl, sym, ap, ◌∙◌, subst, arith, ⊎_elim, inl, inr, if◌then◌else◌}
use Rattle.std.specs.Prelude.{◌⊎◌, filter, nat_le, count_by, All, AllPairs}
use Rattle.std.proofs.lemmas.Bool.{cases_eq, cases_Bool, eq-eqb}
use Rattle.std.proofs.lemmas.List.{length-append}
use Rattle.std.proofs.lemmas.List.Elements.{All-nil, All-cons, All-filter, filter-append}
use Rattle.std.proofs.lemmas.List.Kept.{AllPairs-cons}
use Rattle.std.proofs.lemmas.List.Sums.{length-filter, count_by-le-length, sum_by-cons}
use Rattle.std.proofs.lemmas.Option.{slice_get_cases}
use Rattle.units_core.specs.Day.{DayParts}
use Rattle.network_laws.specs.Networks.{NetworkData, at}
use Rattle.command_types.specs.declared.plan.PlanRow.{PlanRow}
use Rattle.command_types.specs.declared.plan.PlanRow.TheVariants.{End, Cut, New}
use Rattle.command_types.specs.declared.trade.TradeRow.{TradeRow}
use Rattle.command_types.specs.Plans.{falling, free_rows, pair_plan, plan_from}
use Rattle.command_types.specs.Execution.{falling_trades}
use Rattle.acceptance.specs.Laws.{PlanIsFree}
use Rattle.acceptance.specs.Renewals.{AreNumbered, frozen_networks, renewal_plan}
use Rattle.acceptance.specs.Planning.{is_free_between, row_fall}
use Rattle.acceptance.proofs.PlanFacts.{falling_more}
use Rattle.acceptance.proofs.RowSteps.{is_of}
use Rattle.acceptance.proofs.Falls.{HasNone, numbered_at, none_below, row_fall_other, falling_other}
use Rattle.acceptance.proofs.OwnSteps.{pair_other, own_pair}
use Rattle.acceptance.proofs.PlanPieces.{AreOnlyOf, from_none, from_at}
use Rattle.acceptance.proofs.FreeSteps.{steps_free}

-- at most one step is of a trade
head_by : (t fall : ℕ) (row : TradeRow) (none fits : Bool) → length (filter (is_of t) (cond none [] (cond fits (End row.number ∷ []) (Cut row.number row.amount (row.amount - fall) ∷ [])))) ≤ 1
head_by t fall row none fits = omega (arith, length-filter (is_of t) steps, count_by-le-length (is_of t) steps, short none fits)
  where
    steps : List PlanRow
    steps = cond none [] (cond fits (End row.number ∷ []) (Cut row.number row.amount (row.amount - fall) ∷ []))

    short : (none fits : Bool) → length (cond none [] (cond fits (End row.number ∷ []) (Cut row.number row.amount (row.amount - fall) ∷ []))) ≤ 1
    short true fits = omega arith
    short false true = omega arith
    short false false = omega arith

fall_once : (P : TradeRow → Bool) (n t fall : ℕ) (rows : List TradeRow) → AreNumbered n rows → length (filter (is_of t) (falling fall (filter P rows))) ≤ 1
fall_once P n t fall [] are = omega arith
fall_once P n t fall (row ∷ rows) (here, later) =
    let free = filter P rows in
    let head = row_fall fall row in
    let tail = falling (fall - row.amount) free in
    let taken = λ (b : Bool). length (filter (is_of t) (falling fall (cond b (row ∷ free) free))) in
    let both : taken true ≡ length (filter (is_of t) head) + length (filter (is_of t) tail) =
    ap (λ xs. length (filter (is_of t) xs)) (falling_more fall row free) ∙ ap length (filter-append (is_of t) head tail) ∙ length-append (filter (is_of t) head) (filter (is_of t) tail) in
    let one = head_by t fall row (eqb fall 0) (nat_le row.amount fall) in
    let one_of : taken true ≤ 1 =
    ⊎_elim (λ (e : row.number ≡ t).
    let none = falling_other t (fall - row.amount) free (All-filter P (λ r. r.number ≢ t) rows (none_below (n + 1) t rows later (omega arith))) in
    omega (arith, both, one, ap length none))
    (λ (ne : row.number ≢ t). omega (arith, both, ap length (row_fall_other row t fall ne), fall_once P (n + 1) t (fall - row.amount) rows later))
    (cases_eq row.number t) in
    ⊎_elim (λ (passes : P row ≡ true). subst (λ b. taken b ≤ 1) (sym passes) one_of)
    (λ (fails : P row ≡ false). subst (λ b. taken b ≤ 1) (sym fails) (fall_once P (n + 1) t fall rows later))
    (cases_Bool (P row))

once_by : (rows : List TradeRow) (day : DayParts) (t product seller buyer fall more : ℕ) (falls grows : Bool) → AreNumbered 1 rows →
    length (filter (is_of t) (if falls then falling fall (free_rows rows product seller buyer) else (if grows then New product seller buyer more day ∷ [] else []))) ≤ 1
once_by rows day t product seller buyer fall more true grows are = fall_once (is_free_between product seller buyer) 1 t fall rows are
once_by rows day t product seller buyer fall more false true are = omega arith
once_by rows day t product seller buyer fall more false false are = omega arith

pair_once : (rows : List TradeRow) (day : DayParts) (t product seller buyer : ℕ) (old new : NetworkData) → AreNumbered 1 rows → length (filter (is_of t) (pair_plan rows day product old new seller buyer)) ≤ 1
pair_once rows day t product seller buyer old new are =
    once_by rows day t product seller buyer (at old seller buyer - at new seller buyer) (at new seller buyer - at old seller buyer)
    (nat_lt (at new seller buyer) (at old seller buyer)) (nat_lt (at old seller buyer) (at new seller buyer)) are

module _ (rows : List TradeRow) (day : DayParts) (are : AreNumbered 1 rows) (olds news : List NetworkData) (t : ℕ) where
  abbrev Once : Type 0
  Once = length (filter (is_of t) (plan_from rows day 0 olds news)) ≤ 1

  -- there is no such trade
  once_none : (t ≡ 0) ⊎ (length rows < t) → Once
  once_none far =
      let other : HasNone t rows = λ k d l e. ⊎_elim (λ (z : t ≡ 0). omega (arith, z, numbered_at 1 rows are k d l)) (λ (past : length rows < t). omega (arith, past, numbered_at 1 rows are k d l)) far in
      let none = from_none rows day (is_of t) 0 olds news (λ m a b old new _ _ _.
      pair_other rows day t (0 + m) a b old new (All-filter (is_free_between (0 + m) a b) (λ r. r.number ≢ t) rows other)) in
      omega (arith, ap length none)

  once_at : (k : ℕ) (row : TradeRow) → k < length rows → t ≡ 1 + k → Once
  once_at k row l e =
      let own = get_or rows k row in
      from_at rows day (λ xs. length xs ≤ 1) (is_of t) own.product own.seller own.buyer (omega arith)
      (λ old new. pair_once rows day t own.product own.seller own.buyer old new are)
      (subst (λ n. AreOnlyOf rows day (is_of n) own.product own.seller own.buyer) (sym e) (own_pair rows day k row are l))
      0 olds news

  once : Once
  once =
      ⊎_elim (λ (z : t ≡ 0). once_none (inl z))
      (λ (some : t ≢ 0).
      ⊎_elim (λ (there : (x : TradeRow) × (t - 1 < length rows) × (slice_get rows (t - 1) ≡ Some x) × (get_or rows (t - 1) x ≡ x)). once_at (t - 1) there.0 there.1 (omega arith))
      (λ (past : (length rows ≤ t - 1) × (slice_get rows (t - 1) ≡ None)). once_none (inr (omega (arith, past.0))))
      (slice_get_cases rows (t - 1)).1)
      (cases_eq t 0)

-- where no step is of a trade, it is none of those that fall
none_of_by : (t s n : ℕ) → (cond (s == t) 1 0) + n ≡ 0 → t ≢ s
none_of_by t s n none e = omega (arith, none, ap {B = ℕ} (λ b. cond b 1 0) (eq-eqb s t (sym e)))

counted : (t : ℕ) (step : PlanRow) (plan : List PlanRow) → count_by (is_of t) (step ∷ plan) ≡ cond (is_of t step) 1 0 + count_by (is_of t) plan
counted t step plan = sum_by-cons (λ x. cond (is_of t x) 1 0) step plan

none_of : (t : ℕ) (plan : List PlanRow) → count_by (is_of t) plan ≡ 0 → All (λ b. t ≢ b) (falling_trades plan)
none_of t [] none = All-nil (λ b. t ≢ b)
none_of t (End s ∷ plan) none =
    let all = counted t (End s) plan in
    All-cons (λ b. t ≢ b) s (falling_trades plan) (none_of_by t s (count_by (is_of t) plan) (omega arith)) (none_of t plan (omega arith))
none_of t (Cut s from to ∷ plan) none =
    let all = counted t (Cut s from to) plan in
    All-cons (λ b. t ≢ b) s (falling_trades plan) (none_of_by t s (count_by (is_of t) plan) (omega arith)) (none_of t plan (omega arith))
none_of t (New product seller buyer amount day ∷ plan) none =
    let all = counted t (New product seller buyer amount day) plan in
    none_of t plan (omega arith)

own_counts : (t n : ℕ) → (cond (t == t) 1 0) + n ≤ 1 → n ≡ 0
own_counts t n le = omega (arith, le, ap {B = ℕ} (λ b. cond b 1 0) (eq-eqb t t refl))

apart : (plan : List PlanRow) → ((t : ℕ) → count_by (is_of t) plan ≤ 1) → AllPairs (λ a b. a ≢ b) (falling_trades plan)
apart [] one = λ i j d ij lj. absurd (omega arith)
apart (End t ∷ plan) one =
    AllPairs-cons (λ a b. a ≢ b) t (falling_trades plan) (none_of t plan (own_counts t (count_by (is_of t) plan) (omega (arith, counted t (End t) plan, one t))))
    (apart plan (λ s. omega (arith, counted s (End t) plan, one s)))
apart (Cut t from to ∷ plan) one =
    AllPairs-cons (λ a b. a ≢ b) t (falling_trades plan) (none_of t plan (own_counts t (count_by (is_of t) plan) (omega (arith, counted t (Cut t from to) plan, one t))))
    (apart plan (λ s. omega (arith, counted s (Cut t from to) plan, one s)))
apart (New product seller buyer amount day ∷ plan) one = apart plan (λ s. omega (arith, counted s (New product seller buyer amount day) plan, one s))

pub plan_is_free : PlanIsFree
plan_is_free members products rows new day is = record {
  steps = steps_free members products rows new day is;
  once = apart (renewal_plan members products rows new day) (λ t.
      let plan = renewal_plan members products rows new day in
      let one : length (filter (is_of t) plan) ≤ 1 = once rows day is.numbered (frozen_networks members products rows) new t in
      omega (arith, length-filter (is_of t) plan));
}
