-- The trades that a plan names, and the members that it touches.
use Rattle.std.proofs.Common.{◌≡◌, ℕ, zero, suc, ◌+◌, ◌-◌, ◌≤◌, Bool, true, false, cond, not, ◌&&◌, List, [], ◌∷◌, ◌++◌, length, filter, nat_lt, nat_le, ◌==◌, refl, arith}
use Rattle.units_core.specs.Day.{DayParts}
use Rattle.network_laws.specs.Networks.{NetworkData, at}
use Rattle.command_types.specs.declared.plan.PlanRow.{PlanRow}
use Rattle.command_types.specs.declared.plan.PlanRow.TheVariants.{End, Cut, New}
use Rattle.command_types.specs.declared.trade.TradeRow.{TradeRow}
use Rattle.command_types.specs.Trades.{trade_numbered}
use Rattle.command_types.specs.Books.{listed_below, is_between, is_held}
use Rattle.command_types.specs.Plans.{falling, free_rows, pair_plan, product_plan, plan_from, plan_of, is_party_row, is_in_step, is_touched, only_if, touched_by}
use Rattle.trade_history.specs.Book.{AreNumbered}

-- the step ends or cuts a trade with a number up to n
abbrev pub IsWithin : ℕ → PlanRow → Type 0
IsWithin n (End trade) = trade ≤ n
IsWithin n (Cut trade from to) = trade ≤ n
IsWithin n (New product seller buyer amount day) = Unit {0}

abbrev pub AreWithin : ℕ → List PlanRow → Type 0
AreWithin n [] = Unit {0}
AreWithin n (step ∷ plan) = IsWithin n step × AreWithin n plan

is_within-more : (n m : ℕ) → n ≤ m → (step : PlanRow) → IsWithin n step → IsWithin m step
is_within-more n m le (End trade) is = omega arith
is_within-more n m le (Cut trade from to) is = omega arith
is_within-more n m le (New product seller buyer amount day) is = tt

pub within-more : (n m : ℕ) → n ≤ m → (plan : List PlanRow) → AreWithin n plan → AreWithin m plan
within-more n m le [] are = tt
within-more n m le (step ∷ plan) (here, rest) = (is_within-more n m le step here, within-more n m le plan rest)

within-append : (n : ℕ) (a b : List PlanRow) → AreWithin n a → AreWithin n b → AreWithin n (a ++ b)
within-append n [] b in_a in_b = in_b
within-append n (step ∷ a) b (here, rest) in_b = (here, within-append n a b rest in_b)

within-below : (n m : ℕ) (f : ℕ → List PlanRow) → ((k : ℕ) → AreWithin n (f k)) → AreWithin n (listed_below m f)
within-below n zero f each = tt
within-below n (suc m) f each = within-append n (listed_below m f) (f m) (within-below n m f each) (each m)

within-cond : (n : ℕ) (t : Bool) (a b : List PlanRow) → AreWithin n a → AreWithin n b → AreWithin n (cond t a b)
within-cond n true a b in_a in_b = in_a
within-cond n false a b in_a in_b = in_b

-- numbers of rows up to n
abbrev AreBelow : ℕ → List TradeRow → Type 0
AreBelow n [] = Unit {0}
AreBelow n (row ∷ rows) = (row.number ≤ n) × AreBelow n rows

below-numbered : (k n : ℕ) (rows : List TradeRow) → AreNumbered k rows → k + length rows ≤ n → AreBelow n rows
below-numbered k n [] are le = tt
below-numbered k n (row ∷ rows) (here, rest) le = (omega arith, below-numbered (suc k) n rows rest (omega arith))

below-cond : (n : ℕ) (t : Bool) (row : TradeRow) (rows : List TradeRow) → row.number ≤ n → AreBelow n rows → AreBelow n (cond t (row ∷ rows) rows)
below-cond n true row rows here rest = (here, rest)
below-cond n false row rows here rest = rest

below-filter : (n : ℕ) (test : TradeRow → Bool) (rows : List TradeRow) → AreBelow n rows → AreBelow n (filter test rows)
below-filter n test [] are = tt
below-filter n test (row ∷ rows) (here, rest) = below-cond n (test row) row (filter test rows) here (below-filter n test rows rest)

within-falling : (n : ℕ) (fall : ℕ) (rows : List TradeRow) → AreBelow n rows → AreWithin n (falling fall rows)
within-falling n fall [] are = tt
within-falling n fall (row ∷ rows) (here, rest) =
    within-cond n (fall == 0) [] (cond (nat_le row.amount fall) (End row.number ∷ falling (fall - row.amount) rows) (Cut row.number row.amount (row.amount - fall) ∷ [])) tt
    (within-cond n (nat_le row.amount fall) (End row.number ∷ falling (fall - row.amount) rows) (Cut row.number row.amount (row.amount - fall) ∷ [])
    (here, within-falling n (fall - row.amount) rows rest) (here, tt))

within-pair : (n : ℕ) (rows : List TradeRow) (day : DayParts) (product : ℕ) (old new : NetworkData) (seller buyer : ℕ) → AreBelow n rows →
    AreWithin n (pair_plan rows day product old new seller buyer)
within-pair n rows day product old new seller buyer are =
    within-cond n (nat_lt (at new seller buyer) (at old seller buyer))
    (falling (at old seller buyer - at new seller buyer) (free_rows rows product seller buyer))
    (cond (nat_lt (at old seller buyer) (at new seller buyer)) (New product seller buyer (at new seller buyer - at old seller buyer) day ∷ []) [])
    (within-falling n (at old seller buyer - at new seller buyer) (free_rows rows product seller buyer)
    (below-filter n (λ row. is_between product seller buyer row && row.frozen && not (is_held row)) rows are))
    (within-cond n (nat_lt (at old seller buyer) (at new seller buyer)) (New product seller buyer (at new seller buyer - at old seller buyer) day ∷ []) [] (tt, tt) tt)

within-product : (n : ℕ) (rows : List TradeRow) (day : DayParts) (product : ℕ) (old new : NetworkData) → AreBelow n rows → AreWithin n (product_plan rows day product old new)
within-product n rows day product old new are =
    within-below n old.members (λ i. listed_below old.members (pair_plan rows day product old new i))
    (λ i. within-below n old.members (pair_plan rows day product old new i) (λ j. within-pair n rows day product old new i j are))

within-from : (n : ℕ) (rows : List TradeRow) (day : DayParts) (product : ℕ) (olds news : List NetworkData) → AreBelow n rows → AreWithin n (plan_from rows day product olds news)
within-from n rows day product [] news are = tt
within-from n rows day product (old ∷ olds) [] are = tt
within-from n rows day product (old ∷ olds) (new ∷ news) are =
    within-append n (product_plan rows day product old new) (plan_from rows day (1 + product) olds news)
    (within-product n rows day product old new are) (within-from n rows day (1 + product) olds news are)

-- a plan names trades that there are
pub plan-within : (rows : List TradeRow) (olds news : List NetworkData) (day : DayParts) → AreNumbered 0 rows → AreWithin (length rows) (plan_of rows olds news day)
plan-within rows olds news day are = within-from (length rows) rows day 0 olds news (below-numbered 0 (length rows) rows are (omega arith))

-- the same parties, for the trades up to n
pub record HaveParties (n : ℕ) (rows other : List TradeRow) : Type 0 where
  pub same : (trade member : ℕ) → trade ≤ n → is_party_row (trade_numbered other trade) member ≡ is_party_row (trade_numbered rows trade) member

in_step-same : (n : ℕ) (rows other : List TradeRow) → HaveParties n rows other → (member : ℕ) (step : PlanRow) → IsWithin n step → is_in_step other member step ≡ is_in_step rows member step
in_step-same n rows other parties member (End trade) is = parties.same trade member is
in_step-same n rows other parties member (Cut trade from to) is = parties.same trade member is
in_step-same n rows other parties member (New product seller buyer amount day) is = refl

is_touched-same : (n : ℕ) (rows other : List TradeRow) → HaveParties n rows other → (member : ℕ) (plan : List PlanRow) → AreWithin n plan → is_touched other plan member ≡ is_touched rows plan member
is_touched-same n rows other parties member [] are = refl
is_touched-same n rows other parties member (step ∷ plan) (here, rest) =
    let first = in_step-same n rows other parties member step here in
    let others = is_touched-same n rows other parties member plan rest in
    rw (first, others) refl

-- where trades have the same parties, a plan touches the same members
pub touched-same : (n members : ℕ) (rows other : List TradeRow) → HaveParties n rows other → (plan : List PlanRow) → AreWithin n plan → touched_by members other plan ≡ touched_by members rows plan
touched-same n members rows other parties plan are =
    λ i. listed_below members (λ member. only_if (is_touched-same n rows other parties member plan are i) member)
