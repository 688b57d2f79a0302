-- A plan makes at most one new trade for each pair of members in each product.
use Rattle.std.proofs.Common.{◌≡◌, ℕ, zero, suc, ◌+◌, ◌-◌, ◌*◌, ◌≤◌, ◌==◌, nat_lt, nat_le, Bool, true, false, List, [], ◌∷◌, ◌++◌, length, All, Option, Some, None, if◌then◌else◌, arith, refl, ap, ◌∙◌}
use Rattle.std.specs.Prelude.{filter}
use Rattle.std.proofs.lemmas.List.{length-append, length-map}
use Rattle.std.proofs.lemmas.List.Elements.{filter-append, All-head, All-tail, All-map, All-weaker}
use Rattle.network_laws.specs.Networks.{NetworkData, at}
use Rattle.network_laws.specs.Solutions.{ProblemData, SolutionData}
use Rattle.units_core.specs.Day.{DayParts}
use Rattle.command_types.specs.declared.plan.PlanRow.{PlanRow}
use Rattle.command_types.specs.declared.plan.PlanRow.TheVariants.{End, Cut, New}
use Rattle.command_types.specs.declared.trade.TradeRow.{TradeRow}
use Rattle.command_types.specs.Books.{listed_below}
use Rattle.command_types.specs.Cycles.{old_networks, new_networks, plan_on}
use Rattle.command_types.specs.Plans.{is_new, count_of, falling, free_rows, pair_plan, product_plan, plan_from}
use Rattle.posting.specs.Posted.{AreOfMembers}

abbrev new : List PlanRow → ℕ
new plan = count_of is_new plan

new_append : (xs ys : List PlanRow) → new (xs ++ ys) ≡ new xs + new ys
new_append xs ys = ap length (filter-append is_new xs ys) ∙ length-append (filter is_new xs) (filter is_new ys)

falling_by : (a b : Bool) (trade number from to : ℕ) (rest : List PlanRow) → new rest ≡ 0 → new (if a then [] else (if b then End trade ∷ rest else Cut number from to ∷ [])) ≡ 0
falling_by true b trade number from to rest none = refl
falling_by false true trade number from to rest none = none
falling_by false false trade number from to rest none = refl

falling_none : (fall : ℕ) (rows : List TradeRow) → new (falling fall rows) ≡ 0
falling_none fall [] = refl
falling_none fall (row ∷ rows) =
    falling_by (fall == 0) (nat_le row.amount fall) row.number row.number row.amount (row.amount - fall) (falling (fall - row.amount) rows) (falling_none (fall - row.amount) rows)

pair_by : (a b : Bool) (fall : List PlanRow) (product seller buyer amount : ℕ) (day : DayParts) → new fall ≡ 0 → new (if a then fall else (if b then New product seller buyer amount day ∷ [] else [])) ≤ 1
pair_by true b fall product seller buyer amount day none = omega (arith, none)
pair_by false true fall product seller buyer amount day none = omega arith
pair_by false false fall product seller buyer amount day none = omega arith

pair_few : (rows : List TradeRow) (day : DayParts) (product : ℕ) (old next : NetworkData) (seller buyer : ℕ) → new (pair_plan rows day product old next seller buyer) ≤ 1
pair_few rows day product old next seller buyer =
    let fall = at old seller buyer - at next seller buyer in
    pair_by (nat_lt (at next seller buyer) (at old seller buyer)) (nat_lt (at old seller buyer) (at next seller buyer)) (falling fall (free_rows rows product seller buyer)) product seller buyer
    (at next seller buyer - at old seller buyer) day (falling_none fall (free_rows rows product seller buyer))

row_few : (n : ℕ) (f : ℕ → List PlanRow) → ((k : ℕ) → new (f k) ≤ 1) → new (listed_below n f) ≤ n
row_few zero f each = omega arith
row_few (suc n) f each = omega (arith, new_append (listed_below n f) (f n), row_few n f each, each n)

square_few : (n most : ℕ) (f : ℕ → List PlanRow) → most ≤ 256 → ((k : ℕ) → new (f k) ≤ most) → new (listed_below n f) ≤ n * 256
square_few zero most f few each = omega arith
square_few (suc n) most f few each = omega (arith, new_append (listed_below n f) (f n), square_few n most f few each, each n, few)

product_few : (rows : List TradeRow) (day : DayParts) (product : ℕ) (old next : NetworkData) → old.members ≤ 256 → new (product_plan rows day product old next) ≤ 65536
product_few rows day product old next few =
    let row : (seller : ℕ) → new (listed_below old.members (pair_plan rows day product old next seller)) ≤ old.members =
    λ seller. row_few old.members (pair_plan rows day product old next seller) (λ buyer. pair_few rows day product old next seller buyer) in
    omega (arith, square_few old.members old.members (λ seller. listed_below old.members (pair_plan rows day product old next seller)) few row, few)

abbrev IsFew : NetworkData → Type 0
IsFew network = network.members ≤ 256

from_few : (rows : List TradeRow) (day : DayParts) (product : ℕ) (olds news : List NetworkData) → All IsFew olds → new (plan_from rows day product olds news) ≤ length olds * 65536
from_few rows day product [] news few = omega arith
from_few rows day product (old ∷ olds) [] few = omega arith
from_few rows day product (old ∷ olds) (next ∷ news) few =
    let first = product_few rows day product old next (All-head IsFew old olds few) in
    let rest = from_few rows day (1 + product) olds news (All-tail IsFew old olds few) in
    omega (arith, new_append (product_plan rows day product old next) (plan_from rows day (1 + product) olds news), first, rest)

on_few : (day : Option DayParts) (rows : List TradeRow) (olds news : List NetworkData) → All IsFew olds → length olds ≤ 64 → new (plan_on day rows olds news) ≤ 4194304
on_few None rows olds news few short = omega arith
on_few (Some day) rows olds news few short = omega (arith, from_few rows day 0 olds news few, short)

-- so a plan on at most 64 problems of at most 256 members makes at most 4,194,304
pub few_made : (day : Option DayParts) (rows : List TradeRow) (members : ℕ) (problems : List ProblemData) (solutions : List SolutionData) → members ≤ 256 → AreOfMembers members problems → length problems ≤ 64 →
    count_of is_new (plan_on day rows (old_networks problems) (new_networks solutions)) ≤ 4194304
few_made day rows members problems solutions small are short =
    let few : All IsFew (old_networks problems) =
    All-map IsFew (λ (p : ProblemData). p.network) problems
    (All-weaker (λ (p : ProblemData). p.network.members ≡ members) (λ (p : ProblemData). p.network.members ≤ 256) (λ p e. omega (arith, e, small)) problems are) in
    on_few day rows (old_networks problems) (new_networks solutions) few (omega (arith, length-map problems (λ (p : ProblemData). p.network), short))
