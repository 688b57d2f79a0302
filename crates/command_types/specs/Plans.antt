-- What a new network changes in the trades: which trades end, which are cut, and which are new.
use Rattle.std.specs.Prelude.{ℕ, ◌+◌, ◌-◌, ◌==◌, ◌&&◌, ◌||◌, not, nat_lt, nat_le, Bool, true, false, List, [], ◌∷◌, ◌++◌, length, filter, fold, map, Option, Some, None, if◌then◌else◌}
use Rattle.std.specs.List.{list_any}
use Rattle.units_core.specs.Day.{DayParts}
use Rattle.network_laws.specs.Networks.{NetworkData, at}
use Rattle.command_types.specs.declared.plan.PlanRow.{PlanRow}
use Rattle.command_types.specs.declared.plan.PlanRow.TheVariants.{End, Cut, New}
use Rattle.command_types.specs.declared.trade.TradeRow.{TradeRow}
use Rattle.command_types.specs.declared.trade.TradeState.TheVariants.{Live, Ended}
use Rattle.command_types.specs.Trades.{trade_numbered, with_changed}
use Rattle.command_types.specs.Books.{listed_below, listed_pairs, is_between, is_held}

-- how these trades fall by an amount together: the first are ended whole while they fit into the rest of it, and the next one is cut by what is left
abbrev pub falling : ℕ → List TradeRow → List PlanRow
falling fall [] = []
falling fall (row ∷ rows) =
    if fall == 0 then []
    else (if nat_le row.amount fall then End row.number ∷ falling (fall - row.amount) rows else Cut row.number row.amount (row.amount - fall) ∷ [])

-- the frozen trades of a pair that nobody holds, in the order of their numbers
abbrev pub free_rows : List TradeRow → ℕ → ℕ → ℕ → List TradeRow
free_rows rows product seller buyer = filter (λ row. is_between product seller buyer row && row.frozen && not (is_held row)) rows

-- what a pair's new amount changes: where it falls, its free trades fall; where it grows, there is one new trade of the freeze's day
abbrev pub pair_plan : List TradeRow → DayParts → ℕ → NetworkData → NetworkData → ℕ → ℕ → List PlanRow
pair_plan rows day product old new seller buyer =
    if nat_lt (at new seller buyer) (at old seller buyer) then falling (at old seller buyer - at new seller buyer) (free_rows rows product seller buyer)
    else (if nat_lt (at old seller buyer) (at new seller buyer) then New product seller buyer (at new seller buyer - at old seller buyer) day ∷ [] else [])

-- what a product's new network changes, in the order of its pairs
abbrev pub product_plan : List TradeRow → DayParts → ℕ → NetworkData → NetworkData → List PlanRow
product_plan rows day product old new = listed_pairs old.members (pair_plan rows day product old new)

-- the plan of products from this place on
abbrev pub plan_from : List TradeRow → DayParts → ℕ → List NetworkData → List NetworkData → List PlanRow
plan_from rows day product (old ∷ olds) (new ∷ news) = product_plan rows day product old new ++ plan_from rows day (1 + product) olds news
plan_from rows day product olds news = []

-- what the new networks change, in the order of product, seller and buyer
abbrev pub plan_of : List TradeRow → List NetworkData → List NetworkData → DayParts → List PlanRow
plan_of rows old new day = plan_from rows day 0 old new

-- the trade is there, and the member is one of its two
abbrev pub is_party_row : Option TradeRow → ℕ → Bool
is_party_row None member = false
is_party_row (Some row) member = (row.seller == member) || (row.buyer == member)

-- the member is a party of this step
abbrev pub is_in_step : List TradeRow → ℕ → PlanRow → Bool
is_in_step rows member (End trade) = is_party_row (trade_numbered rows trade) member
is_in_step rows member (Cut trade from to) = is_party_row (trade_numbered rows trade) member
is_in_step rows member (New product seller buyer amount day) = (seller == member) || (buyer == member)

-- the plan touches the member: it is a party of a step
abbrev pub is_touched : List TradeRow → List PlanRow → ℕ → Bool
is_touched rows plan member = list_any (is_in_step rows member) plan

-- the member if the test holds, and else nobody
abbrev pub only_if : Bool → ℕ → List ℕ
only_if test member = if test then member ∷ [] else []

-- the members, of so many, that a plan touches
abbrev pub touched_by : ℕ → List TradeRow → List PlanRow → List ℕ
touched_by members rows plan = listed_below members (λ member. only_if (is_touched rows plan member) member)

-- a trade that a plan ends
abbrev pub ended_row : TradeRow → TradeRow
ended_row row = record row { state = Ended }

-- a trade that a plan cuts to this amount
abbrev pub cut_row : ℕ → TradeRow → TradeRow
cut_row amount row = record row { amount = amount }

-- the trade that a plan makes: live at once, and submitted by nobody
abbrev pub made_row : ℕ → ℕ → ℕ → ℕ → ℕ → DayParts → TradeRow
made_row number product seller buyer amount day = record {
  number = number;
  seller = seller;
  buyer = buyer;
  product = product;
  amount = amount;
  day = day;
  state = Live;
  submitter = None;
  mark = None;
  hold_out = false;
  hold_in = false;
  frozen = false;
}

-- the rows after one step of a plan
abbrev pub after_step : List TradeRow → PlanRow → List TradeRow
after_step rows (End trade) = with_changed ended_row rows trade
after_step rows (Cut trade from to) = with_changed (cut_row to) rows trade
after_step rows (New product seller buyer amount day) = rows ++ made_row (length rows + 1) product seller buyer amount day ∷ []

-- the rows after a whole plan
abbrev pub executed : List PlanRow → List TradeRow → List TradeRow
executed plan rows = fold after_step rows plan

-- the step ends a trade
abbrev pub is_end : PlanRow → Bool
is_end (End trade) = true
is_end row = false

-- the step cuts a trade
abbrev pub is_cut : PlanRow → Bool
is_cut (Cut trade from to) = true
is_cut row = false

-- the step makes a trade
abbrev pub is_new : PlanRow → Bool
is_new (New product seller buyer amount day) = true
is_new row = false

-- how many steps of a kind a plan has
abbrev pub count_of : (PlanRow → Bool) → List PlanRow → ℕ
count_of kind plan = length (filter kind plan)

-- the trade takes part in no cycle
abbrev pub thawed_row : TradeRow → TradeRow
thawed_row row = record row { frozen = false }

-- no trade takes part in a cycle any more
abbrev pub thawed : List TradeRow → List TradeRow
thawed rows = map thawed_row rows
