-- The compression cycle: its phases, what a version begins with, and what is wrong with a posting.
use Rattle.std.specs.Prelude.{ℕ, ◌+◌, ◌==◌, ◌&&◌, ◌||◌, not, nat_lt, Bool, true, false, List, [], ◌∷◌, length, map, sum_by, slice_get, Option, Some, None, if◌then◌else◌}
use Rattle.std.specs.List.{list_all}
use Rattle.units_core.specs.Day.{DayParts, is_before}
use Rattle.network_laws.specs.Networks.{NetworkData, at, gross}
use Rattle.network_laws.specs.Limits.{lower, upper}
use Rattle.network_laws.specs.Clash.{first_clash}
use Rattle.network_laws.specs.Solutions.{SolutionData, ProblemData}
use Rattle.network_laws.specs.declared.clash.Clash.{Clash}
use Rattle.command_types.specs.declared.cycle.Mode.{Mode}
use Rattle.command_types.specs.declared.cycle.Phase.{Phase}
use Rattle.command_types.specs.declared.cycle.Phase.TheVariants.{None as NoPhase, Frozen, Solving, Proposed, Broken}
use Rattle.command_types.specs.declared.figures.Cycle.{Cycle}
use Rattle.command_types.specs.declared.plan.LimitLine.{LimitLine}
use Rattle.command_types.specs.declared.plan.PlanRow.{PlanRow}
use Rattle.command_types.specs.declared.refusal.BadPost.{BadPost}
use Rattle.command_types.specs.declared.refusal.BadPost.TheVariants.{Shape, At}
use Rattle.command_types.specs.declared.roster.ProductRow.{ProductRow}
use Rattle.command_types.specs.declared.tolerance.ToleranceRow.{ToleranceRow}
use Rattle.command_types.specs.declared.trade.TradeRow.{TradeRow}
use Rattle.command_types.specs.Roster.{Rows}
use Rattle.command_types.specs.Trades.{is_live}
use Rattle.command_types.specs.Books.{listed_pairs, frozen_network, held_network}
use Rattle.command_types.specs.Tolerances.{limits_of, is_zero_bound}
use Rattle.command_types.specs.Plans.{plan_of}

-- no cycle is open: of the last one only its number and its version are left
abbrev pub closed : ℕ → ℕ → Cycle
closed number version = record {
  number = number;
  version = version;
  phase = NoPhase;
  day = None;
  mode = None;
  settings = [];
  begun = [];
  solutions = [];
  plan = [];
  votes = [];
  broken_by = None;
}

-- a freeze opens the next cycle
abbrev pub opened : Cycle → DayParts → Cycle
opened cycle day = record (closed (1 + cycle.number) 0) { phase = Frozen; day = Some day }

-- a cycle is open
abbrev pub is_open : Phase → Bool
is_open NoPhase = false
is_open phase = true

-- the cycle is broken
abbrev pub is_broken : Phase → Bool
is_broken Broken = true
is_broken phase = false

-- a version has begun, and waits for its posting
abbrev pub is_solving : Phase → Bool
is_solving Solving = true
is_solving phase = false

-- a plan is proposed
abbrev pub is_proposed : Phase → Bool
is_proposed Proposed = true
is_proposed phase = false

-- the end of a frozen trade breaks the cycle
abbrev pub may_break : Phase → Bool
may_break NoPhase = false
may_break Broken = false
may_break phase = true

-- a version may begin
abbrev pub may_begin : Phase → Bool
may_begin Frozen = true
may_begin Solving = true
may_begin phase = false

-- the limits of a version stand
abbrev pub has_limits : Phase → Bool
has_limits Solving = true
has_limits Proposed = true
has_limits phase = false

-- the product is there, and matures after this day
abbrev pub product_matures_after : Option ProductRow → DayParts → Bool
product_matures_after None day = false
product_matures_after (Some row) day = is_before day row.maturity

-- a freeze of this day takes the trade: it is live, and its product matures after the day
abbrev pub is_taken : List ProductRow → DayParts → TradeRow → Bool
is_taken products day row = is_live row.state && product_matures_after (slice_get products row.product) day

-- the trade as a freeze of this day leaves it: frozen exactly if the freeze takes it
abbrev pub row_at_freeze : List ProductRow → DayParts → TradeRow → TradeRow
row_at_freeze products day row = record row { frozen = is_taken products day row }

-- the rows after a freeze of this day
abbrev pub frozen_rows : List ProductRow → DayParts → List TradeRow → List TradeRow
frozen_rows products day rows = map (row_at_freeze products day) rows

-- the problem of a product: its frozen network, and the limits that the settings now give
abbrev pub problem_of : Rows → List TradeRow → List ToleranceRow → Mode → ℕ → ProblemData
problem_of roster rows settings mode product = record {
  limits = limits_of mode roster.members settings product (frozen_network (length roster.members) product rows) (held_network (length roster.members) product rows);
  network = frozen_network (length roster.members) product rows;
}

-- the problems of the products from this place on
abbrev pub problems_from : Rows → List TradeRow → List ToleranceRow → Mode → ℕ → List ProductRow → List ProblemData
problems_from roster rows settings mode product [] = []
problems_from roster rows settings mode product (row ∷ products) =
    problem_of roster rows settings mode product ∷ problems_from roster rows settings mode (1 + product) products

-- what a version begins with: one problem for each product
abbrev pub problems_of : Rows → List TradeRow → List ToleranceRow → Mode → List ProblemData
problems_of roster rows settings mode = problems_from roster rows settings mode 0 roster.products

-- the next version begins, in this mode, with all that members have set and the problems that follow
abbrev pub begun_with : Cycle → Mode → List ToleranceRow → List ProblemData → Cycle
begun_with cycle mode settings problems =
    record (closed cycle.number (1 + cycle.version)) { phase = Solving; day = cycle.day; mode = Some mode; settings = settings; begun = problems }

-- what a member or the operator is told of a pair: it has a frozen amount, or it may come to more than 0
abbrev pub limit_line : ProblemData → ℕ → ℕ → List LimitLine
limit_line problem seller buyer =
    if nat_lt 0 (at problem.network seller buyer) || not (is_zero_bound (upper problem.limits seller buyer))
    then record {
      seller = seller;
      buyer = buyer;
      lower = lower problem.limits seller buyer;
      now = at problem.network seller buyer;
      upper = upper problem.limits seller buyer;
    } ∷ []
    else []

-- what is told of the pairs of a product, in their order
abbrev pub lines_of_problem : Option ProblemData → List LimitLine
lines_of_problem None = []
lines_of_problem (Some problem) = listed_pairs problem.network.members (limit_line problem)

-- the solution has this many members, and a potential for each
abbrev pub is_of_members : ℕ → SolutionData → Bool
is_of_members members solution = (solution.network.members == members) && (length solution.potentials == members)

-- the clash of this product if it has one, and else what is found in the next ones
abbrev pub clash_or_next : ℕ → Option Clash → Option BadPost → Option BadPost
clash_or_next product (Some clash) next = Some (At product clash)
clash_or_next product None next = next

-- the first product, from this place on, that is not certified, with its first clash
abbrev pub first_uncertified : ℕ → List ProblemData → List SolutionData → Option BadPost
first_uncertified product (problem ∷ problems) (solution ∷ solutions) =
    clash_or_next product (first_clash problem.limits problem.network solution.network solution.potentials) (first_uncertified (1 + product) problems solutions)
first_uncertified product problems solutions = None

-- one solution for each problem, each of so many members
abbrev pub has_shape : ℕ → List ProblemData → List SolutionData → Bool
has_shape members problems solutions = (length solutions == length problems) && list_all (is_of_members members) solutions

-- what is wrong with posted solutions of these problems
abbrev pub bad_post : ℕ → List ProblemData → List SolutionData → Option BadPost
bad_post members problems solutions = if has_shape members problems solutions then first_uncertified 0 problems solutions else Some Shape

-- the gross notional of networks, over all products
abbrev pub gross_of_all : List NetworkData → ℕ
gross_of_all networks = sum_by gross networks

-- the networks of problems
abbrev pub old_networks : List ProblemData → List NetworkData
old_networks problems = map (λ problem. problem.network) problems

-- the networks of solutions
abbrev pub new_networks : List SolutionData → List NetworkData
new_networks solutions = map (λ solution. solution.network) solutions

-- what the new networks change by new trades of the freeze's day; without a freeze nothing
abbrev pub plan_on : Option DayParts → List TradeRow → List NetworkData → List NetworkData → List PlanRow
plan_on None rows old new = []
plan_on (Some day) rows old new = plan_of rows old new day

-- what these solutions change in the cycle's frozen trades
abbrev pub posted_plan : Cycle → List TradeRow → List SolutionData → List PlanRow
posted_plan cycle rows solutions = plan_on cycle.day rows (old_networks cycle.begun) (new_networks solutions)

-- the solutions and their plan stand, and nobody has voted
abbrev pub proposed_with : Cycle → List SolutionData → List PlanRow → Cycle
proposed_with cycle solutions plan = record cycle { phase = Proposed; solutions = solutions; plan = plan; votes = [] }

-- a proposal is dropped: the freeze stands, and so does the version's number
abbrev pub declined : Cycle → Cycle
declined cycle = record (closed cycle.number cycle.version) { phase = Frozen; day = cycle.day }

-- the end of this frozen trade breaks the cycle
abbrev pub broken_at : Cycle → ℕ → Cycle
broken_at cycle trade = record cycle { phase = Broken; broken_by = Some trade }
