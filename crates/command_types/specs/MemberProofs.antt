-- What a member is told of a proposal, so that it can test its own part: potentials, and its own pairs with whose their bounds are.
use Rattle.std.specs.Prelude.{ℕ, ◌==◌, ◌&&◌, ◌||◌, not, nat_lt, nat_le, Bool, true, false, List, [], ◌∷◌, ◌++◌, length, slice_get, Option, Some, None, if◌then◌else◌}
use Rattle.network_laws.specs.Limits.{lower, upper, potential}
use Rattle.network_laws.specs.Networks.{NetworkData, at}
use Rattle.network_laws.specs.Solutions.{SolutionData, ProblemData}
use Rattle.command_types.specs.declared.cycle.Mode.{Mode}
use Rattle.command_types.specs.declared.figures.State.{State}
use Rattle.command_types.specs.declared.proof.PairLine.{PairLine}
use Rattle.command_types.specs.declared.proof.ProofRow.{ProofRow}
use Rattle.command_types.specs.declared.proof.ProofRow.TheVariants.{Potential, Pair}
use Rattle.command_types.specs.declared.proof.Whose.{Whose}
use Rattle.command_types.specs.declared.proof.Whose.TheVariants.{Seller, Buyer, Hold, Now, Nobody}
use Rattle.command_types.specs.declared.roster.MemberRow.{MemberRow}
use Rattle.command_types.specs.declared.tolerance.ToleranceRow.{ToleranceRow}
use Rattle.command_types.specs.declared.trade.Side.TheVariants.{Out, In}
use Rattle.command_types.specs.Books.{listed_below, listed_pairs, held_network}
use Rattle.command_types.specs.Tolerances.{floor_in, ceiling_in, may_grow, is_zero_bound}

-- a product of a proposal, with all that its bounds come from
pub record Part : Type 0 where
  pub product : ℕ
  pub mode : Mode
  pub members : List MemberRow
  pub settings : List ToleranceRow
  pub held : NetworkData
  pub problem : ProblemData
  pub solution : SolutionData

-- whose a lower bound is: nobody's where it is 0; a hold's where as much is held, else the seller's where its floor is as high, and else the buyer's
abbrev pub whose_lower : ℕ → ℕ → ℕ → Whose
whose_lower low held floor = if low == 0 then Nobody else (if nat_le low held then Hold else (if nat_le low floor then Seller else Buyer))

-- whose the smaller of the seller's and the buyer's ceilings is; the seller's where they are equal
abbrev pub whose_ceiling : Option ℕ → Option ℕ → Whose
whose_ceiling None None = Nobody
whose_ceiling (Some a) None = Seller
whose_ceiling None (Some b) = Buyer
whose_ceiling (Some a) (Some b) = if nat_le a b then Seller else Buyer

-- whose an upper bound is: that of the amount where the pair may not grow, and else of who set the ceiling
abbrev pub whose_upper : Bool → Option ℕ → Option ℕ → Whose
whose_upper grows seller buyer = if grows then whose_ceiling seller buyer else Now

-- the pair may come to more than 0
abbrev pub may_owe : ProblemData → ℕ → ℕ → Bool
may_owe problem seller buyer = not (is_zero_bound (upper problem.limits seller buyer))

-- the other member is the member itself, or one of their two pairs may come to more than 0
abbrev pub is_near : ProblemData → ℕ → ℕ → Bool
is_near problem member other = (other == member) || may_owe problem member other || may_owe problem other member

-- the potential of a member that is near
abbrev pub potential_row : Part → ℕ → ℕ → List ProofRow
potential_row part member other =
    if is_near part.problem member other then Potential part.product other (potential part.solution.potentials other) ∷ [] else []

-- a pair with its bounds, whose they are, what it is now and what the proposal makes of it
abbrev pub pair_line : Part → ℕ → ℕ → PairLine
pair_line part seller buyer = record {
  product = part.product;
  seller = seller;
  buyer = buyer;
  lower = lower part.problem.limits seller buyer;
  lower_of = whose_lower (lower part.problem.limits seller buyer) (at part.held seller buyer) (floor_in part.settings seller part.product buyer Out);
  now = at part.problem.network seller buyer;
  next = at part.solution.network seller buyer;
  upper = upper part.problem.limits seller buyer;
  upper_of = whose_upper (may_grow part.mode part.members seller buyer)
      (ceiling_in part.settings seller part.product buyer Out) (ceiling_in part.settings buyer part.product seller In);
}

-- the pair has a frozen amount, or mode and roles let it grow
abbrev pub is_told : Part → ℕ → ℕ → Bool
is_told part seller buyer = nat_lt 0 (at part.problem.network seller buyer) || may_grow part.mode part.members seller buyer

-- such a pair, where the member has a side in it
abbrev pub pair_row : Part → ℕ → ℕ → ℕ → List ProofRow
pair_row part member seller buyer =
    if ((seller == member) || (buyer == member)) && is_told part seller buyer then Pair (pair_line part seller buyer) ∷ [] else []

-- what the member is told of a product: first potentials, then pairs
abbrev pub part_rows : Part → ℕ → List ProofRow
part_rows part member =
    listed_below part.problem.network.members (potential_row part member) ++ listed_pairs part.problem.network.members (pair_row part member)

-- a product of the state's proposal, whose version began in this mode
abbrev pub part_of : State → Mode → ℕ → ProblemData → SolutionData → Part
part_of s mode product problem solution = record {
  product = product;
  mode = mode;
  members = s.roster.members;
  settings = s.cycle.settings;
  held = held_network (length s.roster.members) product s.trades;
  problem = problem;
  solution = solution;
}

-- what the member is told of a product with a problem and a solution
abbrev pub product_rows : State → Mode → ℕ → ℕ → Option ProblemData → Option SolutionData → List ProofRow
product_rows s mode member product (Some problem) (Some solution) = part_rows (part_of s mode product problem solution) member
product_rows s mode member product problem solution = []

-- and of all products, in their order
abbrev pub proof_rows : State → Mode → ℕ → List ProofRow
proof_rows s mode member =
    listed_below (length s.roster.products) (λ product. product_rows s mode member product (slice_get s.cycle.begun product) (slice_get s.cycle.solutions product))
