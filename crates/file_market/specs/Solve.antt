-- The solution of the market of a trade file.
use Rattle.std.specs.Prelude.{◌≡◌, ℕ, ◌<◌, List, length, slice_index_or}
use Rattle.network_laws.specs.Networks.{NetworkData, IsNetwork}
use Rattle.network_laws.specs.Limits.{LimitsData, IsWithinLimits}
use Rattle.network_laws.specs.Solutions.{ProblemData, SolutionData, IsSolution, Solves}
use Rattle.command_types.specs.declared.cycle.Mode.{Mode}
use Rattle.command_types.specs.Roster.{Rows}
use Rattle.trade_file.specs.declared.file_trade.FileTrade.{FileTrade}
use Rattle.trade_file.specs.Networks.{AreNetworksOf}
use Rattle.dual_certificate.specs.ProposalText.{proposal_text}
use Rattle.file_market.specs.Market.{market_limits}

-- a product's network, with its limits
abbrev pub problem_for : Rows → Mode → ℕ → NetworkData → ProblemData
problem_for rows mode product network = record { limits = market_limits rows mode product network; network = network }

-- the problem is that of the network at this place
abbrev pub IsProblemAt : Rows → Mode → List NetworkData → ℕ → ProblemData → Type 0
IsProblemAt rows mode networks product problem = (d : NetworkData) → problem ≡ problem_for rows mode product (slice_index_or networks product d)

-- a network, since it is one, is within the limits, and so each of these
abbrev pub MayHave : LimitsData → NetworkData → Type 0
MayHave limits network = IsNetwork network → (limits.members ≡ network.members) × IsWithinLimits limits network

abbrev pub MayHaveEach : LimitsData → List NetworkData → Type 0
MayHaveEach limits networks = (k : ℕ) (d : NetworkData) → k < length networks → MayHave limits (slice_index_or networks k d)

-- the network, within these limits
pub record IsProblemIn (within : LimitsData) (own : NetworkData) (problem : ProblemData) : Type 0 where
  pub limits : problem.limits ≡ within
  pub network : problem.network ≡ own
  pub good : IsNetwork own

abbrev pub IsProblemInAt : LimitsData → List NetworkData → ℕ → ProblemData → Type 0
IsProblemInAt limits networks product problem = (d : NetworkData) → IsProblemIn limits (slice_index_or networks product d) problem

-- each network, within these limits
abbrev pub AreProblemsIn : LimitsData → List NetworkData → List ProblemData → Type 0
AreProblemsIn limits networks problems =
    (product : ℕ) (d : ProblemData) → product < length networks → IsProblemInAt limits networks product (slice_index_or problems product d)

-- one problem for each product's network, in order
pub record AreProblemsOf (rows : Rows) (mode : Mode) (networks : List NetworkData) (problems : List ProblemData) : Type 0 where
  pub count : length problems ≡ length networks
  pub each : (product : ℕ) (d : NetworkData) (e : ProblemData) → product < length networks → slice_index_or problems product e ≡ problem_for rows mode product (slice_index_or networks product d)

-- the solution is certified within the product's limits, and where its gross is that of the product's network, its
-- network is that network
pub record IsSolutionOf (rows : Rows) (mode : Mode) (product : ℕ) (network : NetworkData) (solution : SolutionData) : Type 0 where
  pub good : IsSolution solution
  pub solves : Solves (market_limits rows mode product network) network solution

-- one solution for each product's network, in order
pub record AreSolutions (rows : Rows) (mode : Mode) (networks : List NetworkData) (solutions : List SolutionData) : Type 0 where
  pub count : length solutions ≡ length networks
  pub each : (product : ℕ) (d : NetworkData) (e : SolutionData) → product < length networks → IsSolutionOf rows mode product (slice_index_or networks product d) (slice_index_or solutions product e)

-- the text is the proposal of solutions for the market of the trades
pub record IsSolvedText (rows : Rows) (mode : Mode) (trades : List FileTrade) (text : List ℕ) : Type 0 where
  pub networks : List NetworkData
  pub solutions : List SolutionData
  pub market : AreNetworksOf rows trades networks
  pub solved : AreSolutions rows mode networks solutions
  pub written : text ≡ proposal_text rows networks solutions
