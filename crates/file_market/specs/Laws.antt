-- The laws of the check, as statements.
use Rattle.std.specs.Prelude.{◌≡◌, ◌↔◌, ℕ, ◌<◌, ◌≤◌, true, Option, None, Ok, List, length, slice_index_or}
use Rattle.network_laws.specs.Networks.{NetworkData}
use Rattle.network_laws.specs.Limits.{IsCertified, IsLeast}
use Rattle.command_types.specs.declared.cycle.Mode.{Mode}
use Rattle.command_types.specs.Roster.{Rows, IsRoster}
use Rattle.command_types.specs.Names.{HasNames}
use Rattle.trade_file.specs.declared.file_trade.FileTrade.{FileTrade}
use Rattle.trade_file.specs.Networks.{IsNetworkOf}
use Rattle.dual_certificate.specs.declared.proposal_part.ProposalPart.{ProposalPart}
use Rattle.dual_certificate.specs.Parts.{AreParts}
use Rattle.dual_certificate.specs.Proposal.{proposal_of}
use Rattle.dual_certificate.specs.Writing.{HaveMembers}
use Rattle.file_market.specs.declared.failing.Failing.{Failing}
use Rattle.file_market.specs.Market.{market_limits}
use Rattle.file_market.specs.Check.{has_figures, first_failing, IsChecked}
use Rattle.file_market.specs.Solve.{IsSolvedText}
use Rattle.file_market.specs.Summary.{IsSummaryText}
use Rattle.units_core.specs.declared.limits.TheConstants.{MOST_FILE}

-- the part of a product passes: its network is certified within the product's limits, and its figures are right
pub record IsPassed (rows : Rows) (mode : Mode) (product : ℕ) (network : NetworkData) (part : ProposalPart) : Type 0 where
  pub certified : IsCertified (market_limits rows mode product network) network part.solution.network part.solution.potentials
  pub figures : has_figures network part ≡ true

-- no product fails exactly where every part passes
abbrev pub NothingFailsWhereAllPass : Type 0
NothingFailsWhereAllPass =
    (rows : Rows) (mode : Mode) (networks : List NetworkData) (parts : List ProposalPart) → length networks ≡ length rows.products → HaveMembers rows networks → AreParts rows parts →
    (first_failing rows mode networks parts ≡ None) ↔ ((product : ℕ) (d : NetworkData) (e : ProposalPart) → product < length rows.products →
    IsPassed rows mode product (slice_index_or networks product d) (slice_index_or parts product e))

-- the part of a product passes beside the network of the product's trades, and no network that the product's limits
-- admit has less gross
pub record IsLeastPart (rows : Rows) (mode : Mode) (trades : List FileTrade) (product : ℕ) (part : ProposalPart) : Type 0 where
  pub network : NetworkData
  pub market : IsNetworkOf rows trades product network
  pub passed : IsPassed rows mode product network part
  pub least : IsLeast (market_limits rows mode product network) network part.solution.network

-- a check finds nothing exactly where the part of each product passes, and so is least
abbrev pub YesWhereAllAreLeast : Type 0
YesWhereAllAreLeast =
    (rows : Rows) (mode : Mode) (trades : List FileTrade) (parts : List ProposalPart) (found : Option Failing) → AreParts rows parts → IsChecked rows mode trades parts found →
    (found ≡ None) ↔ ((product : ℕ) (e : ProposalPart) → product < length rows.products → IsLeastPart rows mode trades product (slice_index_or parts product e))

-- the parts that a text says for the rows, of which no check finds one that fails
pub record PassesAsRead (rows : Rows) (mode : Mode) (trades : List FileTrade) (text : List ℕ) : Type 0 where
  pub parts : List ProposalPart
  pub says : proposal_of rows text ≡ Ok parts
  pub good : AreParts rows parts
  pub yes : (found : Option Failing) → IsChecked rows mode trades parts found → found ≡ None

-- what is solved for a market passes, where its text is not too long to be read
abbrev pub WhatIsSolvedPasses : Type 0
WhatIsSolvedPasses =
    (rows : Rows) (mode : Mode) (trades : List FileTrade) (text : List ℕ) → IsRoster rows → HasNames rows → IsSolvedText rows mode trades text → length text ≤ MOST_FILE →
    PassesAsRead rows mode trades text

-- a market has one summary, whoever solves it
abbrev pub SummariesAreOne : Type 0
SummariesAreOne =
    (rows : Rows) (mode : Mode) (trades : List FileTrade) (one other : List ℕ) → IsSummaryText rows mode trades one → IsSummaryText rows mode trades other → one ≡ other
