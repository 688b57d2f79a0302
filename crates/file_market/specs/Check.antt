-- The check of a proposal against the market of a trade file: the first product that fails.
use Rattle.std.specs.Prelude.{◌≡◌, ℕ, zero, suc, ◌<◌, ◌^◌, ◌==◌, Bool, true, false, ◌&&◌, List, length, slice_get, slice_index_or, Option, Some, None, Result, IfOk}
use Rattle.std.specs.declared.alloc.AllocError.{AllocError}
use Rattle.std.specs.Option.{option_or}
use Rattle.network_laws.specs.declared.clash.Clash.{Clash}
use Rattle.network_laws.specs.Networks.{NetworkData, gross, floor_m, bilateral}
use Rattle.network_laws.specs.Clash.{first_clash}
use Rattle.command_types.specs.declared.cycle.Mode.{Mode}
use Rattle.command_types.specs.Roster.{Rows}
use Rattle.trade_file.specs.declared.file_trade.FileTrade.{FileTrade}
use Rattle.trade_file.specs.Networks.{AreNetworksOf}
use Rattle.dual_certificate.specs.declared.proposal_part.ProposalPart.{ProposalPart}
use Rattle.dual_certificate.specs.Parts.{AreParts}
use Rattle.dual_certificate.specs.Writing.{HaveMembers}
use Rattle.file_market.specs.declared.failing.Failure.{Failure}
use Rattle.file_market.specs.declared.failing.Failure.TheVariants as failure
use Rattle.file_market.specs.declared.failing.Failing.{Failing}
use Rattle.file_market.specs.Market.{market_limits}

-- the written figures are those of the product's own network, the least gross is that of the posted one, and the
-- bound is the least gross
abbrev pub has_figures : NetworkData → ProposalPart → Bool
has_figures network part =
    (part.gross == gross network) && (part.floor_m == floor_m network) && (part.bilateral == bilateral network)
    && (part.least == gross part.solution.network) && (part.bound == part.least)

-- a clash comes before the figures
abbrev pub failure_by : Option Clash → Bool → Option Failure
failure_by (Some clash) figures = Some (failure.Clash clash)
failure_by None true = None
failure_by None false = Some failure.Figures

-- what is wrong with the part of a product: the first clash of its certificate, else its figures
abbrev pub part_failure : Rows → Mode → ℕ → NetworkData → ProposalPart → Option Failure
part_failure rows mode product network part =
    failure_by
    (first_clash (market_limits rows mode product network) network part.solution.network part.solution.potentials)
    (has_figures network part)

abbrev pub failing_at : ℕ → Option Failure → Option Failing
failing_at product None = None
failing_at product (Some reason) = Some (record { product = product; failure = reason })

-- the product, if it fails
abbrev pub failing_product : Rows → Mode → ℕ → Option NetworkData → Option ProposalPart → Option Failing
failing_product rows mode product (Some network) (Some part) = failing_at product (part_failure rows mode product network part)
failing_product rows mode product network part = None

-- what is told of the product is what is wrong with it
abbrev pub FailsSo : Rows → Mode → List NetworkData → List ProposalPart → ℕ → Option Failure → Type 0
FailsSo rows mode networks parts product failure =
    failing_product rows mode product (slice_get networks product) (slice_get parts product) ≡ failing_at product failure

-- the networks and the parts are those of the roster's products, of which this is one
abbrev pub MayCheckAt : Rows → List NetworkData → List ProposalPart → ℕ → Type 0
MayCheckAt rows networks parts product =
    (product < 2 ^ 16) × (product < length networks) × (length networks ≡ length rows.products) × HaveMembers rows networks × AreParts rows parts

-- of each product it is told what is wrong with it, or that memory was wanted
abbrev pub AreTold : Rows → Mode → List NetworkData → List ProposalPart → List (Result (Option Failure) AllocError) → Type 0
AreTold rows mode networks parts found =
    (product : ℕ) (d : Result (Option Failure) AllocError) → product < length networks → IfOk (slice_index_or found product d) (FailsSo rows mode networks parts product)

-- the first of the products below this one that fails
abbrev pub first_failing_below : Rows → Mode → List NetworkData → List ProposalPart → ℕ → Option Failing
first_failing_below rows mode networks parts zero = None
first_failing_below rows mode networks parts (suc product) =
    option_or (first_failing_below rows mode networks parts product)
    (failing_product rows mode product (slice_get networks product) (slice_get parts product))

-- the first product of the roster that fails
abbrev pub first_failing : Rows → Mode → List NetworkData → List ProposalPart → Option Failing
first_failing rows mode networks parts = first_failing_below rows mode networks parts (length rows.products)

-- what a check of the parts finds, product by product against the market of the trades
pub record IsChecked (rows : Rows) (mode : Mode) (trades : List FileTrade) (parts : List ProposalPart) (found : Option Failing) : Type 0 where
  pub networks : List NetworkData
  pub market : AreNetworksOf rows trades networks
  pub first : found ≡ first_failing rows mode networks parts
