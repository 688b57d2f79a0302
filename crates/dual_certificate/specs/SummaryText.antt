-- The text of a summary: what a compression comes to, a line for each product.
use Rattle.std.specs.Prelude.{ℕ, zero, suc, List, [], ◌++◌, length, slice_get, Option, Some, codes, decimal}
use Rattle.network_laws.specs.Networks.{NetworkData}
use Rattle.network_laws.specs.Solutions.{SolutionData}
use Rattle.command_types.specs.Roster.{Rows}
use Rattle.dual_certificate.specs.ProposalText.{product_text}

-- the line of one product, if it has a network and a solution
abbrev pub summary_line : Rows → ℕ → Option NetworkData → Option SolutionData → List ℕ
summary_line roster product (Some old) (Some new) = product_text roster product old new.network
summary_line roster product old new = []

-- the lines of the products below this one
abbrev pub summary_below : Rows → List NetworkData → List SolutionData → ℕ → List ℕ
summary_below roster olds news zero = []
summary_below roster olds news (suc product) =
    summary_below roster olds news product ++ summary_line roster product (slice_get olds product) (slice_get news product)

-- the text of a summary: each product's line in order, as a proposal has it first, and the last line
abbrev pub summary_text : Rows → List NetworkData → List SolutionData → List ℕ
summary_text roster olds news =
    summary_below roster olds news (length roster.products) ++ (codes "end " ++ decimal (length roster.products) ++ codes "\n")
