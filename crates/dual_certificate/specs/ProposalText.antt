-- The text of a proposal.
use Rattle.std.specs.Prelude.{ℕ, zero, suc, ◌+◌, ℤ, List, [], ◌∷◌, ◌++◌, length, slice_get, Option, Some, codes, decimal}
use Rattle.std.specs.Fmt.{signed_decimal}
use Rattle.network_laws.specs.declared.rows.Row.{Row}
use Rattle.network_laws.specs.Networks.{NetworkData, gross, floor_m, bilateral}
use Rattle.network_laws.specs.Solutions.{SolutionData}
use Rattle.command_types.specs.Roster.{Rows}
use Rattle.command_types.specs.Text.{member_name, product_name}

-- a product's name, the gross of its original network and of its least one, and the original's other figures
abbrev pub product_text : Rows → ℕ → NetworkData → NetworkData → List ℕ
product_text roster product old new =
    codes "product " ++ product_name roster product ++ codes " " ++ decimal (gross old) ++ codes " " ++ decimal (gross new)
    ++ codes " " ++ decimal (floor_m old) ++ codes " " ++ decimal (bilateral old) ++ codes "\n"

-- the line of a row
abbrev pub row_text : Rows → Row → List ℕ
row_text roster row =
    codes "row " ++ member_name roster row.seller ++ codes " " ++ member_name roster row.buyer ++ codes " " ++ decimal row.amount ++ codes "\n"

-- the lines of rows, in their order
abbrev pub rows_text : Rows → List Row → List ℕ
rows_text roster [] = []
rows_text roster (row ∷ rows) = row_text roster row ++ rows_text roster rows

-- the line of a member's potential
abbrev pub pot_text : Rows → ℕ → ℤ → List ℕ
pot_text roster member value = codes "pot " ++ member_name roster member ++ codes " " ++ signed_decimal value ++ codes "\n"

-- the potentials of the members from this one on
abbrev pub pots_text : Rows → ℕ → List ℤ → List ℕ
pots_text roster member [] = []
pots_text roster member (value ∷ values) = pot_text roster member value ++ pots_text roster (member + 1) values

-- the lines of one product; the bound is the least gross
abbrev pub part_text : Rows → ℕ → NetworkData → SolutionData → List ℕ
part_text roster product old new =
    product_text roster product old new.network ++ rows_text roster new.network.rows ++ pots_text roster 0 new.potentials
    ++ (codes "bound " ++ decimal (gross new.network) ++ codes "\n")

-- the lines of one product, if it has a network and a solution
abbrev pub part_of : Rows → ℕ → Option NetworkData → Option SolutionData → List ℕ
part_of roster product (Some old) (Some new) = part_text roster product old new
part_of roster product old new = []

-- the lines of the products below this one
abbrev pub parts_below : Rows → List NetworkData → List SolutionData → ℕ → List ℕ
parts_below roster olds news zero = []
parts_below roster olds news (suc product) =
    parts_below roster olds news product ++ part_of roster product (slice_get olds product) (slice_get news product)

-- the text of a proposal: the lines of each product in order, and the last line
abbrev pub proposal_text : Rows → List NetworkData → List SolutionData → List ℕ
proposal_text roster olds news =
    parts_below roster olds news (length roster.products) ++ (codes "end " ++ decimal (length roster.products) ++ codes "\n")
