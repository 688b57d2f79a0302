-- The text of a proposal by its parts, with the figures that they tell, and what it has to do with reading and writing.
use Rattle.std.specs.Prelude.{◌≡◌, ◌≤◌, ℕ, ◌+◌, List, [], ◌∷◌, ◌++◌, length, All, Ok, codes, decimal}
use Rattle.network_laws.specs.Networks.{NetworkData}
use Rattle.network_laws.specs.Solutions.{SolutionData}
use Rattle.command_types.specs.Roster.{Rows, IsRoster}
use Rattle.command_types.specs.Names.{HasNames}
use Rattle.command_types.specs.Text.{product_name}
use Rattle.dual_certificate.specs.declared.proposal_part.ProposalPart.{ProposalPart}
use Rattle.dual_certificate.specs.declared.proposal_line.Figures.{Figures}
use Rattle.dual_certificate.specs.ProposalText.{rows_text, pots_text, proposal_text}
use Rattle.dual_certificate.specs.Proposal.{proposal_of}
use Rattle.dual_certificate.specs.Parts.{AreParts}
use Rattle.dual_certificate.specs.Laws.{parts_for}
use Rattle.units_core.specs.declared.limits.TheConstants.{MOST_FILE, MOST_NUMBER}

-- the figures that a part tells
abbrev pub figures_in : ProposalPart → Figures
figures_in part = record { gross = part.gross; least = part.least; floor_m = part.floor_m; bilateral = part.bilateral }

-- a product's name and its figures
abbrev pub head_text : Rows → ℕ → Figures → List ℕ
head_text roster product figures =
    codes "product " ++ product_name roster product ++ codes " " ++ decimal figures.gross ++ codes " " ++ decimal figures.least
    ++ codes " " ++ decimal figures.floor_m ++ codes " " ++ decimal figures.bilateral ++ codes "\n"

-- the lines of a part of the product with this number
abbrev pub lines_of_part : Rows → ℕ → ProposalPart → List ℕ
lines_of_part roster product part =
    head_text roster product (figures_in part) ++ rows_text roster part.solution.network.rows ++ pots_text roster 0 part.solution.potentials
    ++ (codes "bound " ++ decimal part.bound ++ codes "\n")

-- the lines of parts, of which the first is one of the product with this number
abbrev pub lines_from : Rows → ℕ → List ProposalPart → List ℕ
lines_from roster product [] = []
lines_from roster product (part ∷ parts) = lines_of_part roster product part ++ lines_from roster (product + 1) parts

-- the text of parts: the lines of each in order, and the last line
abbrev pub text_of_parts : Rows → List ProposalPart → List ℕ
text_of_parts roster parts = lines_from roster 0 parts ++ (codes "end " ++ decimal (length roster.products) ++ codes "\n")

-- no figure is above the largest number that a text may have
pub record AreSmall (figures : Figures) : Type 0 where
  pub gross : figures.gross ≤ MOST_NUMBER
  pub least : figures.least ≤ MOST_NUMBER
  pub floor_m : figures.floor_m ≤ MOST_NUMBER
  pub bilateral : figures.bilateral ≤ MOST_NUMBER

-- nor is any of a part, its bound among them
pub record HasSmall (part : ProposalPart) : Type 0 where
  pub figures : AreSmall (figures_in part)
  pub bound : part.bound ≤ MOST_NUMBER

-- what is read as parts is exactly their text
abbrev pub WhatIsReadIsItsText : Type 0
WhatIsReadIsItsText = (roster : Rows) (text : List ℕ) (parts : List ProposalPart) → proposal_of roster text ≡ Ok parts → text ≡ text_of_parts roster parts

-- the text of parts is read as these parts, where its numbers are small and it is not too long to be read
abbrev pub TheirTextIsRead : Type 0
TheirTextIsRead =
    (roster : Rows) (parts : List ProposalPart) → IsRoster roster → HasNames roster → AreParts roster parts → All HasSmall parts →
    length (text_of_parts roster parts) ≤ MOST_FILE → proposal_of roster (text_of_parts roster parts) ≡ Ok parts

-- what is written for a network and a solution of each product is the text of their parts
abbrev pub WhatIsWrittenIsItsText : Type 0
WhatIsWrittenIsItsText =
    (roster : Rows) (olds : List NetworkData) (news : List SolutionData) → length olds ≡ length roster.products → length news ≡ length roster.products →
    proposal_text roster olds news ≡ text_of_parts roster (parts_for olds news)
