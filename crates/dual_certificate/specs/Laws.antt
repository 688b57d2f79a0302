-- The law of a proposal's text, as a statement.
use Rattle.std.specs.Prelude.{◌≡◌, ◌≤◌, List, [], ◌∷◌, length, All, Ok}
use Rattle.network_laws.specs.Networks.{NetworkData, IsNetwork, gross, floor_m, bilateral}
use Rattle.network_laws.specs.Solutions.{SolutionData, IsSolution}
use Rattle.command_types.specs.Roster.{Rows, IsRoster}
use Rattle.command_types.specs.Names.{HasNames}
use Rattle.dual_certificate.specs.declared.proposal_part.ProposalPart.{ProposalPart}
use Rattle.dual_certificate.specs.ProposalText.{proposal_text}
use Rattle.dual_certificate.specs.Proposal.{proposal_of}
use Rattle.dual_certificate.specs.Writing.{SolveMembers}
use Rattle.units_core.specs.declared.limits.TheConstants.{MOST_FILE}

-- a network and a solution over the roster's members for each product
pub record AreOfRoster (roster : Rows) (olds : List NetworkData) (news : List SolutionData) : Type 0 where
  pub count : length olds ≡ length roster.products
  pub solved : length news ≡ length roster.products
  pub networks : All IsNetwork olds
  pub solutions : All IsSolution news
  pub members : SolveMembers roster news

-- the part of a product: its solution, with the figures of its original network and of its least one
abbrev pub part_for : NetworkData → SolutionData → ProposalPart
part_for old new = record {
  solution = new;
  gross = gross old;
  least = gross new.network;
  floor_m = floor_m old;
  bilateral = bilateral old;
  bound = gross new.network;
}

-- the parts of the products, in order
abbrev pub parts_for : List NetworkData → List SolutionData → List ProposalPart
parts_for (old ∷ olds) (new ∷ news) = part_for old new ∷ parts_for olds news
parts_for (old ∷ olds) [] = []
parts_for [] news = []

-- what is written for networks and solutions is read as their parts, where the text is not too long to be read
abbrev pub WhatIsWrittenReadsBack : Type 0
WhatIsWrittenReadsBack =
    (roster : Rows) (olds : List NetworkData) (news : List SolutionData) → IsRoster roster → HasNames roster → AreOfRoster roster olds news →
    length (proposal_text roster olds news) ≤ MOST_FILE → proposal_of roster (proposal_text roster olds news) ≡ Ok (parts_for olds news)
