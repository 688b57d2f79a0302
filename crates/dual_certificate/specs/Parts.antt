-- The parts of a proposal beside the roster that it is for.
use Rattle.std.specs.Prelude.{◌≡◌, List, length, All}
use Rattle.network_laws.specs.Solutions.{IsSolution}
use Rattle.command_types.specs.Roster.{Rows}
use Rattle.dual_certificate.specs.declared.proposal_part.ProposalPart.{ProposalPart}
use Rattle.dual_certificate.specs.Writing.{HasMembers}

-- one part for each product, each with a solution over the roster's members
pub record AreParts (roster : Rows) (parts : List ProposalPart) : Type 0 where
  pub count : length parts ≡ length roster.products
  pub members : All (λ part. HasMembers roster part.solution.network) parts
  pub potentials : All (λ part. length part.solution.potentials ≡ length roster.members) parts
  pub good : All (λ part. IsSolution part.solution) parts
