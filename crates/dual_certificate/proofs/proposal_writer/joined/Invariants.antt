use Rattle.std.proofs.Common.{◌≡◌, List}
use Rattle.network_laws.specs.Networks.{NetworkData}
use Rattle.network_laws.specs.Solutions.{SolutionData}
use Rattle.command_types.specs.Roster.{Rows}
use Rattle.dual_certificate.specs.ProposalText.{parts_below}
use Rattle.dual_certificate.specs.Joining.{ArePartTexts}
use Rattle.dual_certificate.proofs.proposal_writer.joined.Given as goal

abbrev pub invariant-loop-product : goal.invariant-loop-product
invariant-loop-product l =
    (roster : Rows) (olds : List NetworkData) (news : List SolutionData) → ArePartTexts roster olds news l.fn.parts → l.out.items ≡ parts_below roster olds news l.product
