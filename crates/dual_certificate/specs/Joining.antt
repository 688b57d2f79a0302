-- The lines of products, from which a proposal is joined.
use Rattle.std.specs.Prelude.{◌≡◌, ℕ, ◌<◌, List, length, slice_get, slice_index_or}
use Rattle.std.specs.declared.alloc.Global.{Global}
use Rattle.std.specs.declared.vec.Vec.{Vec}
use Rattle.network_laws.specs.Networks.{NetworkData}
use Rattle.network_laws.specs.Solutions.{SolutionData}
use Rattle.command_types.specs.Roster.{Rows}
use Rattle.dual_certificate.specs.ProposalText.{part_of, parts_below, proposal_text}

-- one text for each product of the roster, which is that of its network and solution
pub record ArePartTexts (roster : Rows) (olds : List NetworkData) (news : List SolutionData) (texts : List (Vec ℕ Global)) : Type 0 where
  pub count : length texts ≡ length roster.products
  pub each : (product : ℕ) (d : Vec ℕ Global) → product < length texts → (slice_index_or texts product d).items ≡ part_of roster product (slice_get olds product) (slice_get news product)

-- what these lines are behind one another: those of all products, of whatever networks and solutions they tell of
abbrev pub AreLinesOf : List (Vec ℕ Global) → List ℕ → Type 0
AreLinesOf texts text =
    (roster : Rows) (olds : List NetworkData) (news : List SolutionData) → ArePartTexts roster olds news texts → text ≡ parts_below roster olds news (length texts)

-- what these lines join to: the proposal of whatever networks and solutions they tell of
abbrev pub IsProposalOf : List (Vec ℕ Global) → List ℕ → Type 0
IsProposalOf texts text = (roster : Rows) (olds : List NetworkData) (news : List SolutionData) → ArePartTexts roster olds news texts → text ≡ proposal_text roster olds news
