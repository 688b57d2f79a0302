-- What a member is told of a proposal, as the walk over products and pairs has it.
use Rattle.std.specs.Prelude.{ℕ, List, [], ◌∷◌, length, slice_get, if◌then◌else◌}
use Rattle.command_types.specs.declared.figures.State.{State}
use Rattle.command_types.specs.declared.proof.ProofRow.{ProofRow}
use Rattle.command_types.specs.declared.proof.ProofRow.TheVariants.{Pair}
use Rattle.command_types.specs.Books.{held_network}
use Rattle.command_types.specs.MemberProofs.{Part, is_told, pair_line, product_rows}
use Rattle.cycle_states.specs.declared.machine.member_proofs.MemberProof.{MemberProof}
use Rattle.cycle_states.specs.declared.machine.part.Part.{Part as PartInHand}
use Rattle.cycle_states.specs.Machine.{state_in}

-- a product of a proposal
abbrev pub part_in : PartInHand → Part
part_in p = record {
  product = p.product;
  mode = p.mode;
  members = p.members.now;
  settings = p.tolerances.now.taken;
  held = held_network (length p.members.now) p.product p.book.now.rows;
  problem = p.problem.now;
  solution = p.solution.now;
}

-- the state whose proposal is asked about; what members set since its version began is not looked at
abbrev pub asked_state : MemberProof → State
asked_state proof = state_in proof.roster.now proof.book.now.rows proof.cycle.now

-- what the member that asks is told of a product
abbrev pub asked_rows : MemberProof → ℕ → List ProofRow
asked_rows proof product =
    product_rows (asked_state proof) proof.mode proof.member product (slice_get proof.cycle.now.begun product) (slice_get proof.cycle.now.solutions product)

-- a pair that has a frozen amount, or that mode and roles let grow
abbrev pub told_row : Part → ℕ → ℕ → List ProofRow
told_row part seller buyer = if is_told part seller buyer then Pair (pair_line part seller buyer) ∷ [] else []
