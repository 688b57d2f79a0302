-- Which pairs a member is told of.
use Rattle.std.proofs.Common.{◌≡◌, ◌≢◌, ℕ, ◌==◌, ◌&&◌, ◌||◌, [], ◌∷◌, if◌then◌else◌, refl, ap, ◌∙◌}
use Rattle.std.proofs.lemmas.Bool.{eq-eqb, ne_eqb}
use Rattle.command_types.specs.declared.proof.ProofRow.TheVariants.{Pair}
use Rattle.command_types.specs.MemberProofs.{Part, is_told, pair_line, pair_row}
use Rattle.cycle_states.specs.MemberProofs.{told_row}

-- of the pairs in which it sells, of each that is told
pub own_sold : (part : Part) (member buyer : ℕ) → pair_row part member member buyer ≡ told_row part member buyer
own_sold part member buyer =
    ap (λ b. if (b || (buyer == member)) && is_told part member buyer then Pair (pair_line part member buyer) ∷ [] else []) (eq-eqb member member refl)

-- and of those in which it buys of another
pub own_bought : (part : Part) (member seller : ℕ) → seller ≢ member → pair_row part member seller member ≡ told_row part seller member
own_bought part member seller other =
    ap (λ b. if (b || (member == member)) && is_told part seller member then Pair (pair_line part seller member) ∷ [] else []) (ne_eqb seller member other)
    ∙ ap (λ b. if b && is_told part seller member then Pair (pair_line part seller member) ∷ [] else []) (eq-eqb member member refl)
