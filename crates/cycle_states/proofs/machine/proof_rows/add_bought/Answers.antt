use Rattle.std.proofs.Common.{◌≡◌, ◌≢◌, ℕ, [], ◌++◌, ◌≤◌, ◌<◌, refl, sym, ap, arith, ◌∙◌}
use Rattle.std.proofs.lemmas.Bool.{ne_eqb}
use Rattle.std.proofs.lemmas.List.{append-nil}
use Rattle.network_laws.specs.Networks.{NetworkData}
use Rattle.command_types.specs.MemberProofs.{Part, pair_row}
use Rattle.cycle_states.specs.MemberProofs.{part_in}
use Rattle.cycle_states.proofs.LoopFacts.{only_one, none_there}
use Rattle.cycle_states.proofs.ToldFacts.{own_bought}
use Rattle.cycle_states.proofs.machine.proof_rows.add_bought.Goals as goal

-- a pair of others is not told
not_own : (part : Part) (member seller : ℕ) → seller ≢ member → (buyer : ℕ) → buyer ≢ member → pair_row part member seller buyer ≡ []
not_own part member seller other buyer another = rw (ne_eqb seller member other, ne_eqb buyer member another) refl

pub returns-then-member-members-clause-rows : goal.returns-then-member-members-clause-rows
returns-then-member-members-clause-rows c =
    let part = part_in c.args.part.now in
    let rows = c.args.rows.now.items in
    let all : c.members.result ≡ part.problem.network.members = c.members.ensures.value ∙ ap (λ (n : NetworkData). n.members) c.network.ensures.value in
    let out : part.problem.network.members ≤ c.args.member = omega (arith, c.if-member-members.true, all) in
    let none = none_there (pair_row part c.args.member c.args.seller) c.args.member part.problem.network.members (not_own part c.args.member c.args.seller c.requires.other) out in
    sym (append-nil rows) ∙ ap (λ more. rows ++ more) (sym none)

pub returns-clause-rows : goal.returns-clause-rows
returns-clause-rows c =
    let part = part_in c.args.part.now in
    let rows = c.args.rows.now.items in
    let all : c.members.result ≡ part.problem.network.members = c.members.ensures.value ∙ ap (λ (n : NetworkData). n.members) c.network.ensures.value in
    let among : c.args.member < part.problem.network.members = omega (arith, c.if-member-members.false, all) in
    let one = only_one (pair_row part c.args.member c.args.seller) c.args.member part.problem.network.members (not_own part c.args.member c.args.seller c.requires.other) among in
    c.in_ok-after.ensures.rows ∙ ap (λ more. rows ++ more) (sym (one ∙ own_bought part c.args.member c.args.seller c.requires.other))
