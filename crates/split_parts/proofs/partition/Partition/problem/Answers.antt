use Rattle.std.proofs.Common.{◌≡◌, ◌<◌, ◌∙◌, ℕ, List, get_or, ap, subst, sym}
use Rattle.std.specs.Prelude.{All}
use Rattle.split_parts.proofs.Partitions.{part_within}
use Rattle.split_parts.proofs.partition.Partition.problem.Goals as goal

pub problem_of-requires-clause-inside : goal.problem_of-requires-clause-inside
problem_of-requires-clause-inside c =
    let limits = c.args.limits.now in
    let part = c.index.result.now in
    let parts : c.self.inside.parts.items ≡ c.args.self.now.parts = ap (λ (p : _). p.parts) c.self.view_is in
    let here : get_or c.args.self.now.parts c.args.at part ≡ part = ap (λ (ps : List (List ℕ)). get_or ps c.args.at part) (sym parts) ∙ sym c.index.ensures in
    subst (λ members. All (λ m. m < limits.members) members) (sym c.members.ensures) (part_within limits c.args.self.now.parts c.args.at part c.members-members.ensures.limits c.requires.parts.parts c.requires.here here)
