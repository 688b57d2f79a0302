use Rattle.std.proofs.Common.{Bool, ◌&&◌, length, sym, ap, ◌∙◌, arith, eq-eqb}
use Rattle.std.specs.List.{list_all}
use Rattle.command_types.specs.Cycles.{is_of_members}
use Rattle.posting.proofs.posted.has_shape.Goals as goal

pub returns-then-solutions-problems : goal.returns-then-solutions-problems
returns-then-solutions-problems c =
    let solutions = c.args.solutions.now in
    c.are_of_members.ensures
    ∙ sym (ap (λ (b : Bool). b && list_all (is_of_members c.args.members) solutions) (eq-eqb (length solutions) (length c.args.problems.now) (omega (arith, c.if-solutions-problems.true))))
