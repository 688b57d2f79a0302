use Rattle.std.proofs.Common.{sym, ◌∙◌, arith}
use Rattle.std.proofs.lemmas.Bool.{and_parts, and_from}
use Rattle.member_set.specs.Members.{has}
use Rattle.member_set.proofs.Parts.{member_small}
use Rattle.path_solver.proofs.outside.entered_from.Goals as goal

pub returns-clause-inside : goal.returns-clause-inside
returns-clause-inside c h on =
    (and_parts (has c.loop-place.open h) (has c.args.set.now h) (sym (c.and.ensures h) ∙ on)).1

pub returns-clause-all : goal.returns-clause-all
returns-clause-all c u h on inside is_open =
    c.and.ensures h ∙ and_from (has c.loop-place.open h) (has c.args.set.now h) (c.loop-place.invariant.all u h on (omega (arith, member_small c.args.members u on, c.loop-place-test.false)) is_open) inside
