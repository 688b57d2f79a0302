use Rattle.std.proofs.Common.{rules, arith, ◌+◌, ◌*◌, w64}
use Rattle.std.specs.Int.{trailing_zeros}
use Rattle.member_set.specs.Members.{has_in}
use Rattle.member_set.proofs.Parts.{taken_has, taken_least, taken_out_of, no_part, part_less}
use Rattle.member_set.proofs.part.Part.take_lowest.Goals as goal

pub returns-then-self-eq0-clause-none : goal.returns-then-self-eq0-clause-none
unfolding has_in
returns-then-self-eq0-clause-none c e m = no_part c.args.self.now.place c.args.self.now.word m (search rules)

pub returns-clause-member : goal.returns-clause-member
unfolding has_in
returns-clause-member c = taken_has c.args.self.now.place c.args.self.now.word (search rules) (omega (arith, c.fits-self))

pub returns-clause-least : goal.returns-clause-least
unfolding has_in
returns-clause-least c m less = taken_least c.args.self.now.place c.args.self.now.word (search rules) (omega (arith, c.fits-self)) m less

pub returns-clause-others : goal.returns-clause-others
unfolding has_in
returns-clause-others c m = taken_out_of c.args.self.now.place c.args.self.now.word (search rules) (omega (arith, c.fits-self)) m

pub returns-clause-fewer : goal.returns-clause-fewer
returns-clause-fewer c =
    part_less c.args.self.now _ (64 * c.args.self.now.place + trailing_zeros w64 c.args.self.now.word)
    (returns-clause-others c) (search rules) (returns-clause-member c)
