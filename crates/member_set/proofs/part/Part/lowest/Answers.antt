use Rattle.std.proofs.Common.{rules, arith, refl, sym, ◌∙◌, true≢false}
use Rattle.member_set.specs.Members.{has_in}
use Rattle.member_set.proofs.Parts.{taken_has, taken_least, no_part}
use Rattle.member_set.proofs.part.Part.lowest.Goals as goal

pub returns-then-self-eq0-clause-none : goal.returns-then-self-eq0-clause-none
unfolding has_in
returns-then-self-eq0-clause-none c = (λ _ m. no_part c.args.self.now.place c.args.self.now.word m (search rules), λ _. refl)

pub returns-clause-member : goal.returns-clause-member
unfolding has_in
returns-clause-member c = taken_has c.args.self.now.place c.args.self.now.word (search rules) (omega (arith, c.fits-self))

pub returns-clause-none : goal.returns-clause-none
returns-clause-none c = (λ e. absurd (true≢false e), λ none. sym (returns-clause-member c) ∙ none _)

pub returns-clause-least : goal.returns-clause-least
unfolding has_in
returns-clause-least c m less = taken_least c.args.self.now.place c.args.self.now.word (search rules) (omega (arith, c.fits-self)) m less
