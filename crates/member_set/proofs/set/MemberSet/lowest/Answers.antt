use Rattle.std.proofs.Common.{rules, arith, refl, sym, ◌∙◌, true≢false}
use Rattle.member_set.specs.Members.{has}
use Rattle.member_set.proofs.Words.{none_in, lowest_has, lowest_least}
use Rattle.member_set.proofs.set.MemberSet.lowest.Goals as goal

pub returns-then-word-ne0-clause-none : goal.returns-then-word-ne0-clause-none
unfolding has
returns-then-word-ne0-clause-none c = (
  λ e. absurd (true≢false e),
  λ none. sym (lowest_has c.args.self.now.words c.loop-place.place (omega arith) (omega arith) (search rules)) ∙ none _,
)

pub returns-then-word-ne0-clause-member : goal.returns-then-word-ne0-clause-member
unfolding has
returns-then-word-ne0-clause-member c =
    lowest_has c.args.self.now.words c.loop-place.place (omega arith) (omega arith) (search rules)

pub returns-then-word-ne0-clause-least : goal.returns-then-word-ne0-clause-least
unfolding has
returns-then-word-ne0-clause-least c =
    lowest_least c.args.self.now.words c.loop-place.place (omega arith) c.loop-place.invariant (omega arith) (search rules)

pub returns-clause-none : goal.returns-clause-none
unfolding has
returns-clause-none c = (λ e. none_in c.args.self.now.words (λ k small. c.loop-place.invariant k (omega arith)), λ none. refl)
