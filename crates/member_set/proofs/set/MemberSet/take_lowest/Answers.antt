use Rattle.std.proofs.Common.{rules, arith, ℕ, List, ◌≡◌, ◌+◌, ◌*◌, not, eqb, ◌&&◌, get_or, ap, ◌∙◌, subst, w64, true, false}
use Rattle.std.specs.Int.{trailing_zeros}
use Rattle.member_set.specs.Members.{has, has_bit}
use Rattle.member_set.proofs.Sizes.{size_less}
use Rattle.member_set.proofs.Words.{none_in, lowest_has, lowest_least, lowest_small, lowest_out}
use Rattle.member_set.proofs.set.MemberSet.take_lowest.Goals as goal

pub returns-then-word-ne0-clause-member : goal.returns-then-word-ne0-clause-member
unfolding has
returns-then-word-ne0-clause-member c =
    subst (λ (ws : List ℕ). has_bit ws (64 * c.loop-place.place + trailing_zeros w64 (get_or c.loop-place.self.words c.loop-place.place 0)) ≡ true) c.loop-place.invariant.same
    (lowest_has c.loop-place.self.words c.loop-place.place (omega arith) (omega arith) (search rules))

pub returns-then-word-ne0-clause-least : goal.returns-then-word-ne0-clause-least
unfolding has
returns-then-word-ne0-clause-least c m l =
    subst (λ (ws : List ℕ). has_bit ws m ≡ false) c.loop-place.invariant.same
    (lowest_least c.loop-place.self.words c.loop-place.place (omega arith) c.loop-place.invariant.before (omega arith) (search rules) m l)

pub returns-then-word-ne0-clause-others : goal.returns-then-word-ne0-clause-others
unfolding has
returns-then-word-ne0-clause-others c m =
    lowest_out c.loop-place.self.words c.loop-place.place (omega arith) c.loop-place.invariant.before (omega arith) (search rules) (omega arith) m
    ∙ ap (λ (ws : List ℕ). not (eqb m (64 * c.loop-place.place + trailing_zeros w64 (get_or c.loop-place.self.words c.loop-place.place 0))) && has_bit ws m) c.loop-place.invariant.same

pub returns-then-word-ne0-clause-fewer : goal.returns-then-word-ne0-clause-fewer
returns-then-word-ne0-clause-fewer c =
    size_less c.args.self.now _ (64 * c.loop-place.place + trailing_zeros w64 (get_or c.loop-place.self.words c.loop-place.place 0))
    (returns-then-word-ne0-clause-others c)
    (lowest_small c.loop-place.self.words c.loop-place.place (omega arith) c.loop-place.invariant.before (omega arith) (search rules))
    (returns-then-word-ne0-clause-member c)

pub returns-clause-none : goal.returns-clause-none
unfolding has
returns-clause-none c e m =
    subst (λ (ws : List ℕ). has_bit ws m ≡ false) c.loop-place.invariant.same (none_in c.loop-place.self.words (λ k small. c.loop-place.invariant.before k (omega arith)) m)
