use Rattle.std.proofs.Common.{rules, ◌+◌, ◌*◌, ◌∙◌, sym, true≢false, eqb, get_or, bit_or, inl, inr, w64}
use Rattle.std.proofs.lemmas.Bool.{cases_Bool, eqb-true, eqb-false}
use Rattle.std.specs.Int.{trailing_zeros}
use Rattle.member_set.specs.Members.{has}
use Rattle.member_set.proofs.Words.{none_in, all_none, one_some, lowest_has}
use Rattle.member_set.proofs.set.MemberSet.is_empty.Goals as goal

pub returns-clause-some : goal.returns-clause-some
unfolding has
returns-clause-some c off =
    let one = one_some c.args.self.now.words (eqb-false (bit_or (bit_or (bit_or (get_or c.args.self.now.words 0 0) (get_or c.args.self.now.words 1 0)) (get_or c.args.self.now.words 2 0)) (get_or c.args.self.now.words 3 0)) 0 off) in
    (64 * one.0 + trailing_zeros w64 (get_or c.args.self.now.words one.0 0), lowest_has c.args.self.now.words one.0 one.1 one.2 (search rules))

pub returns-clause-none : goal.returns-clause-none
unfolding has
returns-clause-none c = (
  λ on m. none_in c.args.self.now.words (all_none c.args.self.now.words (eqb-true _ 0 on)) m,
  λ none.
      elim (cases_Bool (eqb (bit_or (bit_or (bit_or (get_or c.args.self.now.words 0 0) (get_or c.args.self.now.words 1 0)) (get_or c.args.self.now.words 2 0)) (get_or c.args.self.now.words 3 0)) 0)) [
        | inl on ↦ on
        | inr off ↦ let one = returns-clause-some c off in absurd (true≢false (sym one.1 ∙ none one.0))
      ],
)
