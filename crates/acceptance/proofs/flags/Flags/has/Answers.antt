use Rattle.std.proofs.Common.{◌/◌, ◌%◌, get_or, eqb, ap}
use Rattle.std.proofs.lemmas.Nat.Bits.{shr_and_one}
use Rattle.acceptance.specs.Votes.{is_flagged}
use Rattle.acceptance.proofs.flags.Flags.has.Goals as goal

pub returns : goal.returns
unfolding is_flagged
returns c =
    let words = c.args.self.now.words in
    rw c.index-place.ensures (ap (λ x. eqb x 1) (shr_and_one (get_or words (c.args.member / 64) 0) (c.args.member % 64)))
