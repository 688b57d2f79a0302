use Rattle.std.proofs.Common.{◌/◌, ◌<◌, length, refl, arith}
use Rattle.acceptance.proofs.FlagFacts.{flag_set}
use Rattle.acceptance.proofs.flags.Flags.insert.Goals as goal

pub returns : goal.returns
returns c = λ m.
    let words = c.args.self.now.words in
    let within : c.args.member / 64 < length words = omega arith in
    rw c.index-place.ensures (flag_set words c.args.member _ m within refl)
