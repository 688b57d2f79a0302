use Rattle.std.proofs.Common.{◌∙◌, length, ap, arith}
use Rattle.record_codec.proofs.SizeFacts.{spelling_length}
use Rattle.house.proofs.storing.record_of.Goals as goal

pub returns-clause-size : goal.returns-clause-size
returns-clause-size c = ap length c.in_ok-bytes.ensures.exact ∙ spelling_length c.args.entry.now c.requires.change

pub returns-clause-small : goal.returns-clause-small
returns-clause-small c =
    let long = ap length c.in_ok-bytes.ensures.exact ∙ spelling_length c.args.entry.now c.requires.change in
    omega (arith, long, c.requires.small)
