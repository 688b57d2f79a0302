use Rattle.std.proofs.Common.{sym, ◌∙◌}
use Rattle.record_codec.proofs.SizeFacts.{spelling_length}
use Rattle.record_codec.proofs.size.length.Goals as goal

pub returns-clause-exact : goal.returns-clause-exact
returns-clause-exact c = c.size_of.ensures ∙ sym (spelling_length c.args.entry.now c.requires.change)
