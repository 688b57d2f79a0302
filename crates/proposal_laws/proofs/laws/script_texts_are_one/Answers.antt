use Rattle.proposal_laws.proofs.Texts.{script_texts_are_one}
use Rattle.proposal_laws.proofs.laws.script_texts_are_one.Goals as goal

pub returns : goal.returns
returns c = script_texts_are_one
