use Rattle.acceptance.proofs.PartyFacts.{added_parties}
use Rattle.acceptance.proofs.parties.add_parties.Goals as goal

pub returns : goal.returns
returns c = λ m. added_parties _ _ _ _ _ _ (c.insert.ensures m) (c.insert-2.ensures m) (c.step_parties-seller.ensures.parties m)
