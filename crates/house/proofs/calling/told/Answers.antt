use Rattle.std.proofs.Common.{inr, ◌∙◌, ap, sym}
use Rattle.cycle_states.specs.Offers.{filled_at}
use Rattle.cycle_states.specs.declared.offers.OpenAsk.{OpenAsk}
use Rattle.cycle_states.proofs.OfferFacts.{filled_is}
use Rattle.house.proofs.calling.told.Goals as goal

pub returns-in-Some : goal.returns-in-Some
returns-in-Some c =
    let h = c.args.past.now.history in
    let places = c.places.result in
    inr (λ what is. filled_is h.base h.entries places what c.args.answer c.in-Some.answer c.places.ensures
    (ap (λ (asked : OpenAsk). filled_at places asked c.args.answer) is ∙ sym c.filled.ensures ∙ c.in-Some.is))
