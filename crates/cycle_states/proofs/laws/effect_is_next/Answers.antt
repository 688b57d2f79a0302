use Rattle.cycle_states.proofs.EffectFacts.{effect_is_next}
use Rattle.cycle_states.proofs.laws.effect_is_next.Goals as goal

pub returns : goal.returns
returns c = effect_is_next
