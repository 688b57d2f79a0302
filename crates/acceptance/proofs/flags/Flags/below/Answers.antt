use Rattle.std.proofs.Common.{Bool, ◌||◌, ap, ◌∙◌, eqb}
use Rattle.acceptance.proofs.PartyFacts.{one_below}
use Rattle.acceptance.proofs.flags.Flags.below.Goals as goal

pub loop-place-preserved : goal.loop-place-preserved
loop-place-preserved c = λ m.
    let k = c.loop-place.place in
    c.insert.ensures m ∙ ap (λ (t : Bool). eqb k m || t) (c.loop-place.invariant m) ∙ one_below k m
