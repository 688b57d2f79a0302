use Rattle.std.proofs.Common.{◌∷◌, length, ap, arith}
use Rattle.record_pool.proofs.AheadFacts.{next_is}
use Rattle.record_pool.proofs.opened.next_of.Goals as goal

pub returns-in-Some : goal.returns-in-Some
returns-in-Some c = λ bytes others ahead.
    next_is c.args.ahead.now.at bytes c.in-Some.found.bytes.now others c.next.new.self.at c.next.new.self.rest.now (c.in-Some.ensures.some (bytes ∷ others) ahead)

pub returns-in-None : goal.returns-in-None
returns-in-None c = λ bytes others ahead. absurd (omega (arith, ap length (c.in-None.ensures.none (bytes ∷ others) ahead)))
