use Rattle.std.proofs.Common.{refl, arith}
use Rattle.dual_certificate.proofs.RunFacts.{part_joined}
use Rattle.dual_certificate.proofs.run_joiner.take_part.Goals as goal

pub returns-clause-joined : goal.returns-clause-joined
returns-clause-joined c = λ bytes h.
    part_joined c.args.roster.now bytes c.args.joined.now _ c.args.read c.requires.part h (grind arith) c.in_ok-push.ensures.items refl refl
