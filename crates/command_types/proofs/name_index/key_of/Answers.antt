use Rattle.std.proofs.Common.{arith}
use Rattle.command_types.proofs.StampFacts.{few_small}
use Rattle.command_types.proofs.name_index.key_of.Goals as goal

pub returns-clause-small : goal.returns-clause-small
returns-clause-small c = λ short.
    few_small c.loop-byte.key c.loop-byte.byte-index (omega (arith, short, c.loop-byte.auto.byte-index-end)) (c.loop-byte.invariant.few (omega (arith, short, c.loop-byte.auto.byte-index-end)))
