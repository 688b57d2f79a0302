use Rattle.std.proofs.Common.{arith}
use Rattle.command_text.proofs.WordFacts.{first_at, first_whole}
use Rattle.command_text.proofs.words.word_end.Goals as goal

pub returns-then-byte-eq32-clause-words : goal.returns-then-byte-eq32-clause-words
returns-then-byte-eq32-clause-words c = first_at c.args.text.now c.loop-i.i (omega arith) c.loop-i.invariant c.if-byte-eq32.true

pub returns-clause-words : goal.returns-clause-words
returns-clause-words c = first_whole c.args.text.now (λ k lt. c.loop-i.invariant k (omega arith))
