use Rattle.std.proofs.Common.{length}
use Rattle.journal_core.proofs.LeadFacts.{SoFar}
use Rattle.journal_core.proofs.walking.end_behind.Given as goal

abbrev pub invariant-loop-body : goal.invariant-loop-body
invariant-loop-body l = SoFar l.gate l.bytes l.at l.rest

abbrev pub decreases-loop-body : goal.decreases-loop-body
decreases-loop-body l = length l.rest
