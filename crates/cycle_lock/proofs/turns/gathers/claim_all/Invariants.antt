use Rattle.cycle_lock.specs.Passes.{lock_of}
use Rattle.cycle_lock.specs.Turn.{Gathers}
use Rattle.publication_list.specs.Tokens.{IsServerOf, claims, key_of}
use Rattle.cycle_lock.proofs.turns.gathers.claim_all.Given as goal

abbrev pub invariant-loop-place : goal.invariant-loop-place
invariant-loop-place l = IsServerOf l.list l.clerk × Gathers (lock_of (key_of l.list).value) l.initial.batch l.batch (claims l.initial.clerk) (claims l.clerk)
