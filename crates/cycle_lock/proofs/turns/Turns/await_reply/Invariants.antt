use Rattle.std.proofs.Common.{◌≡◌}
use Rattle.publication_list.specs.Tokens.{asked, IsPublishedIn}
use Rattle.cycle_lock.proofs.turns.Turns.await_reply.Given as goal

abbrev pub invariant-loop : goal.invariant-loop
invariant-loop g l = IsPublishedIn l.list l.posted × (asked l.posted ≡ asked l.initial.posted)
