use Rattle.std.proofs.Common.{◌≡◌, ◌%◌, ◌^◌}
use Rattle.cycle_lock.specs.declared.rule.Stage.TheVariants.{Waiting}
use Rattle.cycle_lock.proofs.turns.Turns.enter.Given as goal

abbrev pub invariant-loop : goal.invariant-loop
invariant-loop g l = (l.seat.table_id ≡ l.initial.seat.table_id) × (l.seat.id ≡ l.initial.seat.id) × (l.seat.me.0.account ≡ l.initial.seat.me.0.account) × (l.seat.me.0.stage ≡ Waiting) × (l.ticket ≡ l.seat.me.0.ticket % 2 ^ 64) × (l.seat.me.1 ≡ l.initial.seat.me.1)
