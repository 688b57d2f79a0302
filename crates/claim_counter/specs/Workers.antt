-- The workers of a counter.
use Rattle.std.specs.Prelude.{◌≡◌, ℕ}
use Rattle.claim_counter.specs.declared.rule.Claims.{Claims}
use Rattle.claim_counter.specs.declared.workers.Counter.{Counter}
use Rattle.claim_counter.specs.declared.workers.Worker.{Worker}

-- what a worker knows
abbrev pub view_of : Worker → Claims
view_of w = w.seat.me.0

abbrev pub IsWorkerOf : Counter → Worker → Type 0
IsWorkerOf counter w = w.seat.table_id ≡ counter.table.shared.table_id
