-- How far a seat has come, and what that gives it.
use Rattle.std.specs.Prelude.{ℕ, Bool, true, false}
use Rattle.cycle_lock.specs.declared.rule.Stage.{Stage}
use Rattle.cycle_lock.specs.declared.rule.Stage.TheVariants.{Waiting, HasTurn, Serving}

-- how many tickets it has
abbrev pub tickets : Stage → ℕ
tickets Waiting = 1
tickets HasTurn = 1
tickets Serving = 1
tickets stage = 0

abbrev pub has_turn : Stage → Bool
has_turn HasTurn = true
has_turn Serving = true
has_turn stage = false
