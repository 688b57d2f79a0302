-- What is written of a machine's state.
use Rattle.std.specs.Prelude.{ℕ, Option, Some, None, if◌then◌else◌}
use Rattle.command_types.specs.declared.base.Base.{Base}
use Rattle.command_types.specs.declared.figures.State.{State}
use Rattle.command_types.specs.Bases.{written}
use Rattle.command_types.specs.Cycles.{is_open}
use Rattle.cycle_states.specs.Replayed.{base_at}

-- what is written of a state at this position, and nothing where a cycle is open
abbrev pub base_of : ℕ → State → Option Base
base_of position s = if is_open s.cycle.phase then None else Some (written (base_at position s))
