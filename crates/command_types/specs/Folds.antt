-- Histories that begin again: where no cycle is open, the state and the position are all that the changes so far leave behind.
use Rattle.std.specs.Prelude.{◌≡◌, []}
use Rattle.command_types.specs.declared.cycle.Phase.TheVariants.{None as NoPhase}
use Rattle.command_types.specs.History.{History, end_of, replayed}

-- no cycle is open at its end
abbrev pub IsAtRest : History → Type 0
IsAtRest h = (replayed h).cycle.phase ≡ NoPhase

-- the history without a change that begins where this one ends
abbrev pub folded : History → History
folded h = record { base = record { position = end_of h; state = replayed h }; entries = [] }
