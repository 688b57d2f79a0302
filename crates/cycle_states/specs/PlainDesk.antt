-- A desk without a journal.
use Rattle.std.specs.Prelude.{◌≡◌, ℕ, true, None}
use Rattle.command_types.specs.declared.figures.Figures.{Figures}
use Rattle.command_types.specs.declared.figures.State.{State}
use Rattle.command_types.specs.Cycles.{closed}
use Rattle.command_types.specs.History.{History}
use Rattle.command_types.specs.Offers.{last_begin}
use Rattle.cycle_states.specs.Replayed.{IsReplayed}

-- its figures: it began with its history, and has no journal
abbrev pub plain_figures : History → Figures
plain_figures history = record { base = history.base; opening = 0; journal = None; votes_take_memory = true }

-- what it keeps: no cycle was opened before its history, and the place of the last change that begins a version
pub record IsPlain (state : State) (begun : ℕ) (h : History) : Type 0 where
  pub replayed : IsReplayed state h
  pub first : h.base.state.cycle ≡ closed 0 0
  pub begun_at : begun ≡ last_begin h.entries
