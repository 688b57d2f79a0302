-- Moments of a history, in lists from the latest back: how many cycles were opened, and what the commands say of a posting.
use Rattle.std.specs.Prelude.{ℕ, ◌+◌, ◌==◌, ◌&&◌, Bool, false, List, [], ◌∷◌, Option, Some, None, unwrap_or}
use Rattle.network_laws.specs.Solutions.{SolutionData}
use Rattle.command_types.specs.declared.ask.Ask.{Ask}
use Rattle.command_types.specs.declared.ask.What.{What}
use Rattle.command_types.specs.declared.ask.What.TheVariants.{Freeze, Begin, Post, Accept, Decline, Cancel}
use Rattle.command_types.specs.declared.trade.TradeRow.{TradeRow}
use Rattle.command_types.specs.Roster.{Rows, member_place}

-- a change, and the trade rows just before it
pub record Moment : Type 0 where
  pub ask : Ask
  pub rows : List TradeRow

-- the number of the last cycle once this command was accepted: a freeze opens the next one
abbrev pub cycle_after : What → ℕ → ℕ
cycle_after (Freeze day) number = 1 + number
cycle_after what number = number

-- the number of the last cycle that was opened, counted on from a first number
abbrev pub cycle_at : ℕ → List Moment → ℕ
cycle_at number [] = number
cycle_at number (moment ∷ moments) = cycle_after moment.ask.what (cycle_at number moments)

-- a POST of this cycle and version
abbrev pub is_post : ℕ → ℕ → What → Bool
is_post cycle version (Post c v solutions) = (c == cycle) && (v == version)
is_post cycle version what = false

abbrev pub solutions_of : What → List SolutionData
solutions_of (Post c v solutions) = solutions
solutions_of what = []

-- a BEGIN, a DECLINE or a CANCEL of this cycle
abbrev pub is_drop : ℕ → What → Bool
is_drop cycle (Begin c mode) = c == cycle
is_drop cycle (Decline c v) = c == cycle
is_drop cycle (Cancel c) = c == cycle
is_drop cycle what = false

abbrev pub drops : ℕ → Moment → Bool
drops cycle moment = is_drop cycle moment.ask.what

-- an ACCEPT of this cycle and version
abbrev pub is_accept : ℕ → ℕ → What → Bool
is_accept cycle version (Accept c v) = (c == cycle) && (v == version)
is_accept cycle version what = false

abbrev pub is_at : Option ℕ → ℕ → Bool
is_at None member = false
is_at (Some place) member = place == member

-- an ACCEPT of this cycle and version by this member
abbrev pub accepts : Rows → ℕ → ℕ → ℕ → Moment → Bool
accepts roster cycle version member moment =
    is_accept cycle version moment.ask.what && is_at (member_place roster (unwrap_or moment.ask.by [])) member
