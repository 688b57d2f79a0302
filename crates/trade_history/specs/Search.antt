-- The search for what executes at a change: it looks back for the latest posting of the cycle and version that the change names, and for the cycle's opening.
use Rattle.std.specs.Prelude.{ℕ, ◌==◌, ◌&&◌, not, Bool, true, List, [], ◌∷◌, Option, Some, None, if◌then◌else◌}
use Rattle.std.specs.List.{list_any}
use Rattle.command_types.specs.declared.ask.What.{What}
use Rattle.command_types.specs.declared.ask.What.TheVariants.{Freeze, Post, Accept}
use Rattle.command_types.specs.declared.plan.PlanRow.{PlanRow}
use Rattle.command_types.specs.declared.trade.TradeRow.{TradeRow}
use Rattle.command_types.specs.Roster.{Rows}
use Rattle.trade_history.specs.Moments.{Moment, cycle_at, is_post, drops}
use Rattle.trade_history.specs.Executes.{Opening, takes, plan_at, touched_at, is_complete, are_live}

-- a freeze that opens the cycle looked for is its opening; any other command leaves what is found before it
abbrev pub opening_by : What → Bool → List TradeRow → Option Opening → Option Opening
opening_by (Freeze day) true rows before = Some (record { day = day; rows = rows })
opening_by what is_wanted rows before = before

-- the opening of the cycle with this number
abbrev pub opening_of : ℕ → ℕ → List Moment → Option Opening
opening_of number cycle [] = None
opening_of number cycle (moment ∷ moments) =
    opening_by moment.ask.what (cycle_at number (moment ∷ moments) == cycle) moment.rows (opening_of number cycle moments)

-- moments, cut at one of them: those after it, it, and those before it
pub record Cut : Type 0 where
  pub later : List Moment
  pub posted : Moment
  pub before : List Moment

abbrev pub later_by : Moment → Option Cut → Option Cut
later_by moment None = None
later_by moment (Some cut) = Some (record { later = moment ∷ cut.later; posted = cut.posted; before = cut.before })

-- the moments, cut at the latest POST of this cycle and version
abbrev pub cut_at_post : ℕ → ℕ → List Moment → Option Cut
cut_at_post cycle version [] = None
cut_at_post cycle version (moment ∷ moments) =
    if is_post cycle version moment.ask.what then Some (record { later = []; posted = moment; before = moments })
    else later_by moment (cut_at_post cycle version moments)

-- a posting in a cycle of this opening executes at the latest of the moments after it
abbrev pub is_executed : Rows → ℕ → ℕ → Opening → Moment → List Moment → List TradeRow → Bool
is_executed roster cycle version opening posted later rows =
    not (list_any (drops cycle) later) && is_complete roster cycle version (touched_at roster opening posted) later
    && are_live (takes roster.products opening) rows

-- what executes: a plan, posted in this version of a cycle
pub record Execution : Type 0 where
  pub cycle : ℕ
  pub version : ℕ
  pub plan : List PlanRow

abbrev pub execution_in : Rows → ℕ → ℕ → List TradeRow → Cut → Option Opening → Option Execution
execution_in roster cycle version rows cut None = None
execution_in roster cycle version rows cut (Some opening) =
    if is_executed roster cycle version opening cut.posted cut.later rows
    then Some (record { cycle = cycle; version = version; plan = plan_at roster opening cut.posted })
    else None

abbrev pub execution_of_cut : Rows → ℕ → ℕ → ℕ → List TradeRow → Option Cut → Option Execution
execution_of_cut roster number cycle version rows None = None
execution_of_cut roster number cycle version rows (Some cut) = execution_in roster cycle version rows cut (opening_of number cycle cut.before)

-- the latest posting of the cycle and version that the command names, if it executes
abbrev pub execution_by : Rows → ℕ → List Moment → List TradeRow → What → Option Execution
execution_by roster number moments rows (Post cycle version solutions) = execution_of_cut roster number cycle version rows (cut_at_post cycle version moments)
execution_by roster number moments rows (Accept cycle version) = execution_of_cut roster number cycle version rows (cut_at_post cycle version moments)
execution_by roster number moments rows what = None

-- what executes at the latest of these moments
abbrev pub execution_at : Rows → ℕ → List Moment → Option Execution
execution_at roster number [] = None
execution_at roster number (now ∷ before) = execution_by roster number (now ∷ before) now.rows now.ask.what
