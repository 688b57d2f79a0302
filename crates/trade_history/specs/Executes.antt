-- What executes, in words: the history alone is looked at, from a change back, and neither phases nor votes are kept.
use Rattle.std.specs.Prelude.{◌≡◌, ℕ, ◌+◌, ◌&&◌, ◌||◌, not, Bool, true, false, List, [], ◌∷◌, ◌++◌, length, map, Option, Some, None, IsTrue, IsFalse}
use Rattle.std.specs.List.{list_any, list_all}
use Rattle.units_core.specs.Day.{DayParts}
use Rattle.network_laws.specs.Networks.{NetworkData}
use Rattle.network_laws.specs.Solutions.{SolutionData}
use Rattle.command_types.specs.declared.ask.What.TheVariants.{Freeze}
use Rattle.command_types.specs.declared.plan.PlanRow.{PlanRow}
use Rattle.command_types.specs.declared.roster.ProductRow.{ProductRow}
use Rattle.command_types.specs.declared.trade.TradeRow.{TradeRow}
use Rattle.command_types.specs.Roster.{Rows}
use Rattle.command_types.specs.Trades.{is_live, trade_numbered}
use Rattle.command_types.specs.Books.{frozen_network}
use Rattle.command_types.specs.Plans.{plan_of, touched_by}
use Rattle.command_types.specs.Cycles.{is_taken, new_networks}
use Rattle.trade_history.specs.Moments.{Moment, cycle_at, is_post, solutions_of, drops, accepts}

-- the opening of a cycle: its day, and the trade rows just before it
pub record Opening : Type 0 where
  pub day : DayParts
  pub rows : List TradeRow

-- The opening is the FREEZE, among these moments, that opened the cycle with this number.
pub record OpensCycle (number cycle : ℕ) (moments : List Moment) (opening : Opening) : Type 0 where
  pub later : List Moment
  pub frozen : Moment
  pub before : List Moment
  pub split : moments ≡ later ++ frozen ∷ before
  pub freeze : frozen.ask.what ≡ Freeze opening.day
  pub rows : opening.rows ≡ frozen.rows
  pub counted : cycle_at number (frozen ∷ before) ≡ cycle

-- the row was live when its cycle was opened on this day, and its product matures after the day
abbrev pub is_taken_row : List ProductRow → DayParts → Option TradeRow → Bool
is_taken_row products day None = false
is_taken_row products day (Some row) = is_taken products day row

-- the opening froze the trade with this number
abbrev pub takes : List ProductRow → Opening → ℕ → Bool
takes products opening trade = is_taken_row products opening.day (trade_numbered opening.rows trade)

abbrev pub marked_row : (ℕ → Bool) → TradeRow → TradeRow
marked_row taken row = record row { frozen = taken row.number }

-- the rows, with just those trades frozen that were taken
abbrev pub marked : (ℕ → Bool) → List TradeRow → List TradeRow
marked taken rows = map (marked_row taken) rows

-- the frozen networks of the products from this place on
abbrev pub networks_from : ℕ → List TradeRow → ℕ → List ProductRow → List NetworkData
networks_from members rows product [] = []
networks_from members rows product (row ∷ products) = frozen_network members product rows ∷ networks_from members rows (1 + product) products

-- what solutions change in these rows, of which some are frozen
abbrev pub plan_in : Rows → DayParts → List TradeRow → List SolutionData → List PlanRow
plan_in roster day rows solutions = plan_of rows (networks_from (length roster.members) rows 0 roster.products) (new_networks solutions) day

-- the frozen rows of a cycle, as they were just before a posting
abbrev pub rows_at : Rows → Opening → Moment → List TradeRow
rows_at roster opening posted = marked (takes roster.products opening) posted.rows

-- the plan of a posting
abbrev pub plan_at : Rows → Opening → Moment → List PlanRow
plan_at roster opening posted = plan_in roster opening.day (rows_at roster opening posted) (solutions_of posted.ask.what)

-- the members that the plan of a posting touches
abbrev pub touched_at : Rows → Opening → Moment → List ℕ
touched_at roster opening posted = touched_by (length roster.members) (rows_at roster opening posted) (plan_at roster opening posted)

-- the member accepted this cycle and version at one of these moments
abbrev pub has_accepted : Rows → ℕ → ℕ → List Moment → ℕ → Bool
has_accepted roster cycle version moments member = list_any (accepts roster cycle version member) moments

-- each of these members did
abbrev pub have_accepted : Rows → ℕ → ℕ → List Moment → List ℕ → Bool
have_accepted roster cycle version moments members = list_all (has_accepted roster cycle version moments) members

-- one of these members accepts it now
abbrev pub is_accepted_now : Rows → ℕ → ℕ → Moment → List ℕ → Bool
is_accepted_now roster cycle version moment members = list_any (λ member. accepts roster cycle version member moment) members

abbrev pub is_empty : List ℕ → Bool
is_empty [] = true
is_empty (member ∷ members) = false

-- a posting is complete at the latest of the moments after it: it touches nobody and nothing came after it, or the last of those that it touches accepts now
abbrev pub is_complete : Rows → ℕ → ℕ → List ℕ → List Moment → Bool
is_complete roster cycle version touched [] = is_empty touched
is_complete roster cycle version touched (now ∷ since) =
    is_accepted_now roster cycle version now touched && have_accepted roster cycle version (now ∷ since) touched
    && not (have_accepted roster cycle version since touched)

-- each of the trades that were taken is live
abbrev pub are_live : (ℕ → Bool) → List TradeRow → Bool
are_live taken rows = list_all (λ row. not (taken row.number) || is_live row.state) rows

-- At the latest of these moments, before which the trade rows were these, the plan of a posting of this cycle and version executes: nothing dropped the posting since, it is complete, and the cycle's trades are live. Cycles count on from a first number.
pub record Executes (roster : Rows) (number : ℕ) (moments : List Moment) (rows : List TradeRow) (cycle version : ℕ) (plan : List PlanRow) : Type 0 where
  pub later : List Moment
  pub posted : Moment
  pub before : List Moment
  pub split : moments ≡ later ++ posted ∷ before
  pub post : IsTrue (is_post cycle version posted.ask.what)
  pub opening : Opening
  pub opens : OpensCycle number cycle moments opening
  pub stands : IsFalse (list_any (drops cycle) later)
  pub complete : IsTrue (is_complete roster cycle version (touched_at roster opening posted) later)
  pub live : IsTrue (are_live (takes roster.products opening) rows)
  pub same : plan ≡ plan_at roster opening posted
