-- The numbers of passes: each that was drawn has one view at most that stands for it.
use Rattle.std.specs.Prelude.{◌≡◌, ℕ, ◌+◌, ◌^◌, ◌<◌, ◌≤◌, List, []}
use mathlib.Core.Option.{some}
use lib.ListN.{get_elem?}
use Rattle.command_types.specs.declared.ask.Entry.{Entry}
use Rattle.cycle_lock.specs.declared.rule.View.{View}
use Rattle.cycle_lock.specs.Accounts.{by}
use Rattle.cycle_lock.specs.Views.{owns, splits_left, width, total}

-- The numbers below `next` were drawn; no entry since the opening has another. One view at most may split off passes, for which the numbers from `next` on are kept.
pub record Counted (next : ℕ) (views : List View) (since : List Entry) : Type 0 where
  pub small : next ≤ 2 ^ 32
  pub few : total width views ≤ next
  pub once : (n : ℕ) → total (owns n) views ≤ 1
  pub below : (n : ℕ) → next ≤ n → total (owns n) views ≡ 0
  pub entries : (n : ℕ) → next ≤ n → by n since ≡ []
  pub splitter : (j : ℕ) (v : View) → get_elem? views j ≡ some v → 0 < splits_left v → next + splits_left v ≡ 2 ^ 32
  pub alone : (i j : ℕ) (v w : View) → get_elem? views i ≡ some v → get_elem? views j ≡ some w → 0 < splits_left v → 0 < splits_left w → i ≡ j
