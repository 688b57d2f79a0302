-- The line: tickets lie from the one that is served on to just before the next one. The table's words count them modulo 2^64.
use Rattle.std.specs.Prelude.{◌≡◌, ℕ, ◌+◌, ◌-◌, ◌%◌, ◌^◌, ◌<◌, ◌≤◌, List, length, slice_index}
use mathlib.Core.Option.{some}
use lib.ListN.{get_elem?}
use Rattle.cycle_lock.specs.declared.rule.TheConstants.{WORDS}
use Rattle.cycle_lock.specs.declared.rule.View.{View}
use Rattle.cycle_lock.specs.declared.rule.Stage.{Stage}
use Rattle.cycle_lock.specs.declared.rule.Stage.TheVariants.{Waiting, HasTurn, Serving}
use Rattle.cycle_lock.specs.Views.{total, ticketed, width}

module _ (drawn served ticket : ℕ) where
  abbrev pub Lies : Stage → Type 0
  Lies Waiting = (served ≤ ticket) × (ticket < drawn)
  Lies HasTurn = (ticket ≡ served) × (ticket < drawn)
  Lies Serving = (ticket ≡ served) × (ticket < drawn)
  Lies stage = Unit {0}

-- the word that is a ticket's bell
abbrev pub bell : ℕ → ℕ
bell ticket = 4 + ticket % (WORDS - 4)

-- no two seats have one ticket
abbrev pub Apart : List View → Type 0
Apart views = (i j : ℕ) (v w : View) → get_elem? views i ≡ some v → get_elem? views j ≡ some w → ticketed v ≡ 1 → ticketed w ≡ 1 → v.ticket ≡ w.ticket → i ≡ j

-- Word 1 counts the tickets that were drawn, and word 2 those that were served. Each seat has one ticket at most, and stands for a number where it has one.
pub record InLine (words : List ℕ) (views : List View) : Type 0 where
  pub drawn : ℕ
  pub served : ℕ
  pub wide : length words ≡ WORDS
  pub drawn_is : slice_index words 1 ≡ drawn % 2 ^ 64
  pub served_is : slice_index words 2 ≡ served % 2 ^ 64
  pub counted : drawn ≡ served + total ticketed views
  pub stands : (j : ℕ) (v : View) → get_elem? views j ≡ some v → ticketed v ≤ width v
  pub each : (j : ℕ) (v : View) → get_elem? views j ≡ some v → Lies drawn served v.ticket v.stage
  pub apart : Apart views
