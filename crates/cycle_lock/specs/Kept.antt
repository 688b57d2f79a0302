-- The rule that every step keeps.
use Rattle.std.specs.Prelude.{◌≡◌, ℕ, ◌+◌, ◌≤◌, ◌⊎◌, Bool, true, false, List, length, slice_index, drop, Option, Some}
use mathlib.Core.Option.{some}
use mathlib.Core.Option as maybe
use lib.ListN.{get_elem?}
use Rattle.atomic_table.specs.Table.{State}
use Rattle.command_types.specs.declared.ask.Entry.{Entry}
use Rattle.command_types.specs.declared.figures.Figures.{Figures}
use Rattle.command_types.specs.History.{History, IsLegalFrom}
use Rattle.cycle_lock.specs.declared.rule.Account.{Account}
use Rattle.cycle_lock.specs.declared.rule.View.{View}
use Rattle.cycle_lock.specs.declared.rule.Stage.{Stage}
use Rattle.cycle_lock.specs.declared.rule.Stage.TheVariants.{HasTurn, Serving, Joined}
use Rattle.cycle_lock.specs.Stage.{has_turn}
use Rattle.cycle_lock.specs.Views.{width}
use Rattle.cycle_lock.specs.Accounts.{whole, opening_count, FitsAccount}
use Rattle.cycle_lock.specs.Line.{InLine}
use Rattle.cycle_lock.specs.Numbers.{Counted}

module _ (log : List Entry) (stop : Bool) (figures : Figures) where
  -- the seat that has the turn knows the desk's history and its stop
  abbrev pub KnowsDesk : Stage → List Entry → Bool → Type 0
  KnowsDesk HasTurn known halted = (known ≡ log) × (halted ≡ stop)
  KnowsDesk Serving known halted = (known ≡ log) × (halted ≡ stop)
  KnowsDesk stage known halted = Unit {0}

  -- of a seat and the pass that it serves, one at most may split off passes
  abbrev pub FitsGuest : Stage → Account → Account → Type 0
  FitsGuest Joined a guest = FitsAccount log stop figures guest
  FitsGuest Serving a guest = FitsAccount log stop figures guest × ((a.left ≡ 0) ⊎ (guest.left ≡ 0))
  FitsGuest stage a guest = Unit {0}

  -- what a seat knows and has seen is true of the desk
  pub record Fits (v : View) : Type 0 where
    pub knows : KnowsDesk v.stage v.known v.halted
    pub own : FitsAccount log stop figures v.account
    pub guest : FitsGuest v.stage v.account v.guest

-- no seat has the turn
abbrev pub Quiet : List View → Type 0
Quiet views = (j : ℕ) (v : View) → get_elem? views j ≡ some v → has_turn v.stage ≡ false

-- all who stand for a number have seen a stop
abbrev pub AllSaw : List View → Type 0
AllSaw views = (j : ℕ) (v : View) → get_elem? views j ≡ some v → 1 ≤ width v → v.account.stop ≡ true

module _ {T : Type 0} (history : T → History) (figures_of : T → Figures) (stopped : T → Bool) where
  -- this desk has that history, that stop and those figures
  abbrev pub IsDesk : List Entry → Bool → Figures → T → Type 0
  IsDesk log stop figures d = (history d ≡ whole figures log) × (stopped d ≡ stop) × (figures_of d ≡ figures)

  -- the desk lies in the slot
  abbrev pub Home : List (maybe.Option (Option T)) → List Entry → Bool → Figures → Type 0
  Home homes log stop figures = (d : T) × (get_elem? homes 0 ≡ some (some (Some d))) × IsDesk log stop figures d

  -- Word 0 is the history's length, and word 3 the next number. Where no seat has the turn, the desk lies in the slot. As long as no number but the first was drawn, whoever is there has seen the desk's stop.
  pub record Kept (figures : Figures) (s : State (Option T) View) : Type 0 where
    pub log : List Entry
    pub stop : Bool
    pub line : InLine s.words s.views
    pub one : length s.homes ≡ 1
    pub counts : slice_index s.words 0 ≡ figures.base.position + length log
    pub legal : IsLegalFrom figures.base.state log
    pub later : opening_count figures ≤ length log
    pub each_seat : (j : ℕ) (v : View) → get_elem? s.views j ≡ some v → Fits log stop figures v
    pub numbers : Counted (slice_index s.words 3) s.views (drop (opening_count figures) log)
    pub home : Quiet s.views → Home s.homes log stop figures
    pub lone : slice_index s.words 3 ≡ 1 → stop ≡ true → AllSaw s.views
