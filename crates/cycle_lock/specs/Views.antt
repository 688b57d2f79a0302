-- The views of seats: what each stands for, and the view that each step leaves.
use Rattle.std.specs.Prelude.{ℕ, ◌+◌, ◌-◌, ◌||◌, Bool, true, false, List, [], ◌∷◌, ◌++◌, length, None}
use Rattle.command_types.specs.declared.ask.Entry.{Entry}
use Rattle.command_types.specs.declared.figures.Figures.{Figures}
use Rattle.command_types.specs.Machine.{empty_state}
use Rattle.cycle_lock.specs.declared.rule.Account.{Account}
use Rattle.cycle_lock.specs.declared.rule.View.{View}
use Rattle.cycle_lock.specs.declared.rule.Stage.{Stage}
use Rattle.cycle_lock.specs.declared.rule.Stage.TheVariants.{Resting, HasTurn, Serving, Joined}
use Rattle.cycle_lock.specs.Stage.{tickets}
use Rattle.cycle_lock.specs.Accounts.{longest, times}

-- the numbers for which a seat stands, beside its guest's where it has one
abbrev pub owned : Stage → Account → Account → List ℕ
owned Joined a guest = a.stands ++ guest.stands
owned Serving a guest = a.stands ++ guest.stands
owned stage a guest = a.stands

abbrev pub left_of : Stage → Account → Account → ℕ
left_of Joined a guest = a.left + guest.left
left_of Serving a guest = a.left + guest.left
left_of stage a guest = a.left

-- how often a view stands for the number n
abbrev pub owns : ℕ → View → ℕ
owns n v = times n (owned v.stage v.account v.guest)

-- how many passes it may split off
abbrev pub splits_left : View → ℕ
splits_left v = left_of v.stage v.account v.guest

-- for how many numbers it stands
abbrev pub width : View → ℕ
width v = length (owned v.stage v.account v.guest)

abbrev pub ticketed : View → ℕ
ticketed v = tickets v.stage

abbrev pub total : (View → ℕ) → List View → ℕ
total f [] = 0
total f (v ∷ vs) = f v + total f vs

abbrev pub no_figures : Figures
no_figures = record {
  base = record { position = 0; state = empty_state record { members = []; products = []; operator = None } };
  opening = 0;
  journal = None;
  votes_take_memory = false;
}

-- what a pass that was taken in has seen
abbrev pub blank : Account
blank = record { number = 0; stands = []; left = 0; spent = true; seen = []; stop = false; figures = no_figures }

abbrev pub placed : Stage → ℕ → List Entry → Bool → Account → View
placed stage ticket known halted a = record { stage = stage; ticket = ticket; known = known; halted = halted; account = a; guest = blank }

-- a seat between two calls
abbrev pub resting : Account → View
resting a = placed Resting 0 [] false a

-- the view of the first seat
abbrev pub newcomer : List Entry → Bool → Figures → View
newcomer log stop figures = resting record { number = 0; stands = 0 ∷ []; left = 4294967295; spent = false; seen = log; stop = stop; figures = figures }

-- what the one view says that the pass has seen
abbrev pub account_of : List View → Account
account_of [] = blank
account_of (v ∷ vs) = v.account

-- once the number n was drawn
abbrev pub with_number : ℕ → Account → Account
with_number n a = record a { stands = n ∷ a.stands; left = a.left - 1 }

abbrev pub head_of : List ℕ → ℕ
head_of [] = 0
head_of (n ∷ ns) = n

abbrev pub tail_of : List ℕ → List ℕ
tail_of [] = []
tail_of (n ∷ ns) = ns

-- how a view is cut in two where its first number is still to be given
abbrev pub parent : View → View
parent v = resting record v.account { stands = tail_of v.account.stands }

abbrev pub newborn : ℕ → Account → Account
newborn n a = record a { number = n; stands = n ∷ []; left = 0 }

abbrev pub child : View → View
child v = resting (newborn (head_of v.account.stands) v.account)

-- how two views are made one: first side by side, and then as one account
abbrev pub hosting : View → View → View
hosting v w = record { stage = Joined; ticket = 0; known = []; halted = false; account = v.account; guest = w.account }

abbrev pub merged : Account → Account → Account
merged a b = record a { stands = a.stands ++ b.stands; left = a.left + b.left; seen = longest a.seen b.seen; stop = a.stop || b.stop }

-- the seat that has the turn, with a pass for which it calls
abbrev pub serving : View → View → View
serving v w = record v { stage = Serving; guest = w.account }

-- how the pass goes out again: the seat has its turn as before, and the pass rests
abbrev pub by_itself : View → View
by_itself v = record v { stage = HasTurn; guest = blank }

abbrev pub let_out : View → View
let_out v = resting v.guest
