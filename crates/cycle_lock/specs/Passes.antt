-- What clauses say of a pass.
use Rattle.std.specs.Prelude.{◌≡◌, ℕ, ◌≤◌, nat_lt, Bool, true, List, length, if◌then◌else◌}
use Rattle.atomic_table.specs.Seated.{TableId}
use Rattle.command_types.specs.declared.ask.Entry.{Entry}
use Rattle.command_types.specs.declared.figures.Figures.{Figures}
use Rattle.command_types.specs.declared.answer.Reply.{Reply}
use Rattle.command_types.specs.History.{History, longer, entries_of_seat}
use Rattle.command_types.specs.InTurn.{AreToldInTurn}
use Rattle.cycle_lock.specs.declared.pass.Pass.{Pass}
use Rattle.cycle_lock.specs.declared.turns.Turns.{Turns}
use Rattle.cycle_lock.specs.Accounts.{whole, times}
use Rattle.cycle_lock.specs.Views.{account_of}

-- which lock a pass belongs to
abbrev pub LockId : Type 0
LockId = TableId

abbrev pub lock_of : Pass → LockId
lock_of p = p.badge.table_id

-- it is a pass of this lock
abbrev pub IsPassOf : {T : Type 0} → Turns T → Pass → Type 0
IsPassOf turns p = p.badge.table_id ≡ turns.table.shared.table_id

-- the number that its own calls are asked under
abbrev pub seat_of : Pass → ℕ
seat_of p = p.number

-- what the desk was when the lock took it
abbrev pub figures_of : Pass → Figures
figures_of p = (account_of p.badge.views).figures

-- the history that it has seen
abbrev pub seen : Pass → History
seen p = whole (figures_of p) (account_of p.badge.views).seen

-- whether it has seen the desk's stop
abbrev pub saw_stop : Pass → Bool
saw_stop p = (account_of p.badge.views).stop

-- how many passes it may still split off
abbrev pub may_split : Pass → ℕ
may_split p = (account_of p.badge.views).left

-- the numbers whose entries are its own: its seat's, and those of the passes that it took in
abbrev pub numbers : Pass → List ℕ
numbers p = (account_of p.badge.views).stands

abbrev pub StandsFor : Pass → ℕ → Type 0
StandsFor p n = 1 ≤ times n (numbers p)

-- the entries since the opening that carry the number n, as far as it has seen
abbrev pub made_by : ℕ → Pass → List Entry
made_by n p = entries_of_seat (seen p) n (figures_of p).opening

-- those of its own seat
abbrev pub made : Pass → List Entry
made p = made_by (seat_of p) p

-- the history h begins with g
abbrev pub Continues : History → History → Type 0
Continues h g = (more : List Entry) × (h ≡ longer g more)

-- of two histories the one with more entries
abbrev pub longer_of : History → History → History
longer_of h g = if nat_lt (length h.entries) (length g.entries) then g else h

-- what p has seen and stands for takes in what q has: the entries of the numbers for which q stands are those that q has seen, and no others
pub record Includes (p q : Pass) : Type 0 where
  pub seen_too : Continues (seen p) (seen q)
  pub stands_too : (n : ℕ) → StandsFor q n → StandsFor p n
  pub same_entries : (n : ℕ) → StandsFor q n → made_by n p ≡ made_by n q
  pub stop_too : saw_stop q ≡ true → saw_stop p ≡ true

-- In one turn of the pass, which was p and is q, these commands were answered, each behind the one before it. The first was asked at the end of a history that goes on from what p had seen, of a desk that was stopped if p had seen so. What q has seen is what the last left.
pub record AreToldInOneTurn (p q : Pass) (commands : List Entry) (replies : List Reply) : Type 0 where
  pub from : History
  pub before : Bool
  pub goes_on : Continues from (seen p)
  pub knew : saw_stop p ≡ true → before ≡ true
  pub told : AreToldInTurn (figures_of q) before (saw_stop q) from commands replies (seen q)
