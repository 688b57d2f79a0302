-- What each step tells the seat that makes it.
use Rattle.std.specs.Prelude.{◌≡◌, ◌≢◌, ℕ, ◌+◌, ◌%◌, ◌^◌, ◌<◌, ◌≤◌, Bool, true, false, List, [], ◌∷◌, ◌++◌, length, All, Option, Some, drop}
use Rattle.atomic_table.specs.Table.{Me, Step, rest}
use Rattle.command_types.specs.declared.ask.Entry.{Entry}
use Rattle.command_types.specs.declared.figures.Figures.{Figures}
use Rattle.command_types.specs.History.{History, IsLegal, end_of}
use Rattle.cycle_lock.specs.declared.rule.Account.{Account}
use Rattle.cycle_lock.specs.declared.rule.View.{View}
use Rattle.cycle_lock.specs.declared.rule.Stage.TheVariants.{Waiting, HasTurn, Passed, Drawn}
use Rattle.cycle_lock.specs.Accounts.{whole, opening_count, by, times, longest, Extends}
use Rattle.cycle_lock.specs.Views.{placed, resting, with_number, merged}
use Rattle.cycle_lock.specs.Kept.{IsDesk}
use Rattle.cycle_lock.specs.Line.{bell}

-- The desk's history begins with what the pass has seen, and has no more entries of its numbers. A pass that was never split has seen the desk's stop.
pub record Newer (v : View) : Type 0 where
  pub begins : Extends v.known v.account.seen
  pub later : opening_count v.account.figures ≤ length v.known
  pub earlier : opening_count v.account.figures ≤ length v.account.seen
  pub mine : 1 ≤ times v.account.number v.account.stands
  pub stops : v.account.stop ≡ true → v.halted ≡ true
  pub made : (n : ℕ) → 1 ≤ times n v.account.stands → by n (drop (opening_count v.account.figures) v.known) ≡ by n (drop (opening_count v.account.figures) v.account.seen)
  pub entries : (n : ℕ) → 4294967296 ≤ n + v.account.left → by n (drop (opening_count v.account.figures) v.known) ≡ []
  pub lone : v.account.left ≡ 4294967295 → v.halted ≡ true → v.account.stop ≡ true

-- The desk's history so far begins with what a pass has seen, and has no more entries of its numbers.
pub record Follows (known : List Entry) (halted : Bool) (a : Account) : Type 0 where
  pub begins : Extends known a.seen
  pub later : opening_count a.figures ≤ length known
  pub earlier : opening_count a.figures ≤ length a.seen
  pub mine : 1 ≤ times a.number a.stands
  pub stops : a.stop ≡ true → halted ≡ true
  pub made : (n : ℕ) → 1 ≤ times n a.stands → by n (drop (opening_count a.figures) known) ≡ by n (drop (opening_count a.figures) a.seen)

-- The history that a seat knows goes on by these entries, all of a pass's own number.
pub record Adds (v : View) (a : Account) (more log : List Entry) (stop : Bool) : Type 0 where
  pub live : a.spent ≡ false
  pub mine : 1 ≤ times a.number a.stands
  pub own : All (λ (e : Entry). e.seat ≡ a.number) more
  pub grown : log ≡ v.known ++ more
  pub legal : IsLegal (whole v.account.figures log)
  pub short : end_of (whole v.account.figures log) < 2 ^ 63
  pub still : v.halted ≡ true → stop ≡ true

-- a view with the slots that its seat holds
abbrev pub Sat : Type 0 → Type 0
Sat T = Me (Option T) View

module _ {T : Type 0} where
  abbrev pub drew : Step (Option T) → Sat T → ℕ → Sat T → Type 0
  drew st m n w = (w.0.stage ≡ Waiting) × (n ≡ w.0.ticket % 2 ^ 64) × (w.0.account ≡ m.0.account) × (w.1 ≡ m.1)

  -- the ticket behind the one that was served is known
  abbrev pub passed : Sat T → ℕ → Sat T → Type 0
  passed m n w = (w.0 ≡ placed Passed ((n + 1) % 2 ^ 64) [] false m.0.account) × (w.1 ≡ rest m.1)

  -- the seat rests where the ticket that it knows is still the next to be drawn
  abbrev pub looked_behind : Sat T → ℕ → Sat T → Type 0
  looked_behind m n w = (n ≡ m.0.ticket → w ≡ (resting m.0.account, m.1)) × (n ≢ m.0.ticket → w ≡ m)

  -- the bell of the ticket that the seat knows was raised by 1, and the seat rests
  abbrev pub rang : Step (Option T) → Sat T → Sat T → Type 0
  rang st m w = (st.word ≡ bell m.0.ticket) × (st.first ≡ 1) × (w ≡ (resting m.0.account, m.1))

  -- the number n was drawn, and nobody has made an entry of it
  abbrev pub numbered : Sat T → ℕ → Sat T → Type 0
  numbered m n w = (w.0 ≡ placed Drawn 0 [] false (with_number n m.0.account)) × (w.1 ≡ m.1) × (n + m.0.account.left ≡ 4294967296) × (times n m.0.account.stands ≡ 0)
      × (1 ≤ times m.0.account.number m.0.account.stands) × (by n (drop (opening_count m.0.account.figures) m.0.account.seen) ≡ [])

  -- the pass and the one that it took in have seen beginnings of one history, in which each has its own entries
  abbrev pub settled : Sat T → Sat T → Type 0
  settled m w = let a = m.0.account in let b = m.0.guest in let all = longest a.seen b.seen in (
      (w.0 ≡ resting (merged a b)) × (w.1 ≡ m.1) × (b.figures ≡ a.figures) × Extends all a.seen × Extends all b.seen
      × ((n : ℕ) → 1 ≤ times n a.stands → by n (drop (opening_count a.figures) all) ≡ by n (drop (opening_count a.figures) a.seen))
      × ((n : ℕ) → 1 ≤ times n b.stands → by n (drop (opening_count a.figures) all) ≡ by n (drop (opening_count a.figures) b.seen)))

  -- what the desk has become is known, and the pass has seen it
  abbrev pub noted : List Entry → Bool → Sat T → Sat T → Type 0
  noted log stop m w = (w.0.stage ≡ HasTurn) × (w.0.known ≡ log) × (w.0.halted ≡ stop) × (w.0.account ≡ record m.0.account { seen = log; stop = stop }) × (w.1 ≡ m.1)

  -- a history and a stop that are next, and the seat's own pass has seen them
  abbrev pub kept : (List Entry → Bool → Type 0) → Sat T → Sat T → Type 0
  kept next m w = (log : List Entry) × (stop : Bool) × next log stop × noted log stop m w

  -- the pass that is served has seen them, behind a beginning of the history before
  abbrev pub served : (List Entry → Bool → Type 0) → Sat T → Sat T → Type 0
  served next m w = (log : List Entry) × (stop : Bool) × next log stop × Extends log m.0.known × Follows m.0.known m.0.halted m.0.guest × (m.0.guest.figures ≡ m.0.account.figures)
      × (w ≡ (record m.0 { known = log; halted = stop; guest = record m.0.guest { seen = log; stop = stop } }, m.1))

  -- the same, once the pass has gone out again: its account was a, and is b
  abbrev pub noted_beside : (List Entry → Bool → Type 0) → Sat T → Sat T → Account → Account → Type 0
  noted_beside next m w a b = (log : List Entry) × (stop : Bool) × next log stop × Follows m.0.known m.0.halted a × (a.figures ≡ m.0.account.figures) × (b ≡ record a { seen = log; stop = stop })
      × (w ≡ (placed HasTurn m.0.ticket log stop m.0.account, m.1))

  -- the history of the desk that lies in the slot, and its stop
  abbrev pub log_in : (T → History) → List (ℕ × Option T) → List Entry
  log_in history ((k, Some d) ∷ slots) = (history d).entries
  log_in history slots = []

  abbrev pub stop_in : (T → Bool) → List (ℕ × Option T) → Bool
  stop_in stopped ((k, Some d) ∷ slots) = stopped d
  stop_in stopped slots = false

  -- the desk has the history that the seat knows, with these entries more, all of the seat's own number
  pub record Becomes (history : T → History) (stopped : T → Bool) (v : View) (more : List Entry) (d : T) : Type 0 where
    pub live : v.account.spent ≡ false
    pub mine : 1 ≤ times v.account.number v.account.stands
    pub own : All (λ (e : Entry). e.seat ≡ v.account.number) more
    pub grown : history d ≡ whole v.account.figures (v.known ++ more)
    pub legal : IsLegal (history d)
    pub short : end_of (history d) < 2 ^ 63
    pub still : v.halted ≡ true → stopped d ≡ true

  -- The desk in the slot has this history and this stop, and so many entries more than the seat knows.
  pub record HasBecome (history : T → History) (stopped : T → Bool) (m : Sat T) (many : ℕ) (log : List Entry) (stop : Bool) : Type 0 where
    pub desk : T
    pub more : List Entry
    pub count : many ≡ length more
    pub slot : m.1 ≡ (0, Some desk) ∷ []
    pub has : log ≡ (history desk).entries
    pub stops : stop ≡ stopped desk
    pub becomes : Becomes history stopped m.0 more desk

  module _ (history : T → History) (figures_of : T → Figures) (stopped : T → Bool) where
    -- the seat has its turn and the slot, in which this desk lies
    abbrev pub Took : List (ℕ × Option T) → Sat T → Type 0
    Took slots w = (w.0.stage ≡ HasTurn) × Newer w.0 × ((d : T) × (w.1 ≡ (0, Some d) ∷ slots) × IsDesk history figures_of stopped w.0.known w.0.halted w.0.account.figures d)

    abbrev pub looked : Step (Option T) → Sat T → ℕ → Sat T → Type 0
    looked st m n w = (w.0.account ≡ m.0.account) × (n ≡ m.0.ticket % 2 ^ 64 → Took m.1 w) × (n ≢ m.0.ticket % 2 ^ 64 → w ≡ m)
