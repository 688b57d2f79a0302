-- What a pass has seen, beside the desk's history. A history is given by its entries alone, since its base stands in the opening figures.
use Rattle.std.specs.Prelude.{◌≡◌, ℕ, ◌-◌, ◌+◌, ◌==◌, ◌≤◌, nat_lt, Bool, true, false, List, [], ◌∷◌, ◌++◌, length, drop, filter, if◌then◌else◌}
use Rattle.command_types.specs.declared.ask.Entry.{Entry}
use Rattle.command_types.specs.declared.figures.Figures.{Figures}
use Rattle.command_types.specs.History.{History}
use Rattle.cycle_lock.specs.declared.rule.Account.{Account}

-- the history with these entries, of a desk with these figures
abbrev pub whole : Figures → List Entry → History
whole figures entries = record { base = figures.base; entries = entries }

-- how many entries it had when the desk was made
abbrev pub opening_count : Figures → ℕ
opening_count figures = figures.opening - figures.base.position

-- the entries with this seat's number
abbrev pub by : ℕ → List Entry → List Entry
by n entries = filter (λ entry. entry.seat == n) entries

abbrev pub Extends : List Entry → List Entry → Type 0
Extends entries front = (more : List Entry) × (entries ≡ front ++ more)

abbrev pub longest : List Entry → List Entry → List Entry
longest xs ys = if nat_lt (length xs) (length ys) then ys else xs

abbrev pub one_if : Bool → ℕ
one_if true = 1
one_if false = 0

-- how often x stands in the list
abbrev pub times : ℕ → List ℕ → ℕ
times x [] = 0
times x (y ∷ ys) = one_if (y == x) + times x ys

-- What a pass has seen begins the desk's history, with all entries since the opening of the numbers for which it stands. A stop that it has seen is the desk's, and so are its figures. A spent account has seen nothing and stands for nothing.
pub record FitsAccount (log : List Entry) (stop : Bool) (figures : Figures) (a : Account) : Type 0 where
  pub same : a.spent ≡ false → a.figures ≡ figures
  pub later : a.spent ≡ false → opening_count figures ≤ length a.seen
  pub mine : a.spent ≡ false → 1 ≤ times a.number a.stands
  pub begins : Extends log a.seen
  pub stops : a.stop ≡ true → stop ≡ true
  pub made : (n : ℕ) → 1 ≤ times n a.stands → by n (drop (opening_count figures) log) ≡ by n (drop (opening_count figures) a.seen)
