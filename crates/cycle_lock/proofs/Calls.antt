-- What a call has done, from what its steps told.
use Rattle.std.proofs.Common.{◌≡◌, ℕ, ◌+◌, ◌<◌, ◌≤◌, ◌^◌, length, length-append, Bool, true, false, ◌||◌, List, [], ◌∷◌, ◌++◌, drop, sym, refl, ap, ◌∙◌, subst, arith, append_assoc}
use Rattle.std.specs.Prelude.{Option, Some}
use Rattle.command_types.specs.declared.ask.Entry.{Entry}
use Rattle.command_types.specs.declared.figures.Figures.{Figures}
use Rattle.cycle_lock.specs.declared.rule.Account.{Account}
use Rattle.cycle_lock.specs.declared.rule.View.{View}
use Rattle.command_types.specs.declared.ask.Ask.{Ask}
use Rattle.command_types.specs.declared.answer.Reply.{Reply}
use Rattle.command_types.specs.Told.{IsTold}
use Rattle.command_types.specs.History.{History, IsLegal, end_of, longer}
use Rattle.command_types.specs.InTurn.{AreToldInTurn}
use Rattle.cycle_lock.specs.Accounts.{whole, by, times, Extends, opening_count}
use Rattle.cycle_lock.specs.Views.{resting, account_of, merged}
use Rattle.cycle_lock.specs.Passes.{Continues}
use Rattle.cycle_lock.specs.Plays.{Newer, Sat, Took, Becomes, settled, noted}
use Rattle.cycle_lock.proofs.Joins.{by_more}
use Rattle.cycle_lock.proofs.Owners.{AreOf}
use Rattle.cycle_lock.proofs.Numbers.{times-append}
use Rattle.cycle_lock.proofs.Steps.{taken}

-- the view of a pass that rests
pub rested : (b b' : List View) (v : View) → b ≡ resting (account_of b) ∷ [] → b' ≡ b → b' ≡ v ∷ [] → v ≡ resting (account_of b)
rested b b' v rests same is = let e : v ∷ [] ≡ resting (account_of b) ∷ [] = sym is ∙ (same ∙ rests) in cc

-- what a call has done to the account of its pass: the desk has these figures, had the stop `was` before, and has this history and the stop `is` after
pub record Called (a a' : Account) (f : Figures) (h' : History) (was is : Bool) (added : List Entry) : Type 0 where
  pub desk : f ≡ a'.figures
  pub history : h' ≡ whole a'.figures a'.seen
  pub stop : is ≡ a'.stop
  pub halted : a.stop ≡ true → was ≡ true
  pub number : a'.number ≡ a.number
  pub figures : a'.figures ≡ a.figures
  pub stands : a'.stands ≡ a.stands
  pub left : a'.left ≡ a.left
  pub extends : Extends a'.seen a.seen
  pub mine : 1 ≤ times a.number a.stands
  pub made : (n : ℕ) → 1 ≤ times n a.stands → by n (drop (opening_count a'.figures) a'.seen) ≡ by n (drop (opening_count a.figures) a.seen) ++ by n added

-- with the account that the seat had in its turn
in_turn : (turn : View) (a' : Account) (f : Figures) (h h' : History) (was is : Bool) (added : List Entry) → Newer turn → f ≡ turn.account.figures → h ≡ whole turn.account.figures turn.known → h' ≡ longer h added → was ≡ turn.halted
    → a' ≡ record turn.account { seen = h'.entries; stop = is } → Called turn.account a' f h' was is added
in_turn turn a' f h h' was is added newer figures known grows halts to =
    let more : h' ≡ whole turn.account.figures (turn.known ++ added) = grows ∙ ap (λ (x : History). longer x added) known in
    let log : h'.entries ≡ turn.known ++ added = ap (λ (x : History). x.entries) more in
    let o : ℕ = opening_count turn.account.figures in
    subst (λ (x : Account). Called turn.account x f h' was is added) (sym to) record {
      desk = figures;
      history = more ∙ ap (whole turn.account.figures) (sym log);
      stop = refl;
      halted = λ e. halts ∙ newer.stops e;
      number = refl;
      figures = refl;
      stands = refl;
      left = refl;
      extends = (newer.begins.0 ++ added, log ∙ (ap (λ (x : List Entry). x ++ added) newer.begins.1 ∙ append_assoc turn.account.seen newer.begins.0 added));
      mine = newer.mine;
      made = λ n own. ap (λ (x : List Entry). by n (drop o x)) log ∙ (by_more n o turn.known added newer.later ∙ ap (λ (x : List Entry). x ++ by n added) (newer.made n own));
    }

module _ {T : Type 0} (history : T → History) (figures_of : T → Figures) (stopped : T → Bool) where
  pub called : (a : Account) (turn take note : Sat T) (slots rest gone : List (ℕ × Option T)) (views : List View) (d d' : T) (added : List Entry)
      → turn.0.account ≡ a → Took history figures_of stopped slots turn → turn.1 ≡ (0, Some d) ∷ rest → take ≡ (turn.0, gone) → history d' ≡ longer (history d) added
      → noted (history d').entries (stopped d') take note → views ≡ resting note.0.account ∷ []
      → Called a (account_of views) (figures_of d) (history d') (stopped d) (stopped d') added
  called a turn take note slots rest gone views d d' added from took has left grows w end =
      let t = taken history figures_of stopped (figures_of d) slots rest turn d took has in
      let b = subst (λ (m : Sat T). noted (history d').entries (stopped d') m note) left w in
      let to : account_of views ≡ record turn.0.account { seen = (history d').entries; stop = stopped d' } = ap account_of end ∙ b.3 in
      subst (λ (x : Account). Called x (account_of views) (figures_of d) (history d') (stopped d) (stopped d') added) from
      (in_turn turn.0 (account_of views) (figures_of d) (history d) (history d') (stopped d) (stopped d') added took.1 t.2 t.0 grows t.1 to)

  -- the desk that was asked goes on from what the pass had seen
  pub asked_behind : (a : Account) (turn : Sat T) (slots rest : List (ℕ × Option T)) (d : T) → turn.0.account ≡ a → Took history figures_of stopped slots turn → turn.1 ≡ (0, Some d) ∷ rest → Continues (history d) (whole a.figures a.seen)
  asked_behind a turn slots rest d from took has =
      let t = taken history figures_of stopped (figures_of d) slots rest turn d took has in
      subst (λ (x : Account). Continues (history d) (whole x.figures x.seen)) from (took.1.begins.0, t.0 ∙ ap (whole turn.0.account.figures) took.1.begins.1)

-- what the reply tells of the desk is true of what the pass has seen
pub told_of : (a a' : Account) (f : Figures) (h' : History) (was is : Bool) (added : List Entry) (t : Called a a' f h' was is added) (seat : ℕ) (ask : Ask) (reply : Reply) → IsTold f was is h' seat ask reply → (was ≡ true → is ≡ true)
    → (before : Bool) × (a.stop ≡ true → before ≡ true) × (before ≡ true → a'.stop ≡ true) × IsTold a'.figures before a'.stop (whole a'.figures a'.seen) seat ask reply
told_of a a' f h' was is added t seat ask reply told stays = (
  was,
  t.halted,
  (λ e. sym t.stop ∙ stays e),
  subst (λ (x : Figures × Bool × History). IsTold x.0 was x.1 x.2 seat ask reply) (λ i. (t.desk i, t.stop i, t.history i)) told,
)

module _ {T : Type 0} (history : T → History) (figures_of : T → Figures) (stopped : T → Bool) where
  -- the desk that was taken has become longer by entries of the seat's own number
  pub becomes : (turn take : Sat T) (slots rest gone : List (ℕ × Option T)) (d d' : T) (added : List Entry) → Took history figures_of stopped slots turn → turn.1 ≡ (0, Some d) ∷ rest → take ≡ (turn.0, gone)
      → turn.0.account.spent ≡ false → AreOf turn.0.account.number added → history d' ≡ longer (history d) added
      → IsLegal (history d') → end_of (history d') < 2 ^ 63 → (stopped d ≡ true → stopped d' ≡ true) → Becomes history stopped take.0 added d'
  becomes turn take slots rest gone d d' added took has left live own grows legal short stays =
      let t = taken history figures_of stopped (figures_of d) slots rest turn d took has in
      subst (λ (m : Sat T). Becomes history stopped m.0 added d') (sym left) record {
        live = live;
        mine = took.1.mine;
        own = own;
        grown = grows ∙ ap (λ (x : History). longer x added) t.0;
        legal = legal;
        short = short;
        still = λ e. stays (t.1 ∙ e);
      }

-- and so is what several replies tell
pub told_all_of : (a a' : Account) (f : Figures) (h h' : History) (was is : Bool) (added : List Entry) (t : Called a a' f h' was is added) (commands : List Entry) (replies : List Reply)
    → AreToldInTurn f was is h commands replies h' → AreToldInTurn a'.figures was a'.stop h commands replies (whole a'.figures a'.seen)
told_all_of a a' f h h' was is added t commands replies told = subst (λ (x : Figures × Bool × History). AreToldInTurn x.0 was x.1 h commands replies x.2) (λ i. (t.desk i, t.stop i, t.history i)) told

-- the position tells by how much the history grew
pub grown_by : (h h' : History) (added : List Entry) (start at : ℕ) → start ≡ end_of h → at ≡ end_of h' → h' ≡ longer h added → at ≡ start + length added
grown_by h h' added start at from to grows = let e : end_of h' ≡ end_of (longer h added) = ap end_of grows in omega (arith, length-append h.entries added)

-- what one account takes in of another
abbrev pub Takes : Account → Account → Type 0
Takes x y = Extends x.seen y.seen × ((n : ℕ) → 1 ≤ times n y.stands → (1 ≤ times n x.stands) × (by n (drop (opening_count x.figures) x.seen) ≡ by n (drop (opening_count y.figures) y.seen))) × (y.stop ≡ true → x.stop ≡ true)

or_first : (a b : Bool) → a ≡ true → (a || b) ≡ true
or_first true b e = refl
or_first false b e = absurd (cc)

or_second : (a b : Bool) → b ≡ true → (a || b) ≡ true
or_second true b e = refl
or_second false b e = e

pub takes_host : {T : Type 0} (m w : Sat T) (x a : Account) → settled m w → x ≡ merged m.0.account m.0.guest → m.0.account ≡ a → Takes x a
takes_host m w x a t is from = subst (λ (y : Account). Takes x y) from (subst (λ (z : Account). Takes z m.0.account) (sym is)
    (t.3, (λ n h. (omega (arith, times-append n m.0.account.stands m.0.guest.stands), t.5 n h)), or_first m.0.account.stop m.0.guest.stop))

pub takes_guest : {T : Type 0} (m w : Sat T) (x b : Account) → settled m w → x ≡ merged m.0.account m.0.guest → m.0.guest ≡ b → Takes x b
takes_guest m w x b t is from = subst (λ (y : Account). Takes x y) from (subst (λ (z : Account). Takes z m.0.guest) (sym is)
    (t.4, (λ n h. (omega (arith, times-append n m.0.account.stands m.0.guest.stands), t.6 n h ∙ ap (λ (f : Figures). by n (drop (opening_count f) m.0.guest.seen)) (sym t.2))), or_second m.0.account.stop m.0.guest.stop))
