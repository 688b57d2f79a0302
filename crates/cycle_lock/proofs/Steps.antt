-- Each step of a turn keeps the rule.
use Rattle.std.proofs.Common.{◌≡◌, ℕ, ◌+◌, ◌%◌, ◌^◌, ◌≤◌, Bool, false, List, [], ◌∷◌, length, get_or, drop, set, sym, refl, ap, ◌∙◌, subst, arith, length-set, get_or-set_same, get_or-set_other}
use Rattle.std.specs.Prelude.{Option, Some, None}
use mathlib.Core.Option.{some, none}
use mathlib.Core.Option as maybe
use mathlib.Core.Logic.{dite}
use native.Mathlib.Decide.{ℕ_discrete}
use lib.ListN.{get_elem?}
use Rattle.atomic_table.specs.Table.{State, step, keeps, takes, gives, Allows, put_back}
use Rattle.atomic_table.proofs.Lists.{set_here}
use Rattle.command_types.specs.declared.figures.Figures.{Figures}
use Rattle.cycle_lock.specs.declared.rule.View.{View}
use Rattle.cycle_lock.specs.declared.rule.Stage.{Stage}
use Rattle.cycle_lock.specs.declared.rule.Stage.TheVariants.{Resting, Waiting, HasTurn, Passed}
use Rattle.command_types.specs.History.{History}
use Rattle.cycle_lock.specs.Stage.{tickets, has_turn}
use Rattle.cycle_lock.specs.Views.{owned, left_of, owns, splits_left, width, placed, resting}
use Rattle.cycle_lock.specs.Accounts.{times, FitsAccount, opening_count, by, whole}
use Rattle.cycle_lock.specs.Line.{Lies, InLine, bell}
use Rattle.cycle_lock.specs.Kept.{KnowsDesk, FitsGuest, Quiet, IsDesk, Home, Kept}
use Rattle.cycle_lock.specs.Numbers.{Counted}
use Rattle.cycle_lock.specs.Plays.{Sat, drew, Took, looked, looked_behind, rang, noted, passed}
use Rattle.cycle_lock.proofs.Histories.{from_base}
use Rattle.cycle_lock.proofs.Numbers.{counted_kept}
use Rattle.cycle_lock.proofs.Line.{line_kept, line_rests, line_draws, line_passes, line_served, line_alone}
use Rattle.cycle_lock.proofs.Fitting.{account_within, far_enough, fits_set, loud, not_true, quiet_before, saw_set, stands_for}

module _ {T : Type 0} (history : T → History) (figures_of : T → Figures) (stopped : T → Bool) (figures : Figures) where
  abbrev Rule : State (Option T) View → Type 0
  Rule = Kept history figures_of stopped figures

  -- the desk's history and its stop stay, and so does what the seat's pass has seen
  stays : (s : State (Option T) View) (k : Rule s) (ws' : List ℕ) (homes' : List (maybe.Option (Option T))) (id : ℕ) (v w : View) → get_elem? s.views id ≡ some v
      → InLine ws' (set s.views id w) → length homes' ≡ 1 → get_or ws' 0 0 ≡ get_or s.words 0 0 → get_or ws' 3 0 ≡ get_or s.words 3 0 → w.account ≡ v.account → KnowsDesk k.log k.stop figures w.stage w.known w.halted
      → FitsGuest k.log k.stop figures w.stage w.account w.guest → ((n : ℕ) → owns n w ≡ owns n v) → splits_left w ≡ splits_left v → width w ≡ width v
      → (Quiet (set s.views id w) → Home history figures_of stopped homes' k.log k.stop figures)
      → Rule record { words = ws'; homes = homes'; views = set s.views id w }
  stays s k ws' homes' id v w at line one word third same knows guest has left new home = let old = k.each_seat id v at in record {
    log = k.log;
    stop = k.stop;
    line = line;
    one = one;
    counts = word ∙ k.counts;
    legal = k.legal;
    later = k.later;
    each_seat = fits_set k.log k.stop figures s.views id w
        record { knows = knows; own = subst (λ a. FitsAccount k.log k.stop figures a) (sym same) old.own; guest = guest }
        (λ j u _ p. k.each_seat j u p);
    numbers = subst (λ (z : ℕ). Counted z (set s.views id w) (drop (opening_count figures) k.log)) (sym third)
        (counted_kept (get_or s.words 3 0) s.views (drop (opening_count figures) k.log) (drop (opening_count figures) k.log) k.numbers id v w at has left new k.numbers.entries);
    home = home;
    lone = λ one halts. let saw = k.lone (sym third ∙ one) halts in saw_set s.views id w (λ h. ap (λ a. a.stop) same ∙ saw id v at (omega arith)) (λ j u _ p. saw j u p);
  }

  pub draws : (size id : ℕ) (me : Sat T) → me.0.stage ≡ Resting → me.0.account.spent ≡ false → Allows Rule size id me 1 (λ n. (n + 1) % 2 ^ 64) (drew (step size 1 1 0 none) me)
  draws size id me out live s k long at small = let v : View = me.0 in let w : View = placed Waiting k.line.drawn v.known v.halted v.account in let n : ℕ = (get_or s.words 1 0 + 1) % 2 ^ 64 in (
    w,
    keeps,
    tt,
    stays s k (set s.words 1 n) s.homes id v w at (line_draws s.words s.views k.line id v w at (ap tickets out) refl refl (stands_for v.account.number v.account.stands ((k.each_seat id v at).own.mine live))) k.one
        (get_or-set_other s.words 1 0 n 0 (λ e. omega arith)) (get_or-set_other s.words 1 3 n 0 (λ e. omega arith)) refl tt tt
        (λ m. ap (λ (z : Stage). times m (owned z v.account v.guest)) (sym out)) (ap (λ (z : Stage). left_of z v.account v.guest) (sym out)) (ap (λ (z : Stage). length (owned z v.account v.guest)) (sym out))
        (λ quiet. k.home (quiet_before s.views id v w at (ap has_turn out) quiet)),
    (refl, k.line.drawn_is, refl, refl),
  )

  pub passes : (size id : ℕ) (me : Sat T) (d : T) (slots : List (ℕ × Option T)) → me.0.stage ≡ HasTurn → me.1 ≡ (0, Some d) ∷ slots → IsDesk history figures_of stopped me.0.known me.0.halted me.0.account.figures d → me.0.account.spent ≡ false
      → Allows Rule size id me 2 (λ n. (n + 1) % 2 ^ 64) (λ n w. passed me n w)
  passes size id me d slots st has is live s k long at small = let v : View = me.0 in let n : ℕ = (get_or s.words 2 0 + 1) % 2 ^ 64 in let w : View = placed Passed n [] false v.account in
      let ws' : List ℕ = set s.words 2 n in
      let fits = k.each_seat id v at in let knows = subst (λ (z : Stage). KnowsDesk k.log k.stop figures z v.known v.halted) st fits.knows in (
        w,
        gives,
        tt,
        subst (λ (c : List (ℕ × Option T)). Rule record { words = ws'; homes = put_back s.homes c; views = set s.views id w }) (sym has)
            (stays s k ws' (set s.homes 0 (some (Some d))) id v w at (line_passes s.words s.views k.line id v w at st refl) (length-set s.homes 0 (some (Some d)) ∙ k.one)
            (get_or-set_other s.words 2 0 n 0 (λ e. omega arith)) (get_or-set_other s.words 2 3 n 0 (λ e. omega arith)) refl tt tt
            (λ m. ap (λ (z : Stage). times m (owned z v.account v.guest)) (sym st)) (ap (λ (z : Stage). left_of z v.account v.guest) (sym st)) (ap (λ (z : Stage). length (owned z v.account v.guest)) (sym st))
            (λ quiet. let one = k.one in (d, set_here s.homes 0 (some (Some d)) (omega arith), (is.0 ∙ (λ i. whole (fits.own.same live i) (knows.0 i)), is.1 ∙ knows.1, is.2 ∙ fits.own.same live)))),
        (refl, refl),
      )

  pub looks : (size id : ℕ) (me : Sat T) → me.0.stage ≡ Waiting → me.0.account.spent ≡ false → Allows Rule size id me 2 (λ n. n) (looked history figures_of stopped (step size 2 0 0 none) me)
  looks size id me st live s k long at small = let v : View = me.0 in let n : ℕ = get_or s.words 2 0 in let ws' : List ℕ = set s.words 2 n in let l = k.line in let wide = l.wide in let fits = k.each_seat id v at in
      let first : get_or ws' 1 0 ≡ get_or s.words 1 0 = get_or-set_other s.words 2 1 n 0 (λ e. omega arith) in
      let second : get_or ws' 2 0 ≡ get_or s.words 2 0 = get_or-set_same s.words 2 n 0 (omega arith) in
      let zeroth : get_or ws' 0 0 ≡ get_or s.words 0 0 = get_or-set_other s.words 2 0 n 0 (λ e. omega arith) in
      let third : get_or ws' 3 0 ≡ get_or s.words 3 0 = get_or-set_other s.words 2 3 n 0 (λ e. omega arith) in
      dite (ℕ_discrete n (v.ticket % 2 ^ 64))
      (λ hit. let mine : v.ticket ≡ l.served = line_served s.words s.views l id v at st hit (let f = k.numbers.few in let m = k.numbers.small in omega arith) in
      let home = k.home (λ j u p. not_true (has_turn u.stage) (line_alone s.words s.views l id v at st mine j u p)) in let d : T = home.0 in let w : View = placed HasTurn v.ticket k.log k.stop v.account in
      let lies = subst (λ (z : Stage). Lies l.drawn l.served v.ticket z) st (l.each id v at) in let same = fits.own.same live in (
        w,
        takes 0 (Some d),
        home.1,
        stays s k ws' (set s.homes 0 none) id v w at (line_kept s.words ws' s.views l id v w at (length-set s.words 2 n) first second (sym (ap tickets st)) refl (subst (λ (z : Stage). tickets z ≤ length (owned z v.account v.guest)) st (l.stands id v at)) (mine, lies.1)) (length-set s.homes 0 none ∙ k.one) zeroth third refl (refl, refl) tt
            (λ m. ap (λ (z : Stage). times m (owned z v.account v.guest)) (sym st)) (ap (λ (z : Stage). left_of z v.account v.guest) (sym st)) (ap (λ (z : Stage). length (owned z v.account v.guest)) (sym st))
            (λ quiet. absurd (loud s.views id v w at refl quiet)),
        (
          refl,
          (λ _. (
            refl,
            record {
              begins = fits.own.begins;
              later = subst (λ (f : Figures). opening_count f ≤ length k.log) (sym same) k.later;
              earlier = subst (λ (f : Figures). opening_count f ≤ length v.account.seen) (sym same) (fits.own.later live);
              mine = fits.own.mine live;
              stops = fits.own.stops;
              made = subst (λ (f : Figures). (m : ℕ) → 1 ≤ times m v.account.stands → by m (drop (opening_count f) k.log) ≡ by m (drop (opening_count f) v.account.seen)) (sym same) fits.own.made;
              entries = subst (λ (f : Figures). (m : ℕ) → 4294967296 ≤ m + v.account.left → by m (drop (opening_count f) k.log) ≡ []) (sym same)
                  (λ m far. k.numbers.entries m (far_enough (get_or s.words 3 0) m s.views (drop (opening_count figures) k.log) k.numbers id v at (ap (λ (z : Stage). left_of z v.account v.guest) st) far));
              lone = λ left halts.
                  let all : splits_left v ≡ 4294967295 = ap (λ (z : Stage). left_of z v.account v.guest) st ∙ left in
                  let t = k.numbers.splitter id v at (omega (arith, all)) in
                  k.lone (omega (arith, t, all)) halts id v at (let m = stands_for v.account.number v.account.stands (fits.own.mine live) in let i = account_within v.account v.guest v.stage in omega arith);
            },
            (d, refl, (home.2.0 ∙ ap (λ (f : Figures). whole f k.log) (sym same), home.2.1, home.2.2 ∙ sym same)),
          )),
          (λ miss. absurd (miss hit)),
        ),
      ))
      (λ miss. (
        v,
        keeps,
        tt,
        stays s k ws' s.homes id v v at (line_kept s.words ws' s.views l id v v at (length-set s.words 2 n) first second refl refl (l.stands id v at) (l.each id v at)) k.one zeroth third refl fits.knows fits.guest (λ m. refl) refl refl
            (λ quiet. k.home (quiet_before s.views id v v at (ap has_turn st) quiet)),
        (refl, (λ hit. absurd (miss hit)), λ _. refl),
      ))

  -- a seat that has passed its turn on rests, and the words that the rule counts stay
  rests : (s : State (Option T) View) (k : Rule s) (ws' : List ℕ) (id : ℕ) (v : View) → get_elem? s.views id ≡ some v → v.stage ≡ Passed → length ws' ≡ length s.words
      → get_or ws' 0 0 ≡ get_or s.words 0 0 → get_or ws' 1 0 ≡ get_or s.words 1 0 → get_or ws' 2 0 ≡ get_or s.words 2 0 → get_or ws' 3 0 ≡ get_or s.words 3 0
      → Rule record { words = ws'; homes = s.homes; views = set s.views id (resting v.account) }
  rests s k ws' id v at st long zeroth first second third = let w : View = resting v.account in
      stays s k ws' s.homes id v w at (line_rests s.words ws' s.views k.line id v w at long first second (ap tickets st) refl) k.one zeroth third refl tt tt
      (λ m. ap (λ (z : Stage). times m (owned z v.account v.guest)) (sym st)) (ap (λ (z : Stage). left_of z v.account v.guest) (sym st)) (ap (λ (z : Stage). length (owned z v.account v.guest)) (sym st))
      (λ quiet. k.home (quiet_before s.views id v w at (ap has_turn st) quiet))

  pub looks_behind : (size id : ℕ) (me : Sat T) → me.0.stage ≡ Passed → Allows Rule size id me 1 (λ n. n) (λ n w. looked_behind me n w)
  looks_behind size id me st s k long at small = let v : View = me.0 in let n : ℕ = get_or s.words 1 0 in let ws' : List ℕ = set s.words 1 n in let wide = k.line.wide in let fits = k.each_seat id v at in
      let zeroth : get_or ws' 0 0 ≡ get_or s.words 0 0 = get_or-set_other s.words 1 0 n 0 (λ e. omega arith) in
      let first : get_or ws' 1 0 ≡ get_or s.words 1 0 = get_or-set_same s.words 1 n 0 (omega arith) in
      let second : get_or ws' 2 0 ≡ get_or s.words 2 0 = get_or-set_other s.words 1 2 n 0 (λ e. omega arith) in
      let third : get_or ws' 3 0 ≡ get_or s.words 3 0 = get_or-set_other s.words 1 3 n 0 (λ e. omega arith) in
      dite (ℕ_discrete n v.ticket)
      (λ hit. (resting v.account, keeps, tt, rests s k ws' id v at st (length-set s.words 1 n) zeroth first second third, ((λ _. refl), (λ miss. absurd (miss hit)))))
      (λ miss. (
        v,
        keeps,
        tt,
        stays s k ws' s.homes id v v at (line_kept s.words ws' s.views k.line id v v at (length-set s.words 1 n) first second refl refl (k.line.stands id v at) (k.line.each id v at)) k.one zeroth third refl fits.knows fits.guest (λ m. refl) refl refl
            (λ quiet. k.home (quiet_before s.views id v v at (ap has_turn st) quiet)),
        ((λ hit. absurd (miss hit)), (λ _. refl)),
      ))

  -- words behind the fourth are no part of the rule
  pub rings : (size id b : ℕ) (me : Sat T) → me.0.stage ≡ Passed → 4 ≤ b → b ≡ bell me.0.ticket → Allows Rule size id me b (λ n. (n + 1) % 2 ^ 64) (λ n w. rang (step size b 1 0 none) me w)
  rings size id b me st far is s k long at small = let v : View = me.0 in let n : ℕ = (get_or s.words b 0 + 1) % 2 ^ 64 in (
    resting v.account,
    keeps,
    tt,
    rests s k (set s.words b n) id v at st (length-set s.words b n) (get_or-set_other s.words b 0 n 0 (λ e. omega arith)) (get_or-set_other s.words b 1 n 0 (λ e. omega arith))
        (get_or-set_other s.words b 2 n 0 (λ e. omega arith)) (get_or-set_other s.words b 3 n 0 (λ e. omega arith)),
    (is, refl, refl),
  )

  abbrev first_slot : List (ℕ × Option T) → Option T
  first_slot [] = None
  first_slot (x ∷ xs) = x.1

  -- the desk that was taken is the one that lies in the slot
  pub taken : (slots slots' : List (ℕ × Option T)) (w : Sat T) (d : T) → Took history figures_of stopped slots w → w.1 ≡ (0, Some d) ∷ slots' → IsDesk history figures_of stopped w.0.known w.0.halted w.0.account.figures d
  taken slots slots' w d t has = let both : Some t.2.0 ≡ Some d = ap first_slot (sym t.2.1 ∙ has) in let same : t.2.0 ≡ d = cc in subst (IsDesk history figures_of stopped w.0.known w.0.halted w.0.account.figures) same t.2.2

  -- the desk that was asked is the one that the seat has noted
  pub seen_after : (slots slots' slots'' : List (ℕ × Option T)) (turn take note : Sat T) (d d' : T) → Took history figures_of stopped slots turn → turn.1 ≡ (0, Some d) ∷ slots' → take ≡ (turn.0, slots'')
      → figures_of d' ≡ figures_of d → (history d').base ≡ (figures_of d').base → noted (history d').entries (stopped d') take note → IsDesk history figures_of stopped note.0.known note.0.halted note.0.account.figures d'
  seen_after slots slots' slots'' turn take note d d' took has is same base w =
      let t = taken slots slots' turn d took has in
      let f : figures_of d' ≡ note.0.account.figures = same ∙ (t.2 ∙ sym (ap (λ a. a.figures) w.3 ∙ ap (λ (m : Sat T). m.0.account.figures) is)) in
      let k : (history d').entries ≡ note.0.known = sym w.1 in
      (from_base history figures_of d' base ∙ (λ i. whole (f i) (k i)), sym w.2, f)
