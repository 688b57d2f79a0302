-- Passes are split off and joined.
use Rattle.std.proofs.Common.{◌≡◌, ℕ, ◌+◌, ◌%◌, ◌^◌, ◌<◌, ◌≤◌, Bool, true, false, List, [], ◌∷◌, ◌++◌, length, get_or, drop, set, sym, refl, ap, ◌∙◌, subst, ⊎_elim, arith, length-set, length-append, get_or-set_same, get_or-set_other}
use Rattle.std.specs.Prelude.{Option}
use mathlib.Core.Option.{some}
use mathlib.Core.Logic.{dite}
use native.Mathlib.Decide.{ℕ_discrete}
use lib.ListN.{get_elem?}
use Rattle.atomic_table.specs.Table.{State, keeps, Allows, Splits, Joins}
use Rattle.atomic_table.proofs.Lists.{set_else}
use Rattle.command_types.specs.declared.ask.Entry.{Entry}
use Rattle.command_types.specs.declared.figures.Figures.{Figures}
use Rattle.cycle_lock.specs.declared.rule.View.{View}
use Rattle.cycle_lock.specs.declared.rule.Stage.{Stage}
use Rattle.cycle_lock.specs.declared.rule.Stage.TheVariants.{Resting, Drawn, Joined}
use Rattle.command_types.specs.History.{History}
use Rattle.cycle_lock.specs.Stage.{tickets, has_turn}
use Rattle.cycle_lock.specs.Views.{ticketed, owned, left_of, owns, splits_left, width, placed, resting, blank, with_number, parent, child, hosting, merged}
use Rattle.cycle_lock.specs.Accounts.{times, FitsAccount, longest, opening_count, by, whole}
use Rattle.cycle_lock.specs.Kept.{FitsGuest, Fits, Kept}
use Rattle.cycle_lock.specs.Numbers.{Counted}
use Rattle.cycle_lock.specs.Plays.{Sat, numbered, settled}
use Rattle.cycle_lock.specs.declared.rule.Account.{Account}
use Rattle.cycle_lock.proofs.Joins.{longer_over, between}
use Rattle.cycle_lock.proofs.Numbers.{total_at, times-append, times_here, times_there, counted_kept, counted_draws, counted_splits, counted_joins}
use Rattle.cycle_lock.proofs.Line.{line_kept, line_more, at_new}
use Rattle.cycle_lock.proofs.Fitting.{account_within, alone_there, blank_fits, fits_set, none_before, or_left, or_true, quiet_before, quiet_front, saw_set, stands_for}

module _ {T : Type 0} (history : T → History) (figures_of : T → Figures) (stopped : T → Bool) (figures : Figures) where
  abbrev Rule : State (Option T) View → Type 0
  Rule = Kept history figures_of stopped figures

  pub draws_number : (size id : ℕ) (me : Sat T) → me.0 ≡ resting me.0.account → me.0.account.spent ≡ false → 0 < me.0.account.left → Allows Rule size id me 3 (λ n. (n + 1) % 2 ^ 64) (λ n w. numbered me n w)
  draws_number size id me is live pos s k long at small = let v : View = me.0 in let a : Account = v.account in let n : ℕ = get_or s.words 3 0 in let c = k.numbers in let wide = k.line.wide in let since : List Entry = drop (opening_count figures) k.log in
      let w : View = placed Drawn 0 [] false (with_number n a) in let n' : ℕ = (n + 1) % 2 ^ 64 in let ws' : List ℕ = set s.words 3 n' in let old = (k.each_seat id v at).own in
      let left : splits_left v ≡ a.left = ap splits_left is in let some_left : 0 < splits_left v = omega arith in let t : n + splits_left v ≡ 2 ^ 32 = c.splitter id v at some_left in let up : n' ≡ n + 1 = omega arith in
      let out : v.stage ≡ Resting = ap (λ (z : View). z.stage) is in
      let nobody : by n since ≡ [] = c.entries n (omega arith) in
      let unseen : by n (drop (opening_count figures) a.seen) ≡ [] = none_before n (opening_count figures) k.log a.seen (old.later live) old.begins nobody in (
        w,
        keeps,
        tt,
        record {
          log = k.log;
          stop = k.stop;
          line = line_kept s.words ws' s.views k.line id v w at (length-set s.words 3 n') (get_or-set_other s.words 3 1 n' 0 (λ e. omega arith)) (get_or-set_other s.words 3 2 n' 0 (λ e. omega arith))
              (sym (ap ticketed is)) (sym (ap (λ (z : View). z.ticket) is)) (omega arith) tt;
          one = k.one;
          counts = get_or-set_other s.words 3 0 n' 0 (λ e. omega arith) ∙ k.counts;
          legal = k.legal;
          later = k.later;
          each_seat = fits_set k.log k.stop figures s.views id w
              record {
                knows = tt;
                own = record {
                  same = old.same;
                  later = old.later;
                  mine = λ e. let m = old.mine e in omega arith;
                  begins = old.begins;
                  stops = old.stops;
                  made = λ m h. dite (ℕ_discrete n m) (λ e. subst (λ (z : ℕ). by z since ≡ by z (drop (opening_count figures) a.seen)) e (nobody ∙ sym unseen))
                      (λ ne. old.made m (let e = times_there m n a.stands ne in omega arith));
                };
                guest = tt;
              }
              (λ j u _ p. k.each_seat j u p);
          numbers = subst (λ (z : ℕ). Counted z (set s.views id w) since) (sym (get_or-set_same s.words 3 n' 0 (omega arith) ∙ up))
              (counted_draws n s.views since c id v w at (λ m. let e = ap (owns m) is in omega arith) some_left (omega arith) (let e = ap width is in omega arith));
          home = λ quiet. k.home (quiet_before s.views id v w at (ap has_turn out) quiet);
          lone = λ one halts. let here = total_at width s.views id v at in let m = stands_for a.number a.stands (old.mine live) in let e = ap width is in let f = c.few in let bad : n' ≡ 1 = sym (get_or-set_same s.words 3 n' 0 (omega arith)) ∙ one in absurd (omega (arith, bad, up, here, f, m, e));
        },
        (
          refl,
          refl,
          omega arith,
          (let o = ap (owns n) is in let l = total_at (owns n) s.views id v at in let b = c.below n (omega arith) in omega arith),
          old.mine live,
          subst (λ (f : Figures). by n (drop (opening_count f) a.seen) ≡ []) (sym (old.same live)) unseen,
        ),
      )

  pub splits : (id : ℕ) (v : View) (n : ℕ) (a : Account) → v ≡ placed Drawn 0 [] false (with_number n a) → 1 ≤ times a.number a.stands → Splits Rule id v (parent v) (child v)
  splits id v n a is mine s k at = subst (λ (z : View). get_elem? s.views id ≡ some z → Rule record { words = s.words; homes = s.homes; views = set s.views id (parent z) ++ child z ∷ [] }) (sym is)
      (λ at'. let v' : View = placed Drawn 0 [] false (with_number n a) in let l : View = parent v' in let r : View = child v' in let old = (k.each_seat id v' at').own in let since : List Entry = drop (opening_count figures) k.log in
      let long = length-set s.views id l in
      let fits_l : Fits k.log k.stop figures l = record { knows = tt; own = record { same = old.same; later = old.later; mine = λ _. mine; begins = old.begins; stops = old.stops; made = λ m h. old.made m (omega arith) }; guest = tt } in
      let fits_r : Fits k.log k.stop figures r = record { knows = tt; own = record { same = old.same; later = old.later; mine = λ _. let e = times_here n [] in omega arith; begins = old.begins; stops = old.stops; made = λ m h. old.made m (omega arith) }; guest = tt } in
      record {
        log = k.log;
        stop = k.stop;
        line = line_more s.words (set s.views id l) (line_kept s.words s.words s.views k.line id v' l at' refl refl refl refl refl (omega arith) tt) r refl;
        one = k.one;
        counts = k.counts;
        legal = k.legal;
        later = k.later;
        each_seat = λ j u p. ⊎_elim
            (λ (x : get_elem? (set s.views id l) j ≡ some u). fits_set k.log k.stop figures s.views id l fits_l (λ j u _ p. k.each_seat j u p) j u x)
            (λ (x : (j ≡ length (set s.views id l)) × (r ≡ u)). subst (λ (z : View). Fits k.log k.stop figures z) x.1 fits_r)
            (at_new (set s.views id l) r u j p);
        numbers = counted_splits (get_or s.words 3 0) s.views since k.numbers id v' l r at' (λ m. omega arith) refl refl (omega arith);
        home = λ quiet. k.home (quiet_before s.views id v' l at' refl (quiet_front (set s.views id l) (r ∷ []) quiet));
        lone = λ one halts. let f = k.numbers.few in let u = total_at width s.views id v' at' in let m = stands_for a.number a.stands mine in absurd (omega (arith, one, f, u, m));
      }) at

  pub joins : (id other : ℕ) (v w : View) (a b : Account) → v ≡ resting a → w ≡ resting b → 1 ≤ length a.stands → 1 ≤ length b.stands → Joins Rule id v other w (hosting v w) (resting blank)
  joins id other v w a b is is' some_a some_b s k at apart there' = let h : View = hosting v w in let gone : View = resting blank in let vs' : List View = set s.views id h in
      let there : get_elem? s.views other ≡ some w = sym (set_else s.views id other h apart) ∙ there' in let since : List Entry = drop (opening_count figures) k.log in
      let still : has_turn v.stage ≡ false = ap (λ (z : View). has_turn z.stage) is in let still' : has_turn w.stage ≡ false = ap (λ (z : View). has_turn z.stage) is' in
      record {
        log = k.log;
        stop = k.stop;
        line = line_kept s.words s.words vs' (line_kept s.words s.words s.views k.line id v h at refl refl refl (sym (ap ticketed is)) (sym (ap (λ (z : View). z.ticket) is)) (omega arith) tt) other w gone there' refl refl refl (sym (ap ticketed is')) (sym (ap (λ (z : View). z.ticket) is')) (omega arith) tt;
        one = k.one;
        counts = k.counts;
        legal = k.legal;
        later = k.later;
        each_seat = fits_set k.log k.stop figures vs' other gone record { knows = tt; own = blank_fits k.log k.stop figures; guest = tt }
            (λ j u _ p. fits_set k.log k.stop figures s.views id h record { knows = tt; own = (k.each_seat id v at).own; guest = (k.each_seat other w there).own } (λ j u _ p. k.each_seat j u p) j u p);
        numbers = counted_joins (get_or s.words 3 0) s.views since k.numbers id other v w h gone at apart there there'
            (λ n. let p = ap (λ (z : Stage). times n (owned z v.account v.guest)) (ap (λ (z : View). z.stage) is) in let q = ap (λ (z : Stage). times n (owned z w.account w.guest)) (ap (λ (z : View). z.stage) is') in omega (arith, times-append n v.account.stands w.account.stands))
            (λ n. refl)
            (let p = ap (λ (z : Stage). left_of z v.account v.guest) (ap (λ (z : View). z.stage) is) in let q = ap (λ (z : Stage). left_of z w.account w.guest) (ap (λ (z : View). z.stage) is') in omega arith)
            refl
            (let p = ap (λ (z : Stage). length (owned z v.account v.guest)) (ap (λ (z : View). z.stage) is) in let q = ap (λ (z : Stage). length (owned z w.account w.guest)) (ap (λ (z : View). z.stage) is') in omega (arith, length-append v.account.stands w.account.stands))
            refl;
        home = λ quiet. k.home (quiet_before s.views id v h at still (quiet_before vs' other w gone there' still' quiet));
        lone = λ one halts. absurd (alone_there (get_or s.words 3 0) s.views since k.numbers id other v w at there apart (let e = ap width is in omega arith) (let e = ap width is' in omega arith) one);
      }

  pub settles : (size id : ℕ) (me : Sat T) → me.0.stage ≡ Joined → me.0.ticket ≡ 0 → me.0.account.spent ≡ false → me.0.guest.spent ≡ false → Allows Rule size id me 0 (λ n. n) (λ n w. settled me w)
  settles size id me st ticket live live' s k long at small = let v : View = me.0 in let a : Account = v.account in let b : Account = v.guest in let m : Account = merged a b in let w : View = resting m in
      let n : ℕ = get_or s.words 0 0 in let ws' : List ℕ = set s.words 0 n in let wide = k.line.wide in let since : List Entry = drop (opening_count figures) k.log in
      let fa = (k.each_seat id v at).own in let fb : FitsAccount k.log k.stop figures b = subst (λ (z : Stage). FitsGuest k.log k.stop figures z a b) st (k.each_seat id v at).guest in
      let all : List Entry = longest a.seen b.seen in let over = longer_over k.log a.seen b.seen fa.begins fb.begins in
      let in_a : (x : ℕ) → 1 ≤ times x a.stands → by x (drop (opening_count figures) all) ≡ by x (drop (opening_count figures) a.seen) = λ x h. between x (opening_count figures) k.log all a.seen (fa.later live) over.whole over.first (fa.made x h) in
      let in_b : (x : ℕ) → 1 ≤ times x b.stands → by x (drop (opening_count figures) all) ≡ by x (drop (opening_count figures) b.seen) = λ x h. between x (opening_count figures) k.log all b.seen (fb.later live') over.whole over.second (fb.made x h) in
      let longs : opening_count figures ≤ length all = let e = ap length over.first.1 in let l = fa.later live in omega (arith, length-append a.seen over.first.0) in (
        w,
        keeps,
        tt,
        record {
          log = k.log;
          stop = k.stop;
          line = line_kept s.words ws' s.views k.line id v w at (length-set s.words 0 n) (get_or-set_other s.words 0 1 n 0 (λ e. omega arith)) (get_or-set_other s.words 0 2 n 0 (λ e. omega arith)) (sym (ap tickets st)) (sym ticket) (omega arith) tt;
          one = k.one;
          counts = get_or-set_same s.words 0 n 0 (omega arith) ∙ k.counts;
          legal = k.legal;
          later = k.later;
          each_seat = fits_set k.log k.stop figures s.views id w
              record {
                knows = tt;
                own = record {
                  same = fa.same;
                  later = λ _. longs;
                  mine = λ e. let l = fa.mine e in omega (arith, times-append a.number a.stands b.stands);
                  begins = over.whole;
                  stops = λ e. or_true a.stop b.stop (k.stop ≡ true) e fa.stops fb.stops;
                  made = λ x h. dite (ℕ_discrete (times x a.stands) 0)
                      (λ z. let h' : 1 ≤ times x b.stands = omega (arith, times-append x a.stands b.stands) in fb.made x h' ∙ sym (in_b x h'))
                      (λ nz. let h' : 1 ≤ times x a.stands = omega arith in fa.made x h' ∙ sym (in_a x h'));
                };
                guest = tt;
              }
              (λ j u _ p. k.each_seat j u p);
          numbers = subst (λ (z : ℕ). Counted z (set s.views id w) since) (sym (get_or-set_other s.words 0 3 n 0 (λ e. omega arith)))
              (counted_kept (get_or s.words 3 0) s.views since since k.numbers id v w at (λ x. ap (λ (z : Stage). times x (owned z a b)) (sym st)) (ap (λ (z : Stage). left_of z a b) (sym st)) (ap (λ (z : Stage). length (owned z v.account v.guest)) (sym st)) k.numbers.entries);
          home = λ quiet. k.home (quiet_before s.views id v w at (ap has_turn st) quiet);
          lone = λ one halts. let saw = k.lone (sym (get_or-set_other s.words 0 3 n 0 (λ e. omega arith)) ∙ one) halts in saw_set s.views id w (λ _. or_left a.stop b.stop (saw id v at (let m = stands_for a.number a.stands (fa.mine live) in let i = account_within a b v.stage in omega arith))) (λ j u _ p. saw j u p);
        },
        (
          refl,
          refl,
          fb.same live' ∙ sym (fa.same live),
          over.first,
          over.second,
          subst (λ (f : Figures). (x : ℕ) → 1 ≤ times x a.stands → by x (drop (opening_count f) all) ≡ by x (drop (opening_count f) a.seen)) (sym (fa.same live)) in_a,
          subst (λ (f : Figures). (x : ℕ) → 1 ≤ times x b.stands → by x (drop (opening_count f) all) ≡ by x (drop (opening_count f) b.seen)) (sym (fa.same live)) in_b,
        ),
      )
