-- A pass comes in to the seat that has the turn, sees what its command has become, and goes out again.
use Rattle.std.proofs.Common.{◌≡◌, ◌≢◌, ℕ, ◌+◌, ◌%◌, ◌^◌, ◌≤◌, ◌⊎◌, Bool, false, List, [], ◌∷◌, ◌++◌, length, get_or, drop, set, sym, refl, ap, ◌∙◌, subst, inl, inr, ⊎_elim, arith, length-set, length-append, get_or-set_same, get_or-set_other}
use Rattle.std.specs.Prelude.{Option}
use mathlib.Core.Option.{some}
use mathlib.Core.Logic.{dite}
use native.Mathlib.Decide.{ℕ_discrete}
use lib.ListN.{get_elem?}
use Rattle.atomic_table.specs.Table.{State, keeps, Allows, Splits, Joins}
use Rattle.atomic_table.proofs.Lists.{set_else}
use Rattle.std.proofs.lemmas.List.{append-nil}
use Rattle.command_types.specs.declared.ask.Entry.{Entry}
use Rattle.command_types.specs.declared.figures.Figures.{Figures}
use Rattle.command_types.specs.History.{History, IsLegalFrom}
use Rattle.cycle_lock.specs.declared.rule.Account.{Account}
use Rattle.cycle_lock.specs.declared.rule.View.{View}
use Rattle.cycle_lock.specs.declared.rule.Stage.{Stage}
use Rattle.cycle_lock.specs.declared.rule.Stage.TheVariants.{HasTurn, Serving}
use Rattle.cycle_lock.specs.Stage.{tickets, has_turn}
use Rattle.cycle_lock.specs.Accounts.{times, opening_count, by}
use Rattle.cycle_lock.specs.Views.{ticketed, owned, left_of, owns, splits_left, width, resting, blank, serving, by_itself, let_out}
use Rattle.cycle_lock.specs.Line.{Lies}
use Rattle.cycle_lock.specs.Kept.{KnowsDesk, FitsGuest, Fits, Kept}
use Rattle.cycle_lock.specs.Plays.{Sat, Follows, Adds, served, kept, noted_beside}
use Rattle.cycle_lock.proofs.Line.{line_kept, line_more, at_new}
use Rattle.cycle_lock.proofs.Numbers.{total_at, times-append, counted_parts, counted_joins}
use Rattle.cycle_lock.proofs.Fitting.{account_grows, alone_there, blank_fits, by_other, fits_set, loud, quiet_before, quiet_front, stands_for}
use Rattle.cycle_lock.proofs.Notes.{records, shown, theirs_same, far_same}

module _ {T : Type 0} (history : T → History) (figures_of : T → Figures) (stopped : T → Bool) (figures : Figures) where
  abbrev Rule : State (Option T) View → Type 0
  Rule = Kept history figures_of stopped figures

  pub takes_in : (id other : ℕ) (v w : View) (b : Account) → v.stage ≡ HasTurn → v.account.spent ≡ false → w ≡ resting b → 1 ≤ length b.stands → Joins Rule id v other w (serving v w) (resting blank)
  takes_in id other v w b st live is' some_b s k at apart there' = let h : View = serving v w in let gone : View = resting blank in let vs' : List View = set s.views id h in let l = k.line in let c = k.numbers in
      let there : get_elem? s.views other ≡ some w = sym (set_else s.views id other h apart) ∙ there' in let since : List Entry = drop (opening_count figures) k.log in
      let fits = k.each_seat id v at in let knows = subst (λ (z : Stage). KnowsDesk k.log k.stop figures z v.known v.halted) st fits.knows in
      let still' : has_turn w.stage ≡ false = ap (λ (z : View). has_turn z.stage) is' in
      let left_v : splits_left v ≡ v.account.left = ap (λ (z : Stage). left_of z v.account v.guest) st in
      let left_w : splits_left w ≡ w.account.left = ap splits_left is' ∙ sym (ap (λ (z : View). z.account.left) is') in
      let wide_v : width v ≡ length v.account.stands = ap (λ (z : Stage). length (owned z v.account v.guest)) st in
      let wide_w : width w ≡ length w.account.stands = ap width is' ∙ sym (ap (λ (z : View). length z.account.stands) is') in
      let some_v : 1 ≤ length v.account.stands = stands_for v.account.number v.account.stands (fits.own.mine live) in
      let one : (v.account.left ≡ 0) ⊎ (w.account.left ≡ 0) = dite (ℕ_discrete v.account.left 0) (λ z. inl z)
      (λ nv. dite (ℕ_discrete w.account.left 0) (λ z. inr z) (λ nw. absurd (apart (c.alone other id w v there at (omega arith) (omega arith)))))
      in
      record {
        log = k.log;
        stop = k.stop;
        line = line_kept s.words s.words vs' (line_kept s.words s.words s.views l id v h at refl refl refl (sym (ap tickets st)) refl (omega (arith, length-append v.account.stands w.account.stands))
            (subst (λ (z : Stage). Lies l.drawn l.served v.ticket z) st (l.each id v at))) other w gone there' refl refl refl (sym (ap ticketed is')) (sym (ap (λ (z : View). z.ticket) is')) (omega arith) tt;
        one = k.one;
        counts = k.counts;
        legal = k.legal;
        later = k.later;
        each_seat = fits_set k.log k.stop figures vs' other gone record { knows = tt; own = blank_fits k.log k.stop figures; guest = tt }
            (λ j u _ p. fits_set k.log k.stop figures s.views id h record { knows = knows; own = fits.own; guest = ((k.each_seat other w there).own, one) } (λ j u _ p. k.each_seat j u p) j u p);
        numbers = counted_joins (get_or s.words 3 0) s.views since c id other v w h gone at apart there there'
            (λ n. let p = ap (λ (z : Stage). times n (owned z v.account v.guest)) st in let q = ap (λ (z : Stage). times n (owned z w.account w.guest)) (ap (λ (z : View). z.stage) is') in omega (arith, times-append n v.account.stands w.account.stands))
            (λ n. refl) (omega arith) refl (omega (arith, length-append v.account.stands w.account.stands)) refl;
        home = λ quiet. absurd (loud s.views id v h at refl (quiet_before vs' other w gone there' still' quiet));
        lone = λ next _. absurd (alone_there (get_or s.words 3 0) s.views since c id other v w at there apart (omega arith) (let e = ap width is' in omega arith) next);
      }

  -- the guest sees what comes next, which is the history so far with entries of its own number
  pub notes_guest : (size id : ℕ) (me : Sat T) (next : List Entry → Bool → Type 0) (log : List Entry) (stop : Bool) (more : List Entry) (many : ℕ) → many ≡ length more → me.0.stage ≡ Serving → me.0.account.spent ≡ false
      → next log stop → Adds me.0 me.0.guest more log stop → Allows Rule size id me 0 (λ n. (n + many) % 2 ^ 64) (λ n w. served next me w)
  notes_guest size id me next log stop more many count st live is_next b s k long at small = let v : View = me.0 in let a : Account = v.account in let g : Account = v.guest in let c = k.numbers in
      let n : ℕ = (get_or s.words 0 0 + many) % 2 ^ 64 in let ws' : List ℕ = set s.words 0 n in let wide = k.line.wide in let fits = k.each_seat id v at in
      let knows = subst (λ (z : Stage). KnowsDesk k.log k.stop figures z v.known v.halted) st fits.knows in
      let fg = subst (λ (z : Stage). FitsGuest k.log k.stop figures z a g) st fits.guest in
      let grown : log ≡ k.log ++ more = b.grown ∙ ap (λ (x : List Entry). x ++ more) knows.0 in let same : g.figures ≡ figures = fg.0.same b.live in
      let word : n ≡ figures.base.position + length log = let c = k.counts in let a = ap length grown in let m = length-append k.log more in let f = ap (λ (x : Figures). x.base.position) (fits.own.same live) in let sh = b.short in omega arith in
      let both : (m : ℕ) → owns m v ≡ times m a.stands + times m g.stands = λ m. ap (λ (z : Stage). times m (owned z a g)) st ∙ times-append m a.stands g.stands in
      let owner : 1 ≤ owns g.number v = let e = both g.number in let m = b.mine in omega arith in
      let g' : Account = record g { seen = log; stop = stop } in let w : View = record v { known = log; halted = stop; guest = g' } in
      let later : opening_count figures ≤ length log = let l = k.later in let e = ap length grown in omega (arith, length-append k.log more) in
      let apart : (m : ℕ) → 1 ≤ times m a.stands → m ≢ g.number = λ m h f. let o = c.once m in let t = total_at (owns m) s.views id v at in let e = both m in let i : 1 ≤ times m g.stands = subst (λ (z : ℕ). 1 ≤ times z g.stands) (sym f) b.mine in omega arith in
      let fits' : Fits log stop figures w = record {
        knows = subst (λ (z : Stage). KnowsDesk log stop figures z log stop) (sym st) (refl, refl);
        own = account_grows k.log log more k.stop stop figures a fits.own grown (λ e. b.still (knows.1 ∙ e)) (λ m h. ap (λ (x : List Entry). by m (drop (opening_count figures) x)) grown ∙ by_other m g.number (opening_count figures) k.log more k.later b.own (apart m h));
        guest = subst (λ (z : Stage). FitsGuest log stop figures z a g') (sym st)
            (record { same = fg.0.same; later = λ _. later; mine = fg.0.mine; begins = ([], sym (append-nil log)); stops = λ e. e; made = λ m _. refl }, fg.1);
      } in (
        w,
        keeps,
        tt,
        shown history figures_of stopped figures s k ws' id v w log more stop at (ap has_turn st) refl refl fits'
            (λ m. subst (λ (z : Stage). times m (owned z a g') ≡ times m (owned z a g)) (sym st) refl) (subst (λ (z : Stage). left_of z a g' ≡ left_of z a g) (sym st) refl)
            (subst (λ (z : Stage). length (owned z a g') ≡ length (owned z a g)) (sym st) refl) grown (λ e. b.still (knows.1 ∙ e))
            (theirs_same history figures_of stopped figures s k id g.number v log more at owner grown b.own) (far_same history figures_of stopped figures s k id g.number v log more at owner grown b.own)
            (λ one _. let f = c.few in let t = total_at width s.views id v at in let e = ap (λ (z : Stage). length (owned z a g)) st in let i = stands_for a.number a.stands (fits.own.mine live) in let j = stands_for g.number g.stands b.mine in
            absurd (omega (arith, one, f, t, e, i, j, length-append a.stands g.stands)))
            (length-set s.words 0 n) (get_or-set_same s.words 0 n 0 (omega arith) ∙ word)
            (get_or-set_other s.words 0 1 n 0 (λ e. omega arith)) (get_or-set_other s.words 0 2 n 0 (λ e. omega arith)) (get_or-set_other s.words 0 3 n 0 (λ e. omega arith)) (subst (λ (x : Figures). IsLegalFrom x.base.state log) (fits.own.same live) b.legal),
        (
          log,
          stop,
          is_next,
          (more, b.grown),
          record {
            begins = (fg.0.begins.0, knows.0 ∙ fg.0.begins.1);
            later = subst (λ (x : Figures × List Entry). opening_count x.0 ≤ length x.1) (λ i. (sym same i, sym knows.0 i)) k.later;
            earlier = subst (λ (f : Figures). opening_count f ≤ length g.seen) (sym same) (fg.0.later b.live);
            mine = b.mine;
            stops = λ e. knows.1 ∙ fg.0.stops e;
            made = subst (λ (x : Figures × List Entry). (m : ℕ) → 1 ≤ times m g.stands → by m (drop (opening_count x.0) x.1) ≡ by m (drop (opening_count x.0) g.seen)) (λ i. (sym same i, sym knows.0 i)) fg.0.made;
          },
          same ∙ sym (fits.own.same live),
          refl,
        ),
      )

  pub lets_out : (id : ℕ) (v : View) → v.stage ≡ Serving → v.account.spent ≡ false → 1 ≤ times v.guest.number v.guest.stands → Splits Rule id v (by_itself v) (let_out v)
  lets_out id v st live mine s k at = let l : View = by_itself v in let r : View = let_out v in let a : Account = v.account in let g : Account = v.guest in let line = k.line in let fits = k.each_seat id v at in
      let knows = subst (λ (z : Stage). KnowsDesk k.log k.stop figures z v.known v.halted) st fits.knows in
      let fg = subst (λ (z : Stage). FitsGuest k.log k.stop figures z a g) st fits.guest in
      let some_a : 1 ≤ length a.stands = stands_for a.number a.stands (fits.own.mine live) in let some_g : 1 ≤ length g.stands = stands_for g.number g.stands mine in
      let wide : width v ≡ length a.stands + length g.stands = ap (λ (z : Stage). length (owned z a g)) st ∙ length-append a.stands g.stands in
      let left : splits_left v ≡ a.left + g.left = ap (λ (z : Stage). left_of z a g) st in
      let fits_l : Fits k.log k.stop figures l = record { knows = knows; own = fits.own; guest = tt } in
      let fits_r : Fits k.log k.stop figures r = record { knows = tt; own = fg.0; guest = tt } in
      record {
        log = k.log;
        stop = k.stop;
        line = line_more s.words (set s.views id l) (line_kept s.words s.words s.views line id v l at refl refl refl (sym (ap tickets st)) refl some_a (subst (λ (z : Stage). Lies line.drawn line.served v.ticket z) st (line.each id v at))) r refl;
        one = k.one;
        counts = k.counts;
        legal = k.legal;
        later = k.later;
        each_seat = λ j u p. ⊎_elim
            (λ (x : get_elem? (set s.views id l) j ≡ some u). fits_set k.log k.stop figures s.views id l fits_l (λ j u _ p. k.each_seat j u p) j u x)
            (λ (x : (j ≡ length (set s.views id l)) × (r ≡ u)). subst (λ (z : View). Fits k.log k.stop figures z) x.1 fits_r)
            (at_new (set s.views id l) r u j p);
        numbers = counted_parts (get_or s.words 3 0) s.views (drop (opening_count figures) k.log) k.numbers id v l r at
            (λ n. sym (ap (λ (z : Stage). times n (owned z a g)) st ∙ times-append n a.stands g.stands)) (sym left) fg.1 (sym wide);
        home = λ quiet. absurd (loud s.views id v l at refl (quiet_front (set s.views id l) (r ∷ []) quiet));
        lone = λ one _. let f = k.numbers.few in let t = total_at width s.views id v at in absurd (omega (arith, one, f, t, wide, some_a, some_g));
      }

  -- the seat's own pass sees what comes next
  pub keeps_own : (size id : ℕ) (me : Sat T) (next : List Entry → Bool → Type 0) (log : List Entry) (stop : Bool) (more : List Entry) (many : ℕ) → many ≡ length more → me.0.stage ≡ HasTurn → next log stop → Adds me.0 me.0.account more log stop
      → Allows Rule size id me 0 (λ n. (n + many) % 2 ^ 64) (λ n w. kept next me w)
  keeps_own size id me next log stop more many count st is_next b s k long at small =
      let r = records history figures_of stopped figures size id me log stop more many count st b.grown b.still b.own b.mine b.live b.legal b.short s k long at small in (r.0, r.1, r.2, r.3, (log, stop, is_next, r.4))

-- what is next of a pass is next of the guest
pub adds_serving : (v w x : View) (a : Account) (more log : List Entry) (stop : Bool) → w ≡ resting a → x ≡ serving v w → Adds v a more log stop → Adds x x.guest more log stop
adds_serving v w x a more log stop rests is b = let e : w.account ≡ a = ap (λ (z : View). z.account) rests in
    subst (λ (z : View). Adds z z.guest more log stop) (sym is) (subst (λ (g : Account). Adds (serving v w) g more log stop) (sym e) record { live = b.live; mine = b.mine; own = b.own; grown = b.grown; legal = b.legal; short = b.short; still = b.still })

-- the steps by which a pass comes in, notes and goes out
pub beside : {T : Type 0} (next : List Entry → Bool → Type 0) (m m1 m2 m3 : Sat T) (w : View) (a b : Account) → w ≡ resting a → m1 ≡ (serving m.0 w, m.1) → served next m1 m2 → m3 ≡ (by_itself m2.0, m2.1) → b ≡ m2.0.guest → noted_beside next m m3 a b
beside {T} next m m1 m2 m3 w a b rests comes notes goes is =
    let s : served next (serving m.0 w, m.1) m2 = subst (λ (x : Sat T). served next x m2) comes notes in
    let e : w.account ≡ a = ap (λ (z : View). z.account) rests in (
      s.0,
      s.1,
      s.2,
      subst (λ (x : Account). Follows m.0.known m.0.halted x) e s.4,
      ap (λ (x : Account). x.figures) (sym e) ∙ s.5,
      is ∙ (ap (λ (x : Sat T). x.0.guest) s.6 ∙ ap (λ (x : Account). record x { seen = s.0; stop = s.1 }) e),
      goes ∙ ap (λ (x : Sat T). (by_itself x.0, x.1)) s.6,
    )
