-- What the desk has become is noted by the seat that has the turn.
use Rattle.std.proofs.Common.{◌≡◌, ◌≢◌, ℕ, ◌+◌, ◌%◌, ◌^◌, ◌<◌, ◌≤◌, Bool, true, false, List, [], ◌∷◌, ◌++◌, length, get_or, drop, set, sym, refl, ap, ◌∙◌, subst, arith, length-set, length-append, get_or-set_same, get_or-set_other}
use Rattle.std.specs.Prelude.{Option}
use mathlib.Core.Option.{some}
use lib.ListN.{get_elem?}
use Rattle.atomic_table.specs.Table.{State, keeps, Allows}
use Rattle.std.proofs.lemmas.List.{append-nil}
use Rattle.command_types.specs.declared.ask.Entry.{Entry}
use Rattle.command_types.specs.declared.figures.Figures.{Figures}
use Rattle.cycle_lock.specs.declared.rule.View.{View}
use Rattle.cycle_lock.specs.declared.rule.Stage.{Stage}
use Rattle.cycle_lock.specs.declared.rule.Stage.TheVariants.{HasTurn}
use Rattle.command_types.specs.History.{History, IsLegal, IsLegalFrom, end_of}
use Rattle.cycle_lock.specs.Stage.{tickets, has_turn}
use Rattle.cycle_lock.specs.Views.{owned, left_of, owns, splits_left, width, placed}
use Rattle.cycle_lock.specs.Accounts.{times, opening_count, by, whole}
use Rattle.cycle_lock.specs.Line.{Lies}
use Rattle.cycle_lock.specs.Kept.{KnowsDesk, Fits, Kept}
use Rattle.cycle_lock.specs.Numbers.{Counted}
use Rattle.cycle_lock.specs.Plays.{Becomes, Sat, noted}
use Rattle.cycle_lock.proofs.Owners.{AreOf}
use Rattle.cycle_lock.proofs.Numbers.{one_owner, was_drawn, counted_kept}
use Rattle.cycle_lock.proofs.Line.{line_kept, line_one, turn_lies}
use Rattle.cycle_lock.proofs.Fitting.{account_first, account_grows, alone_there, by_other, fits_set, guest_grows, knows_other, loud, saw_set}

module _ {T : Type 0} (history : T → History) (figures_of : T → Figures) (stopped : T → Bool) (figures : Figures) where
  abbrev Rule : State (Option T) View → Type 0
  Rule = Kept history figures_of stopped figures

  -- what the desk has become is seen by the seat that has the turn
  pub shown : (s : State (Option T) View) (k : Rule s) (ws' : List ℕ) (id : ℕ) (v w : View) (log : List Entry) (more : List Entry) (stop : Bool) → get_elem? s.views id ≡ some v → has_turn v.stage ≡ true
      → w.stage ≡ v.stage → w.ticket ≡ v.ticket → Fits log stop figures w → ((n : ℕ) → owns n w ≡ owns n v) → splits_left w ≡ splits_left v → width w ≡ width v → log ≡ k.log ++ more → (k.stop ≡ true → stop ≡ true)
      → ((j : ℕ) (u : View) → j ≢ id → get_elem? s.views j ≡ some u → (n : ℕ) → 1 ≤ owns n u → by n (drop (opening_count figures) log) ≡ by n (drop (opening_count figures) k.log))
      → ((n : ℕ) → get_or s.words 3 0 ≤ n → by n (drop (opening_count figures) log) ≡ by n (drop (opening_count figures) k.log))
      → (get_or s.words 3 0 ≡ 1 → stop ≡ true → w.account.stop ≡ true)
      → length ws' ≡ length s.words → get_or ws' 0 0 ≡ figures.base.position + length log → get_or ws' 1 0 ≡ get_or s.words 1 0 → get_or ws' 2 0 ≡ get_or s.words 2 0 → get_or ws' 3 0 ≡ get_or s.words 3 0 → IsLegalFrom figures.base.state log
      → Rule record { words = ws'; homes = s.homes; views = set s.views id w }
  shown s k ws' id v w log more stop at turn stage ticket fits has left wide grown still theirs far lone long zeroth first second third legal = let l = k.line in let later = k.later in
      let some_stands : 1 ≤ width v = let t = turn_lies l.drawn l.served v.ticket v.stage turn (l.each id v at) in let b = l.stands id v at in omega (arith, t.0) in
      record {
        log = log;
        stop = stop;
        line = line_kept s.words ws' s.views l id v w at long first second (ap tickets stage) ticket (let b = l.stands id v at in let t = ap tickets stage in omega arith)
            (subst (λ (z : ℕ × Stage). Lies l.drawn l.served z.0 z.1) (λ i. (sym ticket i, sym stage i)) (l.each id v at));
        one = k.one;
        counts = zeroth;
        legal = legal;
        later = let e = ap length grown in omega (arith, length-append k.log more);
        each_seat = fits_set log stop figures s.views id w fits
            (λ j u ne p. let f = k.each_seat j u p in record {
              knows = knows_other k.log log k.stop stop figures u.known u.halted u.stage (λ t. ne (line_one s.words s.views l id v at turn j u p t)) f.knows;
              own = account_grows k.log log more k.stop stop figures u.account f.own grown still (λ n h. theirs j u ne p n (account_first n u.account u.guest u.stage h));
              guest = guest_grows k.log log more k.stop stop figures u.account u.guest u.stage f.guest grown still (theirs j u ne p);
            });
        numbers = subst (λ (z : ℕ). Counted z (set s.views id w) (drop (opening_count figures) log)) (sym third)
            (counted_kept (get_or s.words 3 0) s.views (drop (opening_count figures) k.log) (drop (opening_count figures) log) k.numbers id v w at has left wide (λ n le. far n le ∙ k.numbers.entries n le));
        home = λ quiet. absurd (loud s.views id v w at (ap has_turn stage ∙ turn) quiet);
        lone = λ one halts. saw_set s.views id w (λ _. lone (sym third ∙ one) halts)
            (λ j u ne p some'. absurd (alone_there (get_or s.words 3 0) s.views (drop (opening_count figures) k.log) k.numbers id j v u at p ne some_stands some' (sym third ∙ one)));
      }

  -- entries of a number for which a view stands are no other view's, and its number was drawn
  pub theirs_same : (s : State (Option T) View) (k : Rule s) (id number : ℕ) (v : View) (log more : List Entry) → get_elem? s.views id ≡ some v → 1 ≤ owns number v → log ≡ k.log ++ more → AreOf number more
      → (j : ℕ) (u : View) → j ≢ id → get_elem? s.views j ≡ some u → (n : ℕ) → 1 ≤ owns n u → by n (drop (opening_count figures) log) ≡ by n (drop (opening_count figures) k.log)
  theirs_same s k id number v log more at owner grown own j u ne p m h = let since : List Entry = drop (opening_count figures) k.log in
      ap (λ (x : List Entry). by m (drop (opening_count figures) x)) grown
      ∙ by_other m number (opening_count figures) k.log more k.later own (λ f. ne (one_owner (get_or s.words 3 0) s.views since k.numbers m j id u v p at h (subst (λ (z : ℕ). 1 ≤ owns z v) (sym f) owner)))

  pub far_same : (s : State (Option T) View) (k : Rule s) (id number : ℕ) (v : View) (log more : List Entry) → get_elem? s.views id ≡ some v → 1 ≤ owns number v → log ≡ k.log ++ more → AreOf number more
      → (n : ℕ) → get_or s.words 3 0 ≤ n → by n (drop (opening_count figures) log) ≡ by n (drop (opening_count figures) k.log)
  far_same s k id number v log more at owner grown own m le = let since : List Entry = drop (opening_count figures) k.log in
      ap (λ (x : List Entry). by m (drop (opening_count figures) x)) grown
      ∙ by_other m number (opening_count figures) k.log more k.later own (λ f. let b = was_drawn (get_or s.words 3 0) s.views since k.numbers number id v at owner in omega arith)

  abbrev noting : List Entry → Bool → Sat T → View
  noting log stop me = placed HasTurn me.0.ticket log stop record me.0.account { seen = log; stop = stop }

  noting_fits : (s : State (Option T) View) (k : Rule s) (id : ℕ) (me : Sat T) (log more : List Entry) (stop : Bool) → get_elem? s.views id ≡ some me.0 → log ≡ k.log ++ more → Fits log stop figures (noting log stop me)
  noting_fits s k id me log more stop at grown = let old = (k.each_seat id me.0 at).own in let later = k.later in record {
    knows = (refl, refl);
    own = record { same = old.same; later = λ _. (let e = ap length grown in omega (arith, length-append k.log more)); mine = old.mine; begins = ([], sym (append-nil log)); stops = λ e. e; made = λ n _. refl };
    guest = tt;
  }

  pub reads : (size id : ℕ) (me : Sat T) (log : List Entry) (stop : Bool) → me.0.stage ≡ HasTurn → log ≡ me.0.known → (me.0.halted ≡ true → stop ≡ true)
      → Allows Rule size id me 0 (λ n. n) (λ n w. noted log stop me w)
  reads size id me log stop st same still s k long at small = let v : View = me.0 in let n : ℕ = get_or s.words 0 0 in let ws' : List ℕ = set s.words 0 n in let wide = k.line.wide in
      let knows = subst (λ (z : Stage). KnowsDesk k.log k.stop figures z v.known v.halted) st (k.each_seat id v at).knows in
      let is : log ≡ k.log = same ∙ knows.0 in let grown : log ≡ k.log ++ [] = is ∙ sym (append-nil k.log) in (
        noting log stop me,
        keeps,
        tt,
        shown s k ws' id v (noting log stop me) log [] stop at (ap has_turn st) (sym st) refl (noting_fits s k id me log [] stop at grown)
            (λ m. ap (λ (z : Stage). times m (owned z v.account v.guest)) (sym st)) (ap (λ (z : Stage). left_of z v.account v.guest) (sym st)) (ap (λ (z : Stage). length (owned z v.account v.guest)) (sym st))
            grown (λ e. still (knows.1 ∙ e))
            (λ j u _ _ m _. ap (λ (x : List Entry). by m (drop (opening_count figures) x)) is) (λ m _. ap (λ (x : List Entry). by m (drop (opening_count figures) x)) is) (λ _ halts. halts) (length-set s.words 0 n)
            (get_or-set_same s.words 0 n 0 (omega arith) ∙ (k.counts ∙ sym (ap (λ (x : List Entry). figures.base.position + length x) is)))
            (get_or-set_other s.words 0 1 n 0 (λ e. omega arith)) (get_or-set_other s.words 0 2 n 0 (λ e. omega arith)) (get_or-set_other s.words 0 3 n 0 (λ e. omega arith)) (subst (IsLegalFrom figures.base.state) (sym is) k.legal),
        (refl, refl, refl, refl, refl),
      )

  pub records : (size id : ℕ) (me : Sat T) (log : List Entry) (stop : Bool) (more : List Entry) (many : ℕ) → many ≡ length more → me.0.stage ≡ HasTurn → log ≡ me.0.known ++ more → (me.0.halted ≡ true → stop ≡ true)
      → AreOf me.0.account.number more → 1 ≤ times me.0.account.number me.0.account.stands → me.0.account.spent ≡ false → IsLegal (whole me.0.account.figures log) → end_of (whole me.0.account.figures log) < 2 ^ 63
      → Allows Rule size id me 0 (λ n. (n + many) % 2 ^ 64) (λ n w. noted log stop me w)
  records size id me log stop more many count st grew still own mine live legal short s k long at small = let v : View = me.0 in let n : ℕ = (get_or s.words 0 0 + many) % 2 ^ 64 in let ws' : List ℕ = set s.words 0 n in let wide = k.line.wide in
      let knows = subst (λ (z : Stage). KnowsDesk k.log k.stop figures z v.known v.halted) st (k.each_seat id v at).knows in
      let grown : log ≡ k.log ++ more = grew ∙ ap (λ (x : List Entry). x ++ more) knows.0 in
      let same = (k.each_seat id v at).own.same live in let word : n ≡ figures.base.position + length log = let c = k.counts in let a = ap length grown in let m = length-append k.log more in let f = ap (λ (x : Figures). x.base.position) same in omega arith in
      let owner : 1 ≤ owns v.account.number v = account_first v.account.number v.account v.guest v.stage mine in (
        noting log stop me,
        keeps,
        tt,
        shown s k ws' id v (noting log stop me) log more stop at (ap has_turn st) (sym st) refl (noting_fits s k id me log more stop at grown)
            (λ m. ap (λ (z : Stage). times m (owned z v.account v.guest)) (sym st)) (ap (λ (z : Stage). left_of z v.account v.guest) (sym st)) (ap (λ (z : Stage). length (owned z v.account v.guest)) (sym st))
            grown (λ f. still (knows.1 ∙ f)) (theirs_same s k id v.account.number v log more at owner grown own) (far_same s k id v.account.number v log more at owner grown own) (λ _ halts. halts)
            (length-set s.words 0 n) (get_or-set_same s.words 0 n 0 (omega arith) ∙ word)
            (get_or-set_other s.words 0 1 n 0 (λ e. omega arith)) (get_or-set_other s.words 0 2 n 0 (λ e. omega arith)) (get_or-set_other s.words 0 3 n 0 (λ e. omega arith)) (subst (λ (x : Figures). IsLegalFrom x.base.state log) same legal),
        (refl, refl, refl, refl, refl),
      )

  nothing_added : (more : List Entry) → length more ≡ 0 → more ≡ []
  nothing_added [] e = refl
  nothing_added (x ∷ more) e = absurd (omega arith)

  pub records_if : (size id : ℕ) (me : Sat T) (d : T) (log : List Entry) (stop : Bool) (more : List Entry) (many : ℕ) → many ≡ length more → me.0.stage ≡ HasTurn → log ≡ (history d).entries → stop ≡ stopped d → Becomes history stopped me.0 more d
      → Allows Rule size id me 0 (λ n. (n + many) % 2 ^ 64) (λ n w. noted log stop me w)
  records_if size id me d log stop more many count st is is' b =
      let to : log ≡ me.0.known ++ more = is ∙ ap (λ (h : History). h.entries) b.grown in
      let grown_to : history d ≡ whole me.0.account.figures log = b.grown ∙ ap (whole me.0.account.figures) (sym to) in
      records size id me log stop more many count st to (λ e. is' ∙ b.still e) b.own b.mine b.live (subst IsLegal grown_to b.legal) (subst (λ (h : History). end_of h < 2 ^ 63) grown_to b.short)

  pub reads_if : (size id : ℕ) (me : Sat T) (d : T) (log : List Entry) (stop : Bool) (more : List Entry) → length more ≡ 0 → me.0.stage ≡ HasTurn → log ≡ (history d).entries → stop ≡ stopped d → Becomes history stopped me.0 more d
      → Allows Rule size id me 0 (λ n. n) (λ n w. noted log stop me w)
  reads_if size id me d log stop more empty st is is' b =
      let same : (history d).entries ≡ me.0.known = ap (λ (h : History). h.entries) b.grown ∙ (ap (λ (x : List Entry). me.0.known ++ x) (nothing_added more empty) ∙ append-nil me.0.known) in
      reads size id me log stop st (is ∙ same) (λ e. is' ∙ b.still e)
