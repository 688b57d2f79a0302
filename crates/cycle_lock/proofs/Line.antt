-- The tickets stay in line at each step.
use Rattle.std.proofs.Common.{◌≡◌, ◌≢◌, ℕ, suc, zero, ◌+◌, ◌%◌, ◌^◌, ◌<◌, ◌≤◌, ◌⊎◌, true, false, List, [], ◌∷◌, ◌++◌, length, get_or, set, sym, refl, ap, ◌∙◌, subst, inl, inr, ⊎_elim, arith, length-set, get_or-set_same, get_or-set_other}
use Rattle.std.proofs.Math.Nat.{mod-add-mod}
use mathlib.Core.Option.{some, some-injective, some-ne-none}
use lib.ListN.{get_elem?}
use Rattle.atomic_table.proofs.Lists.{at_set, one_turn}
use Rattle.cycle_lock.specs.declared.rule.View.{View}
use Rattle.cycle_lock.specs.declared.rule.Stage.{Stage}
use Rattle.cycle_lock.specs.declared.rule.Stage.TheVariants.{Resting, Waiting, HasTurn, Serving, Passed, Drawn, Joined}
use Rattle.cycle_lock.specs.Stage.{tickets, has_turn}
use Rattle.cycle_lock.specs.Views.{total, ticketed, width}
use Rattle.cycle_lock.specs.Line.{Lies, Apart, InLine}

pub total_set : (f : View → ℕ) (vs : List View) (i : ℕ) (v w : View) → get_elem? vs i ≡ some v → total f (set vs i w) + f v ≡ total f vs + f w
total_set f [] i v w e = absurd (some-ne-none v (sym e))
total_set f (x ∷ xs) zero v w e = let s = ap f (some-injective x v e) in omega arith
total_set f (x ∷ xs) (suc i) v w e = let s = total_set f xs i v w e in omega arith

total_le : (f g : View → ℕ) (vs : List View) → ((j : ℕ) (v : View) → get_elem? vs j ≡ some v → f v ≤ g v) → total f vs ≤ total g vs
total_le f g [] each = omega arith
total_le f g (v ∷ vs) each = let a = each 0 v refl in let b = total_le f g vs (λ j u p. each (suc j) u p) in omega arith

stands_set : (vs : List View) (id : ℕ) (w : View) → ticketed w ≤ width w → ((j : ℕ) (u : View) → get_elem? vs j ≡ some u → ticketed u ≤ width u) → (j : ℕ) (u : View) → get_elem? (set vs id w) j ≡ some u → ticketed u ≤ width u
stands_set vs id w mine others j u p = ⊎_elim
    (λ (x : (j ≡ id) × (w ≡ u)). subst (λ (z : View). ticketed z ≤ width z) x.1 mine)
    (λ (x : (j ≢ id) × (get_elem? vs j ≡ some u)). others j u x.1)
    (at_set vs id j w u p)

lies_more : (drawn served t : ℕ) (st : Stage) → Lies drawn served t st → Lies (drawn + 1) served t st
lies_more drawn served t Resting l = tt
lies_more drawn served t Waiting l = (l.0, omega arith)
lies_more drawn served t HasTurn l = (l.0, omega arith)
lies_more drawn served t Serving l = (l.0, omega arith)
lies_more drawn served t Passed l = tt
lies_more drawn served t Drawn l = tt
lies_more drawn served t Joined l = tt

lies_in : (drawn served t : ℕ) (st : Stage) → Lies drawn served t st → tickets st ≡ 1 → (served ≤ t) × (t < drawn)
lies_in drawn served t Resting l e = absurd (omega arith)
lies_in drawn served t Waiting l e = l
lies_in drawn served t HasTurn l e = (omega arith, l.1)
lies_in drawn served t Serving l e = (omega arith, l.1)
lies_in drawn served t Passed l e = absurd (omega arith)
lies_in drawn served t Drawn l e = absurd (omega arith)
lies_in drawn served t Joined l e = absurd (omega arith)

lies_past : (drawn served t : ℕ) (st : Stage) → Lies drawn served t st → (tickets st ≡ 1 → t ≢ served) → Lies drawn (served + 1) t st
lies_past drawn served t Resting l n = tt
lies_past drawn served t Waiting l n = let m = n refl in (omega arith, l.1)
lies_past drawn served t HasTurn l n = absurd (n refl l.0)
lies_past drawn served t Serving l n = absurd (n refl l.0)
lies_past drawn served t Passed l n = tt
lies_past drawn served t Drawn l n = tt
lies_past drawn served t Joined l n = tt

-- who has the turn has the ticket that is served
pub turn_lies : (drawn served t : ℕ) (st : Stage) → has_turn st ≡ true → Lies drawn served t st → (tickets st ≡ 1) × (t ≡ served)
turn_lies drawn served t Resting e l = absurd (cc)
turn_lies drawn served t Waiting e l = absurd (cc)
turn_lies drawn served t HasTurn e l = (refl, l.0)
turn_lies drawn served t Serving e l = (refl, l.0)
turn_lies drawn served t Passed e l = absurd (cc)
turn_lies drawn served t Drawn e l = absurd (cc)
turn_lies drawn served t Joined e l = absurd (cc)

apart_set : (vs : List View) (id : ℕ) (w : View) → Apart vs → ((j : ℕ) (u : View) → j ≢ id → get_elem? vs j ≡ some u → ticketed u ≡ 1 → ticketed w ≡ 1 → u.ticket ≢ w.ticket) → Apart (set vs id w)
apart_set vs id w apart unlike i j a b p q ta tb same = ⊎_elim
    (λ (x : (i ≡ id) × (w ≡ a)). ⊎_elim
    (λ (y : (j ≡ id) × (w ≡ b)). x.0 ∙ sym y.0)
    (λ (y : (j ≢ id) × (get_elem? vs j ≡ some b)). absurd (unlike j b y.0 y.1 tb (ap ticketed x.1 ∙ ta) (sym same ∙ ap (λ (z : View). z.ticket) (sym x.1))))
    (at_set vs id j w b q))
    (λ (x : (i ≢ id) × (get_elem? vs i ≡ some a)). ⊎_elim
    (λ (y : (j ≡ id) × (w ≡ b)). absurd (unlike i a x.0 x.1 ta (ap ticketed y.1 ∙ tb) (same ∙ ap (λ (z : View). z.ticket) (sym y.1))))
    (λ (y : (j ≢ id) × (get_elem? vs j ≡ some b)). apart i j a b x.1 y.1 ta tb same)
    (at_set vs id j w b q))
    (at_set vs id i w a p)

each_set : (drawn served drawn' served' : ℕ) (vs : List View) (id : ℕ) (w : View) → Lies drawn' served' w.ticket w.stage
    → ((j : ℕ) (u : View) → j ≢ id → get_elem? vs j ≡ some u → Lies drawn' served' u.ticket u.stage)
    → (j : ℕ) (u : View) → get_elem? (set vs id w) j ≡ some u → Lies drawn' served' u.ticket u.stage
each_set drawn served drawn' served' vs id w mine others j u p = ⊎_elim
    (λ (x : (j ≡ id) × (w ≡ u)). subst (λ (z : View). Lies drawn' served' z.ticket z.stage) x.1 mine)
    (λ (x : (j ≢ id) × (get_elem? vs j ≡ some u)). others j u x.0 x.1)
    (at_set vs id j w u p)

-- the words that count tickets stay, and the seat keeps its ticket if it has one
pub line_kept : (ws ws' : List ℕ) (vs : List View) (l : InLine ws vs) (id : ℕ) (v w : View) → get_elem? vs id ≡ some v
    → length ws' ≡ length ws → get_or ws' 1 0 ≡ get_or ws 1 0 → get_or ws' 2 0 ≡ get_or ws 2 0 → ticketed w ≡ ticketed v → w.ticket ≡ v.ticket
    → ticketed w ≤ width w → Lies l.drawn l.served w.ticket w.stage → InLine ws' (set vs id w)
line_kept ws ws' vs l id v w at long first second has same wide lies = record {
  drawn = l.drawn;
  served = l.served;
  wide = long ∙ l.wide;
  drawn_is = first ∙ l.drawn_is;
  served_is = second ∙ l.served_is;
  counted = let s = total_set ticketed vs id v w at in let c = l.counted in omega arith;
  stands = stands_set vs id w wide l.stands;
  each = each_set l.drawn l.served l.drawn l.served vs id w lies (λ j u _ p. l.each j u p);
  apart = apart_set vs id w l.apart (λ j u ne p tu tw e. ne (l.apart j id u v p at tu (sym has ∙ tw) (e ∙ same)));
}

-- the words that count tickets stay, and a seat with no ticket rests
pub line_rests : (ws ws' : List ℕ) (vs : List View) (l : InLine ws vs) (id : ℕ) (v w : View) → get_elem? vs id ≡ some v
    → length ws' ≡ length ws → get_or ws' 1 0 ≡ get_or ws 1 0 → get_or ws' 2 0 ≡ get_or ws 2 0 → ticketed v ≡ 0 → w.stage ≡ Resting → InLine ws' (set vs id w)
line_rests ws ws' vs l id v w at long first second none out = let none' : ticketed w ≡ 0 = ap tickets out in record {
  drawn = l.drawn;
  served = l.served;
  wide = long ∙ l.wide;
  drawn_is = first ∙ l.drawn_is;
  served_is = second ∙ l.served_is;
  counted = let s = total_set ticketed vs id v w at in let c = l.counted in omega arith;
  stands = stands_set vs id w (omega arith) l.stands;
  each = each_set l.drawn l.served l.drawn l.served vs id w (subst (λ (z : Stage). Lies l.drawn l.served w.ticket z) (sym out) tt) (λ j u _ p. l.each j u p);
  apart = apart_set vs id w l.apart (λ j u ne p tu tw e. omega arith);
}

pub line_draws : (ws : List ℕ) (vs : List View) (l : InLine ws vs) (id : ℕ) (v w : View) → get_elem? vs id ≡ some v → ticketed v ≡ 0 → w.stage ≡ Waiting → w.ticket ≡ l.drawn → 1 ≤ width w
    → InLine (set ws 1 ((get_or ws 1 0 + 1) % 2 ^ 64)) (set vs id w)
line_draws ws vs l id v w at none st t wide' = let wide = l.wide in let c = l.counted in let one : ticketed w ≡ 1 = ap tickets st in record {
  drawn = l.drawn + 1;
  served = l.served;
  wide = length-set ws 1 ((get_or ws 1 0 + 1) % 2 ^ 64) ∙ l.wide;
  drawn_is = get_or-set_same ws 1 ((get_or ws 1 0 + 1) % 2 ^ 64) 0 (omega arith) ∙ (ap (λ (x : ℕ). (x + 1) % 2 ^ 64) l.drawn_is ∙ mod-add-mod l.drawn (2 ^ 64) 1);
  served_is = get_or-set_other ws 1 2 ((get_or ws 1 0 + 1) % 2 ^ 64) 0 (λ e. omega arith) ∙ l.served_is;
  counted = let s = total_set ticketed vs id v w at in omega arith;
  stands = stands_set vs id w (omega arith) l.stands;
  each = each_set l.drawn l.served (l.drawn + 1) l.served vs id w (subst (λ (z : Stage). Lies (l.drawn + 1) l.served w.ticket z) (sym st) (omega arith, omega arith))
      (λ j u _ p. lies_more l.drawn l.served u.ticket u.stage (l.each j u p));
  apart = apart_set vs id w l.apart (λ j u ne p tu tw e. let i = lies_in l.drawn l.served u.ticket u.stage (l.each j u p) tu in omega arith);
}

-- the seat that has its turn passes it on
pub line_passes : (ws : List ℕ) (vs : List View) (l : InLine ws vs) (id : ℕ) (v w : View) → get_elem? vs id ≡ some v → v.stage ≡ HasTurn → w.stage ≡ Passed
    → InLine (set ws 2 ((get_or ws 2 0 + 1) % 2 ^ 64)) (set vs id w)
line_passes ws vs l id v w at st out = let wide = l.wide in let c = l.counted in let one : ticketed v ≡ 1 = ap tickets st in let none : ticketed w ≡ 0 = ap tickets out in
    let mine = subst (λ (z : Stage). Lies l.drawn l.served v.ticket z) st (l.each id v at) in record {
      drawn = l.drawn;
      served = l.served + 1;
      wide = length-set ws 2 ((get_or ws 2 0 + 1) % 2 ^ 64) ∙ l.wide;
      drawn_is = get_or-set_other ws 2 1 ((get_or ws 2 0 + 1) % 2 ^ 64) 0 (λ e. omega arith) ∙ l.drawn_is;
      served_is = get_or-set_same ws 2 ((get_or ws 2 0 + 1) % 2 ^ 64) 0 (omega arith) ∙ (ap (λ (x : ℕ). (x + 1) % 2 ^ 64) l.served_is ∙ mod-add-mod l.served (2 ^ 64) 1);
      counted = let s = total_set ticketed vs id v w at in omega arith;
      stands = stands_set vs id w (omega arith) l.stands;
      each = each_set l.drawn l.served l.drawn (l.served + 1) vs id w (subst (λ (z : Stage). Lies l.drawn (l.served + 1) w.ticket z) (sym out) tt)
          (λ j u ne p. lies_past l.drawn l.served u.ticket u.stage (l.each j u p) (λ tu e. ne (l.apart j id u v p at tu one (e ∙ sym mine.0))));
      apart = apart_set vs id w l.apart (λ j u ne p tu tw e. omega arith);
    }

-- a ticket that waits and is the one served
pub line_served : (ws : List ℕ) (vs : List View) (l : InLine ws vs) (id : ℕ) (v : View) → get_elem? vs id ≡ some v → v.stage ≡ Waiting → get_or ws 2 0 ≡ v.ticket % 2 ^ 64 → total width vs ≤ 2 ^ 32 → v.ticket ≡ l.served
line_served ws vs l id v at st is few = let m = subst (λ (z : Stage). Lies l.drawn l.served v.ticket z) st (l.each id v at) in
    let a : l.served ≤ v.ticket = m.0 in let b : v.ticket < l.drawn = m.1 in let c = l.counted in let t = total_le ticketed width vs l.stands in
    sym (one_turn l.served v.ticket (2 ^ 64) a (omega arith) (sym l.served_is ∙ is))

-- only the seat whose ticket is served has the turn
pub line_alone : (ws : List ℕ) (vs : List View) (l : InLine ws vs) (id : ℕ) (v : View) → get_elem? vs id ≡ some v → v.stage ≡ Waiting → v.ticket ≡ l.served
    → (j : ℕ) (u : View) → get_elem? vs j ≡ some u → has_turn u.stage ≡ true → ⊥
line_alone ws vs l id v at st is j u p tu = let m = turn_lies l.drawn l.served u.ticket u.stage tu (l.each j u p) in
    let e : j ≡ id = l.apart j id u v p at m.0 (ap tickets st) (m.1 ∙ sym is) in
    let same : u ≡ v = some-injective u v (sym p ∙ (ap (λ (k : ℕ). get_elem? vs k) e ∙ at)) in
    let bad : true ≡ false = sym tu ∙ (ap (λ (z : View). has_turn z.stage) same ∙ ap has_turn st) in absurd (cc)

-- two seats that have the turn are one
pub line_one : (ws : List ℕ) (vs : List View) (l : InLine ws vs) (id : ℕ) (v : View) → get_elem? vs id ≡ some v → has_turn v.stage ≡ true
    → (j : ℕ) (u : View) → get_elem? vs j ≡ some u → has_turn u.stage ≡ true → j ≡ id
line_one ws vs l id v at st j u p tu = let m = turn_lies l.drawn l.served u.ticket u.stage tu (l.each j u p) in let n = turn_lies l.drawn l.served v.ticket v.stage st (l.each id v at) in
    l.apart j id u v p at m.0 n.0 (m.1 ∙ sym n.1)

-- a seat with no ticket comes last
pub total_snoc : (f : View → ℕ) (vs : List View) (r : View) → total f (vs ++ r ∷ []) ≡ total f vs + f r
total_snoc f [] r = omega arith
total_snoc f (x ∷ xs) r = let s = total_snoc f xs r in omega arith

pub at_new : (vs : List View) (r u : View) (j : ℕ) → get_elem? (vs ++ r ∷ []) j ≡ some u → (get_elem? vs j ≡ some u) ⊎ ((j ≡ length vs) × (r ≡ u))
at_new [] r u zero e = inr (refl, some-injective r u e)
at_new [] r u (suc j) e = absurd (some-ne-none u (sym e))
at_new (x ∷ xs) r u zero e = inl e
at_new (x ∷ xs) r u (suc j) e = ⊎_elim (λ (p : get_elem? xs j ≡ some u). inl p) (λ (p : (j ≡ length xs) × (r ≡ u)). inr (ap suc p.0, p.1)) (at_new xs r u j e)

pub line_more : (ws : List ℕ) (vs : List View) (l : InLine ws vs) (r : View) → r.stage ≡ Resting → InLine ws (vs ++ r ∷ [])
line_more ws vs l r out = let none : ticketed r ≡ 0 = ap tickets out in record {
  drawn = l.drawn;
  served = l.served;
  wide = l.wide;
  drawn_is = l.drawn_is;
  served_is = l.served_is;
  counted = let s = total_snoc ticketed vs r in let c = l.counted in omega arith;
  stands = λ j u p. ⊎_elim (λ (q : get_elem? vs j ≡ some u). l.stands j u q) (λ (q : (j ≡ length vs) × (r ≡ u)). let e = ap ticketed q.1 in omega arith) (at_new vs r u j p);
  each = λ j u p. ⊎_elim (λ (q : get_elem? vs j ≡ some u). l.each j u q)
      (λ (q : (j ≡ length vs) × (r ≡ u)). subst (λ (z : View). Lies l.drawn l.served z.ticket z.stage) q.1 (subst (λ (z : Stage). Lies l.drawn l.served r.ticket z) (sym out) tt)) (at_new vs r u j p);
  apart = λ i j a b p q ta tb same. ⊎_elim
      (λ (x : get_elem? vs i ≡ some a). ⊎_elim (λ (y : get_elem? vs j ≡ some b). l.apart i j a b x y ta tb same) (λ (y : (j ≡ length vs) × (r ≡ b)). let e = ap ticketed y.1 in absurd (omega arith)) (at_new vs r b j q))
      (λ (x : (i ≡ length vs) × (r ≡ a)). let e = ap ticketed x.1 in absurd (omega arith))
      (at_new vs r a i p);
}
