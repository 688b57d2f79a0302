-- A search goes back to a level, and on from there at prices that rose outside what it had reached.
use Rattle.std.proofs.Common.{◌≡◌, ℕ, ◌+◌, ◌<◌, ◌≤◌, Bool, true, false, List, length, get_or, refl, sym, ap, ◌∙◌, subst, arith, inl, inr, true≢false}
use Rattle.std.proofs.lemmas.Bool.{cases_eq, cases_lt, ne_eqb}
use Rattle.std.proofs.lemmas.List.{get_or_past}
use Rattle.member_set.specs.declared.set.MemberSet.{MemberSet}
use Rattle.member_set.specs.Members.{has}
use Rattle.residual_graph.specs.declared.flow.Flow.{Flow}
use Rattle.residual_graph.specs.Residual.{ResidualData, IsResidual}
use Rattle.residual_graph.specs.Arcs.{arc_count, pair, is_forward, flow_at, head, head_in, tail, tail_in}
use Rattle.path_solver.specs.declared.search.Search.{Search}
use Rattle.path_solver.specs.declared.work.Work.{Work}
use Rattle.path_solver.specs.Prices.{IsTight, IsOpen}
use Rattle.path_solver.specs.Levels.{IsReached, AreCut, layer_at, AreLayers, AreWholeLayers}
use Rattle.path_solver.specs.Searches.{IsSpread, AreReached, AreEntered, AreCutOff}
use Rattle.path_solver.specs.Rests.{HaveSome}
use Rattle.path_solver.specs.Phases.{raised_price}
use Rattle.path_solver.specs.Works.{IsWork, IsSearched}
use Rattle.path_solver.proofs.Ends.{ends_in}
use Rattle.path_solver.proofs.Spreads.{few_levels, spread_none}

-- where nobody is entered, it is still a cut
pub cut_raised : {flows : List Flow} {p surplus lack levels : List ℕ} (p' : List ℕ) (entered : MemberSet) → AreCut flows p surplus lack levels → AreEntered flows p' levels entered → ((v : ℕ) → has entered v ≡ false) → AreCut flows p' surplus lack levels
cut_raised {flows} p' entered cut ways none = record {
  closed = λ a l is_open was e. true≢false (sym (ways a l is_open was e) ∙ none (head flows a));
  senders = cut.senders;
  receivers = cut.receivers;
}

-- who is reached keeps the price
pub still_priced : (levels p : List ℕ) (v : ℕ) → IsReached levels v → raised_price levels p v ≡ get_or p v 0
still_priced levels p v is =
    let kept : raised_price levels p v ≡ get_or p v 0 = rw (ne_eqb (get_or levels v 0) 65535 is) refl in
    kept

-- a search that starts at the members that have to receive
pub searched_start : (w : Work) (p levels : List ℕ) (layers : List MemberSet) (s : Search) (receivers : MemberSet) → IsWork w → length levels ≡ w.residual.members → HaveSome w.balance.lack.items receivers
    → s.level ≡ 0 → s.now ≡ receivers → ((v : ℕ) → has s.seen v ≡ false) → ((v : ℕ) → v < length levels → get_or levels v 0 ≡ 65535) → IsSearched w p levels layers s
searched_start w p levels layers s receivers work len some zero same empty none = record {
  spread = rw (zero, same) (spread_none w.residual p w.balance.surplus.items w.balance.lack.items levels receivers s.seen len (sym work.lack) none some empty work.residual);
  passed = λ k v l. absurd (omega (arith, l, zero));
  whole = λ k v l. absurd (omega (arith, l, zero));
}

-- the layers below the level are as before
pub passed_back : (levels new : List ℕ) (layers : List MemberSet) (top level : ℕ) → length new ≡ length levels → AreCutOff level levels new → level < top → AreLayers levels layers top → AreLayers new layers level
passed_back levels new layers top level one_each off lower passed k v l on =
    let at = passed k v (omega (arith, l, lower)) on in
    (omega (arith, at.0, one_each), off.kept v at.0 (omega (arith, at.1, l)) ∙ at.1)

pub whole_back : (levels new : List ℕ) (layers : List MemberSet) (top level : ℕ) → level < 65535 → length new ≡ length levels → AreCutOff level levels new → level < top → AreWholeLayers levels layers top → AreWholeLayers new layers level
whole_back levels new layers top level low one_each off lower whole k v l inside e =
    let inner : v < length levels = omega (arith, inside, one_each) in
    elim (cases_lt (get_or levels v 0) level) [
      | inl less ↦ whole k v (omega (arith, l, lower)) inner (omega (arith, off.kept v inner less, e))
      | inr more ↦ absurd (omega (arith, off.gone v inner more, e, l, low))
    ]

-- a pair between members of the same prices is still tight
same_tight : (p p' : List ℕ) (f : Flow) (b : Bool) → get_or p' (tail_in f b) 0 ≡ get_or p (tail_in f b) 0 → get_or p' (head_in f b) 0 ≡ get_or p (head_in f b) 0 → IsTight p f → IsTight p' f
same_tight p p' f true at_tail at_head tight =
    let t : get_or p' f.seller 0 ≡ get_or p f.seller 0 = at_tail in
    let h : get_or p' f.buyer 0 ≡ get_or p f.buyer 0 = at_head in
    omega (arith, t, h, tight)
same_tight p p' f false at_tail at_head tight =
    let t : get_or p' f.buyer 0 ≡ get_or p f.buyer 0 = at_tail in
    let h : get_or p' f.seller 0 ≡ get_or p f.seller 0 = at_head in
    omega (arith, t, h, tight)

module _ (r : ResidualData) (p p' surplus lack levels new : List ℕ) (top level : ℕ) (now seen here left : MemberSet) (layers : List MemberSet) (residual : IsResidual r) (h : IsSpread r p surplus lack levels top now seen)
    (same : (v : ℕ) → v < r.members → IsReached levels v → get_or p' v 0 ≡ get_or p v 0) (one_each : length new ≡ length levels) (off : AreCutOff level levels new) (lower : level < top)
    (passed : AreLayers levels layers top) (whole : AreWholeLayers levels layers top) (at_here : here ≡ layer_at layers level) (known : AreReached new left)
    (entered : (a : ℕ) → a < arc_count r.flows → IsOpen r.flows p' a → IsReached levels (head r.flows a) → get_or levels (tail r.flows a) 0 ≡ 65535 → level ≤ get_or levels (head r.flows a) 0) where
  low : level < 65535
  low = omega (arith, few_levels residual h, residual.few, lower)

  inner : (v : ℕ) → v < r.members → v < length levels
  inner v l = omega (arith, l, h.one_each)

  -- who is reached still was reached below the level
  was : (v : ℕ) → v < r.members → IsReached new v → IsReached levels v × (get_or levels v 0 < level) × (get_or new v 0 ≡ get_or levels v 0)
  was v l is =
      elim (cases_lt (get_or levels v 0) level) [
        | inl less ↦ (λ e. omega (arith, e, less, low), less, off.kept v (inner v l) less)
        | inr more ↦ absurd (is (off.gone v (inner v l) more))
      ]

  -- the members of the level come next
  comes : (v : ℕ) → v < r.members → get_or levels v 0 ≡ level → has here v ≡ true
  comes v l e = ap (λ s. has s v) at_here ∙ whole level v lower (inner v l) e

  came : (v : ℕ) → has here v ≡ true → (v < r.members) × (get_or levels v 0 ≡ level)
  came v on =
      let at = passed level v lower (sym (ap (λ s. has s v) at_here) ∙ on) in
      (omega (arith, at.0, h.one_each), at.1)

  -- an arc between members that were reached is open as before
  open_before : (a : ℕ) → a < arc_count r.flows → IsOpen r.flows p' a → IsReached levels (head r.flows a) → IsReached levels (tail r.flows a) → IsOpen r.flows p a
  open_before a l is_open at_head at_tail =
      let ends = ends_in r residual a l in
      (is_open.0, same_tight p' p (flow_at r.flows (pair a)) (is_forward a) (sym (same (tail r.flows a) ends.0 at_tail)) (sym (same (head r.flows a) ends.1 at_head)) is_open.1)

  open_after : (a : ℕ) → a < arc_count r.flows → IsOpen r.flows p a → IsReached levels (head r.flows a) → IsReached levels (tail r.flows a) → IsOpen r.flows p' a
  open_after a l is_open at_head at_tail =
      let ends = ends_in r residual a l in
      (is_open.0, same_tight p p' (flow_at r.flows (pair a)) (is_forward a) (same (tail r.flows a) ends.0 at_tail) (same (head r.flows a) ends.1 at_head) is_open.1)

  -- the arc down from a member that was reached
  leads : (v : ℕ) → v < r.members → IsReached levels v → 0 < get_or levels v 0 → get_or levels v 0 ≤ level → (a : ℕ) × (a < arc_count r.flows) × (tail r.flows a ≡ v) × IsOpen r.flows p' a × (get_or new (head r.flows a) 0 + 1 ≡ get_or levels v 0)
  leads v l at above within =
      let own = h.down v l at above in
      let d = own.1 in
      let in_head : head r.flows own.0 < r.members = (ends_in r residual own.0 d.arc).1 in
      let at_head : IsReached levels (head r.flows own.0) = λ e. omega (arith, e, d.down, h.below v l at, lower, within, low) in
      let at_tail : IsReached levels (tail r.flows own.0) = subst (IsReached levels) (sym d.tail) at in
      let kept = off.kept (head r.flows own.0) (inner (head r.flows own.0) in_head) (omega (arith, d.down, within)) in
      (own.0, d.arc, d.tail, open_after own.0 d.arc (d.room, d.tight) at_head at_tail, ap (λ x. x + 1) kept ∙ d.down)

  -- who is not reached any more, but was, was on the level or behind it
  behind : (v : ℕ) → v < r.members → get_or new v 0 ≡ 65535 → level ≤ get_or levels v 0
  behind v l e =
      elim (cases_lt (get_or levels v 0) level) [
        | inl less ↦ absurd (omega (arith, off.kept v (inner v l) less, e, less, low))
        | inr more ↦ more
      ]

  -- an open arc from a member that is not reached any more leads to the level below, from one that comes next
  enters : (a : ℕ) → a < arc_count r.flows → IsOpen r.flows p' a → IsReached new (head r.flows a) → get_or new (tail r.flows a) 0 ≡ 65535 → (has here (tail r.flows a) ≡ true) × (get_or levels (head r.flows a) 0 + 1 ≡ level)
  enters a l is_open is e =
      let ends = ends_in r residual a l in
      let at_head = was (head r.flows a) ends.1 is in
      elim (cases_eq (get_or levels (tail r.flows a) 0) 65535) [
        | inl gone ↦ absurd (omega (arith, entered a l is_open at_head.0 gone, at_head.1))
        | inr at_tail ↦
            let step = h.fewest.steps a l (open_before a l is_open at_head.0 at_tail) at_head.0 at_tail in
            let least = behind (tail r.flows a) ends.0 e in
            (comes (tail r.flows a) ends.0 (omega (arith, step, least, at_head.1)), omega (arith, step, least, at_head.1))
      ]

  -- who has to receive was on the lowest level
  receiver : (v : ℕ) → v < r.members → 0 < get_or lack v 0 → get_or levels v 0 ≡ 0
  receiver v l some = h.first v l some (omega (arith, lower))

  pub spread_back : IsSpread r p' surplus lack new level here left
  spread_back = record {
    one_each = one_each ∙ h.one_each;
    known = λ v. (
      λ on. (omega (arith, ((known v).0 on).0, one_each, h.one_each), ((known v).0 on).1),
      λ both. (known v).1 (omega (arith, both.0, one_each, h.one_each), both.1),
    );
    below = λ v l is. let w = was v l is in omega (arith, w.1, w.2);
    lowest = λ v l zero. let w = was v l (λ e. omega (arith, e, zero)) in h.lowest v l (omega (arith, w.2, zero));
    down = λ v l is above.
        let w = was v l is in
        let own = leads v l w.0 (omega (arith, above, w.2)) (omega (arith, w.1)) in (
          own.0,
          record {
            arc = own.1;
            tail = own.2;
            room = own.3.0;
            tight = own.3.1;
            down = own.4 ∙ sym w.2;
          },
        );
    senders = λ v l some. off.gone v (inner v l) (omega (arith, h.senders v l some, low));
    filled = λ g l.
        let t = h.filled g (omega (arith, l, lower)) in
        (t.0, omega (arith, t.1, one_each), off.kept t.0 t.1 (omega (arith, t.2, l)) ∙ t.2);
    next = record {
      member = λ v on. (came v on).0;
      new = λ v on. let c = came v on in off.gone v (inner v c.0) (omega (arith, c.1));
      lowest = λ v on zero. let c = came v on in h.lowest v c.0 (c.1 ∙ zero);
      led = λ v on above.
          let c = came v on in
          let own = leads v c.0 (λ e. omega (arith, e, c.1, low)) (omega (arith, above, c.1)) (omega (arith, c.1)) in (
            own.0,
            record {
              arc = own.1;
              tail = own.2;
              is_open = own.3;
              down = own.4 ∙ c.1;
            },
          );
    };
    receivers = λ v some e.
        elim (cases_lt v r.members) [
          | inl l ↦
              comes v l (omega (arith, receiver v l some, behind v l e))
          | inr out ↦ absurd (omega (arith, get_or_past new v 0 (omega (arith, out, one_each, h.one_each)), e))
        ];
    closed = λ a l is_open is e. (enters a l is_open is e).0;
    fewest = record {
      all = λ a l is_open is less e.
          let ends = ends_in r residual a l in
          let at_head = was (head r.flows a) ends.1 is in
          omega (arith, (enters a l is_open is e).1, at_head.2, less);
      steps = λ a l is_open is_head is_tail.
          let ends = ends_in r residual a l in
          let at_head = was (head r.flows a) ends.1 is_head in
          let at_tail = was (tail r.flows a) ends.0 is_tail in
          omega (arith, h.fewest.steps a l (open_before a l is_open at_head.0 at_tail.0) at_head.0 at_tail.0, at_head.2, at_tail.2);
    };
    first = λ v l some above. let zero = receiver v l some in off.kept v (inner v l) (omega (arith, zero, above)) ∙ zero;
  }
