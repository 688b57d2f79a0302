-- A search goes on by a level.
use Rattle.std.proofs.Common.{◌≡◌, ℕ, ◌+◌, ◌<◌, ◌≤◌, ◌↔◌, true, false, not, ◌&&◌, ◌||◌, List, length, get_or, set, refl, sym, ap, ◌∙◌, subst, arith, inl, inr, true≢false, get_or-set_same, get_or-set_other}
use Rattle.std.proofs.lemmas.Bool.{cases_eq, cases_lt, cases_Bool, and_parts, and_from, not-true, or_cases, or_left, or_right, false_from_ne_true}
use Rattle.std.proofs.lemmas.List.{get_or_past}
use Rattle.member_set.specs.declared.set.MemberSet.{MemberSet}
use Rattle.member_set.specs.Members.{has, no_members}
use Rattle.residual_graph.specs.Residual.{ResidualData, IsResidual}
use Rattle.residual_graph.specs.Arcs.{arc_count, flow_at, head, tail}
use Rattle.path_solver.specs.declared.entries.Entry.{Entry}
use Rattle.path_solver.specs.Prices.{IsTight, IsOpen}
use Rattle.path_solver.specs.Entries.{AreEntries, IsOpenInto, is_open_to}
use Rattle.path_solver.specs.Groups.{AreSorted}
use Rattle.path_solver.specs.Rests.{HaveSome}
use Rattle.path_solver.specs.Levels.{IsReached, LeadsDown, AreLevels, AreMet, AreShortest, AreCut, IsSource, layer_at, AreLayers, AreWholeLayers}
use Rattle.path_solver.proofs.Near.{near_open, open_near}
use Rattle.path_solver.proofs.Ends.{ends_in}
use Rattle.path_solver.specs.Searches.{AreNext, IsSpread}
use Rattle.path_solver.proofs.Pigeons.{few_values}
use Rattle.path_solver.proofs.Twins.{twin_of}

-- who has an amount is a member
pub amount_in : (amounts : List ℕ) (v : ℕ) → 0 < get_or amounts v 0 → (n : ℕ) → length amounts ≡ n → v < n
amount_in amounts v some n len =
    elim (cases_lt v n) [
      | inl l ↦ l
      | inr out ↦ absurd (omega (arith, some, get_or_past amounts v 0 (omega (arith, out, len))))
    ]

-- at the start
pub spread_none : (r : ResidualData) (p surplus lack levels : List ℕ) (now reached : MemberSet) → length levels ≡ r.members → length lack ≡ r.members → ((v : ℕ) → v < length levels → get_or levels v 0 ≡ 65535) → HaveSome lack now → ((v : ℕ) → has reached v ≡ false) → IsResidual r → IsSpread r p surplus lack levels 0 now reached
spread_none r p surplus lack levels now reached one_each len none receivers empty residual =
    let inside = λ (v : ℕ) (on : has now v ≡ true). amount_in lack v ((receivers v).0 on) r.members len in
    let inner : (v : ℕ) → v < r.members → v < length levels = λ v l. omega (arith, l, one_each) in
    let at = λ (v : ℕ) (l : v < r.members). none v (inner v l) in
    record {
      one_each = one_each;
      known = λ v. (λ on. absurd (true≢false (sym on ∙ empty v)), λ both. absurd (both.1 (at v both.0)));
      below = λ v l was. absurd (was (at v l));
      lowest = λ v l zero. absurd (omega (arith, zero, at v l));
      down = λ v l was. absurd (was (at v l));
      senders = λ v l some. at v l;
      filled = λ g l. absurd (omega (arith, l));
      next = record {
        member = inside;
        new = λ v on. at v (inside v on);
        lowest = λ v on zero. (receivers v).0 on;
        led = λ v on above. absurd (omega (arith, above));
      };
      receivers = λ v some e. (receivers v).1 some;
      closed = λ a l is_open was e. absurd (was (at (head r.flows a) (ends_in r residual a l).1));
      fewest = record {
        all = λ a l is_open was. absurd (was (at (head r.flows a) (ends_in r residual a l).1));
        steps = λ a l is_open was. absurd (was (at (head r.flows a) (ends_in r residual a l).1));
      };
      first = λ v l some above. absurd (omega (arith, above));
    }

module _ {r : ResidualData} {p surplus lack levels : List ℕ} {level : ℕ} {now reached : MemberSet} (residual : IsResidual r) (h : IsSpread r p surplus lack levels level now reached) where
  -- there are no more levels than members
  pub few_levels : level ≤ r.members
  few_levels = omega (arith, few_values levels level h.filled, h.one_each)

  low : level < 65535
  low = omega (arith, few_levels, residual.few)

  -- some of the next members are put on their level
  module _ (new : List ℕ) (some : MemberSet) (subset : (v : ℕ) → has some v ≡ true → has now v ≡ true) (one_each : length new ≡ length levels) (marked : (v : ℕ) → has some v ≡ true → get_or new v 0 ≡ level) (others : (v : ℕ) → has some v ≡ false → get_or new v 0 ≡ get_or levels v 0) where
    was_there : (v : ℕ) → IsReached levels v → get_or new v 0 ≡ get_or levels v 0
    was_there v was =
        elim (cases_Bool (has some v)) [
          | inl on ↦ absurd (was (h.next.new v (subset v on)))
          | inr off ↦ others v off
        ]

    marked_reached : (v : ℕ) → has some v ≡ true → IsReached new v
    marked_reached v on e = omega (arith, marked v on, e, low)

    pub lowest_more : (v : ℕ) → v < r.members → get_or new v 0 ≡ 0 → 0 < get_or lack v 0
    lowest_more v l zero =
        elim (cases_Bool (has some v)) [
          | inl on ↦ h.next.lowest v (subset v on) (sym (marked v on) ∙ zero)
          | inr off ↦ h.lowest v l (sym (others v off) ∙ zero)
        ]

    lead : (v a : ℕ) → a < arc_count r.flows → tail r.flows a ≡ v → IsOpen r.flows p a → IsReached levels (head r.flows a) → get_or levels (head r.flows a) 0 + 1 ≡ get_or new v 0 → LeadsDown r.flows p new v a
    lead v a l at_tail is_open was down = record {
      arc = l;
      tail = at_tail;
      room = is_open.0;
      tight = is_open.1;
      down = ap (λ x. x + 1) (was_there (head r.flows a) was) ∙ down;
    }

    pub down_more : (v : ℕ) → v < r.members → IsReached new v → 0 < get_or new v 0 → (a : ℕ) × LeadsDown r.flows p new v a
    down_more v l is above =
        elim (cases_Bool (has some v)) [
          | inl on ↦
              let own = h.next.led v (subset v on) (omega (arith, marked v on, above)) in
              let d = own.1 in
              (own.0, lead v own.0 d.arc d.tail d.is_open (λ e. omega (arith, e, d.down, low)) (d.down ∙ sym (marked v on)))
          | inr off ↦
              let was : IsReached levels v = λ e. is (others v off ∙ e) in
              let own = h.down v l was (omega (arith, others v off, above)) in
              let d = own.1 in
              (own.0, lead v own.0 d.arc d.tail (d.room, d.tight) (λ e. omega (arith, e, d.down, low, h.below v l was)) (d.down ∙ sym (others v off)))
        ]

    steps_more : (a : ℕ) → a < arc_count r.flows → IsOpen r.flows p a → IsReached new (head r.flows a) → IsReached new (tail r.flows a) → get_or new (tail r.flows a) 0 ≤ get_or new (head r.flows a) 0 + 1
    steps_more a l is_open is_head is_tail =
        let h' = head r.flows a in
        let t' = tail r.flows a in
        elim (cases_Bool (has some (tail r.flows a))) [
          | inl on_t ↦
              elim (cases_Bool (has some (head r.flows a))) [
                | inl on_h ↦ omega (arith, marked t' on_t, marked h' on_h)
                | inr off_h ↦
                    elim (cases_lt (get_or levels (head r.flows a) 0 + 1) level) [
                      | inl less ↦ absurd (h.fewest.all a l is_open (λ e. is_head (others h' off_h ∙ e)) less (h.next.new t' (subset t' on_t)))
                      | inr more ↦ omega (arith, marked t' on_t, others h' off_h, more)
                    ]
              ]
          | inr off_t ↦
              let was_t : IsReached levels (tail r.flows a) = λ e. is_tail (others t' off_t ∙ e) in
              let low_t = h.below t' (ends_in r residual a l).0 was_t in
              elim (cases_Bool (has some (head r.flows a))) [
                | inl on_h ↦ omega (arith, others t' off_t, low_t, marked h' on_h)
                | inr off_h ↦
                    let old = h.fewest.steps a l is_open (λ e. is_head (others h' off_h ∙ e)) was_t in
                    omega (arith, others t' off_t, others h' off_h, old)
              ]
        ]

    all_more : (a : ℕ) → a < arc_count r.flows → IsOpen r.flows p a → IsReached new (head r.flows a) → get_or new (head r.flows a) 0 + 1 < level → IsReached new (tail r.flows a)
    all_more a l is_open is_head less e =
        let h' = head r.flows a in
        elim (cases_Bool (has some (head r.flows a))) [
          | inl on ↦ omega (arith, marked h' on, less)
          | inr off ↦
              let was = h.fewest.all a l is_open (λ q. is_head (others h' off ∙ q)) (omega (arith, others h' off, less)) in
              was (sym (was_there (tail r.flows a) was) ∙ e)
        ]

    first_more : (v : ℕ) → v < r.members → 0 < get_or lack v 0 → 0 < level → get_or new v 0 ≡ 0
    first_more v l receives above =
        let zero = h.first v l receives above in
        was_there v (λ e. omega (arith, e, zero)) ∙ zero

    met_more : ((v : ℕ) → has now v ≡ true → 0 < get_or surplus v 0 → has some v ≡ true) → AreMet r.flows p surplus new level
    met_more meets a l is_open is_head at sends e =
        let h' = head r.flows a in
        let t' = tail r.flows a in
        elim (cases_Bool (has some (head r.flows a))) [
          | inl on ↦ omega (arith, marked h' on, at)
          | inr off_h ↦
              elim (cases_Bool (has some (tail r.flows a))) [
                | inl on ↦ marked_reached t' on e
                | inr off_t ↦
                    let next = h.closed a l is_open (λ q. is_head (others h' off_h ∙ q)) (sym (others t' off_t) ∙ e) in
                    true≢false (sym (meets t' next sends) ∙ off_t)
              ]
        ]

    pub shortest_found : ((v : ℕ) → has now v ≡ true → 0 < get_or surplus v 0 → has some v ≡ true) → (s : ℕ) → has some s ≡ true → length surplus ≡ r.members → length lack ≡ r.members → AreShortest r.flows p surplus lack new (get_or new s 0)
    shortest_found meets s on len len_l =
        subst (AreShortest r.flows p surplus lack new) (sym (marked s on))
        (record {
          fewest = record { all = all_more; steps = steps_more };
          met = met_more meets;
          senders = λ v sends is.
              elim (cases_Bool (has some v)) [
                | inl on_v ↦ omega (arith, marked v on_v)
                | inr off ↦ absurd (is (others v off ∙ h.senders v (amount_in surplus v sends r.members len) sends))
              ];
          receivers = λ v receives above. first_more v (amount_in lack v receives r.members len_l) receives above;
          low = low;
        })

    -- where one of them has to send, these are levels
    pub spread_found : (s : ℕ) → has some s ≡ true → 0 < get_or surplus s 0 → IsSource surplus new s × AreLevels r.flows p lack new
    spread_found s on sends = (
      record { member = omega (arith, h.next.member s (subset s on), h.one_each, one_each); sends = sends; reached = marked_reached s on },
      record {
        lowest = λ v l zero. lowest_more v (omega (arith, l, h.one_each, one_each)) zero;
        down = λ v l is above. down_more v (omega (arith, l, h.one_each, one_each)) is above;
      },
    )

    -- they are the layer of this level
    pub layers_more : (layers : List MemberSet) → level < length layers → AreLayers levels layers level → AreLayers new (set layers level some) (level + 1)
    layers_more layers long old k v lt on =
        elim (cases_eq k level) [
          | inl e ↦
              let here : has some v ≡ true = ap (λ s. has s v) (sym (get_or-set_same layers level some no_members long)) ∙ subst (λ i. has (layer_at (set layers level some) i) v ≡ true) e on in
              (omega (arith, h.next.member v (subset v here), h.one_each, one_each), marked v here ∙ sym e)
          | inr ne ↦
              let was = old k v (omega (arith, lt, ne)) (ap (λ s. has s v) (sym (get_or-set_other layers level k some no_members ne)) ∙ on) in
              (omega (arith, was.0, one_each), was_there v (λ q. omega (arith, q, was.1, lt, low)) ∙ was.1)
        ]

    pub whole_more : (layers : List MemberSet) → level < length layers → AreWholeLayers levels layers level → AreWholeLayers new (set layers level some) (level + 1)
    whole_more layers long old k v lt inside at =
        elim (cases_eq k level) [
          | inl e ↦
              elim (cases_Bool (has some v)) [
                | inl on ↦ subst (λ i. has (layer_at (set layers level some) i) v ≡ true) (sym e) (ap (λ s. has s v) (get_or-set_same layers level some no_members long) ∙ on)
                | inr off ↦
                    let same = others v off in
                    absurd (omega (arith, h.below v (omega (arith, inside, one_each, h.one_each)) (λ q. omega (arith, q, same, at, e, low)), same, at, e))
              ]
          | inr ne ↦
              elim (cases_Bool (has some v)) [
                | inl on ↦ absurd (omega (arith, marked v on, at, ne))
                | inr off ↦ ap (λ s. has s v) (get_or-set_other layers level k some no_members ne) ∙ old k v (omega (arith, lt, ne)) (omega (arith, inside, one_each)) (sym (others v off) ∙ at)
              ]
        ]

  -- all of them are put there, none of them has to send, and there is one
  module _ {entries : List Entry} {groups : List MemberSet} (new : List ℕ) (near rest more : MemberSet) (are : AreEntries r entries) (sorted : AreSorted r.members p groups)
      (one_each : length new ≡ length levels) (marked : (v : ℕ) → has now v ≡ true → get_or new v 0 ≡ level) (others : (v : ℕ) → has now v ≡ false → get_or new v 0 ≡ get_or levels v 0)
      (one : ℕ) (is_one : has now one ≡ true) (quiet : (v : ℕ) → has now v ≡ true → 0 < get_or surplus v 0 → ⊥)
      (nears : (u : ℕ) → has near u ≡ true → IsOpenInto entries groups p now u) (all : (v u : ℕ) → has now v ≡ true → is_open_to entries groups (get_or p v 0) v u ≡ true → has near u ≡ true)
      (mores : (v : ℕ) → has more v ≡ (has reached v || has now v)) (rests : (v : ℕ) → has rest v ≡ (has near v && not (has more v))) where
    itself : (v : ℕ) → has now v ≡ true → has now v ≡ true
    itself v on = on

    reached_more : (v : ℕ) → (has more v ≡ true) ↔ ((v < r.members) × IsReached new v)
    reached_more v = (
      λ on.
          elim (or_cases (has reached v) (has now v) (sym (mores v) ∙ on)) [
            | inl old ↦
                let was = (h.known v).0 old in
                (was.0, λ e. was.1 (sym (was_there new now itself one_each marked others v was.1) ∙ e))
            | inr here ↦ (h.next.member v here, marked_reached new now itself one_each marked others v here)
          ],
      λ both.
          mores v
          ∙ elim (cases_Bool (has now v)) [
            | inl on ↦ or_right (has reached v) (has now v) on
            | inr off ↦ or_left (has reached v) (has now v) ((h.known v).1 (both.0, λ e. both.1 (others v off ∙ e)))
          ],
    )

    -- a member that is still not reached was not to come now
    off_now : (v : ℕ) → get_or new v 0 ≡ 65535 → has now v ≡ false
    off_now v e = false_from_ne_true (has now v) (λ on. marked_reached new now itself one_each marked others v on e)

    next_more : AreNext r p lack new (level + 1) rest
    next_more =
        let from = λ (u : ℕ) (on : has rest u ≡ true). nears u (and_parts (has near u) (not (has more u)) (sym (rests u) ∙ on)).0 in
        let arc_of = λ (u : ℕ) (on : has rest u ≡ true). let o = from u on in near_open o.0 residual are sorted (h.next.member o.0 o.1) u o.2 in
        let inside : (u : ℕ) → has rest u ≡ true → u < r.members = λ u on. let a = arc_of u on in let l : head r.flows a.0 < r.members = (ends_in r residual a.0 a.1.0).1 in let is : head r.flows a.0 ≡ u = a.1.2 in omega (arith, l, is) in
        record {
          member = inside;
          new = λ u on.
              let off = not-true (has more u) (and_parts (has near u) (not (has more u)) (sym (rests u) ∙ on)).1 in
              elim (cases_eq (get_or new u 0) 65535) [
                | inl e ↦ e
                | inr ne ↦ absurd (true≢false (sym ((reached_more u).1 (inside u on, ne)) ∙ off))
              ];
          lowest = λ u on zero. absurd (omega (arith, zero));
          led = λ u on above.
              let o = from u on in
              let a = arc_of u on in
              let t = twin_of r.flows a.0 a.1.0 in (
                t.t,
                record {
                  arc = t.arc;
                  tail = t.starts ∙ a.1.2;
                  is_open = (omega (arith, t.roomy, a.1.3.0), subst (λ k. IsTight p (flow_at r.flows k)) (sym t.same_pair) a.1.3.1);
                  down = ap (λ v. get_or new v 0 + 1) (t.ends ∙ a.1.1) ∙ ap (λ x. x + 1) (marked o.0 o.1);
                },
              );
        }

    pub spread_more : IsSpread r p surplus lack new (level + 1) rest more
    spread_more = record {
      one_each = one_each ∙ h.one_each;
      known = reached_more;
      below = λ v l is.
          elim (cases_Bool (has now v)) [
            | inl on ↦ omega (arith, marked v on)
            | inr off ↦ omega (arith, others v off, h.below v l (λ e. is (others v off ∙ e)))
          ];
      lowest = lowest_more new now itself one_each marked others;
      down = down_more new now itself one_each marked others;
      senders = λ v l some.
          elim (cases_Bool (has now v)) [
            | inl on ↦ absurd (quiet v on some)
            | inr off ↦ others v off ∙ h.senders v l some
          ];
      filled = λ g l.
          elim (cases_eq g level) [
            | inl e ↦ (one, omega (arith, h.next.member one is_one, h.one_each, one_each), marked one is_one ∙ sym e)
            | inr ne ↦
                let t = h.filled g (omega (arith, l, ne)) in
                (t.0, omega (arith, t.1, one_each), was_there new now itself one_each marked others t.0 (λ e. omega (arith, e, t.2, l, low)) ∙ t.2)
          ];
      next = next_more;
      receivers = λ v some e.
          let off = off_now v e in
          absurd (true≢false (sym (h.receivers v some (sym (others v off) ∙ e)) ∙ off));
      closed = λ a l is_open is e.
          let off = off_now (tail r.flows a) e in
          let old : get_or levels (tail r.flows a) 0 ≡ 65535 = sym (others (tail r.flows a) off) ∙ e in
          elim (cases_Bool (has now (head r.flows a))) [
            | inl on ↦
                let near_tail : has near (tail r.flows a) ≡ true =
                all (head r.flows a) (tail r.flows a) on (open_near (head r.flows a) residual are sorted (h.next.member (head r.flows a) on) a l is_open refl) in
                let not_more : has more (tail r.flows a) ≡ false = false_from_ne_true (has more (tail r.flows a)) (λ on. ((reached_more (tail r.flows a)).0 on).1 e) in
                rests (tail r.flows a) ∙ and_from (has near (tail r.flows a)) (not (has more (tail r.flows a))) near_tail (ap not not_more)
            | inr off_head ↦
                absurd (true≢false (sym (h.closed a l is_open (λ q. is (others (head r.flows a) off_head ∙ q)) old) ∙ off))
          ];
      fewest = record {
        all = λ a l is_open is less e.
            let off = off_now (tail r.flows a) e in
            let old : get_or levels (tail r.flows a) 0 ≡ 65535 = sym (others (tail r.flows a) off) ∙ e in
            elim (cases_Bool (has now (head r.flows a))) [
              | inl on ↦ omega (arith, marked (head r.flows a) on, less)
              | inr off_head ↦ true≢false (sym (h.closed a l is_open (λ q. is (others (head r.flows a) off_head ∙ q)) old) ∙ off)
            ];
        steps = steps_more new now itself one_each marked others;
      };
      first = λ v l some _.
          elim (cases_lt 0 level) [
            | inl above ↦ first_more new now itself one_each marked others v l some above
            | inr none ↦
                elim (cases_eq (get_or levels v 0) 65535) [
                  | inl e ↦ omega (arith, marked v (h.receivers v some e), none)
                  | inr was ↦ absurd (omega (arith, none, h.below v l was))
                ]
          ];
    }

  -- nobody comes next
  pub spread_cut : length lack ≡ r.members → ((v : ℕ) → has now v ≡ false) → AreCut r.flows p surplus lack levels
  spread_cut len none = record {
    closed = λ a l is_open was e. true≢false (sym (h.closed a l is_open was e) ∙ none (tail r.flows a));
    senders = λ v l some. h.senders v (omega (arith, l, h.one_each)) some;
    receivers = λ v some e. true≢false (sym (h.receivers v some e) ∙ none v);
  }
