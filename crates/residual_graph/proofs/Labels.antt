-- Labels that no arc can lower are the potentials of a certificate.
use Rattle.std.proofs.Common.{◌≡◌, ◌≢◌, ℕ, zero, suc, ◌+◌, ◌*◌, ◌%◌, ◌<◌, ◌≤◌, Bool, true, false, eqb, List, [], ◌∷◌, length, map, get_or, Option, Some, None, ℤ, pos, ◌+ℤ◌, neg_ℤ, ◌≤ℤ◌, refl, sym, ap, ◌∙◌, subst, arith, inl, inr, ⊎_elim, ◌⊎◌}
use Rattle.std.proofs.lemmas.Bool.{cases_Bool, cases_eq, and_parts, and_cases, eqb-true, eqb-false, eq-eqb, ne_eqb}
use Rattle.std.proofs.lemmas.List.{get_or-map, length-map}
use Rattle.std.proofs.lemmas.Int.{ints}
use Rattle.std.proofs.Math.ListN.{get_or-map as any-get_or-map}
use Rattle.std.proofs.lemmas.List.Sums.{get_or-le-sum_by}
use Rattle.network_laws.specs.declared.rows.Row.{Row}
use Rattle.network_laws.specs.declared.rows.LimitRow.{LimitRow}
use Rattle.network_laws.specs.Networks.{NetworkData, at, net, gross, place, amount_in, pair_part, IsRising}
use Rattle.network_laws.specs.Limits.{LimitsData, lower, upper, lower_in, upper_in, is_for, IsWithin, IsBelow, limit_place, IsRisingLimits, IsCertified, potential, reduced}
use Rattle.network_laws.proofs.LimitOrder.{lookup_at, lookup_none}
use Rattle.network_laws.proofs.RowOrder.{amount_here, sum_by-none, pair_part-other_buyer}
use Rattle.network_laws.proofs.RowSums.{pair_part-is, pair_part-seller}
use Rattle.residual_graph.specs.declared.flow.Flow.{Flow}
use Rattle.residual_graph.specs.Residual.{flow_row, flow_rows, capped}
use Rattle.residual_graph.specs.Built.{flow_network, AreFlowsOf}
use Rattle.residual_graph.specs.Arcs.{pair, is_forward, no_flow, flow_at, head, head_in, tail, tail_in, room, room_in, cost, cost_in}
use Rattle.residual_graph.specs.Labels.{label, AreLabels}
use Rattle.residual_graph.proofs.Building.{no_limit}

-- a pair has a first row, or none
record FirstFor (rows : List LimitRow) (i j : ℕ) : Type 0 where
  at_k : ℕ
  here : at_k < length rows
  yes : (d : LimitRow) → is_for i j (get_or rows at_k d) ≡ true
  before : (k : ℕ) (d : LimitRow) → k < at_k → is_for i j (get_or rows k d) ≡ false

first_for : (rows : List LimitRow) (i j : ℕ) → FirstFor rows i j ⊎ ((k : ℕ) (d : LimitRow) → k < length rows → is_for i j (get_or rows k d) ≡ false)
first_for [] i j = inr (λ k d l. absurd (omega arith))
first_for (row ∷ rows) i j =
    ⊎_elim (λ (y : is_for i j row ≡ true). inl (record { at_k = 0; here = omega arith; yes = λ d. y; before = λ k d l. absurd (omega arith) }))
    (λ (n : is_for i j row ≡ false). ⊎_elim
    (λ (f : FirstFor rows i j). inl (record { at_k = suc f.at_k; here = omega (arith, f.here); yes = f.yes; before = earlier i j row rows n f }))
    (λ (g : (k : ℕ) (d : LimitRow) → k < length rows → is_for i j (get_or rows k d) ≡ false). inr (none i j row rows n g))
    (first_for rows i j))
    (cases_Bool (is_for i j row))
  where
    earlier : (i j : ℕ) (row : LimitRow) (rows : List LimitRow) → is_for i j row ≡ false → (f : FirstFor rows i j) → (k : ℕ) (d : LimitRow) → k < suc f.at_k → is_for i j (get_or (row ∷ rows) k d) ≡ false
    earlier i j row rows n f zero d l = n
    earlier i j row rows n f (suc k) d l = f.before k d (omega arith)

    none : (i j : ℕ) (row : LimitRow) (rows : List LimitRow) → is_for i j row ≡ false → ((k : ℕ) (d : LimitRow) → k < length rows → is_for i j (get_or rows k d) ≡ false) → (k : ℕ) (d : LimitRow) → k < suc (length rows) → is_for i j (get_or (row ∷ rows) k d) ≡ false
    none i j row rows n g zero d l = n
    none i j row rows n g (suc k) d l = g k d (omega arith)

-- what the limits and the network of the flows have for a pair
module _ (cap : ℕ) (limits : List LimitRow) (flows : List Flow) (rising : IsRisingLimits limits) (are : AreFlowsOf cap limits flows) where
  flow_place : (k : ℕ) (d : Row) (l : LimitRow) → k < length limits → place (get_or (flow_rows flows) k d) ≡ limit_place (get_or limits k l)
  flow_place k d l lk =
      let e = are.each k l no_flow lk in
      let row = get_or-map flow_row flows k no_flow d (omega (arith, are.same_length)) in
      omega (arith, ap place row, e.seller, e.buyer)

  rising_rows : IsRising (flow_rows flows)
  rising_rows a b d lt lb =
      let inside : b < length limits = omega (arith, are.same_length, length-map flows flow_row) in
      omega (arith, flow_place a d no_limit (omega arith), flow_place b d no_limit inside, rising a b no_limit lt inside)

  pub record SeenAt (i j : ℕ) : Type 0 where
    pub k : ℕ
    pub here : k < length limits
    pub low : lower_in limits i j ≡ (get_or limits k no_limit).lower
    pub high : upper_in limits i j ≡ (get_or limits k no_limit).upper
    pub amount : amount_in (flow_rows flows) i j ≡ (get_or flows k no_flow).lower + (get_or flows k no_flow).back
    pub seller : (get_or flows k no_flow).seller ≡ i
    pub buyer : (get_or flows k no_flow).buyer ≡ j

  pub record Unseen (i j : ℕ) : Type 0 where
    pub low : lower_in limits i j ≡ 0
    pub high : upper_in limits i j ≡ Some 0
    pub amount : amount_in (flow_rows flows) i j ≡ 0

  pub seen : (i j : ℕ) → SeenAt i j ⊎ Unseen i j
  seen i j =
      ⊎_elim (λ (f : FirstFor limits i j). inl (found f)) (λ (g : (k : ℕ) (d : LimitRow) → k < length limits → is_for i j (get_or limits k d) ≡ false). inr (missing g)) (first_for limits i j)
    where
      found : FirstFor limits i j → SeenAt i j
      found f =
          let k = f.at_k in
          let parts = and_parts _ _ (f.yes no_limit) in
          let s = eqb-true (get_or limits k no_limit).seller i parts.0 in
          let b = eqb-true (get_or limits k no_limit).buyer j parts.1 in
          let e = are.each k no_limit no_flow f.here in
          let look = lookup_at limits i j k no_limit f.here f.before (f.yes no_limit) in
          let in_rows : k < length (flow_rows flows) = omega (arith, are.same_length, length-map flows flow_row, f.here) in
          let row = get_or-map flow_row flows k no_flow (flow_row no_flow) (omega (arith, are.same_length, f.here)) in
          let here = amount_here (flow_rows flows) i j k (flow_row no_flow) in_rows rising_rows
          (λ m d lm. omega (arith, flow_place m d no_limit (omega (arith, f.here)), rising m k no_limit lm f.here, s, b))
          (λ m d lm in_m. omega (arith, s, b, at_least k m lm (omega (arith, are.same_length, length-map flows flow_row)), flow_place m d no_limit (omega (arith, are.same_length, length-map flows flow_row)))) in
          record {
            k = k;
            here = f.here;
            low = look.0;
            high = look.1;
            amount = here ∙ ap (pair_part i j) row ∙ pair_part-is i j (flow_row (get_or flows k no_flow)) (e.seller ∙ s) (e.buyer ∙ b);
            seller = e.seller ∙ s;
            buyer = e.buyer ∙ b;
          }
        where
          at_least : (k m : ℕ) → k ≤ m → m < length limits → limit_place (get_or limits k no_limit) ≤ limit_place (get_or limits m no_limit)
          at_least k m le l =
              ⊎_elim (λ (q : k ≡ m). omega (arith, ap (λ x. limit_place (get_or limits x no_limit)) q)) (λ (q : k ≢ m). omega (arith, rising k m no_limit (omega arith) l)) (cases_eq k m)

      missing : ((k : ℕ) (d : LimitRow) → k < length limits → is_for i j (get_or limits k d) ≡ false) → Unseen i j
      missing g =
          let look = lookup_none limits i j g in
          record {
            low = look.0;
            high = look.1;
            amount = sum_by-none (pair_part i j) (flow_rows flows) (λ k d lk. none k d (omega (arith, are.same_length, length-map flows flow_row)));
          }
        where
          none : (k : ℕ) (d : Row) → k < length limits → pair_part i j (get_or (flow_rows flows) k d) ≡ 0
          none k d lk =
              let e = are.each k no_limit no_flow lk in
              let row = get_or-map flow_row flows k no_flow d (omega (arith, are.same_length)) in
              ap (pair_part i j) row ∙ same_test (get_or limits k no_limit) (get_or flows k no_flow) (g k no_limit lk) e.seller e.buyer
            where
              same_test : (l : LimitRow) (f : Flow) → is_for i j l ≡ false → f.seller ≡ l.seller → f.buyer ≡ l.buyer → pair_part i j (flow_row f) ≡ 0
              same_test l f h s b =
                  ⊎_elim (λ (x : eqb l.seller i ≡ false). pair_part-seller i j (flow_row f) (λ q. eqb-false l.seller i x (sym s ∙ sym q)))
                  (λ (x : eqb l.buyer j ≡ false). pair_part-other_buyer i j (flow_row f) (λ q. eqb-false l.buyer j x (sym b ∙ q)))
                  (and_cases _ _ h)

potential_neg : (d : List ℤ) (i : ℕ) → potential (map neg_ℤ d) i ≡ neg_ℤ (label d i)
potential_neg d i = any-get_or-map neg_ℤ d i (pos 0)

within_capped : (z room cap : ℕ) (high : Option ℕ) → z + room ≡ capped cap high → IsWithin z high
within_capped z room cap None e = tt
within_capped z room cap (Some most) e = omega arith

room_below : (z room cap : ℕ) (high : Option ℕ) → z + room ≡ capped cap high → z < cap → IsBelow z high → 0 < room
room_below z room cap None e l h = omega arith
room_below z room cap (Some most) e l h = omega arith

-- a label is not above what an arc of a pair gives
abbrev Holds : List Flow → List ℤ → ℕ → Bool → Type 0
Holds flows d k p =
    0 < room_in (flow_at flows k) p → label d (head_in (flow_at flows k) p) ≤ℤ (label d (tail_in (flow_at flows k) p) +ℤ cost_in p)

holds_at : (flows : List Flow) (d : List ℤ) (a k : ℕ) (p : Bool) → pair a ≡ k → is_forward a ≡ p → (0 < room flows a → label d (head flows a) ≤ℤ (label d (tail flows a) +ℤ cost a)) → Holds flows d k p
holds_at flows d a k p e q h = subst (λ m. Holds flows d m p) e (subst (Holds flows d (pair a)) q h)

even_forward : (k : ℕ) → is_forward (2 * k) ≡ true
even_forward k = eq-eqb (2 * k % 2) 0 (omega arith)

odd_back : (k : ℕ) → is_forward (2 * k + 1) ≡ false
odd_back k = ne_eqb ((2 * k + 1) % 2) 0 (λ e. omega (arith, e))

both_hold : (flows : List Flow) (d : List ℤ) → AreLabels flows d → (k : ℕ) (p : Bool) → k < length flows → Holds flows d k p
both_hold flows d labels k true l = holds_at flows d (2 * k) k true (omega arith) (even_forward k) (labels (2 * k) (omega arith))
both_hold flows d labels k false l = holds_at flows d (2 * k + 1) k false (omega arith) (odd_back k) (labels (2 * k + 1) (omega arith))

-- where no arc of the pairs can lower a label, the labels' negations certify the network
module _ (limits : LimitsData) (old : NetworkData) (flows : List Flow) (d : List ℤ) (rising : IsRisingLimits limits.rows) (are : AreFlowsOf (gross old + 1) limits.rows flows) (few : gross (flow_network old.members flows) ≤ gross old) (labels : AreLabels flows d) where
  in_limits : (i j : ℕ) → (lower limits i j ≤ at (flow_network old.members flows) i j) × IsWithin (at (flow_network old.members flows) i j) (upper limits i j)
  in_limits i j =
      ⊎_elim (λ (x : SeenAt (gross old + 1) limits.rows flows rising are i j).
      let e = are.each x.k no_limit no_flow x.here in
      (omega (arith, x.low, x.amount, e.lower), rw (x.amount, x.high) (within_capped _ _ (gross old + 1) _ e.most)))
      (λ (x : Unseen (gross old + 1) limits.rows flows rising are i j). (omega (arith, x.low), rw (x.amount, x.high) (omega arith)))
      (seen (gross old + 1) limits.rows flows rising are i j)

  priced : (i j : ℕ) → (IsBelow (at (flow_network old.members flows) i j) (upper limits i j) → pos 0 ≤ℤ reduced (map neg_ℤ d) i j) × (lower limits i j < at (flow_network old.members flows) i j → reduced (map neg_ℤ d) i j ≤ℤ pos 0)
  priced i j =
      ⊎_elim (λ (x : SeenAt (gross old + 1) limits.rows flows rising are i j).
      let e = are.each x.k no_limit no_flow x.here in
      let f = get_or flows x.k no_flow in
      let in_flows : x.k < length flows = omega (arith, are.same_length, x.here) in
      let forward = both_hold flows d labels x.k true in_flows in
      let back = both_hold flows d labels x.k false in_flows in
      let small = get_or-le-sum_by (λ (row : Row). row.amount) (flow_rows flows) x.k (flow_row no_flow) (omega (arith, length-map flows flow_row)) in
      let is = any-get_or-map flow_row flows x.k no_flow in
      let p = potential_neg d i in
      let q = potential_neg d j in
      let ls = ap (label d) x.seller in
      let lb = ap (label d) x.buyer in (
        (λ h. let room : 0 < f.room = room_below (f.lower + f.back) f.room (gross old + 1) (get_or limits.rows x.k no_limit).upper e.most (omega (arith, small, ap (λ (row : Row). row.amount) is)) (rw (sym x.amount, sym x.high) h) in
            omega (arith, ints, forward room, p, q, ls, lb)),
        (λ h. omega (arith, ints, back (omega (arith, x.amount, x.low, e.lower)), p, q, ls, lb)),
      ))
      (λ (x : Unseen (gross old + 1) limits.rows flows rising are i j). ((λ h. absurd (nothing _ _ x.amount x.high h)), (λ h. absurd (omega (arith, x.amount, x.low)))))
      (seen (gross old + 1) limits.rows flows rising are i j)
    where
      nothing : (z : ℕ) (high : Option ℕ) → z ≡ 0 → high ≡ Some 0 → IsBelow z high → ⊥
      nothing z high e e' h = omega (arith, subst (IsBelow z) e' h)

  pub labels_certify : limits.members ≡ old.members → ((i : ℕ) → i < old.members → net (flow_network old.members flows) i ≡ net old i) → IsCertified limits old (flow_network old.members flows) (map neg_ℤ d)
  labels_certify members nets = record {
    admissible = record {
      limit_members = members;
      new_members = refl;
      within = record { above = λ i j _ _. (in_limits i j).0; below = λ i j _ _. (in_limits i j).1 };
      nets = nets;
    };
    growing = λ i j _ _. (priced i j).0;
    falling = λ i j _ _. (priced i j).1;
  }
