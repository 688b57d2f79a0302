-- The network that pairs are, and the residual graph of a network.
use Rattle.std.proofs.Common.{◌≡◌, ℕ, ◌+◌, ◌<◌, ◌≤◌, Bool, true, false, cond, eqb, ◌&&◌, List, [], ◌∷◌, length, get_or, map, sum_by, Option, Some, ℤ, refl, sym, ap, ◌∙◌, subst, arith, ⊎_elim}
use Rattle.std.specs.Prelude.{filter}
use Rattle.std.proofs.lemmas.Bool.{ltb-false}
use Rattle.std.proofs.lemmas.List.{get_or-map, length-map}
use Rattle.std.proofs.lemmas.List.Sums.{sum_by-cons}
use Rattle.std.proofs.lemmas.Int.{ints}
use Rattle.network_laws.specs.declared.rows.Row.{Row}
use Rattle.network_laws.specs.declared.rows.LimitRow.{LimitRow}
use Rattle.network_laws.specs.Networks.{NetworkData, at, amount_in, net, gross, sold_part, bought_part, pair_part, AreInRange}
use Rattle.network_laws.specs.Limits.{LimitsData, AreLimits, upper, IsWithin, IsBelow, IsWithinLimits, IsCertified}
use Rattle.network_laws.proofs.Same.{same_net, same_gross}
use Rattle.residual_graph.specs.declared.flow.Flow.{Flow}
use Rattle.residual_graph.specs.Residual.{ResidualData, flow_of, flow_row, flow_rows, has_amount, network_of, IsCapped}
use Rattle.residual_graph.specs.Built.{IsBetween, IsFlowOf, AreFlowsOf, flow_network}
use Rattle.residual_graph.specs.Arcs.{no_flow}
use Rattle.residual_graph.proofs.Building.{no_limit, rows_between}
use Rattle.residual_graph.proofs.Labels.{seen, SeenAt, Unseen}

-- rows without an amount add nothing
sum_filter : (g : Row → ℕ) → ((row : Row) → row.amount ≡ 0 → g row ≡ 0) → (rows : List Row) → sum_by g (filter has_amount rows) ≡ sum_by g rows
sum_filter g zero_part [] = refl
sum_filter g zero_part (row ∷ rows) = go (has_amount row) refl (sum_filter g zero_part rows)
  where
    go : (b : Bool) → has_amount row ≡ b → sum_by g (filter has_amount rows) ≡ sum_by g rows → sum_by g (cond b (row ∷ filter has_amount rows) (filter has_amount rows)) ≡ sum_by g (row ∷ rows)
    go true e more = omega (arith, sum_by-cons g row (filter has_amount rows), sum_by-cons g row rows, more)
    go false e more = omega (arith, sum_by-cons g row rows, zero_part row (omega (arith, ltb-false 0 row.amount e)), more)

none_or_zero : (b : Bool) (m : ℕ) → m ≡ 0 → cond b m 0 ≡ 0
none_or_zero true m e = e
none_or_zero false m e = refl

-- the network of a residual graph has the amounts, nets and gross of its pairs
pub same_at : (r : ResidualData) (i j : ℕ) → at (network_of r) i j ≡ amount_in (flow_rows r.flows) i j
same_at r i j = sum_filter (pair_part i j) (λ row e. none_or_zero (eqb row.seller i && eqb row.buyer j) row.amount e) (flow_rows r.flows)

pub same_nets : (r : ResidualData) (n i : ℕ) → net (network_of r) i ≡ net (flow_network n r.flows) i
same_nets r n i =
    omega (
      arith,
      ints,
      sum_filter (sold_part i) (λ row e. none_or_zero (eqb row.seller i) row.amount e) (flow_rows r.flows),
      sum_filter (bought_part i) (λ row e. none_or_zero (eqb row.buyer i) row.amount e) (flow_rows r.flows),
    )

pub same_amounts : (r : ResidualData) (n : ℕ) → gross (network_of r) ≡ gross (flow_network n r.flows)
same_amounts r n = sum_filter (λ (row : Row). row.amount) (λ row e. e) (flow_rows r.flows)

-- a certificate speaks of amounts and nets alone
pub certified_same : (limits : LimitsData) (old y z : NetworkData) (p : List ℤ) → y.members ≡ z.members → ((i j : ℕ) → i < y.members → j < y.members → at y i j ≡ at z i j) → ((i : ℕ) → net y i ≡ net z i) → IsCertified limits old y p → IsCertified limits old z p
certified_same limits old y z p members amounts nets c =
    let a = c.admissible in
    record {
      admissible = record {
        limit_members = a.limit_members;
        new_members = sym members ∙ a.new_members;
        within = record {
          above = λ i j li lj. omega (arith, a.within.above i j (omega (arith, members)) (omega (arith, members)), amounts i j (omega (arith, members)) (omega (arith, members)));
          below = λ i j li lj. subst (λ v. IsWithin v (upper limits i j)) (amounts i j (omega (arith, members)) (omega (arith, members))) (a.within.below i j (omega (arith, members)) (omega (arith, members)));
        };
        nets = λ i li. sym (nets i) ∙ a.nets i li;
      };
      growing = λ i j li lj h. c.growing i j li lj (subst (λ v. IsBelow v (upper limits i j)) (sym (amounts i j (omega (arith, a.new_members)) (omega (arith, a.new_members)))) h);
      falling = λ i j li lj h. c.falling i j li lj (omega (arith, h, amounts i j (omega (arith, a.new_members)) (omega (arith, a.new_members))));
    }

-- the residual graph of a network within its limits
module _ (cap : ℕ) (limits : LimitsData) (y : NetworkData) (are : AreLimits limits) (members : limits.members ≡ y.members) (within : IsWithinLimits limits y) (cap_ok : IsCapped cap limits y) where
  at_row : (k : ℕ) (l : LimitRow) (f : Flow) → k < length limits.rows → get_or (map (flow_of cap y) limits.rows) k f ≡ flow_of cap y (get_or limits.rows k l)
  at_row k l f lk = get_or-map (flow_of cap y) limits.rows k l f lk

  flow_is : (limit : LimitRow) → IsBetween cap y limit → IsFlowOf cap limit (flow_of cap y limit)
  flow_is limit between = record { seller = refl; buyer = refl; lower = refl; most = omega (arith, between.0, between.1) }

  pub are_flows : AreFlowsOf cap limits.rows (map (flow_of cap y) limits.rows)
  are_flows = record {
    same_length = length-map limits.rows (flow_of cap y);
    each = λ k l f lk. subst (IsFlowOf cap (get_or limits.rows k l)) (sym (at_row k l f lk)) (flow_is (get_or limits.rows k l) (rows_between cap limits y are members within cap_ok k l lk));
  }

  zero_within : (z : ℕ) (high : Option ℕ) → high ≡ Some 0 → IsWithin z high → z ≡ 0
  zero_within z high e h = let le : z ≤ 0 = subst (IsWithin z) e h in omega arith

  pair_amount : (k : ℕ) → k < length limits.rows → let f = get_or (map (flow_of cap y) limits.rows) k no_flow in f.lower + f.back ≡ at y f.seller f.buyer
  pair_amount k lk = subst (λ (f : Flow). f.lower + f.back ≡ at y f.seller f.buyer) (sym (at_row k no_limit no_flow lk)) (by (get_or limits.rows k no_limit) (rows_between cap limits y are members within cap_ok k no_limit lk))
    where
      by : (limit : LimitRow) → IsBetween cap y limit → (flow_of cap y limit).lower + (flow_of cap y limit).back ≡ at y limit.seller limit.buyer
      by limit between = omega (arith, between.0)

  pub built_amounts : (i j : ℕ) → i < y.members → j < y.members → at (flow_network y.members (map (flow_of cap y) limits.rows)) i j ≡ at y i j
  built_amounts i j in_i in_j =
      ⊎_elim (λ (x : SeenAt cap limits.rows (map (flow_of cap y) limits.rows) are.rows.rising are_flows i j).
      x.amount ∙ pair_amount x.k x.here ∙ ap (λ s. at y s (get_or (map (flow_of cap y) limits.rows) x.k no_flow).buyer) x.seller ∙ ap (at y i) x.buyer)
      (λ (x : Unseen cap limits.rows (map (flow_of cap y) limits.rows) are.rows.rising are_flows i j). x.amount ∙ sym (zero_within (at y i j) (upper limits i j) x.high (within.below i j in_i in_j)))
      (seen cap limits.rows (map (flow_of cap y) limits.rows) are.rows.rising are_flows i j)

  in_range : AreInRange y.members (flow_rows (map (flow_of cap y) limits.rows))
  in_range k d l =
      let in_flows : k < length (map (flow_of cap y) limits.rows) = omega (arith, length-map (map (flow_of cap y) limits.rows) flow_row) in
      let in_limits : k < length limits.rows = omega (arith, length-map limits.rows (flow_of cap y)) in
      let good = are.rows.good k no_limit in_limits in
      let row = get_or-map flow_row (map (flow_of cap y) limits.rows) k no_flow d in_flows ∙ ap flow_row (at_row k no_limit no_flow in_limits) in
      rw row (omega (arith, good.seller, members), omega (arith, good.buyer, members))

  pub built_net : AreInRange y.members y.rows → (i : ℕ) → net (flow_network y.members (map (flow_of cap y) limits.rows)) i ≡ net y i
  built_net h = same_net y.members (flow_network y.members (map (flow_of cap y) limits.rows)) y in_range h built_amounts

  pub built_gross : AreInRange y.members y.rows → gross (flow_network y.members (map (flow_of cap y) limits.rows)) ≡ gross y
  built_gross h = same_gross y.members (flow_network y.members (map (flow_of cap y) limits.rows)) y in_range h built_amounts
