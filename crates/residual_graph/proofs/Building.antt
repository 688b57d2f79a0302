-- The pairs of limits have the bounds of their rows, and are those of a residual graph.
use Rattle.std.proofs.Common.{◌≡◌, ℕ, ◌<◌, ◌≤◌, List, length, get_or, map, Option, Some, None, All, refl, sym, ap, ◌∙◌, subst, arith}
use Rattle.std.proofs.lemmas.List.{get_or_default, get_or-map, length-map}
use Rattle.network_laws.specs.declared.rows.LimitRow.{LimitRow}
use Rattle.network_laws.specs.declared.rows.Row.{Row}
use Rattle.network_laws.specs.Networks.{NetworkData, IsNetwork, at}
use Rattle.network_laws.specs.Limits.{LimitsData, AreLimits, IsWithin, IsWithinLimits, lower_in, upper_in, IsRisingLimits, limit_place}
use Rattle.network_laws.proofs.LimitOrder.{lookup_at, lookup_none, is_for-other, is_for-yes}
use Rattle.residual_graph.specs.declared.flow.Flow.{Flow}
use Rattle.residual_graph.specs.Residual.{capped, flow_of, residual_of, flow_place, IsCapped, IsResidual}
use Rattle.residual_graph.specs.Built.{IsBetween, IsSmall, HaveLimits}
use Rattle.residual_graph.proofs.NextRows.{next_amount}

-- the bounds of a pair are those of its row
pub own_bounds : (rows : List LimitRow) → IsRisingLimits rows → (k : ℕ) (d : LimitRow) → k < length rows → (lower_in rows (get_or rows k d).seller (get_or rows k d).buyer ≡ (get_or rows k d).lower) × (upper_in rows (get_or rows k d).seller (get_or rows k d).buyer ≡ (get_or rows k d).upper)
own_bounds rows rising k d l =
    let row = get_or rows k d in
    lookup_at rows row.seller row.buyer k d l
    (λ m e lm. is_for-other row.seller row.buyer (get_or rows m e) (λ q. omega (arith, rising m k e lm l, ap limit_place (get_or_default rows k e d l))))
    (is_for-yes row.seller row.buyer row refl refl)

under_cap : (cap z : ℕ) (high : Option ℕ) → IsWithin z high → (high ≡ None → z ≤ cap) → z ≤ capped cap high
under_cap cap z None w c = c refl
under_cap cap z (Some most) w c = w

pub rows_between : (cap : ℕ) (limits : LimitsData) (y : NetworkData) → AreLimits limits → limits.members ≡ y.members → IsWithinLimits limits y → IsCapped cap limits y → All (IsBetween cap y) limits.rows
rows_between cap limits y are members within cap_ok k d l =
    let row = get_or limits.rows k d in
    let own = own_bounds limits.rows are.rows.rising k d l in
    let good = are.rows.good k d l in
    let in_i : row.seller < y.members = omega (arith, good.seller, members) in
    let in_j : row.buyer < y.members = omega (arith, good.buyer, members) in
    (omega (arith, within.above row.seller row.buyer in_i in_j, own.0), under_cap cap (at y row.seller row.buyer) row.upper (subst (IsWithin (at y row.seller row.buyer)) own.1 (within.below row.seller row.buyer in_i in_j)) (λ e. cap_ok row.seller row.buyer in_i in_j (own.1 ∙ e)))

-- a row of a network within limits has a limit row
pub all_limited : (limits : LimitsData) (y : NetworkData) → IsNetwork y → limits.members ≡ y.members → IsWithinLimits limits y → HaveLimits y.rows limits.rows
all_limited limits y are members within m d l none =
    let row = get_or y.rows m d in
    let good = are.rows.good m d l in
    let amount = next_amount y.rows m (record { seller = row.seller; buyer = row.buyer; lower = 0; upper = None }) d are.rows.rising (record {
      within = l;
      seller = λ e. ap (λ (r : Row). r.seller) (get_or_default y.rows m d e l);
      buyer = λ e. ap (λ (r : Row). r.buyer) (get_or_default y.rows m d e l);
    }) in
    let no_row = lookup_none limits.rows row.seller row.buyer (λ k e lk. is_for-other row.seller row.buyer (get_or limits.rows k e) (none k e lk)) in
    let most : at y (get_or y.rows m d).seller (get_or y.rows m d).buyer ≤ 0 = subst (IsWithin (at y row.seller row.buyer)) no_row.1 (within.below row.seller row.buyer good.seller good.buyer) in
    omega (arith, most, amount, good.positive)

pub no_limit : LimitRow
no_limit = record { seller = 0; buyer = 0; lower = 0; upper = None }

pub residual_kept : (cap : ℕ) (limits : LimitsData) (y : NetworkData) → AreLimits limits → limits.members ≡ y.members → All IsSmall (map (flow_of cap y) limits.rows) → IsResidual (residual_of cap limits y)
residual_kept cap limits y are members small = record {
  few = omega (arith, are.few, members);
  good = λ k f l.
      let in_rows : k < length limits.rows = omega (arith, length-map limits.rows (flow_of cap y)) in
      let row = are.rows.good k no_limit in_rows in
      let is = get_or-map (flow_of cap y) limits.rows k no_limit f in_rows in
      record {
        seller = omega (arith, ap (λ (x : Flow). x.seller) is, row.seller, members);
        buyer = omega (arith, ap (λ (x : Flow). x.buyer) is, row.buyer, members);
        different = λ e. row.different (sym (ap (λ (x : Flow). x.seller) is) ∙ e ∙ ap (λ (x : Flow). x.buyer) is);
        small = small k f l;
      };
  rising = λ i j f lt l.
      let in_j : j < length limits.rows = omega (arith, length-map limits.rows (flow_of cap y)) in
      let at_i = ap flow_place (get_or-map (flow_of cap y) limits.rows i no_limit f (omega arith)) in
      let at_j = ap flow_place (get_or-map (flow_of cap y) limits.rows j no_limit f in_j) in
      omega (arith, at_i, at_j, are.rows.rising i j no_limit lt in_j);
}
