-- What a residual graph keeps: few pairs, and after a push; and the network that its pairs are.
use Rattle.std.proofs.Common.{◌≡◌, ◌≢◌, ℕ, zero, suc, ◌-◌, ◌*◌, ◌^◌, ◌<◌, ◌≤◌, Bool, true, false, List, length, get_or, All, refl, sym, ap, ◌∙◌, subst, arith, ⊎_elim, length-set, get_or-set_same, get_or-set_other}
use Rattle.std.specs.Prelude.{AllPairs}
use Rattle.std.proofs.lemmas.Bool.{cases_eq, ltb-true}
use Rattle.std.proofs.lemmas.List.{get_or_default, get_or-map, length-map}
use Rattle.std.proofs.lemmas.List.Elements.{All-set, All-filter, filter_passes}
use Rattle.std.proofs.lemmas.List.Kept.{AllPairs-filter}
use Rattle.network_laws.specs.declared.rows.Row.{Row}
use Rattle.network_laws.specs.Networks.{IsNetwork, gross, place}
use Rattle.residual_graph.specs.declared.flow.Flow.{Flow}
use Rattle.residual_graph.specs.Residual.{ResidualData, flow_row, flow_rows, has_amount, network_of, flow_place, IsFlow, IsResidual, AreRising}
use Rattle.residual_graph.specs.Arcs.{arc_count, pair, is_forward, no_flow, flow_at, room, room_in, moved, pushed}

pub pair_below : (a n : ℕ) → a < 2 * n → pair a < n
pair_below a n l = omega arith

-- places rise, so pair k stands at place k or behind
rank : (flows : List Flow) → AreRising flows → (k : ℕ) (d : Flow) → k < length flows → k ≤ flow_place (get_or flows k d)
rank flows rising zero d l = omega arith
rank flows rising (suc k) d l = omega (arith, rank flows rising k d (omega arith), rising k (suc k) d (omega arith) l)

pub few_pairs : (r : ResidualData) → IsResidual r → length r.flows ≤ 16777216
few_pairs r h =
    ⊎_elim (λ (e : length r.flows ≡ 0). omega arith)
    (λ (ne : length r.flows ≢ 0).
    let last = length r.flows - 1 in
    let l : length r.flows - 1 < length r.flows = omega arith in
    let good = h.good (length r.flows - 1) no_flow l in
    omega (arith, rank r.flows h.rising (length r.flows - 1) no_flow l, good.seller, good.buyer, h.few))
    (cases_eq (length r.flows) 0)

moved_good : (n x : ℕ) (f : Flow) (p : Bool) → x ≤ room_in f p → IsFlow n f → IsFlow n (moved x p f)
moved_good n x f true h g = record { seller = g.seller; buyer = g.buyer; different = g.different; small = omega (arith, g.small) }
moved_good n x f false h g = record { seller = g.seller; buyer = g.buyer; different = g.different; small = omega (arith, g.small) }

moved_place : (x : ℕ) (f : Flow) (p : Bool) → flow_place (moved x p f) ≡ flow_place f
moved_place x f true = refl
moved_place x f false = refl

place_kept : (x : ℕ) (flows : List Flow) (a : ℕ) → pair a < length flows → (k : ℕ) (d : Flow) → flow_place (get_or (pushed x flows a) k d) ≡ flow_place (get_or flows k d)
place_kept x flows a l k d =
    ⊎_elim (λ (e : k ≡ pair a).
    ap (λ j. flow_place (get_or (pushed x flows a) j d)) e ∙ ap flow_place (get_or-set_same flows (pair a) (moved x (is_forward a) (flow_at flows (pair a))) d l)
    ∙ moved_place x (flow_at flows (pair a)) (is_forward a) ∙ ap flow_place (get_or_default flows (pair a) no_flow d l) ∙ ap (λ j. flow_place (get_or flows j d)) (sym e))
    (λ (ne : k ≢ pair a). ap flow_place (get_or-set_other flows (pair a) k (moved x (is_forward a) (flow_at flows (pair a))) d ne))
    (cases_eq k (pair a))

pub pushed_kept : (x n : ℕ) (flows : List Flow) (a : ℕ) → a < arc_count flows → x ≤ room flows a → IsResidual (record { members = n; flows = flows }) → IsResidual (record { members = n; flows = pushed x flows a })
pushed_kept x n flows a la h r =
    let l = pair_below a (length flows) la in
    record {
      few = r.few;
      good = All-set (IsFlow n) flows (pair a) (moved x (is_forward a) (flow_at flows (pair a))) (moved_good n x (flow_at flows (pair a)) (is_forward a) h (r.good (pair a) no_flow l)) r.good;
      rising = λ i j d lt lj.
          omega (arith, place_kept x flows a l i d, place_kept x flows a l j d, r.rising i j d lt (omega (arith, length-set flows (pair a) (moved x (is_forward a) (flow_at flows (pair a))))));
    }

record IsRowOfFlow (n : ℕ) (row : Row) : Type 0 where
  seller : row.seller < n
  buyer : row.buyer < n
  different : row.seller ≢ row.buyer

-- the rows with an amount are those of a network
pub network_kept : (r : ResidualData) → IsResidual r → gross (network_of r) ≤ 10 ^ 18 → IsNetwork (network_of r)
network_kept r h within = record {
  few = h.few;
  rows = record {
    good = λ k d l.
        let row = All-filter has_amount (IsRowOfFlow r.members) (flow_rows r.flows) each k d l in
        record { seller = row.seller; buyer = row.buyer; different = row.different; positive = omega (arith, ltb-true 0 (get_or (network_of r).rows k d).amount (filter_passes has_amount (flow_rows r.flows) k d l)) };
    rising = AllPairs-filter (λ (a b : Row). place a < place b) has_amount (flow_rows r.flows) rising;
    within = within;
  };
}
  where
    is_row : (k : ℕ) (d : Row) → k < length (flow_rows r.flows) → get_or (flow_rows r.flows) k d ≡ flow_row (get_or r.flows k no_flow)
    is_row k d l = get_or-map flow_row r.flows k no_flow d (omega (arith, length-map r.flows flow_row))

    each : All (IsRowOfFlow r.members) (flow_rows r.flows)
    each k d l =
        let f = h.good k no_flow (omega (arith, length-map r.flows flow_row)) in
        subst (IsRowOfFlow r.members) (sym (is_row k d l)) (record { seller = f.seller; buyer = f.buyer; different = f.different })

    rising : AllPairs (λ (a b : Row). place a < place b) (flow_rows r.flows)
    rising i j d lt l =
        omega (arith, ap place (is_row i d (omega arith)), ap place (is_row j d l), h.rising i j no_flow lt (omega (arith, length-map r.flows flow_row)))
