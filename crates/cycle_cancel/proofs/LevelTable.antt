-- Levels of labels: their range, the table that they are, and labels that settled.
use Rattle.std.proofs.Common.{◌≡◌, ◌≢◌, ℕ, suc, ◌+◌, ◌<◌, ◌≤◌, Bool, true, false, List, [], ◌∷◌, ◌++◌, length, get_or, Option, Some, None, ℤ, pos, ◌≤ℤ◌, neg_ℤ, map, All, sym, ap, ◌∙◌, subst, arith, ⊎_elim, length-append}
use Rattle.std.specs.declared.alloc.Global.{Global}
use Rattle.std.specs.declared.vec.Vec.{Vec}
use Rattle.std.proofs.lemmas.Bool.{cases_eq}
use Rattle.std.proofs.lemmas.Int.{ints}
use Rattle.std.proofs.lemmas.List.{get_or-map, length-map}
use Rattle.std.proofs.lemmas.List.Elements.{All-push}
use Rattle.std.proofs.Math.ListN.{get_or-append, get_or-map as any-get_or-map}
use Rattle.std.proofs.Math.Seq.{get_or-append_seam}
use Rattle.residual_graph.specs.declared.flow.Flow.{Flow}
use Rattle.cycle_cancel.specs.declared.round.Step.{Step}
use Rattle.residual_graph.specs.Arcs.{arc_count, pair, is_forward, no_flow, flow_at, head, tail, head_in, tail_in, cost_in}
use Rattle.residual_graph.proofs.Kept.{pair_below}
use Rattle.cycle_cancel.specs.Rounds.{label_at, first_step, label_of, IsRound, IsCaused, IsLevel}
use Rattle.cycle_cancel.specs.Cancels.{AreSettled}
use Rattle.residual_graph.specs.Residual.{ResidualData, IsResidual, IsFlow}
use Rattle.cycle_cancel.specs.Traces.{arc_at, IsTable}

-- the ends of an arc are members
pub ends_in : (n : ℕ) (flows : List Flow) → All (IsFlow n) flows → (a : ℕ) → a < arc_count flows → (tail flows a < n) × (head flows a < n)
ends_in n flows good a l =
    let r = good (pair a) no_flow (pair_below a (length flows) l) in
    elim (is_forward a) as (λ f. (tail_in (flow_at flows (pair a)) f < n) × (head_in (flow_at flows (pair a)) f < n)) [ true ↦ (r.seller, r.buyer) | false ↦ (r.buyer, r.seller) ]

cost_low : (f : Bool) → (neg_ℤ (pos 1) ≤ℤ cost_in f)
cost_low true = omega (arith, ints)
cost_low false = omega (arith, ints)

level_cause : (least : ℕ) (flows : List Flow) (before : List Step) (k v : ℕ) (l : ℤ) (o : Option ℕ) → All (IsFlow (length before)) flows → IsLevel k before → v < length before → IsCaused least flows before v l o → (neg_ℤ (pos (k + 1)) ≤ℤ l) × (l ≤ℤ pos 0)
level_cause least flows before k v l None range level lv c =
    let b = level v lv in
    (omega (arith, ints, c, b.0), omega (arith, ints, c, b.1))
level_cause least flows before k v l (Some a) range level lv c =
    let b = level v lv in
    let t = level (tail flows a) (ends_in (length before) flows range a c.arc).0 in
    (omega (arith, ints, c.is, t.0, cost_low (is_forward a)), omega (arith, ints, c.below, b.1))

-- labels fall by at most one in a round
pub round_level : {least : ℕ} (flows : List Flow) (before next : List Step) (n k : ℕ) → All (IsFlow (length before)) flows → IsLevel k before → IsRound least flows before next n → IsLevel (k + 1) next
round_level {least = least} flows before next n k range level r v lv =
    level_cause least flows before k v (label_at next v) (get_or next v first_step).arc range level (omega (arith, r.same_length)) (r.caused v lv)

-- one more round
pub table_push : {least : ℕ} (flows : List Flow) (n : ℕ) (levels : List (Vec Step Global)) (next : Vec Step Global) (k : ℕ) → IsTable least flows n levels → length levels ≡ k + 1 → length next.items ≡ n → ((d : Vec Step Global) → IsRound least flows (get_or levels k d).items next.items (arc_count flows)) → IsTable least flows n (levels ++ next ∷ [])
table_push {least = least} flows n levels next k t len wide r = record {
  wide = All-push (λ (level : Vec Step Global). length level.items ≡ n) levels next t.wide wide;
  rounds = λ j d lj. ⊎_elim
      (λ (q : j ≡ k).
      let here = ap (λ x. get_or (levels ++ next ∷ []) x d) (ap suc q ∙ sym (len ∙ plus k)) ∙ get_or-append_seam levels next [] d in
      let before = get_or-append levels (next ∷ []) d j (omega (arith, len)) ∙ ap (λ x. get_or levels x d) q in
      subst (λ (v : Vec Step Global). IsRound least flows (get_or (levels ++ next ∷ []) j d).items v.items (arc_count flows)) (sym here)
      (subst (λ (v : Vec Step Global). IsRound least flows v.items next.items (arc_count flows)) (sym before) (r d)))
      (λ (q : j ≢ k).
      let in_levels : suc j < length levels = omega (arith, len, length-append levels (next ∷ [])) in
      subst (λ (v : Vec Step Global). IsRound least flows (get_or (levels ++ next ∷ []) j d).items v.items (arc_count flows)) (sym (get_or-append levels (next ∷ []) d (suc j) in_levels))
      (subst (λ (v : Vec Step Global). IsRound least flows v.items (get_or levels (suc j) d).items (arc_count flows)) (sym (get_or-append levels (next ∷ []) d j (omega arith))) (t.rounds j d in_levels)))
      (cases_eq j k);
}
  where
    plus : (k : ℕ) → k + 1 ≡ suc k
    plus k = omega arith

is_same : (least : ℕ) (flows : List Flow) (before : List Step) (v : ℕ) (l : ℤ) (o : Option ℕ) → o ≡ None → IsCaused least flows before v l o → l ≡ label_at before v
is_same least flows before v l o e c = subst (IsCaused least flows before v l) e c

-- where the last round lowered nothing, no arc lowers a label
pub settled : {least : ℕ} (r : ResidualData) (before last : List Step) (k : ℕ) → least ≡ 1 → IsResidual r → length before ≡ r.members → IsLevel k last → k ≤ r.members → IsRound least r.flows before last (arc_count r.flows) → ((v : ℕ) → v < length last → arc_at last v ≡ None) → AreSettled r (map label_of last)
settled {least = least} r before last k one h wide level few round none = record {
  one_each = length-map last label_of ∙ round.same_length ∙ wide;
  low = λ v d l.
      let in_last : v < length last = omega (arith, length-map last label_of) in
      let at_v = level v in_last in
      let is = get_or-map label_of last v first_step d in_last in
      (omega (arith, ints, is, at_v.0, few), omega (arith, ints, is, at_v.1));
  none_lower = λ a la has.
      let ends = ends_in r.members r.flows h.good a la in
      let in_last : tail r.flows a < length last = omega (arith, round.same_length, wide, ends.0) in
      let same = is_same least r.flows before (tail r.flows a) (label_at last (tail r.flows a)) (arc_at last (tail r.flows a)) (none (tail r.flows a) in_last) (round.caused (tail r.flows a) in_last) in
      omega (arith, ints, round.relaxed a la (omega (arith, one, has)), same, any-get_or-map label_of last (tail r.flows a) first_step, any-get_or-map label_of last (head r.flows a) first_step);
}

-- the level behind a table is as wide, and its labels are one lower at most
pub next_level : {least : ℕ} (r : ResidualData) (levels : List (Vec Step Global)) (any : Vec Step Global) (k : ℕ) (next : List Step) → IsResidual r → IsTable least r.flows r.members levels → k < length levels → IsLevel k (get_or levels k any).items → IsRound least r.flows (get_or levels k any).items next (arc_count r.flows) → IsLevel (k + 1) next × (length next ≡ r.members)
next_level r levels any k next h tab l level round =
    (round_level r.flows (get_or levels k any).items next (arc_count r.flows) k (subst (λ m. All (IsFlow m) r.flows) (sym (tab.wide k any l)) h.good) level round, round.same_length ∙ tab.wide k any l)
