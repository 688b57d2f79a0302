-- What each phase keeps, and what is left in the end.
use Rattle.std.proofs.Common.{◌≡◌, ◌≢◌, ℕ, zero, suc, ◌+◌, ◌*◌, ◌<◌, ◌≤◌, ◌%◌, Bool, true, false, List, length, get_or, map, replicate, All, refl, sym, ap, ◌∙◌, true≢false, subst, arith, inl, inr, ◌⊎◌, ⊎_elim}
use Rattle.std.proofs.lemmas.Bool.{cases_eq, cases_lt, eq-eqb, lt-ltb, le-ltb, ne_eqb}
use Rattle.std.proofs.lemmas.Int.{ints}
use Rattle.std.proofs.lemmas.List.{get_or_past, get_or_default, get_or-map, length-map}
use Rattle.residual_graph.specs.declared.flow.Flow.{Flow}
use Rattle.residual_graph.specs.Residual.{ResidualData, IsResidual, flow_place}
use Rattle.residual_graph.specs.Arcs.{pair, is_forward, no_flow, flow_at, room, room_in, head, head_in, tail, tail_in}
use Rattle.path_solver.specs.Prices.{IsTight, ArePrices, first_price}
use Rattle.member_set.specs.declared.set.MemberSet.{MemberSet}
use Rattle.member_set.specs.Members.{has}
use Rattle.path_solver.specs.Rests.{IsSamePair, AreSamePairs, IsFeasible, AreApart, IsSentAlong, HaveSome, owed}
use Rattle.path_solver.specs.Levels.{IsReached, AreCut}
use Rattle.path_solver.specs.Phases.{IsPhase, IsSettled, raised_price}
use Rattle.path_solver.proofs.Same.{same_refl, same_sym, same_trans}
use Rattle.path_solver.proofs.Cuts.{no_lack}
use Rattle.path_solver.proofs.Pigeons.{few_phases}
use Rattle.path_solver.proofs.TakenBack.{back_of}

place_same : (f g : Flow) → IsSamePair f g → flow_place g ≡ flow_place f
place_same f g h = omega (arith, h.seller, h.buyer)

-- the same pairs are those of a residual graph
pub residual_kept : (a b : ResidualData) → b.members ≡ a.members → AreSamePairs a.flows b.flows → IsResidual a → IsResidual b
residual_kept a b members same h = record {
  few = omega (arith, h.few, members);
  good = λ k d l.
      let in_a : k < length a.flows = omega (arith, same.same_length) in
      let good = h.good k no_flow in_a in
      let s = same.each k in_a in
      let is = get_or_default b.flows k d no_flow l in
      let e_s = ap (λ (f : Flow). f.seller) is ∙ s.seller in
      let e_b = ap (λ (f : Flow). f.buyer) is ∙ s.buyer in
      record {
        seller = omega (arith, e_s, good.seller, members);
        buyer = omega (arith, e_b, good.buyer, members);
        different = λ e. good.different (sym e_s ∙ e ∙ e_b);
        small = omega (arith, good.small, s.lower, s.most, ap (λ (f : Flow). f.lower) is, ap (λ (f : Flow). f.back) is, ap (λ (f : Flow). f.room) is);
      };
  rising = λ i j d lt l.
      let in_j : j < length a.flows = omega (arith, same.same_length) in
      let in_i : i < length b.flows = omega arith in
      omega (
        arith,
        ap flow_place (get_or_default b.flows i d no_flow in_i),
        ap flow_place (get_or_default b.flows j d no_flow l),
        place_same (flow_at a.flows i) (flow_at b.flows i) (same.each i (omega arith)),
        place_same (flow_at a.flows j) (flow_at b.flows j) (same.each j in_j),
        h.rising i j no_flow lt in_j,
      );
}

pub feasible_kept : (old new : List Flow) (s l s' l' : List ℕ) → AreSamePairs old new → ((i : ℕ) → owed new s' l' i ≡ owed old s l i) → IsFeasible old s l → IsFeasible new s' l'
feasible_kept old new s l s' l' same e f = (f.0, same_trans new old f.0 (same_sym old new same) f.1, λ i. f.2 i ∙ sym (e i))

zeros : (n v : ℕ) → let none : ℕ = 0 in get_or (replicate n none) v none ≡ none
zeros zero v = refl
zeros (suc n) zero = refl
zeros (suc n) (suc v) = zeros n v

-- before anything is sent
pub phase_none : (r : ResidualData) (surplus lack p : List ℕ) → p ≡ replicate r.members 0 → All (λ (f : Flow). f.back ≡ 0) r.flows → AreApart surplus lack → IsPhase r r surplus lack surplus lack p 0
phase_none r surplus lack p is lowest apart =
    let zero_at = λ (v : ℕ). ap (λ xs. get_or xs v 0) is ∙ zeros r.members v in
    record {
      members = refl;
      pairs = same_refl r.flows;
      owed = λ i. refl;
      priced = λ k l. record { growing = λ _. omega (arith, zero_at (flow_at r.flows k).seller); falling = λ b. absurd (omega (arith, b, lowest k no_flow l)) };
      rated = record { senders = λ v _. zero_at v; receivers = λ v _. zero_at v; most = λ v. omega (arith, zero_at v) };
      apart = apart;
      few = omega arith;
    }

-- the first phase, of prices 0 and 1
pub first_phase : (r : ResidualData) (surplus lack p : List ℕ) (top : ℕ) → p ≡ map first_price lack → length surplus ≡ r.members → length lack ≡ r.members → top ≤ r.members → (0 < r.members → top ≡ 1) → All (λ (f : Flow). f.back ≡ 0) r.flows → AreApart surplus lack → IsPhase r r surplus lack surplus lack p top
first_phase r surplus lack p top is len_s len_l few one lowest apart = record {
  members = refl;
  pairs = same_refl r.flows;
  owed = λ i. refl;
  priced = λ k l. record { growing = λ _. omega (arith, low (flow_at r.flows k).seller); falling = λ b. absurd (omega (arith, b, lowest k no_flow l)) };
  rated = record {
    senders = λ v sends.
        let in_v = inside surplus v sends in
        let none : get_or lack v 0 ≡ 0 = ⊎_elim (λ (e : get_or lack v 0 ≡ 0). e) (λ (ne : get_or lack v 0 ≢ 0). absurd (omega (arith, sends, apart v (omega arith)))) (cases_eq (get_or lack v 0) 0) in
        at v (omega (arith, in_v, len_s, len_l)) ∙ ap first_price none ∙ sym (one (omega (arith, in_v, len_s)));
    receivers = λ v receives. at v (inside lack v receives) ∙ rw (lt-ltb 0 (get_or lack v 0) receives) refl;
    most = λ v.
        ⊎_elim (λ (in_v : v < length lack). omega (arith, low v, one (omega (arith, in_v, len_l))))
        (λ (out : length lack ≤ v). omega (arith, get_or_past p v 0 (omega (arith, out, ap length is, length-map lack first_price))))
        (cases_lt v (length lack));
  };
  apart = apart;
  few = few;
}
  where
    at : (v : ℕ) → v < length lack → get_or p v 0 ≡ first_price (get_or lack v 0)
    at v l = ap (λ xs. get_or xs v 0) is ∙ get_or-map first_price lack v 0 0 l

    at_most : (x : ℕ) → first_price x ≤ 1
    at_most x =
        ⊎_elim (λ (some : 0 < x). let is : first_price x ≡ 0 = rw (lt-ltb 0 x some) refl in omega (arith, is))
        (λ (none : x ≤ 0). let is : first_price x ≡ 1 = rw (le-ltb 0 x none) refl in omega (arith, is))
        (cases_lt 0 x)

    low : (v : ℕ) → get_or p v 0 ≤ 1
    low v =
        ⊎_elim (λ (in_v : v < length lack). omega (arith, at v in_v, at_most (get_or lack v 0)))
        (λ (out : length lack ≤ v). omega (arith, get_or_past p v 0 (omega (arith, out, ap length is, length-map lack first_price))))
        (cases_lt v (length lack))

    inside : (xs : List ℕ) (v : ℕ) → 0 < get_or xs v 0 → v < length xs
    inside xs v some = ⊎_elim (λ (lt : v < length xs). lt) (λ (ge : length xs ≤ v). absurd (omega (arith, some, get_or_past xs v 0 ge))) (cases_lt v (length xs))

pub phase_sent : {old a b : ResidualData} {s0 l0 s l s' l' p : List ℕ} {top : ℕ} → IsPhase old a s0 l0 s l p top → IsSentAlong p a b s l s' l' → IsPhase old b s0 l0 s' l' p top
phase_sent {old} {a} {b} {s0} {l0} {s} {l} {s'} {l'} {p} {top} h x = record {
  members = x.members ∙ h.members;
  pairs = same_trans old.flows a.flows b.flows h.pairs x.pairs;
  owed = λ i. x.owed i ∙ h.owed i;
  priced = x.priced h.priced;
  rated = record { senders = λ v some. h.rated.senders v (x.senders v some); receivers = λ v some. h.rated.receivers v (x.receivers v some); most = h.rated.most };
  apart = λ v some.
      let none = h.apart v (x.receivers v some) in
      ⊎_elim (λ (e : get_or s' v 0 ≡ 0). e) (λ (ne : get_or s' v 0 ≢ 0). absurd (omega (arith, none, x.senders v (omega arith)))) (cases_eq (get_or s' v 0) 0);
  few = h.few;
}

pub forward_of : (k : ℕ) → (pair (2 * k) ≡ k) × (is_forward (2 * k) ≡ true)
forward_of k = (omega arith, eq-eqb (2 * k % 2) 0 (omega arith))

-- what the arcs of pair k are
pub arc_is : (flows : List Flow) (a k : ℕ) (b : Bool) → pair a ≡ k → is_forward a ≡ b → (room flows a ≡ room_in (flow_at flows k) b) × (head flows a ≡ head_in (flow_at flows k) b) × (tail flows a ≡ tail_in (flow_at flows k) b)
arc_is flows a k b e q = (
  ap (λ j. room_in (flow_at flows j) (is_forward a)) e ∙ ap (room_in (flow_at flows k)) q,
  ap (λ j. head_in (flow_at flows j) (is_forward a)) e ∙ ap (head_in (flow_at flows k)) q,
  ap (λ j. tail_in (flow_at flows j) (is_forward a)) e ∙ ap (tail_in (flow_at flows k)) q,
)

-- a price rises by 1 where the member is not reached
raised_cases : (levels p : List ℕ) (v : ℕ) → ((get_or levels v 0 ≡ 65535) × (raised_price levels p v ≡ get_or p v 0 + 1)) ⊎ (IsReached levels v × (raised_price levels p v ≡ get_or p v 0))
raised_cases levels p v =
    ⊎_elim (λ (e : get_or levels v 0 ≡ 65535). inl (e, rw (eq-eqb (get_or levels v 0) 65535 e) refl))
    (λ (ne : get_or levels v 0 ≢ 65535). inr (ne, rw (ne_eqb (get_or levels v 0) 65535 ne) refl))
    (cases_eq (get_or levels v 0) 65535)

-- after a raise outside a cut the prices are those of the next phase
pub raised_phase : {old r : ResidualData} {s0 l0 s l p levels : List ℕ} {top : ℕ} (p' : List ℕ) (v0 : ℕ) → IsResidual old → IsFeasible old.flows s0 l0 → length p ≡ old.members → length p' ≡ length p → length levels ≡ old.members → length s ≡ old.members → 0 < get_or s v0 0 → IsPhase old r s0 l0 s l p top → AreCut r.flows p s l levels → ((v : ℕ) → v < length p → get_or p' v 0 ≡ raised_price levels p v) → (top < old.members) × IsPhase old r s0 l0 s l p' (top + 1)
raised_phase {old} {r} {s0} {l0} {s} {l} {p} {levels} {top} p' v0 residual feasible len_p len_p' len_levels len_s some h cut raised = (
  low,
  record {
    members = h.members;
    pairs = h.pairs;
    owed = h.owed;
    priced = priced;
    rated = record {
      senders = λ v sends. let in_v : v < old.members = below v sends in
          ⊎_elim (λ (x : (get_or levels v 0 ≡ 65535) × (raised_price levels p v ≡ get_or p v 0 + 1)). omega (arith, raised v (omega (arith, len_p, in_v)), x.1, h.rated.senders v sends))
          (λ (x : IsReached levels v × (raised_price levels p v ≡ get_or p v 0)). absurd (x.0 (cut.senders v (omega (arith, len_levels, in_v)) sends)))
          (raised_cases levels p v);
      receivers = λ v receives.
          ⊎_elim (λ (in_v : v < length p). ⊎_elim (λ (x : (get_or levels v 0 ≡ 65535) × (raised_price levels p v ≡ get_or p v 0 + 1)). absurd (cut.receivers v receives x.0))
          (λ (x : IsReached levels v × (raised_price levels p v ≡ get_or p v 0)). raised v in_v ∙ x.1 ∙ h.rated.receivers v receives)
          (raised_cases levels p v))
          (λ (out : length p ≤ v). get_or_past p' v 0 (omega (arith, len_p')))
          (cases_lt v (length p));
      most = λ v.
          ⊎_elim (λ (in_v : v < length p). ⊎_elim (λ (x : (get_or levels v 0 ≡ 65535) × (raised_price levels p v ≡ get_or p v 0 + 1)). omega (arith, raised v in_v, x.1, h.rated.most v))
          (λ (x : IsReached levels v × (raised_price levels p v ≡ get_or p v 0)). omega (arith, raised v in_v, x.1, h.rated.most v))
          (raised_cases levels p v))
          (λ (out : length p ≤ v). omega (arith, get_or_past p' v 0 (omega (arith, len_p'))))
          (cases_lt v (length p));
    };
    apart = h.apart;
    few = omega (arith, low);
  },
)
  where
    below : (v : ℕ) → 0 < get_or s v 0 → v < old.members
    below v sends =
        ⊎_elim (λ (lt : v < old.members). lt) (λ (ge : old.members ≤ v). absurd (omega (arith, sends, get_or_past s v 0 (omega (arith, len_s))))) (cases_lt v old.members)

    low : top < old.members
    low = omega (arith, h.members, few_phases r p s l top v0 (residual_kept old r h.members h.pairs residual) (feasible_kept old.flows r.flows s0 l0 s l h.pairs h.owed feasible) h.priced h.rated (len_p ∙ sym h.members) (omega (arith, below v0 some, h.members)) some)

    priced : ArePrices r.flows p'
    priced k lk =
        let f = flow_at r.flows k in
        let good = (residual_kept old r h.members h.pairs residual).good k no_flow lk in
        let in_s : f.seller < length p = omega (arith, good.seller, len_p, h.members) in
        let in_b : f.buyer < length p = omega (arith, good.buyer, len_p, h.members) in
        let at_s = raised f.seller in_s in
        let at_b = raised f.buyer in_b in
        let was = h.priced k lk in
        let there = forward_of k in
        let back = back_of k in
        let arc = arc_is r.flows (2 * k) k true there.0 there.1 in
        let twin = arc_is r.flows (2 * k + 1) k false back.0 back.1 in
        ⊎_elim (λ (x : (get_or levels f.seller 0 ≡ 65535) × (raised_price levels p f.seller ≡ get_or p f.seller 0 + 1)).
        ⊎_elim (λ (y : (get_or levels f.buyer 0 ≡ 65535) × (raised_price levels p f.buyer ≡ get_or p f.buyer 0 + 1)).
        record { growing = λ room_k. omega (arith, was.growing room_k, at_s, at_b, x.1, y.1); falling = λ back_k. omega (arith, was.falling back_k, at_s, at_b, x.1, y.1) })
        (λ (y : IsReached levels f.buyer × (raised_price levels p f.buyer ≡ get_or p f.buyer 0)).
        record {
          growing = λ room_k.
              let not_tight : get_or p f.seller 0 ≢ get_or p f.buyer 0 + 1 = λ t. cut.closed (2 * k) (omega (arith, lk)) (omega (arith, arc.0, room_k), subst (λ j. IsTight p (flow_at r.flows j)) (sym there.0) t) (λ e. y.0 (ap (λ v. get_or levels v 0) (sym arc.1) ∙ e)) (ap (λ v. get_or levels v 0) arc.2 ∙ x.0) in
              omega (arith, was.growing room_k, not_tight, at_s, at_b, x.1, y.1);
          falling = λ back_k. omega (arith, was.falling back_k, at_s, at_b, x.1, y.1);
        })
        (raised_cases levels p f.buyer))
        (λ (x : IsReached levels f.seller × (raised_price levels p f.seller ≡ get_or p f.seller 0)).
        ⊎_elim (λ (y : (get_or levels f.buyer 0 ≡ 65535) × (raised_price levels p f.buyer ≡ get_or p f.buyer 0 + 1)).
        record {
          growing = λ room_k. omega (arith, was.growing room_k, at_s, at_b, x.1, y.1);
          falling = λ back_k.
              let not_tight : get_or p f.seller 0 ≢ get_or p f.buyer 0 + 1 = λ t. cut.closed (2 * k + 1) (omega (arith, lk)) (omega (arith, twin.0, back_k), subst (λ j. IsTight p (flow_at r.flows j)) (sym back.0) t) (λ e. x.0 (ap (λ v. get_or levels v 0) (sym twin.1) ∙ e)) (ap (λ v. get_or levels v 0) twin.2 ∙ y.0) in
              omega (arith, was.falling back_k, not_tight, at_s, at_b, x.1, y.1);
        })
        (λ (y : IsReached levels f.buyer × (raised_price levels p f.buyer ≡ get_or p f.buyer 0)).
        record { growing = λ room_k. omega (arith, was.growing room_k, at_s, at_b, x.1, y.1); falling = λ back_k. omega (arith, was.falling back_k, at_s, at_b, x.1, y.1) })
        (raised_cases levels p f.buyer))
        (raised_cases levels p f.seller)

-- the price of those that have to send in the first phase: 1 where there are members
pub first_top : (n : ℕ) → (top : ℕ) × (top ≤ n) × (0 < n → top ≡ 1)
first_top zero = (0, omega arith, λ some. absurd (omega (arith, some)))
first_top (suc n) = (1, omega arith, λ _. refl)

-- the first phase after its amounts went straight, with the price of those that have to send
pub straight_phase : {old mid : ResidualData} {s0 l0 s l p : List ℕ} → p ≡ map first_price l0 → length s0 ≡ old.members → length l0 ≡ old.members → All (λ (f : Flow). f.back ≡ 0) old.flows → AreApart s0 l0 → IsSentAlong p old mid s0 l0 s l → IsPhase old mid s0 l0 s l p (first_top old.members).0
straight_phase {old} {mid} {s0} {l0} {s} {l} {p} is len_s len_l lowest apart sent =
    let top = first_top old.members in
    phase_sent (first_phase old s0 l0 p top.0 is len_s len_l top.1 top.2 lowest apart) sent

-- what is settled from later amounts on is settled from earlier ones on
pub settled_more : {old mid new : ResidualData} {s0 l0 s l p : List ℕ} → mid.members ≡ old.members → AreSamePairs old.flows mid.flows → ((i : ℕ) → owed mid.flows s l i ≡ owed old.flows s0 l0 i) → IsSettled mid new s l p → IsSettled old new s0 l0 p
settled_more {old} {mid} {new} {s0} {l0} {s} {l} {p} members pairs nets h = record {
  members = h.members ∙ members;
  pairs = same_trans old.flows mid.flows new.flows pairs h.pairs;
  nets = λ i in_i. h.nets i (omega (arith, in_i, members)) ∙ nets i;
  priced = h.priced;
  one_each = h.one_each ∙ members;
  most = λ v. omega (arith, h.most v, members);
}

-- a phase from its own amounts on
pub phase_anew : {old mid : ResidualData} {s0 l0 s l p : List ℕ} {top : ℕ} → IsPhase old mid s0 l0 s l p top → IsPhase mid mid s l s l p top
phase_anew {old} {mid} {s0} {l0} {s} {l} {p} {top} h = record {
  members = refl;
  pairs = same_refl mid.flows;
  owed = λ i. refl;
  priced = h.priced;
  rated = h.rated;
  apart = h.apart;
  few = omega (arith, h.few, h.members);
}

-- a later phase of the same amounts
pub phase_later : {old mid : ResidualData} {s0 l0 s l p p' : List ℕ} {top later : ℕ} → IsPhase old mid s0 l0 s l p top → IsPhase mid mid s l s l p' later → IsPhase old mid s0 l0 s l p' later
phase_later {old} {mid} {s0} {l0} {s} {l} {p} {p'} {top} {later} h x = record {
  members = h.members;
  pairs = h.pairs;
  owed = h.owed;
  priced = x.priced;
  rated = x.rated;
  apart = h.apart;
  few = omega (arith, x.few, h.members);
}

-- no member has an amount where none is in the set
pub none_left : (amounts : List ℕ) (set : MemberSet) → HaveSome amounts set → ((v : ℕ) → has set v ≡ false) → (v : ℕ) → get_or amounts v 0 ≡ 0
none_left amounts set are none v =
    elim (cases_eq (get_or amounts v 0) 0) [
      | inl e ↦ e
      | inr ne ↦ absurd (true≢false (sym ((are v).1 (omega (arith, ne))) ∙ none v))
    ]

-- where nothing is left to send
pub settled : {old r : ResidualData} {s0 l0 s l p : List ℕ} {top : ℕ} → IsResidual old → IsFeasible old.flows s0 l0 → length p ≡ old.members → ((v : ℕ) → get_or s v 0 ≡ 0) → IsPhase old r s0 l0 s l p top → IsSettled old r s0 l0 p
settled {old} {r} {s0} {l0} {s} {l} {p} {top} residual feasible len_p none h =
    let now = residual_kept old r h.members h.pairs residual in
    let still = feasible_kept old.flows r.flows s0 l0 s l h.pairs h.owed feasible in
    record {
      members = h.members;
      pairs = h.pairs;
      nets = λ i in_i. omega (arith, ints, h.owed i, none i, no_lack r s l now still none i (omega (arith, h.members)));
      priced = h.priced;
      one_each = len_p;
      most = λ v. omega (arith, h.rated.most v, h.few);
    }
