-- Notes of what pairs can do.
use Rattle.std.proofs.Common.{◌≡◌, ◌≢◌, ℕ, ◌+◌, ◌<◌, ◌≤◌, Bool, true, false, ltb, eqb, ◌&&◌, List, length, refl, sym, ap, ◌∙◌, subst, inl, inr, arith}
use Rattle.std.proofs.lemmas.Bool.{cases_eq, cases_Bool, cases_order, eqb-true, eq-eqb, and_parts, and_from, cond-true, cond-false, false_from_ne_true}
use Rattle.member_set.specs.Members.{has}
use Rattle.residual_graph.specs.declared.flow.Flow.{Flow}
use Rattle.residual_graph.specs.Residual.{ResidualData, IsResidual, AreRising}
use Rattle.residual_graph.specs.Arcs.{no_flow, flow_at}
use Rattle.path_solver.specs.declared.entries.Entry.{Entry}
use Rattle.path_solver.specs.Entries.{entry_at, AreEntriesTo, IsNoted}

-- two pairs of the same members are one
pub one_pair : (flows : List Flow) → AreRising flows → (j k : ℕ) → j < length flows → k < length flows
    → (flow_at flows j).seller ≡ (flow_at flows k).seller → (flow_at flows j).buyer ≡ (flow_at flows k).buyer → j ≡ k
one_pair flows rising j k lj lk seller buyer =
    elim (cases_order j k) [
      | inl e ↦ e
      | inr other ↦
          elim other [
            | inl less ↦ absurd (omega (arith, rising j k no_flow less lk, seller, buyer))
            | inr more ↦ absurd (omega (arith, rising k j no_flow more lj, seller, buyer))
          ]
    ]

-- nothing is noted of this pair
abbrev pub IsNew : List Entry → Flow → Type 0
IsNew entries f =
    (has (entry_at entries f.buyer).sellers f.seller ≡ false) × (has (entry_at entries f.seller).buyers f.buyer ≡ false)

-- nor of any behind the first k
pub not_noted : (r : ResidualData) (entries : List Entry) (k : ℕ) → IsResidual r → k < length r.flows → AreEntriesTo k r entries → IsNew entries (flow_at r.flows k)
not_noted r entries k residual l h =
    let good = residual.good k no_flow l in (
      false_from_ne_true (has (entry_at entries (flow_at r.flows k).buyer).sellers (flow_at r.flows k).seller)
          (λ on.
          let was = h.sellers (flow_at r.flows k).buyer (flow_at r.flows k).seller good.buyer on in
          let same : was.0 ≡ k = one_pair r.flows residual.rising was.0 k was.1.0 l was.1.1 was.1.2 in
          omega (arith, same, was.2)),
      false_from_ne_true (has (entry_at entries (flow_at r.flows k).seller).buyers (flow_at r.flows k).buyer)
          (λ on.
          let was = h.buyers (flow_at r.flows k).seller (flow_at r.flows k).buyer good.seller on in
          let same : was.0 ≡ k = one_pair r.flows residual.rising was.0 k was.1.0 l was.1.1 was.1.2 in
          omega (arith, same, was.2)),
    )

-- from the first n pairs to the first m, of which k alone is new or can do something else
pub record IsNext (n m k : ℕ) (r s : ResidualData) : Type 0 where
  pub members : s.members ≡ r.members
  pub within : k < length s.flows
  pub pairs : length s.flows ≡ length r.flows
  pub seller : (j : ℕ) → j < length r.flows → (flow_at s.flows j).seller ≡ (flow_at r.flows j).seller
  pub buyer : (j : ℕ) → j < length r.flows → (flow_at s.flows j).buyer ≡ (flow_at r.flows j).buyer
  pub others : (j : ℕ) → j ≢ k → flow_at s.flows j ≡ flow_at r.flows j
  pub fewer : n ≤ m
  pub last : k < m
  pub rest : (j : ℕ) → j < m → j ≢ k → j < n
  pub all : m ≤ length s.flows

-- one pair more of the same graph
pub next_pair : (r : ResidualData) (k : ℕ) → k < length r.flows → IsNext k (k + 1) k r r
next_pair r k within = record {
  members = refl;
  within = within;
  pairs = refl;
  seller = λ j l. refl;
  buyer = λ j l. refl;
  others = λ j ne. refl;
  fewer = omega arith;
  last = omega arith;
  rest = λ j l ne. omega arith;
  all = omega (arith, within);
}

module _ (n m k : ℕ) (r s : ResidualData) (old new : List Entry) (residual : IsResidual s) (next : IsNext n m k r s) (h : AreEntriesTo n r old) (noted : IsNoted (flow_at s.flows k) old new) where
  other : (j : ℕ) → j < m → j ≢ k → (eqb (flow_at s.flows j).buyer (flow_at s.flows k).buyer && eqb (flow_at s.flows j).seller (flow_at s.flows k).seller) ≡ false
  other j l ne =
      false_from_ne_true (eqb (flow_at s.flows j).buyer (flow_at s.flows k).buyer && eqb (flow_at s.flows j).seller (flow_at s.flows k).seller)
      (λ e. let both = and_parts (eqb (flow_at s.flows j).buyer (flow_at s.flows k).buyer) (eqb (flow_at s.flows j).seller (flow_at s.flows k).seller) e in
      ne (one_pair s.flows residual.rising j k (omega (arith, next.all)) next.within (eqb-true (flow_at s.flows j).seller (flow_at s.flows k).seller both.1) (eqb-true (flow_at s.flows j).buyer (flow_at s.flows k).buyer both.0)))

  other_back : (j : ℕ) → j < m → j ≢ k → (eqb (flow_at s.flows j).seller (flow_at s.flows k).seller && eqb (flow_at s.flows j).buyer (flow_at s.flows k).buyer) ≡ false
  other_back j l ne =
      false_from_ne_true (eqb (flow_at s.flows j).seller (flow_at s.flows k).seller && eqb (flow_at s.flows j).buyer (flow_at s.flows k).buyer)
      (λ e. let both = and_parts (eqb (flow_at s.flows j).seller (flow_at s.flows k).seller) (eqb (flow_at s.flows j).buyer (flow_at s.flows k).buyer) e in
      ne (one_pair s.flows residual.rising j k (omega (arith, next.all)) next.within (eqb-true (flow_at s.flows j).seller (flow_at s.flows k).seller both.0) (eqb-true (flow_at s.flows j).buyer (flow_at s.flows k).buyer both.1)))

  pub noted_more : AreEntriesTo m s new
  noted_more = record {
    one_each = noted.one_each ∙ h.one_each ∙ sym next.members;
    growing = λ j l.
        let good = residual.good j no_flow (omega (arith, next.all)) in
        let in_old : (flow_at s.flows j).buyer < length old = omega (arith, good.buyer, h.one_each, next.members) in
        let step = noted.sellers (flow_at s.flows j).buyer (flow_at s.flows j).seller in_old in
        elim (cases_eq j k) [
          | inl e ↦
              let test : (eqb (flow_at s.flows j).buyer (flow_at s.flows k).buyer && eqb (flow_at s.flows j).seller (flow_at s.flows k).seller) ≡ true =
              and_from (eqb (flow_at s.flows j).buyer (flow_at s.flows k).buyer) (eqb (flow_at s.flows j).seller (flow_at s.flows k).seller) (eq-eqb (flow_at s.flows j).buyer (flow_at s.flows k).buyer (ap (λ i. (flow_at s.flows i).buyer) e)) (eq-eqb (flow_at s.flows j).seller (flow_at s.flows k).seller (ap (λ i. (flow_at s.flows i).seller) e)) in
              step ∙ cond-true {A = Bool} (eqb (flow_at s.flows j).buyer (flow_at s.flows k).buyer && eqb (flow_at s.flows j).seller (flow_at s.flows k).seller) (ltb 0 (flow_at s.flows k).room) (has (entry_at old (flow_at s.flows j).buyer).sellers (flow_at s.flows j).seller) test
              ∙ ap (λ i. ltb 0 (flow_at s.flows i).room) (sym e)
          | inr ne ↦
              step ∙ cond-false {A = Bool} (eqb (flow_at s.flows j).buyer (flow_at s.flows k).buyer && eqb (flow_at s.flows j).seller (flow_at s.flows k).seller) (ltb 0 (flow_at s.flows k).room) (has (entry_at old (flow_at s.flows j).buyer).sellers (flow_at s.flows j).seller) (other j l ne)
              ∙ subst (λ (g : Flow). has (entry_at old g.buyer).sellers g.seller ≡ ltb 0 g.room) (sym (next.others j ne)) (h.growing j (next.rest j l ne))
        ];
    falling = λ j l.
        let good = residual.good j no_flow (omega (arith, next.all)) in
        let in_old : (flow_at s.flows j).seller < length old = omega (arith, good.seller, h.one_each, next.members) in
        let step = noted.buyers (flow_at s.flows j).seller (flow_at s.flows j).buyer in_old in
        elim (cases_eq j k) [
          | inl e ↦
              let test : (eqb (flow_at s.flows j).seller (flow_at s.flows k).seller && eqb (flow_at s.flows j).buyer (flow_at s.flows k).buyer) ≡ true =
              and_from (eqb (flow_at s.flows j).seller (flow_at s.flows k).seller) (eqb (flow_at s.flows j).buyer (flow_at s.flows k).buyer) (eq-eqb (flow_at s.flows j).seller (flow_at s.flows k).seller (ap (λ i. (flow_at s.flows i).seller) e)) (eq-eqb (flow_at s.flows j).buyer (flow_at s.flows k).buyer (ap (λ i. (flow_at s.flows i).buyer) e)) in
              step ∙ cond-true {A = Bool} (eqb (flow_at s.flows j).seller (flow_at s.flows k).seller && eqb (flow_at s.flows j).buyer (flow_at s.flows k).buyer) (ltb 0 (flow_at s.flows k).back) (has (entry_at old (flow_at s.flows j).seller).buyers (flow_at s.flows j).buyer) test
              ∙ ap (λ i. ltb 0 (flow_at s.flows i).back) (sym e)
          | inr ne ↦
              step ∙ cond-false {A = Bool} (eqb (flow_at s.flows j).seller (flow_at s.flows k).seller && eqb (flow_at s.flows j).buyer (flow_at s.flows k).buyer) (ltb 0 (flow_at s.flows k).back) (has (entry_at old (flow_at s.flows j).seller).buyers (flow_at s.flows j).buyer) (other_back j l ne)
              ∙ subst (λ (g : Flow). has (entry_at old g.seller).buyers g.buyer ≡ ltb 0 g.back) (sym (next.others j ne)) (h.falling j (next.rest j l ne))
        ];
    sellers = λ v u l on.
        let in_old : v < length old = omega (arith, h.one_each, next.members) in
        let step = noted.sellers v u in_old in
        elim (cases_Bool (eqb v (flow_at s.flows k).buyer && eqb u (flow_at s.flows k).seller)) [
          | inl test ↦
              let both = and_parts (eqb v (flow_at s.flows k).buyer) (eqb u (flow_at s.flows k).seller) test in
              (k, (next.within, sym (eqb-true u (flow_at s.flows k).seller both.1), sym (eqb-true v (flow_at s.flows k).buyer both.0)), next.last)
          | inr test ↦
              let was : has (entry_at old v).sellers u ≡ true =
              sym (cond-false {A = Bool} (eqb v (flow_at s.flows k).buyer && eqb u (flow_at s.flows k).seller) (ltb 0 (flow_at s.flows k).room) (has (entry_at old v).sellers u) test) ∙ sym step ∙ on in
              let w = h.sellers v u (omega (arith, next.members)) was in
              (w.0, (omega (arith, w.1.0, next.pairs), next.seller w.0 w.1.0 ∙ w.1.1, next.buyer w.0 w.1.0 ∙ w.1.2), omega (arith, w.2, next.fewer))
        ];
    buyers = λ v u l on.
        let in_old : v < length old = omega (arith, h.one_each, next.members) in
        let step = noted.buyers v u in_old in
        elim (cases_Bool (eqb v (flow_at s.flows k).seller && eqb u (flow_at s.flows k).buyer)) [
          | inl test ↦
              let both = and_parts (eqb v (flow_at s.flows k).seller) (eqb u (flow_at s.flows k).buyer) test in
              (k, (next.within, sym (eqb-true v (flow_at s.flows k).seller both.0), sym (eqb-true u (flow_at s.flows k).buyer both.1)), next.last)
          | inr test ↦
              let was : has (entry_at old v).buyers u ≡ true =
              sym (cond-false {A = Bool} (eqb v (flow_at s.flows k).seller && eqb u (flow_at s.flows k).buyer) (ltb 0 (flow_at s.flows k).back) (has (entry_at old v).buyers u) test) ∙ sym step ∙ on in
              let w = h.buyers v u (omega (arith, next.members)) was in
              (w.0, (omega (arith, w.1.0, next.pairs), next.seller w.0 w.1.0 ∙ w.1.1, next.buyer w.0 w.1.0 ∙ w.1.2), omega (arith, w.2, next.fewer))
        ];
  }
