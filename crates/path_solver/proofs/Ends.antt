-- The ends of arcs.
use Rattle.std.proofs.Common.{◌≡◌, ◌⊎◌, ℕ, ◌<◌, Bool, true, false, List, length, refl, sym, ap, ◌∙◌, inl, inr}
use Rattle.std.proofs.lemmas.Bool.{cases_Bool}
use Rattle.residual_graph.specs.declared.flow.Flow.{Flow}
use Rattle.residual_graph.specs.Residual.{ResidualData, IsResidual, IsFlow}
use Rattle.residual_graph.specs.Arcs.{arc_count, pair, is_forward, no_flow, flow_at, head, head_in, tail, tail_in}
use Rattle.residual_graph.proofs.Kept.{pair_below}

ends_of : (n : ℕ) (f : Flow) (p : Bool) → IsFlow n f → (tail_in f p < n) × (head_in f p < n)
ends_of n f true h = (h.seller, h.buyer)
ends_of n f false h = (h.buyer, h.seller)

-- the ends of an arc are members
pub ends_in : (r : ResidualData) → IsResidual r → (a : ℕ) → a < arc_count r.flows → (tail r.flows a < r.members) × (head r.flows a < r.members)
ends_in r h a l = ends_of r.members (flow_at r.flows (pair a)) (is_forward a) (h.good (pair a) no_flow (pair_below a (length r.flows) l))

-- the ends of an arc of the same pair
ends_of_pair : (flows : List Flow) (a b : ℕ) → pair b ≡ pair a → (c : Bool) → is_forward b ≡ c → (tail flows b ≡ tail_in (flow_at flows (pair a)) c) × (head flows b ≡ head_in (flow_at flows (pair a)) c)
ends_of_pair flows a b e c q = (
  ap (λ j. tail_in (flow_at flows j) (is_forward b)) e ∙ ap (tail_in (flow_at flows (pair a))) q,
  ap (λ j. head_in (flow_at flows j) (is_forward b)) e ∙ ap (head_in (flow_at flows (pair a))) q,
)

-- an arc of the same pair has the same ends, or the other way round
pub same_pair : (flows : List Flow) (a b : ℕ) → pair b ≡ pair a → ((tail flows b ≡ tail flows a) × (head flows b ≡ head flows a)) ⊎ ((tail flows b ≡ head flows a) × (head flows b ≡ tail flows a))
same_pair flows a b e =
    elim (cases_Bool (is_forward a)) [
      | inl on_a ↦
          let at_a = ends_of_pair flows a a refl true on_a in
          elim (cases_Bool (is_forward b)) [
            | inl on_b ↦ let at_b = ends_of_pair flows a b e true on_b in inl (at_b.0 ∙ sym at_a.0, at_b.1 ∙ sym at_a.1)
            | inr off_b ↦ let at_b = ends_of_pair flows a b e false off_b in inr (at_b.0 ∙ sym at_a.1, at_b.1 ∙ sym at_a.0)
          ]
      | inr off_a ↦
          let at_a = ends_of_pair flows a a refl false off_a in
          elim (cases_Bool (is_forward b)) [
            | inl on_b ↦ let at_b = ends_of_pair flows a b e true on_b in inr (at_b.0 ∙ sym at_a.1, at_b.1 ∙ sym at_a.0)
            | inr off_b ↦ let at_b = ends_of_pair flows a b e false off_b in inl (at_b.0 ∙ sym at_a.0, at_b.1 ∙ sym at_a.1)
          ]
    ]
