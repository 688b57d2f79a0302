-- The same pairs: what stays when amounts move within the bounds.
use Rattle.std.proofs.Common.{◌≡◌, ◌≢◌, ℕ, ◌+◌, ◌<◌, ◌≤◌, Bool, true, false, List, length, get_or, refl, sym, ap, ◌∙◌, subst, arith, ⊎_elim, length-set, get_or-set_same, get_or-set_other}
use Rattle.std.proofs.lemmas.Bool.{cases_eq}
use Rattle.residual_graph.specs.declared.flow.Flow.{Flow}
use Rattle.residual_graph.specs.Arcs.{arc_count, pair, is_forward, no_flow, flow_at, room, room_in, head, head_in, tail, tail_in, moved, pushed}
use Rattle.residual_graph.proofs.Kept.{pair_below}
use Rattle.path_solver.specs.Prices.{IsTight, IsPriced, ArePrices}
use Rattle.path_solver.specs.Rests.{IsSamePair, AreSamePairs}

pub same_refl : (flows : List Flow) → AreSamePairs flows flows
same_refl flows = record { same_length = refl; each = λ k l. record { seller = refl; buyer = refl; lower = refl; most = refl } }

pub same_sym : (a b : List Flow) → AreSamePairs a b → AreSamePairs b a
same_sym a b h = record {
  same_length = sym h.same_length;
  each = λ k l.
      let x = h.each k (omega (arith, h.same_length)) in
      record { seller = sym x.seller; buyer = sym x.buyer; lower = sym x.lower; most = sym x.most };
}

pub same_trans : (a b c : List Flow) → AreSamePairs a b → AreSamePairs b c → AreSamePairs a c
same_trans a b c p q = record {
  same_length = q.same_length ∙ p.same_length;
  each = λ k l.
      let x = p.each k l in
      let y = q.each k (omega (arith, p.same_length)) in
      record { seller = y.seller ∙ x.seller; buyer = y.buyer ∙ x.buyer; lower = y.lower ∙ x.lower; most = y.most ∙ x.most };
}

moved_same : (x : ℕ) (f : Flow) (p : Bool) → x ≤ room_in f p → IsSamePair f (moved x p f)
moved_same x f true h = record { seller = refl; buyer = refl; lower = refl; most = omega arith }
moved_same x f false h = record { seller = refl; buyer = refl; lower = refl; most = omega arith }

pub flow_at_pushed : (x : ℕ) (flows : List Flow) (a : ℕ) → pair a < length flows → flow_at (pushed x flows a) (pair a) ≡ moved x (is_forward a) (flow_at flows (pair a))
flow_at_pushed x flows a l = get_or-set_same flows (pair a) (moved x (is_forward a) (flow_at flows (pair a))) no_flow l

pub flow_at_other : (x : ℕ) (flows : List Flow) (a k : ℕ) → k ≢ pair a → flow_at (pushed x flows a) k ≡ flow_at flows k
flow_at_other x flows a k ne = get_or-set_other flows (pair a) k (moved x (is_forward a) (flow_at flows (pair a))) no_flow ne

-- a push moves an amount within the bounds
pub pushed_same : (x : ℕ) (flows : List Flow) (a : ℕ) → pair a < length flows → x ≤ room flows a → AreSamePairs flows (pushed x flows a)
pushed_same x flows a l h = record {
  same_length = length-set flows (pair a) (moved x (is_forward a) (flow_at flows (pair a)));
  each = λ k lk.
      ⊎_elim (λ (e : k ≡ pair a).
      subst (λ j. IsSamePair (flow_at flows j) (flow_at (pushed x flows a) j)) (sym e)
      (subst (λ g. IsSamePair (flow_at flows (pair a)) g) (sym (flow_at_pushed x flows a l)) (moved_same x (flow_at flows (pair a)) (is_forward a) h)))
      (λ (ne : k ≢ pair a). subst (λ g. IsSamePair (flow_at flows k) g) (sym (flow_at_other x flows a k ne)) (record { seller = refl; buyer = refl; lower = refl; most = refl }))
      (cases_eq k (pair a));
}

tail_same : (f g : Flow) (p : Bool) → IsSamePair f g → (tail_in g p ≡ tail_in f p) × (head_in g p ≡ head_in f p)
tail_same f g true h = (h.seller, h.buyer)
tail_same f g false h = (h.buyer, h.seller)

-- arcs start and end where they did
pub same_ends : (old new : List Flow) → AreSamePairs old new → (a : ℕ) → a < arc_count old → (tail new a ≡ tail old a) × (head new a ≡ head old a)
same_ends old new h a l = tail_same (flow_at old (pair a)) (flow_at new (pair a)) (is_forward a) (h.each (pair a) (pair_below a (length old) l))

pub same_tight : (p : List ℕ) (f g : Flow) → IsSamePair f g → IsTight p f → IsTight p g
same_tight p f g h t = ap (λ v. get_or p v 0) h.seller ∙ t ∙ ap (λ v. get_or p v 0 + 1) (sym h.buyer)

moved_priced : (x : ℕ) (p : List ℕ) (f : Flow) (b : Bool) → IsTight p f → IsPriced p (moved x b f)
moved_priced x p f true t = record { growing = λ _. omega (arith, t); falling = λ _. omega (arith, t) }
moved_priced x p f false t = record { growing = λ _. omega (arith, t); falling = λ _. omega (arith, t) }

-- a push over a tight pair keeps the prices
pub pushed_priced : (x : ℕ) (p : List ℕ) (flows : List Flow) (a : ℕ) → pair a < length flows → IsTight p (flow_at flows (pair a)) → ArePrices flows p → ArePrices (pushed x flows a) p
pushed_priced x p flows a l tight h k lk =
    ⊎_elim (λ (e : k ≡ pair a).
    subst (λ j. IsPriced p (flow_at (pushed x flows a) j)) (sym e)
    (subst (IsPriced p) (sym (flow_at_pushed x flows a l)) (moved_priced x p (flow_at flows (pair a)) (is_forward a) tight)))
    (λ (ne : k ≢ pair a). subst (IsPriced p) (sym (flow_at_other x flows a k ne)) (h k (omega (arith, length-set flows (pair a) (moved x (is_forward a) (flow_at flows (pair a)))))))
    (cases_eq k (pair a))
