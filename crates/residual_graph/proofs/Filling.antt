-- Blank pairs that become those of limit rows, one after another.
use Rattle.std.proofs.Common.{◌≡◌, ◌≢◌, ℕ, ◌+◌, ◌<◌, ◌≤◌, List, length, get_or, set, map, All, sym, ap, ◌∙◌, subst, arith, ⊎_elim, get_or-set_same, get_or-set_other}
use Rattle.std.proofs.lemmas.Bool.{cases_eq}
use Rattle.std.proofs.lemmas.List.{same_lists, get_or-map, length-map, length-set, get_or_default}
use Rattle.network_laws.specs.declared.rows.LimitRow.{LimitRow}
use Rattle.residual_graph.specs.declared.flow.Flow.{Flow}
use Rattle.residual_graph.specs.Built.{IsSmall}

-- the first k pairs are those of their limit rows, and the others are blank
pub record AreFilled (f : LimitRow → Flow) (none : Flow) (rows : List LimitRow) (k : ℕ) (flows : List Flow) : Type 0 where
  pub count : length flows ≡ length rows
  pub value : (n : ℕ) (x : Flow) (d : LimitRow) → n < k → get_or flows n x ≡ f (get_or rows n d)
  pub small : (n : ℕ) (x : Flow) → n < k → IsSmall (get_or flows n x)
  pub blank : (n : ℕ) (x : Flow) → k ≤ n → n < length rows → get_or flows n x ≡ none

module _ (f : LimitRow → Flow) (blank : Flow) (rows : List LimitRow) where
  pub one_filled : (k : ℕ) (flows flows' : List Flow) (x : Flow) (d : LimitRow) → k < length rows → flows' ≡ set flows k x → x ≡ f (get_or rows k d) → IsSmall x → AreFilled f blank rows k flows → AreFilled f blank rows (k + 1) flows'
  one_filled k flows flows' x d l e is small h =
      let in_flows : k < length flows = omega (arith, l, h.count) in
      let here : (n : ℕ) (y : Flow) → n ≡ k → get_or flows' n y ≡ x = λ n y q. ap (λ xs. get_or xs n y) e ∙ ap (λ i. get_or (set flows k x) i y) q ∙ get_or-set_same flows k x y in_flows in
      let there : (n : ℕ) (y : Flow) → n ≢ k → get_or flows' n y ≡ get_or flows n y = λ n y ne. ap (λ xs. get_or xs n y) e ∙ get_or-set_other flows k n x y ne in
      record {
        count = ap length e ∙ length-set flows k x ∙ h.count;
        value = λ n y d' ln.
            ⊎_elim (λ (q : n ≡ k). here n y q ∙ is ∙ ap f (get_or_default rows k d d' l ∙ ap (λ i. get_or rows i d') (sym q)))
            (λ (ne : n ≢ k). there n y ne ∙ h.value n y d' (omega (arith, ln, ne)))
            (cases_eq n k);
        small = λ n y ln.
            ⊎_elim (λ (q : n ≡ k). subst IsSmall (sym (here n y q)) small)
            (λ (ne : n ≢ k). subst IsSmall (sym (there n y ne)) (h.small n y (omega (arith, ln, ne))))
            (cases_eq n k);
        blank = λ n y le ln. there n y (λ q. omega (arith, le, q)) ∙ h.blank n y (omega (arith, le)) ln;
      }

  pub all_filled : (k : ℕ) (flows : List Flow) (d : LimitRow) → length rows ≤ k → AreFilled f blank rows k flows → (flows ≡ map f rows) × All IsSmall flows
  all_filled k flows d le h = (
    same_lists flows (map f rows) (h.count ∙ sym (length-map rows f)) (λ n x l. h.value n x d (omega (arith, l, h.count, le)) ∙ sym (get_or-map f rows n d x (omega (arith, l, h.count)))),
    λ n x l. h.small n x (omega (arith, l, h.count, le)),
  )
