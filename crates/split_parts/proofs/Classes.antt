-- The members of one label, and all such lists of two members and more.
use Rattle.std.proofs.Common.{◌≡◌, ◌≢◌, ℕ, zero, suc, ◌<◌, ◌≤◌, ◌+◌, List, [], ◌∷◌, ◌++◌, length, get_or, refl, sym, ap, ◌∙◌, subst, arith, ⊎_elim}
use Rattle.std.specs.Prelude.{Any, Contains}
use Rattle.std.proofs.lemmas.Bool.{cases_eq, cases_lt}
use Rattle.std.proofs.lemmas.List.{length-append, get_or_default}
use Rattle.std.proofs.lemmas.List.Elements.{All-push, All-weaker, Contains-append_left, Contains-push, Contains-push_cases}
use Rattle.std.proofs.lemmas.List.Quantifiers.{all_pairs_push, Any-push}
use Rattle.split_parts.specs.Labels.{AreNext, IsClassTo, IsClass, AreClassesTo}

pub front : {X : Type 0} (xs ys : List X) (k : ℕ) (d : X) → k < length xs → get_or (xs ++ ys) k d ≡ get_or xs k d
front [] ys k d l = absurd (omega arith)
front (x ∷ xs) ys zero d l = refl
front (x ∷ xs) ys (suc k) d l = front xs ys k d (omega arith)

pub class_yes : (labels : List ℕ) (l n : ℕ) (part part' : List ℕ) → IsClassTo labels l n part → get_or labels n 0 ≡ l → part' ≡ part ++ n ∷ [] → IsClassTo labels l (n + 1) part'
class_yes labels l n part part' c e is = subst (IsClassTo labels l (n + 1)) (sym is) (record {
  rising = all_pairs_push (λ (x y : ℕ). x < y) part n c.rising (λ k d lk. (c.each (get_or part k d) (k, lk, get_or_default part k (get_or part k d) d lk)).0);
  head = front part (n ∷ []) 0 0 c.filled ∙ c.head;
  filled = omega (arith, length-append part (n ∷ []), c.filled);
  each = λ m h. ⊎_elim (λ (old : Contains part m). let o = c.each m old in (omega (arith, o.0), o.1)) (λ (q : n ≡ m). (omega arith, ap (λ x. get_or labels x 0) (sym q) ∙ e)) (Contains-push_cases part n m h);
  every = λ m lt q.
      ⊎_elim (λ (here : m ≡ n). subst (Contains (part ++ n ∷ [])) (sym here) (Contains-push part n))
      (λ (ne : m ≢ n). Contains-append_left part (n ∷ []) m (c.every m (omega arith) q))
      (cases_eq m n);
})

-- the members up to one place more have it too, where none between has the label
class_past : (labels : List ℕ) (l n n' : ℕ) (part : List ℕ) → IsClassTo labels l n part → n ≤ n' → ((m : ℕ) → n ≤ m → m < n' → get_or labels m 0 ≢ l) → IsClassTo labels l n' part
class_past labels l n n' part c le none = record {
  rising = c.rising;
  head = c.head;
  filled = c.filled;
  each = λ m h. let o = c.each m h in (omega (arith, o.0), o.1);
  every = λ m lt q. ⊎_elim (λ (b : m < n). c.every m b q) (λ (p : n ≤ m). absurd (none m p lt q)) (cases_lt m n);
}

-- up to the next member with the label
pub class_next : (labels next part : List ℕ) (l n : ℕ) → AreNext labels next → n < length labels → get_or labels n 0 ≡ l → IsClassTo labels l (n + 1) part → IsClassTo labels l (get_or next n 0) part
class_next labels next part l n a within e c =
    let f = a.each n within in
    class_past labels l (n + 1) (get_or next n 0) part c f.behind (λ m le lt q. f.none m le lt (q ∙ sym e))

any_left : (P : List ℕ → Type 0) (parts : List (List ℕ)) (part : List ℕ) → Any P parts → Any P (parts ++ part ∷ [])
any_left P parts part h = (h.0, h.1, (let l = h.2 in omega (arith, length-append parts (part ∷ []))), front parts (part ∷ []) h.0 h.1 h.2 ∙ h.3, h.4)

pub classes_yes : (labels : List ℕ) (n : ℕ) (part : List ℕ) (parts parts' : List (List ℕ)) → AreClassesTo labels n parts → IsClassTo labels n (length labels) part → 1 < length part → parts' ≡ parts ++ part ∷ [] → AreClassesTo labels (n + 1) parts'
classes_yes labels n part parts parts' c class two is =
    let head : get_or part 0 0 ≡ n = class.head in
    let here : IsClass labels part = record { class = subst (λ l. IsClassTo labels l (length labels) part) (sym head) class; two = two } in
    subst (AreClassesTo labels (n + 1)) (sym is) (record {
      each = All-push (IsClass labels) parts part c.each here;
      below = All-push (λ p. get_or p 0 0 < n + 1) parts part (All-weaker (λ p. get_or p 0 0 < n) (λ p. get_or p 0 0 < n + 1) (λ p h. omega arith) parts c.below) (omega arith);
      order = all_pairs_push (λ p q. get_or p 0 0 < get_or q 0 0) parts part c.order (λ k d l. omega (arith, c.below k d l));
      every = λ m l lt ne.
          ⊎_elim (λ (e : get_or labels m 0 ≡ n). Any-push (λ p. get_or p 0 0 ≡ get_or labels m 0) parts part (head ∙ sym e))
          (λ (o : get_or labels m 0 ≢ n). any_left (λ p. get_or p 0 0 ≡ get_or labels m 0) parts part (c.every m l (omega arith) ne))
          (cases_eq (get_or labels m 0) n);
    })

-- nothing has the label n but perhaps n itself
classes_same : (labels : List ℕ) (n : ℕ) (parts : List (List ℕ)) → AreClassesTo labels n parts → ((m : ℕ) → m < length labels → get_or labels m 0 ≡ n → m ≡ n) → AreClassesTo labels (n + 1) parts
classes_same labels n parts c alone = record {
  each = c.each;
  below = All-weaker (λ p. get_or p 0 0 < n) (λ p. get_or p 0 0 < n + 1) (λ p h. omega arith) parts c.below;
  order = c.order;
  every = λ m l lt ne.
      ⊎_elim (λ (e : get_or labels m 0 ≡ n). absurd (ne (alone m l e ∙ sym e)))
      (λ (o : get_or labels m 0 ≢ n). c.every m l (omega arith) ne)
      (cases_eq (get_or labels m 0) n);
}

pub classes_one : (labels : List ℕ) (n : ℕ) (part : List ℕ) (parts : List (List ℕ)) → AreClassesTo labels n parts → IsClassTo labels n (length labels) part → n < length labels → get_or labels n 0 ≡ n → length part ≤ 1 → AreClassesTo labels (n + 1) parts
classes_one labels n part parts c class inside own one = classes_same labels n parts c (λ m l e. same m (class.every m l e) (class.every n inside own))
  where
    same : (m : ℕ) → Contains part m → Contains part n → m ≡ n
    same m a b =
        let la = a.1 in
        let lb = b.1 in
        let k : a.0 ≡ b.0 = omega arith in
        sym a.2 ∙ ap (λ x. get_or part x m) k ∙ get_or_default part b.0 m n b.1 ∙ b.2

pub classes_skip : (labels : List ℕ) (n : ℕ) (parts : List (List ℕ)) → AreClassesTo labels n parts → ((m : ℕ) → m < length labels → get_or labels (get_or labels m 0) 0 ≡ get_or labels m 0) → get_or labels n 0 ≢ n → AreClassesTo labels (n + 1) parts
classes_skip labels n parts c own ne =
    classes_same labels n parts c (λ m l e. absurd (ne (ap (λ x. get_or labels x 0) (sym e) ∙ own m l ∙ e)))
