-- Chains of places: where they split, what joining places does to them, and that no place stands in two of them.
use Rattle.std.proofs.Common.{◌≡◌, ◌≢◌, ℕ, zero, suc, ◌<◌, ◌≤◌, ◌++◌, List, [], ◌∷◌, length, refl, sym, ap, subst, ◌∙◌, ◌⊎◌, inl, inr, ⊎_elim, arith}
use Rattle.std.proofs.lemmas.Bool.{cases_eq, eq-eqb, ne_eqb}
use Rattle.std.proofs.lemmas.List.{length-append}
use Rattle.linked_rows.specs.declared.links.Link.{Link}
use Rattle.linked_rows.specs.Links.{after, before, joined, walk}
use Rattle.linked_rows.specs.Pool.{Each, IsJoined, IsChain, IsNode}
use Rattle.linked_rows.proofs.LinkFacts.{length-joined, after-joined, after-joined_other, before-joined, before-joined_other}

pub Each-weaker : (P Q : ℕ → Type 0) → ((x : ℕ) → P x → Q x) → (xs : List ℕ) → Each P xs → Each Q xs
Each-weaker P Q f [] h = tt
Each-weaker P Q f (x ∷ xs) h = (f x h.0, Each-weaker P Q f xs h.1)

pub Each-both : (P Q : ℕ → Type 0) (xs : List ℕ) → Each P xs → Each Q xs → Each (λ x. P x × Q x) xs
Each-both P Q [] h k = tt
Each-both P Q (x ∷ xs) h k = ((h.0, k.0), Each-both P Q xs h.1 k.1)

pub Each-append : (P : ℕ → Type 0) (xs ys : List ℕ) → Each P xs → Each P ys → Each P (xs ++ ys)
Each-append P [] ys h k = k
Each-append P (x ∷ xs) ys h k = (h.0, Each-append P xs ys h.1 k)

pub Each-front : (P : ℕ → Type 0) (xs ys : List ℕ) → Each P (xs ++ ys) → Each P xs
Each-front P [] ys h = tt
Each-front P (x ∷ xs) ys h = (h.0, Each-front P xs ys h.1)

pub Each-back : (P : ℕ → Type 0) (xs ys : List ℕ) → Each P (xs ++ ys) → Each P ys
Each-back P [] ys h = h
Each-back P (x ∷ xs) ys h = Each-back P xs ys h.1

-- a place stands in a list
abbrev pub Has : List ℕ → ℕ → Type 0
Has [] x = ⊥
Has (y ∷ ys) x = (y ≡ x) ⊎ Has ys x

-- a list around a place
pub record IsSplit (xs : List ℕ) (x : ℕ) : Type 0 where
  pub front : List ℕ
  pub back : List ℕ
  pub whole : xs ≡ front ++ x ∷ back

pub split : (xs : List ℕ) (x : ℕ) → Has xs x → IsSplit xs x
split [] x h = absurd h
split (y ∷ ys) x h =
    ⊎_elim (λ (e : y ≡ x). record { front = []; back = ys; whole = ap (λ z. z ∷ ys) e })
    (λ (r : Has ys x). let s = split ys x r in record { front = y ∷ s.front; back = s.back; whole = ap (λ (zs : List ℕ). y ∷ zs) s.whole })
    h

pub has_middle : (xs : List ℕ) (x : ℕ) (ys : List ℕ) → Has (xs ++ x ∷ ys) x
has_middle [] x ys = inl refl
has_middle (y ∷ xs) x ys = inr (has_middle xs x ys)

pub has_behind : (xs : List ℕ) (x : ℕ) (ys : List ℕ) (y : ℕ) → Has ys y → Has (xs ++ x ∷ ys) y
has_behind [] x ys y h = inr h
has_behind (z ∷ xs) x ys y h = inr (has_behind xs x ys y h)

-- either a place stands in a list, or each of the list's is another
pub has_or_each : (xs : List ℕ) (x : ℕ) → Has xs x ⊎ Each (λ y. y ≢ x) xs
has_or_each [] x = inr tt
has_or_each (y ∷ ys) x =
    ⊎_elim (λ (e : y ≡ x). inl (inl e))
    (λ (ne : y ≢ x). ⊎_elim (λ (h : Has ys x). inl (inr h)) (λ (a : Each (λ y. y ≢ x) ys). inr (ne, a)) (has_or_each ys x))
    (cases_eq y x)

pub each_from_none : (xs : List ℕ) (x : ℕ) → (Has xs x → ⊥) → Each (λ y. y ≢ x) xs
each_from_none xs x none = ⊎_elim (λ (h : Has xs x). absurd (none h)) (λ (a : Each (λ y. y ≢ x) xs). a) (has_or_each xs x)

pub chain_split : (links : List Link) (p : ℕ) (xs : List ℕ) (x : ℕ) (ys : List ℕ) (q : ℕ) → IsChain links p (xs ++ x ∷ ys) q → IsChain links p xs x × IsChain links x ys q
chain_split links p [] x ys q h = (h.0, h.1)
chain_split links p (y ∷ xs) x ys q h = let s = chain_split links y xs x ys q h.1 in ((h.0, s.0), s.1)

-- what holds of all places of a chain holds of those before its last and after its first
pub before_chain : (P : ℕ → Type 0) (links : List Link) (p : ℕ) (xs : List ℕ) (q : ℕ) → P p → Each P xs → IsChain links p xs q → P (before links q)
before_chain P links p [] q hp h c = subst P (sym c.before) hp
before_chain P links p (x ∷ xs) q hp h c = before_chain P links x xs q h.0 h.1 c.1

pub after_chain : (P : ℕ → Type 0) (links : List Link) (p : ℕ) (xs : List ℕ) (q : ℕ) → P q → Each P xs → IsChain links p xs q → P (after links p)
after_chain P links p [] q hq h c = subst P (sym c.after) hq
after_chain P links p (x ∷ xs) q hq h c = subst P (sym c.0.after) h.0

-- two chains from one place to two ends are the same, where their places are no ends
pub same_chain : (links : List Link) (n m p : ℕ) (xs ys : List ℕ) (s t : ℕ) → s < n → t < n → Each (IsNode n m) xs → Each (IsNode n m) ys → IsChain links p xs s → IsChain links p ys t → (xs ≡ ys) × (s ≡ t)
same_chain links n m p [] [] s t low_s low_t h k c d = (refl, sym c.after ∙ d.after)
same_chain links n m p [] (y ∷ ys) s t low_s low_t h k c d = absurd (omega (arith, k.0.low, sym c.after ∙ d.0.after))
same_chain links n m p (x ∷ xs) [] s t low_s low_t h k c d = absurd (omega (arith, h.0.low, sym c.0.after ∙ d.after))
same_chain links n m p (x ∷ xs) (y ∷ ys) s t low_s low_t h k c d =
    let e : x ≡ y = sym c.0.after ∙ d.0.after in
    let rest = same_chain links n m x xs ys s t low_s low_t h.1 k.1 c.1 (subst (λ z. IsChain links z ys t) (sym e) d.1) in
    (ap (λ z. z ∷ xs) e ∙ ap (λ (zs : List ℕ). y ∷ zs) rest.0, rest.1)

-- a place in two rings: they have one end, and it stands at one place
pub in_one_ring : (links : List Link) (n m s t x : ℕ) (xs ys us vs : List ℕ) → s < n → t < n
    → Each (IsNode n m) (xs ++ x ∷ ys) → Each (IsNode n m) (us ++ x ∷ vs)
    → IsChain links s (xs ++ x ∷ ys) s → IsChain links t (us ++ x ∷ vs) t → (ys ≡ vs) × (s ≡ t)
in_one_ring links n m s t x xs ys us vs low_s low_t h k c d =
    same_chain links n m x ys vs s t low_s low_t (Each-back (IsNode n m) xs (x ∷ ys) h).1 (Each-back (IsNode n m) us (x ∷ vs) k).1
    (chain_split links s xs x ys s c).1 (chain_split links t us x vs t d).1

longer : (xs ys : List ℕ) (x : ℕ) → ys ≡ xs ++ x ∷ ys → ⊥
longer xs ys x e = omega (arith, ap length e, length-append xs (x ∷ ys))

longer_front : (bs ys : List ℕ) (x : ℕ) → bs ++ x ∷ ys ≡ ys → ⊥
longer_front bs ys x e = omega (arith, ap length e, length-append bs (x ∷ ys))

regroup : (us bs ys : List ℕ) (x : ℕ) → (us ++ x ∷ bs) ++ x ∷ ys ≡ us ++ x ∷ (bs ++ x ∷ ys)
regroup [] bs ys x = refl
regroup (u ∷ us) bs ys x = ap (λ (zs : List ℕ). u ∷ zs) (regroup us bs ys x)

-- a place stands once in its ring
module _ (links : List Link) (n m s x : ℕ) (xs ys : List ℕ) (low : s < n) (nodes : Each (IsNode n m) (xs ++ x ∷ ys)) (chain : IsChain links s (xs ++ x ∷ ys) s) where
  pub not_in_back : Each (λ y. y ≢ x) ys
  not_in_back =
      each_from_none ys x
      (λ h.
      let t = split ys x h in
      let e : xs ++ x ∷ ys ≡ (xs ++ x ∷ t.front) ++ x ∷ t.back = ap (λ (zs : List ℕ). xs ++ x ∷ zs) t.whole ∙ sym (regroup xs t.front t.back x) in
      let both = in_one_ring links n m s s x xs ys (xs ++ x ∷ t.front) t.back low low nodes (subst (Each (IsNode n m)) e nodes) chain (subst (λ zs. IsChain links s zs s) e chain) in
      longer t.front t.back x (sym both.0 ∙ t.whole))

  pub not_in_front : Each (λ y. y ≢ x) xs
  not_in_front =
      each_from_none xs x
      (λ h.
      let t = split xs x h in
      let e : xs ++ x ∷ ys ≡ t.front ++ x ∷ (t.back ++ x ∷ ys) = ap (λ (zs : List ℕ). zs ++ x ∷ ys) t.whole ∙ regroup t.front t.back ys x in
      let both = in_one_ring links n m s s x xs ys t.front (t.back ++ x ∷ ys) low low nodes (subst (Each (IsNode n m)) e nodes) chain (subst (λ zs. IsChain links s zs s) e chain) in
      longer_front t.back ys x (sym both.0))

-- the walk along a chain
pub walk-chain : (links : List Link) (p : ℕ) (xs : List ℕ) (s most : ℕ) → Each (λ y. y ≢ s) xs → length xs ≤ most → IsChain links p xs s → walk links most s (after links p) ≡ xs
walk-chain links p [] s zero others fits c = refl
walk-chain links p [] s (suc most) others fits c = rw (c.after, eq-eqb s s refl) refl
walk-chain links p (x ∷ xs) s zero others fits c = absurd (omega arith)
walk-chain links p (x ∷ xs) s (suc most) others fits c =
    rw (c.0.after, ne_eqb x s others.0) (ap (λ (zs : List ℕ). x ∷ zs) (walk-chain links x xs s most others.1 (omega arith) c.1))

-- a chain keeps what all its pairs keep
pub chain_kept : (links now : List Link) (P Q : ℕ → Type 0) → ((p q : ℕ) → P p → Q q → IsJoined links p q → IsJoined now p q)
    → (p : ℕ) (xs : List ℕ) (q : ℕ) → P p → Each (λ y. P y × Q y) xs → Q q → IsChain links p xs q → IsChain now p xs q
chain_kept links now P Q kept p [] q hp h hq c = kept p q hp hq c
chain_kept links now P Q kept p (x ∷ xs) q hp h hq c = (kept p x hp h.0.1 c.0, chain_kept links now P Q kept x xs q h.0.0 h.1 hq c.1)

-- a place taken out: pairs without it stay
module _ (links : List Link) (a x b : ℕ) (first : IsJoined links a x) (next : IsJoined links x b) where
  pub out_kept : (p q : ℕ) → p ≢ x → q ≢ x → IsJoined links p q → IsJoined (joined links a b) p q
  out_kept p q np nq j = record {
    after = after-joined_other links a b p (λ e. nq (sym j.after ∙ ap (λ z. after links z) e ∙ first.after)) ∙ j.after;
    before = before-joined_other links a b q (λ e. np (sym j.before ∙ ap (λ z. before links z) e ∙ next.before)) ∙ j.before;
  }

  pub chain_without : (p : ℕ) (xs : List ℕ) (q : ℕ) → p ≢ x → Each (λ y. y ≢ x) xs → q ≢ x → IsChain links p xs q → IsChain (joined links a b) p xs q
  chain_without p xs q np h nq c =
      chain_kept links (joined links a b) (λ y. y ≢ x) (λ y. y ≢ x) out_kept p xs q np (Each-both (λ y. y ≢ x) (λ y. y ≢ x) xs h h) nq c

-- the last pair of a chain, and the first
pub last_joined : (links : List Link) (p : ℕ) (xs : List ℕ) (q : ℕ) → IsChain links p xs q → IsJoined links (before links q) q
last_joined links p [] q c = subst (λ z. IsJoined links z q) (sym c.before) c
last_joined links p (x ∷ xs) q c = last_joined links x xs q c.1

pub first_joined : (links : List Link) (p : ℕ) (xs : List ℕ) (q : ℕ) → IsChain links p xs q → IsJoined links p (after links p)
first_joined links p [] q c = subst (λ z. IsJoined links p z) (sym c.after) c
first_joined links p (x ∷ xs) q c = subst (λ z. IsJoined links p z) (sym c.0.after) c.0

-- a chain around a place that is taken out
module _ (links : List Link) (a x b : ℕ) (first : IsJoined links a x) (next : IsJoined links x b) (a_in : a < length links) (b_in : b < length links) where
  over : (p : ℕ) (ys : List ℕ) (q : ℕ) → p ≡ a → Each (λ y. y ≢ x) ys → q ≢ x → IsChain links x ys q → IsChain (joined links a b) p ys q
  over p [] q e h nq c =
      let eq : b ≡ q = sym next.after ∙ c.after in
      record {
        after = ap (λ z. after (joined links a b) z) e ∙ after-joined links a b a_in ∙ eq;
        before = ap (λ z. before (joined links a b) z) (sym eq) ∙ before-joined links a b b_in ∙ sym e;
      }
  over p (y ∷ ys) q e h nq c =
      let ey : b ≡ y = sym next.after ∙ c.0.after in (
        record {
          after = ap (λ z. after (joined links a b) z) e ∙ after-joined links a b a_in ∙ ey;
          before = ap (λ z. before (joined links a b) z) (sym ey) ∙ before-joined links a b b_in ∙ sym e;
        },
        chain_without links a x b first next y ys q h.0 h.1 nq c.1,
      )

  pub bypassed : (p : ℕ) (xs ys : List ℕ) (q : ℕ) → p ≢ x → Each (λ y. y ≢ x) xs → Each (λ y. y ≢ x) ys → q ≢ x → IsChain links p xs x → IsChain links x ys q → IsChain (joined links a b) p (xs ++ ys) q
  bypassed p [] ys q np h k nq c d = over p ys q (sym c.before ∙ first.before) k nq d
  bypassed p (u ∷ us) ys q np h k nq c d = (out_kept links a x b first next p u np h.0 c.0, bypassed u us ys q h.0 h.1 k nq c.1 d)

-- a place put in before an end: pairs stay, save for the last of the end's ring
module _ (links : List Link) (l x s : ℕ) (last : IsJoined links l s) (l_in : l < length links) (x_in : x < length links) (s_in : s < length links) (other : x ≢ s) where
  abbrev put : List Link
  put = joined (joined links l x) x s

  put_kept : (p q : ℕ) → p ≢ x → (q ≢ x) × (q ≢ s) → IsJoined links p q → IsJoined put p q
  put_kept p q np nq j = record {
    after = after-joined_other (joined links l x) x s p np ∙ after-joined_other links l x p (λ e. nq.1 (sym j.after ∙ ap (λ z. after links z) e ∙ last.after)) ∙ j.after;
    before = before-joined_other (joined links l x) x s q nq.1 ∙ before-joined_other links l x q nq.0 ∙ j.before;
  }

  pub chain_beside : (p : ℕ) (xs : List ℕ) (q : ℕ) → p ≢ x → Each (λ y. y ≢ x) xs → Each (λ y. y ≢ s) xs → (q ≢ x) × (q ≢ s) → IsChain links p xs q → IsChain put p xs q
  chain_beside p xs q np h k nq c =
      chain_kept links put (λ y. y ≢ x) (λ y. (y ≢ x) × (y ≢ s)) put_kept p xs q np
      (Each-both (λ y. y ≢ x) (λ y. (y ≢ x) × (y ≢ s)) xs h (Each-both (λ y. y ≢ x) (λ y. y ≢ s) xs h k)) nq c

  pub chain_longer : (p : ℕ) (xs : List ℕ) → p ≢ x → Each (λ y. y ≢ x) xs → Each (λ y. y ≢ s) xs → IsChain links p xs s → IsChain put p (xs ++ x ∷ []) s
  chain_longer p [] np h k c =
      let e : p ≡ l = sym c.before ∙ last.before in (
        record {
          after = after-joined_other (joined links l x) x s p np ∙ ap (λ z. after (joined links l x) z) e ∙ after-joined links l x l_in;
          before = before-joined_other (joined links l x) x s x other ∙ before-joined links l x x_in ∙ sym e;
        },
        record {
          after = after-joined (joined links l x) x s (omega (arith, x_in, length-joined links l x));
          before = before-joined (joined links l x) x s (omega (arith, s_in, length-joined links l x));
        },
      )
  chain_longer p (y ∷ ys) np h k c = (put_kept p y np (h.0, k.0) c.0, chain_longer y ys h.0 h.1 k.1 c.1)
