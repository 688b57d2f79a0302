-- The rows of pairs, listed in the order of the pairs: they rise, and each pair finds its own.
use Rattle.std.proofs.Common.{◌≡◌, ◌≢◌, ℕ, zero, suc, ◌+◌, ◌*◌, ◌<◌, ◌≤◌, ◌++◌, Bool, true, false, List, [], ◌∷◌, refl, sym, ◌∙◌, subst, arith, ⊎_elim}
use Rattle.std.specs.Prelude.{All}
use Rattle.std.proofs.lemmas.Bool.{cases_eq}
use Rattle.std.proofs.lemmas.List.{append-nil, append_assoc}
use Rattle.std.proofs.lemmas.List.Elements.{All-nil, All-head, All-tail, All-append, All-push, All-weaker}
use Rattle.std.proofs.lemmas.List.Quantifiers.{all_pairs_push}
use Rattle.network_laws.specs.declared.rows.LimitRow.{LimitRow}
use Rattle.network_laws.specs.Limits.{is_for, limit_place, lower_in, upper_in, IsGoodLimit, AreLimitRows}
use Rattle.network_laws.proofs.LimitOrder.{is_for-seller, is_for-buyer, lookup_none}
use Rattle.command_types.specs.Books.{listed_below, listed_pairs}

-- no row is that of a pair
abbrev pub NoneFor : ℕ → ℕ → List LimitRow → Type 0
NoneFor i j rows = All (λ row. is_for i j row ≡ false) rows

-- two lists have the same bounds for a pair
abbrev pub SameBounds : ℕ → ℕ → List LimitRow → List LimitRow → Type 0
SameBounds i j xs ys = (lower_in xs i j ≡ lower_in ys i j) × (upper_in xs i j ≡ upper_in ys i j)

same_trans : (i j : ℕ) (xs ys zs : List LimitRow) → SameBounds i j xs ys → SameBounds i j ys zs → SameBounds i j xs zs
same_trans i j xs ys zs h h' = (h.0 ∙ h'.0, h.1 ∙ h'.1)

none_before : (i j : ℕ) (xs ys : List LimitRow) → NoneFor i j xs → SameBounds i j (xs ++ ys) ys
none_before i j [] ys none = (refl, refl)
none_before i j (row ∷ xs) ys none =
    let no : is_for i j row ≡ false = All-head (λ (r : LimitRow). is_for i j r ≡ false) row xs none in
    let rest = none_before i j xs ys (All-tail (λ (r : LimitRow). is_for i j r ≡ false) row xs none) in
    (rw no rest.0, rw no rest.1)

none_behind : (i j : ℕ) (xs ys : List LimitRow) → NoneFor i j ys → SameBounds i j (xs ++ ys) xs
none_behind i j [] ys none = lookup_none ys i j none
none_behind i j (row ∷ xs) ys none = by (is_for i j row) refl (none_behind i j xs ys none)
  where
    by : (t : Bool) → is_for i j row ≡ t → SameBounds i j (xs ++ ys) xs → SameBounds i j (row ∷ xs ++ ys) (row ∷ xs)
    by true e rest = (rw e refl, rw e refl)
    by false e rest = (rw e rest.0, rw e rest.1)

none_listed : (i j n : ℕ) (f : ℕ → List LimitRow) → ((k : ℕ) → k < n → NoneFor i j (f k)) → NoneFor i j (listed_below n f)
none_listed i j zero f none = All-nil (λ (r : LimitRow). is_for i j r ≡ false)
none_listed i j (suc n) f none =
    All-append (λ (r : LimitRow). is_for i j r ≡ false) (listed_below n f) (f n) (none_listed i j n f (λ k l. none k (omega arith))) (none n (omega arith))

-- the one list that has rows of the pair
same_listed : (i j n k : ℕ) (f : ℕ → List LimitRow) → k < n → ((m : ℕ) → m < n → m ≢ k → NoneFor i j (f m)) → SameBounds i j (listed_below n f) (f k)
same_listed i j zero k f l none = absurd (omega arith)
same_listed i j (suc n) k f l none =
    ⊎_elim (λ (e : k ≡ n). subst (λ m. SameBounds i j (listed_below n f ++ f n) (f m)) (sym e) (none_before i j (listed_below n f) (f n) (none_listed i j n f (λ m lm. none m (omega arith) (λ q. omega (arith, e, q))))))
    (λ (ne : k ≢ n). same_trans i j (listed_below n f ++ f n) (listed_below n f) (f k)
    (none_behind i j (listed_below n f) (f n) (none n (omega arith) (λ q. ne (sym q))))
    (same_listed i j n k f (omega arith) (λ m lm. none m (omega arith))))
    (cases_eq k n)

-- each row of a pair's list is the pair's
abbrev pub IsOfPair : ℕ → ℕ → LimitRow → Type 0
IsOfPair i j row = (row.seller ≡ i) × (row.buyer ≡ j)

-- the bounds of a pair, among the rows of all pairs
pub same_pair : (n i j : ℕ) (f : ℕ → ℕ → List LimitRow) → i < n → j < n → ((a b : ℕ) → All (IsOfPair a b) (f a b)) → SameBounds i j (listed_pairs n f) (f i j)
same_pair n i j f in_i in_j own =
    same_trans i j (listed_pairs n f) (listed_below n (f i)) (f i j)
    (same_listed i j n i (λ a. listed_below n (f a)) in_i (λ a la ne. none_listed i j n (f a) (λ b lb. other_seller a b ne)))
    (same_listed i j n j (f i) in_j (λ b lb ne. other_buyer b ne))
  where
    other_seller : (a b : ℕ) → a ≢ i → NoneFor i j (f a b)
    other_seller a b ne = All-weaker (IsOfPair a b) (λ r. is_for i j r ≡ false) (λ row h. is_for-seller i j row (λ e. ne (sym h.0 ∙ e))) (f a b) (own a b)

    other_buyer : (b : ℕ) → b ≢ j → NoneFor i j (f i b)
    other_buyer b ne = All-weaker (IsOfPair i b) (λ r. is_for i j r ≡ false) (λ row h. is_for-buyer i j row (λ e. ne (sym h.1 ∙ e))) (f i b) (own i b)

-- rows of limits that all stand before a place
pub record AreBefore (n w : ℕ) (rows : List LimitRow) : Type 0 where
  pub limits : AreLimitRows n rows
  pub before : All (λ row. limit_place row < w) rows

pub none_are_before : (n w : ℕ) → AreBefore n w []
none_are_before n w = record {
  limits = record { good = All-nil (IsGoodLimit n); rising = λ i j d ij lj. absurd (omega arith) };
  before = All-nil (λ (row : LimitRow). limit_place row < w);
}

pub before_later : (n w z : ℕ) (rows : List LimitRow) → w ≤ z → AreBefore n w rows → AreBefore n z rows
before_later n w z rows le h = record {
  limits = h.limits;
  before = All-weaker (λ (row : LimitRow). limit_place row < w) (λ row. limit_place row < z) (λ row l. omega (arith, le, l)) rows h.before;
}

pub one_more : (n w : ℕ) (rows : List LimitRow) (row : LimitRow) → limit_place row ≡ w → IsGoodLimit n row → AreBefore n w rows → AreBefore n (w + 1) (rows ++ row ∷ [])
one_more n w rows row e good h = record {
  limits = record {
    good = All-push (IsGoodLimit n) rows row h.limits.good good;
    rising = all_pairs_push (λ (a b : LimitRow). limit_place a < limit_place b) rows row h.limits.rising (λ k d l. omega (arith, e, h.before k d l));
  };
  before = All-push (λ (r : LimitRow). limit_place r < w + 1) rows row (before_later n w (w + 1) rows (omega arith) h).before (omega (arith, e));
}

-- rows of a pair may stand behind those of the pairs before it
abbrev pub MayFollow : ℕ → (ℕ → ℕ → List LimitRow) → Type 0
MayFollow n f =
    (i j : ℕ) (rows : List LimitRow) → i < n → j < n → AreBefore n (i * 65536 + j) rows → AreBefore n (i * 65536 + j + 1) (rows ++ f i j)

module _ (n : ℕ) (f : ℕ → ℕ → List LimitRow) (few : n ≤ 256) (follow : MayFollow n f) where
  seller_before : (i m : ℕ) (rows : List LimitRow) → i < n → m ≤ n → AreBefore n (i * 65536) rows → AreBefore n (i * 65536 + m) (rows ++ listed_below m (f i))
  seller_before i zero rows in_i le h =
      subst (AreBefore n (i * 65536 + 0)) (sym (append-nil rows)) (before_later n (i * 65536) (i * 65536 + 0) rows (omega arith) h)
  seller_before i (suc m) rows in_i le h =
      let rest = seller_before i m rows in_i (omega arith) h in
      let more = follow i m (rows ++ listed_below m (f i)) in_i (omega arith) rest in
      subst (AreBefore n (i * 65536 + suc m)) (append_assoc rows (listed_below m (f i)) (f i m)) (before_later n (i * 65536 + m + 1) (i * 65536 + suc m) _ (omega arith) more)

  sellers_before : (k : ℕ) → k ≤ n → AreBefore n (k * 65536) (listed_below k (λ i. listed_below n (f i)))
  sellers_before zero le = none_are_before n 0
  sellers_before (suc k) le =
      before_later n (k * 65536 + n) (suc k * 65536) _ (omega arith) (seller_before k n (listed_below k (λ i. listed_below n (f i))) (omega arith) (omega arith) (sellers_before k (omega arith)))

  -- the rows of all pairs are rows of limits
  pub rows_of_pairs : AreLimitRows n (listed_pairs n f)
  rows_of_pairs = (sellers_before n (omega arith)).limits
