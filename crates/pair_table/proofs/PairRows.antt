-- The rows of pairs, listed in the order of the pairs, are those of a network.
use Rattle.std.proofs.Common.{◌≡◌, ◌≢◌, ℕ, zero, suc, ◌+◌, ◌*◌, ◌^◌, ◌<◌, ◌≤◌, ◌++◌, List, [], ◌∷◌, refl, sym, ap, subst, arith}
use Rattle.std.specs.Prelude.{All}
use Rattle.std.proofs.lemmas.List.{append-nil, append_assoc}
use Rattle.std.proofs.lemmas.List.Elements.{All-nil, All-push, All-weaker}
use Rattle.std.proofs.lemmas.List.Quantifiers.{all_pairs_push}
use Rattle.network_laws.specs.declared.rows.Row.{Row}
use Rattle.network_laws.specs.Networks.{IsGoodRow, IsRising, IsNetwork, place}
use Rattle.command_types.specs.Books.{listed_below, amount_row, network_by}
use Rattle.pair_table.proofs.PairNetworks.{row_of, sum_pairs, amount_row-suc, sum_rows}

-- rows of a network that all stand before a place
record AreBefore (n w : ℕ) (rows : List Row) : Type 0 where
  good : All (IsGoodRow n) rows
  rising : IsRising rows
  before : All (λ row. place row < w) rows

none_are_before : (n w : ℕ) → AreBefore n w []
none_are_before n w = record {
  good = All-nil (IsGoodRow n);
  rising = λ i j d ij lj. absurd (omega arith);
  before = All-nil (λ (row : Row). place row < w);
}

before_later : (n w z : ℕ) (rows : List Row) → w ≤ z → AreBefore n w rows → AreBefore n z rows
before_later n w z rows le h = record {
  good = h.good;
  rising = h.rising;
  before = All-weaker (λ (row : Row). place row < w) (λ row. place row < z) (λ row l. omega (arith, le, l)) rows h.before;
}

one_more : (n w : ℕ) (rows : List Row) (row : Row) → place row ≡ w → IsGoodRow n row → AreBefore n w rows → AreBefore n (w + 1) (rows ++ row ∷ [])
one_more n w rows row e good h = record {
  good = All-push (IsGoodRow n) rows row h.good good;
  rising = all_pairs_push (λ (a b : Row). place a < place b) rows row h.rising (λ k d l. omega (arith, e, h.before k d l));
  before = All-push (λ (r : Row). place r < w + 1) rows row (before_later n w (w + 1) rows (omega arith) h).before (omega (arith, e));
}

-- a pair's row behind those of the pairs before it
row_follows : (n i j amount : ℕ) (rows : List Row) → i < n → j < n → (1 ≤ amount → i ≢ j) → AreBefore n (i * 65536 + j) rows → AreBefore n (i * 65536 + j + 1) (rows ++ amount_row i j amount)
row_follows n i j zero rows in_i in_j different h =
    subst (AreBefore n (i * 65536 + j + 1)) (sym (append-nil rows)) (before_later n (i * 65536 + j) (i * 65536 + j + 1) rows (omega arith) h)
row_follows n i j (suc m) rows in_i in_j different h =
    rw (amount_row-suc i j m) (one_more n (i * 65536 + j) rows (row_of i j (suc m)) refl (record { seller = in_i; buyer = in_j; different = different (omega arith); positive = omega arith }) h)

module _ (n : ℕ) (f : ℕ → ℕ → ℕ) (few : n ≤ 256) (own : (i : ℕ) → f i i ≡ 0) where
  abbrev rows_of : ℕ → ℕ → List Row
  rows_of i j = amount_row i j (f i j)

  seller_before : (i m : ℕ) (rows : List Row) → i < n → m ≤ n → AreBefore n (i * 65536) rows → AreBefore n (i * 65536 + m) (rows ++ listed_below m (rows_of i))
  seller_before i zero rows in_i le h =
      subst (AreBefore n (i * 65536 + 0)) (sym (append-nil rows)) (before_later n (i * 65536) (i * 65536 + 0) rows (omega arith) h)
  seller_before i (suc m) rows in_i le h =
      let rest = seller_before i m rows in_i (omega arith) h in
      let more = row_follows n i m (f i m) (rows ++ listed_below m (rows_of i)) in_i (omega arith) (λ some e. omega (arith, own i, ap (f i) e)) rest in
      subst (AreBefore n (i * 65536 + suc m)) (append_assoc rows (listed_below m (rows_of i)) (rows_of i m)) (before_later n (i * 65536 + m + 1) (i * 65536 + suc m) _ (omega arith) more)

  sellers_before : (k : ℕ) → k ≤ n → AreBefore n (k * 65536) (listed_below k (λ i. listed_below n (rows_of i)))
  sellers_before zero le = none_are_before n 0
  sellers_before (suc k) le =
      before_later n (k * 65536 + n) (suc k * 65536) _ (omega arith) (seller_before k n (listed_below k (λ i. listed_below n (rows_of i))) (omega arith) (omega arith) (sellers_before k (omega arith)))

  -- the rows of all pairs are a network, where no member has an amount with itself
  pub IsNetwork-network_by : sum_pairs n f ≤ 10 ^ 18 → IsNetwork (network_by n f)
  IsNetwork-network_by within =
      let all = sellers_before n (omega arith) in
      record {
        few = few;
        rows = record {
          good = all.good;
          rising = all.rising;
          within = omega (arith, within, sum_rows (λ (row : Row). row.amount) n f (λ i j. refl));
        };
      }
