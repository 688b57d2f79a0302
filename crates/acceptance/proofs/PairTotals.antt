-- Sums over the pairs of members that pass a test.
use Rattle.std.proofs.Common.{◌≡◌, ℕ, ◌+◌, ◌<◌, ◌&&◌, ◌==◌, nat_lt, Bool, true, false, List, [], ◌∷◌, refl, sym, ap, ◌∙◌, arith, if◌then◌else◌}
use Rattle.std.specs.Prelude.{sum_by, All}
use Rattle.std.proofs.lemmas.Bool.{ne_eqb, eq-eqb}
use Rattle.std.proofs.lemmas.List.Elements.{All-nil, All-cons, All-weaker}
use Rattle.std.proofs.lemmas.List.Sums.{sum_by-cons}
use Rattle.network_laws.specs.declared.rows.Row.{Row}
use Rattle.network_laws.specs.Networks.{NetworkData, IsGoodRow, AreInRange, at, sold, bought, gross, sum_below}
use Rattle.network_laws.proofs.Figures.{sum_below-same, sum_below-add, sum_below-none, sum_below-only}
use Rattle.network_laws.proofs.FreeLimits.{sold_by_pairs, bought_by_pairs, all_sold}
use Rattle.command_types.specs.declared.trade.TradeRow.{TradeRow}
use Rattle.command_types.specs.Books.{amount_row, network_by, is_between}
use Rattle.acceptance.proofs.Pieces.{All-pairs}

abbrev pub passing : (ℕ → ℕ → Bool) → ℕ → (ℕ → ℕ → ℕ) → ℕ
passing test n f = sum_below n (λ i. sum_below n (λ j. if test i j then f i j else 0))

none_if : (b : Bool) (m : ℕ) → m ≡ 0 → (if b then m else 0) ≡ 0
none_if true m e = e
none_if false m e = refl

add_if : (b : Bool) (m k : ℕ) → (if b then m + k else 0) ≡ (if b then m else 0) + (if b then k else 0)
add_if true m k = refl
add_if false m k = refl

module _ (test : ℕ → ℕ → Bool) (n : ℕ) where
  pub passing_same : (f g : ℕ → ℕ → ℕ) → ((i j : ℕ) → i < n → j < n → f i j ≡ g i j) → passing test n f ≡ passing test n g
  passing_same f g each =
      sum_below-same n (λ i. sum_below n (λ j. if test i j then f i j else 0)) (λ i. sum_below n (λ j. if test i j then g i j else 0)) (λ i in_i.
      sum_below-same n (λ j. if test i j then f i j else 0) (λ j. if test i j then g i j else 0) (λ j in_j. ap (λ m. if test i j then m else 0) (each i j in_i in_j)))

  pub passing_add : (f g : ℕ → ℕ → ℕ) → passing test n (λ i j. f i j + g i j) ≡ passing test n f + passing test n g
  passing_add f g =
      let left : ℕ → ℕ → ℕ = λ i j. if test i j then f i j else 0 in
      let right : ℕ → ℕ → ℕ = λ i j. if test i j then g i j else 0 in
      sum_below-same n (λ i. sum_below n (λ j. if test i j then f i j + g i j else 0)) (λ i. sum_below n (left i) + sum_below n (right i)) (λ i _.
      sum_below-same n (λ j. if test i j then f i j + g i j else 0) (λ j. left i j + right i j) (λ j _. add_if (test i j) (f i j) (g i j)) ∙ sum_below-add n (left i) (right i))
      ∙ sum_below-add n (λ i. sum_below n (left i)) (λ i. sum_below n (right i))

  passing_none : passing test n (λ i j. 0) ≡ 0
  passing_none =
      sum_below-none n (λ i. sum_below n (λ j. if test i j then 0 else 0)) (λ i _. sum_below-none n (λ j. if test i j then 0 else 0) (λ j _. none_if (test i j) 0 refl))

  -- the sums of pairs of a list's elements, and the sum of theirs
  pub passing_rows : {X : Type 0} (f : ℕ → ℕ → X → ℕ) (xs : List X) → sum_by (λ x. passing test n (λ i j. f i j x)) xs ≡ passing test n (λ i j. sum_by (f i j) xs)
  passing_rows f [] = sym passing_none
  passing_rows f (x ∷ xs) =
      omega (
        arith,
        sum_by-cons (λ y. passing test n (λ i j. f i j y)) x xs,
        passing_rows f xs,
        passing_add (λ i j. f i j x) (λ i j. sum_by (f i j) xs),
        passing_same (λ i j. sum_by (f i j) (x ∷ xs)) (λ i j. f i j x + sum_by (f i j) xs) (λ i j _ _. sum_by-cons (f i j) x xs),
      )

  -- a trade counts for one pair
  pub passing_one : (product : ℕ) (row : TradeRow) (count : Bool → ℕ) → count false ≡ 0 → row.seller < n → row.buyer < n →
      passing test n (λ i j. count (is_between product i j row)) ≡ (if test row.seller row.buyer then count (row.product == product) else 0)
  passing_one product row count none in_seller in_buyer =
      let part : ℕ → ℕ → ℕ = λ i j. if test i j then count (is_between product i j row) else 0 in
      sum_below-only n row.seller (λ i. sum_below n (part i)) in_seller (λ i _ ne.
      sum_below-none n (part i) (λ j _. none_if (test i j) (count (is_between product i j row)) (ap count (seller_off (row.product == product) (row.buyer == j) (row.seller == i) (ne_eqb row.seller i (λ e. ne (sym e)))) ∙ none)))
      ∙ sum_below-only n row.buyer (part row.seller) in_buyer (λ j _ ne.
      none_if (test row.seller j) (count (is_between product row.seller j row)) (ap count (buyer_off (row.product == product) (row.seller == row.seller) (row.buyer == j) (ne_eqb row.buyer j (λ e. ne (sym e)))) ∙ none))
      ∙ ap (λ b. if test row.seller row.buyer then count b else 0) (own_by (row.product == product) (row.seller == row.seller) (row.buyer == row.buyer) (eq-eqb row.seller row.seller refl) (eq-eqb row.buyer row.buyer refl))
    where
      seller_off : (p b s : Bool) → s ≡ false → (p && s && b) ≡ false
      seller_off true b s e = rw e refl
      seller_off false b s e = refl

      buyer_off : (p s b : Bool) → b ≡ false → (p && s && b) ≡ false
      buyer_off true true b e = e
      buyer_off true false b e = refl
      buyer_off false s b e = refl

      own_by : (p s b : Bool) → s ≡ true → b ≡ true → (p && s && b) ≡ p
      own_by true s b e e' = rw (e, e') refl
      own_by false s b e e' = refl

-- the figures of a network as such sums
module _ (y : NetworkData) (n : ℕ) (in_range : AreInRange n y.rows) where
  pub gross_passing : passing (λ i j. true) n (at y) ≡ gross y
  gross_passing = sum_below-same n (λ i. sum_below n (at y i)) (sold y) (λ i _. sym (sold_by_pairs n i y.rows in_range)) ∙ all_sold n y.rows in_range

  pub sold_passing : (member : ℕ) → member < n → passing (λ i j. i == member) n (at y) ≡ sold y member
  sold_passing member within =
      sum_below-only n member (λ i. sum_below n (λ j. if i == member then at y i j else 0)) within (λ i _ ne.
      sum_below-none n (λ j. if i == member then at y i j else 0) (λ j _. ap (λ b. if b then at y i j else 0) (ne_eqb i member ne)))
      ∙ sum_below-same n (λ j. if member == member then at y member j else 0) (at y member) (λ j _. ap (λ b. if b then at y member j else 0) (eq-eqb member member refl))
      ∙ sym (sold_by_pairs n member y.rows in_range)

  pub bought_passing : (member : ℕ) → member < n → passing (λ i j. j == member) n (at y) ≡ bought y member
  bought_passing member within =
      sum_below-same n (λ i. sum_below n (λ j. if j == member then at y i j else 0)) (λ i. at y i member) (λ i _.
      sum_below-only n member (λ j. if j == member then at y i j else 0) within (λ j _ ne. ap (λ b. if b then at y i j else 0) (ne_eqb j member ne)) ∙ ap (λ b. if b then at y i member else 0) (eq-eqb member member refl))
      ∙ sym (bought_by_pairs n member y.rows in_range)

row_in_range : (n i j amount : ℕ) (some : Bool) → nat_lt 0 amount ≡ some → i < n → j < n → AreInRange n (amount_row i j amount)
row_in_range n i j amount false e in_i in_j = rw e (All-nil (λ (r : Row). (r.seller < n) × (r.buyer < n)))
row_in_range n i j amount true e in_i in_j = rw e (All-cons (λ (r : Row). (r.seller < n) × (r.buyer < n)) (record { seller = i; buyer = j; amount = amount }) [] (in_i, in_j) (All-nil (λ (r : Row). (r.seller < n) × (r.buyer < n))))

pub network_in_range : (n : ℕ) (f : ℕ → ℕ → ℕ) → AreInRange n (network_by n f).rows
network_in_range n f = All-pairs (λ (r : Row). (r.seller < n) × (r.buyer < n)) n (λ i j. amount_row i j (f i j)) (λ i j in_i in_j. row_in_range n i j (f i j) (nat_lt 0 (f i j)) refl in_i in_j)

pub good_in_range : (n : ℕ) (rows : List Row) → All (IsGoodRow n) rows → AreInRange n rows
good_in_range n rows good = All-weaker (IsGoodRow n) (λ r. (r.seller < n) × (r.buyer < n)) (λ r is. (is.seller, is.buyer)) rows good
