-- What a book keeps where its last trade, which has ended, is forgotten.
use Rattle.std.proofs.Common.{◌≡◌, ℕ, zero, suc, ◌+◌, ◌-◌, ◌≤◌, ◌==◌, ◌&&◌, Bool, true, false, List, [], ◌∷◌, ◌++◌, length, take, set, is_some, IsTrue, if◌then◌else◌, arith, refl, ap, ◌∙◌}
use Rattle.std.proofs.lemmas.List.Sums.{sum_by_push}
use Rattle.command_types.specs.declared.trade.TradeRow.{TradeRow}
use Rattle.command_types.specs.Plans.{ended_row}
use Rattle.command_types.specs.Trades.{is_live, counts}
use Rattle.product_book.specs.Book.{AreTrades}
use Rattle.product_book.specs.declared.kept.KeptSums.{KeptSums}
use Rattle.product_book.specs.Kept.{AreSums, IsSummedBook, seller_place, buyer_place, trade_place}
use Rattle.product_book.proofs.BookFacts.{KeepsTerms, gross_part, submitted_push}

-- the last row in another form
set_at : (rows : List TradeRow) (row : TradeRow) (i : ℕ) → length rows ≡ i + 1 → set rows i row ≡ take i rows ++ row ∷ []
set_at [] row i size = absurd (omega (arith, size))
set_at (r ∷ []) row zero size = refl
set_at (r ∷ []) row (suc i) size = absurd (omega (arith, size))
set_at (r ∷ (s ∷ rows)) row zero size = absurd (omega (arith, size))
set_at (r ∷ (s ∷ rows)) row (suc i) size = ap (λ (l : List TradeRow). r ∷ l) (set_at (s ∷ rows) row i (omega (arith, size)))

pub set_last : (rows : List TradeRow) (row : TradeRow) → 1 ≤ length rows → set rows (length rows - 1) row ≡ take (length rows - 1) rows ++ row ∷ []
set_last rows row some = set_at rows row (length rows - 1) (omega (arith, some))

pub gone_keeps : (row : TradeRow) → KeepsTerms row (ended_row row)
gone_keeps row = record { number = refl; product = refl; seller = refl; buyer = refl; amount = refl; submitter = refl; state = λ h. absurd cc }

part_none : (b : Bool) (amount : ℕ) → (if b && false then amount else 0) ≡ 0
part_none true amount = refl
part_none false amount = refl

trades_front : (members products n : ℕ) (rows : List TradeRow) (row : TradeRow) → AreTrades members products n (rows ++ row ∷ []) → AreTrades members products n rows
trades_front members products n [] row are = tt
trades_front members products n (r ∷ rows) row (here, later) = (here, trades_front members products (n + 1) rows row later)

abbrev at_part : (TradeRow → ℕ) → (TradeRow → Bool) → ℕ → TradeRow → ℕ
at_part key test n row = if (key row == n) && test row then row.amount else 0

module _ (front : List TradeRow) (row : TradeRow) where
  abbrev gone : TradeRow
  gone = ended_row row

  kept_front : (key : TradeRow → ℕ) (test : TradeRow → Bool) (sums : List ℕ) → test gone ≡ false → AreSums key test sums (front ++ gone ∷ []) → AreSums key test sums front
  kept_front key test sums off kept n low =
      let nothing : at_part key test n gone ≡ 0 = ap (λ (b : Bool). if (key gone == n) && b then gone.amount else 0) off ∙ part_none (key gone == n) gone.amount in
      omega (arith, kept n low, sum_by_push (at_part key test n) front gone, nothing)

  pub summed_front : (members products submitted : ℕ) (sums : KeptSums) → IsSummedBook members products submitted sums (front ++ gone ∷ []) → IsTrue (is_some row.submitter) → IsSummedBook members products (submitted - 1) sums front
  summed_front members products submitted sums all by_party = record {
    book = record {
      few_members = all.book.few_members;
      few_products = all.book.few_products;
      trades = trades_front members products 1 front gone all.book.trades;
      bounded = λ product. omega (arith, all.book.bounded product, sum_by_push (gross_part product) front gone);
      counted = omega (arith, all.book.counted, submitted_push front gone by_party);
    };
    kept = record {
      product_count = all.kept.product_count;
      sold_count = all.kept.sold_count;
      bought_count = all.kept.bought_count;
      pair_count = all.kept.pair_count;
      of_products = kept_front (λ r. r.product) (λ r. counts r.state) sums.products.items refl all.kept.of_products;
      of_sellers = kept_front (seller_place members) (λ r. is_live r.state) sums.sold.items refl all.kept.of_sellers;
      of_buyers = kept_front (buyer_place members) (λ r. is_live r.state) sums.bought.items refl all.kept.of_buyers;
      of_pairs = kept_front (trade_place members) (λ r. is_live r.state) sums.pairs.items refl all.kept.of_pairs;
    };
  }

  pub some_submitted : (members products submitted : ℕ) (sums : KeptSums) → IsSummedBook members products submitted sums (front ++ gone ∷ []) → IsTrue (is_some row.submitter) → 1 ≤ submitted
  some_submitted members products submitted sums all by_party = omega (arith, all.book.counted, submitted_push front gone by_party)
