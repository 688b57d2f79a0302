-- What the sums of members are, and what a book's sums keep.
use Rattle.std.proofs.Common.{◌≡◌, ℕ, ◌+◌, ◌-◌, ◌*◌, ◌≤◌, ◌<◌, ◌==◌, ◌&&◌, Bool, true, false, List, [], ◌∷◌, ◌++◌, length, map, take, drop, get_or, slice_get, Some, is_some, IsTrue, if◌then◌else◌, arith, refl, ap, sym, subst, ◌∙◌, ⊎_elim, length-set}
use Rattle.std.proofs.lemmas.Bool.{cases_eq, cases_lt, eq-eqb, ne_eqb}
use Rattle.std.proofs.lemmas.Nat.{mul-add-lt}
use Rattle.std.proofs.lemmas.List.{get_or_past}
use Rattle.std.proofs.lemmas.List.Sums.{sum_by-cons}
use Rattle.std.proofs.lemmas.Option.{get_or_from_slice_get}
use Rattle.command_types.specs.declared.trade.TradeRow.{TradeRow}
use Rattle.command_types.specs.Trades.{counts, is_live, total_where, gross_of, sold_by, bought_by, pair_sum_of, trade_numbered, with_row}
use Rattle.product_book.specs.declared.kept.KeptSums.{KeptSums}
use Rattle.product_book.specs.Book.{IsTrade, AreTrades, IsBook, gross_limit}
use Rattle.product_book.specs.Kept.{member_place, pair_place, seller_place, buyer_place, trade_place, AreSums, AreKept, IsPlaced, CanEnter, IsEntered, CanSettle, IsSettled, IsSummedBook}
use Rattle.product_book.proofs.BookFacts.{KeepsTerms, placed, trades_at, book_changed, book_alleged, book_written, rows_written, sold_le, bought_le, pair_le}
use Rattle.product_book.proofs.KeptFacts.{kept_push, kept_set, raised_is, moved_is, part_in, kept_map, kept_same}
use Rattle.product_book.proofs.PairFacts.{same_product, same_member, place_low, pair_read}

one_row : (members p s q t : ℕ) (live : Bool) (amount : ℕ) → s < members → t < members
    → (if (member_place members q t == member_place members p s) && live then amount else 0) ≡ (if (q == p) && live && (t == s) then amount else 0)
one_row members p s q t live amount small low =
    ⊎_elim (λ (e : q ≡ p).
    ⊎_elim (λ (f : t ≡ s).
    rw (eq-eqb (member_place members q t) (member_place members p s) (ap (λ k. member_place members k t) e ∙ ap (λ k. member_place members p k) f), eq-eqb q p e, eq-eqb t s f) (whole live))
    (λ (nf : t ≡ s → ⊥).
    rw (ne_eqb (member_place members q t) (member_place members p s) (λ same. nf (same_member members q t p s e same)), eq-eqb q p e, ne_eqb t s nf) (none live))
    (cases_eq t s))
    (λ (ne : q ≡ p → ⊥).
    rw (ne_eqb (member_place members q t) (member_place members p s) (λ same. ne (same_product members q t p s low small same)), ne_eqb q p ne) refl)
    (cases_eq q p)
  where
    whole : (b : Bool) → (if b then amount else 0) ≡ (if b && true then amount else 0)
    whole true = refl
    whole false = refl

    none : (b : Bool) → 0 ≡ (if b && false then amount else 0)
    none true = refl
    none false = refl

-- the sum at a member's place is what it sold, and what it bought
pub sold_read : (members products n p s : ℕ) (rows : List TradeRow) → AreTrades members products n rows → s < members → total_where (λ row. (seller_place members row == member_place members p s) && is_live row.state) rows ≡ sold_by p s rows
sold_read members products n p s [] are small = refl
sold_read members products n p s (row ∷ rows) (here, later) small =
    omega (
      arith,
      sum_by-cons (λ (row : TradeRow). if (seller_place members row == member_place members p s) && is_live row.state then row.amount else 0) row rows,
      sum_by-cons (λ (row : TradeRow). if (row.product == p) && is_live row.state && (row.seller == s) then row.amount else 0) row rows,
      one_row members p s row.product row.seller (is_live row.state) row.amount small here.seller,
      sold_read members products (n + 1) p s rows later small,
    )

pub bought_read : (members products n p s : ℕ) (rows : List TradeRow) → AreTrades members products n rows → s < members → total_where (λ row. (buyer_place members row == member_place members p s) && is_live row.state) rows ≡ bought_by p s rows
bought_read members products n p s [] are small = refl
bought_read members products n p s (row ∷ rows) (here, later) small =
    omega (
      arith,
      sum_by-cons (λ (row : TradeRow). if (buyer_place members row == member_place members p s) && is_live row.state then row.amount else 0) row rows,
      sum_by-cons (λ (row : TradeRow). if (row.product == p) && is_live row.state && (row.buyer == s) then row.amount else 0) row rows,
      one_row members p s row.product row.buyer (is_live row.state) row.amount small here.buyer,
      bought_read members products (n + 1) p s rows later small,
    )

-- a product that there is not has no amounts, and neither has a member that there is not
no_amount : (t : Bool) (b : Bool) (amount : ℕ) → t ≡ false → (if t && b then amount else 0) ≡ 0
no_amount true b amount e = cc
no_amount false b amount e = refl

pub no_gross : (members products n p : ℕ) (rows : List TradeRow) → AreTrades members products n rows → products ≤ p → gross_of p rows ≡ 0
no_gross members products n p [] are high = refl
no_gross members products n p (row ∷ rows) (here, later) high =
    omega (
      arith,
      sum_by-cons (λ (row : TradeRow). if (row.product == p) && counts row.state then row.amount else 0) row rows,
      no_amount (row.product == p) (counts row.state) row.amount (ne_eqb row.product p (λ e. omega (arith, e, here.product, high))),
      no_gross members products (n + 1) p rows later high,
    )

none_last : (a b t : Bool) (amount : ℕ) → t ≡ false → (if a && b && t then amount else 0) ≡ 0
none_last a b true amount e = cc
none_last true true false amount e = refl
none_last true false false amount e = refl
none_last false b false amount e = refl

pub no_sold : (members products n p s : ℕ) (rows : List TradeRow) → AreTrades members products n rows → members ≤ s → sold_by p s rows ≡ 0
no_sold members products n p s [] are high = refl
no_sold members products n p s (row ∷ rows) (here, later) high =
    omega (
      arith,
      sum_by-cons (λ (row : TradeRow). if (row.product == p) && is_live row.state && (row.seller == s) then row.amount else 0) row rows,
      none_last (row.product == p) (is_live row.state) (row.seller == s) row.amount (ne_eqb row.seller s (λ e. omega (arith, e, here.seller, high))),
      no_sold members products (n + 1) p s rows later high,
    )

pub no_bought : (members products n p s : ℕ) (rows : List TradeRow) → AreTrades members products n rows → members ≤ s → bought_by p s rows ≡ 0
no_bought members products n p s [] are high = refl
no_bought members products n p s (row ∷ rows) (here, later) high =
    omega (
      arith,
      sum_by-cons (λ (row : TradeRow). if (row.product == p) && is_live row.state && (row.buyer == s) then row.amount else 0) row rows,
      none_last (row.product == p) (is_live row.state) (row.buyer == s) row.amount (ne_eqb row.buyer s (λ e. omega (arith, e, here.buyer, high))),
      no_bought members products (n + 1) p s rows later high,
    )

-- no sum of members or of pairs is over what each product's gross is within
module _ (members products : ℕ) (rows : List TradeRow) (are : AreTrades members products 1 rows) (most : ℕ) (within : (product : ℕ) → gross_of product rows ≤ most) (p s b : ℕ) where
  sold_within : s < members → total_where (λ r. (seller_place members r == member_place members p s) && is_live r.state) rows ≤ most
  sold_within small = omega (arith, sold_read members products 1 p s rows are small, sold_le p s rows, within p)

  bought_within : b < members → total_where (λ r. (buyer_place members r == member_place members p b) && is_live r.state) rows ≤ most
  bought_within small = omega (arith, bought_read members products 1 p b rows are small, bought_le p b rows, within p)

  pair_within : s < members → b < members → total_where (λ r. (trade_place members r == pair_place members p s b) && is_live r.state) rows ≤ most
  pair_within small low = omega (arith, pair_read members products 1 p s b rows are small low, pair_le p s b rows, within p)

-- a trade has its places
row_placed : (members products n : ℕ) (sums : KeptSums) (rows : List TradeRow) (row : TradeRow) → members ≤ 256 → products ≤ 64 → AreKept members products sums rows → IsTrade members products n row → IsPlaced members sums row
row_placed members products n sums rows row few few_products kept is = record {
  few = few;
  few_products = omega (arith, kept.product_count, few_products);
  seller = is.seller;
  buyer = is.buyer;
  product = omega (arith, kept.product_count, is.product);
  sold = omega (arith, kept.sold_count, mul-add-lt row.product members row.seller products is.product is.seller);
  bought = omega (arith, kept.bought_count, mul-add-lt row.product members row.buyer products is.product is.buyer);
  pair = omega (arith, kept.pair_count, place_low members products row.product row.seller row.buyer is.product is.seller is.buyer);
}

-- one more trade
module _ (members products n : ℕ) (sums : KeptSums) (rows : List TradeRow) (row : TradeRow) (few : members ≤ 256) (few_products : products ≤ 64) (kept : AreKept members products sums rows) (is : IsTrade members products n row) where
  entering : IsPlaced members sums row
  entering = row_placed members products n sums rows row few few_products kept is

  pub can_enter : AreTrades members products 1 (rows ++ row ∷ []) → ((product : ℕ) → gross_of product (rows ++ row ∷ []) ≤ 2 * gross_limit) → CanEnter members sums row
  can_enter are within = record {
    placed = entering;
    product = omega (arith, raised_is (λ r. r.product) (λ r. counts r.state) sums.products.items rows row kept.of_products entering.product, within row.product);
    sold = omega (arith, raised_is (seller_place members) (λ r. is_live r.state) sums.sold.items rows row kept.of_sellers entering.sold, sold_within members products (rows ++ row ∷ []) are (2 * gross_limit) within row.product row.seller row.buyer entering.seller);
    bought = omega (arith, raised_is (buyer_place members) (λ r. is_live r.state) sums.bought.items rows row kept.of_buyers entering.bought, bought_within members products (rows ++ row ∷ []) are (2 * gross_limit) within row.product row.seller row.buyer entering.buyer);
    pair = omega (arith, raised_is (trade_place members) (λ r. is_live r.state) sums.pairs.items rows row kept.of_pairs entering.pair, pair_within members products (rows ++ row ∷ []) are (2 * gross_limit) within row.product row.seller row.buyer entering.seller entering.buyer);
  }

  pub kept_entered : (after : KeptSums) → IsEntered members sums after row → AreKept members products after (rows ++ row ∷ [])
  kept_entered after now = record {
    product_count = ap length now.products ∙ length-set sums.products.items row.product _ ∙ kept.product_count;
    sold_count = ap length now.sold ∙ length-set sums.sold.items (seller_place members row) _ ∙ kept.sold_count;
    bought_count = ap length now.bought ∙ length-set sums.bought.items (buyer_place members row) _ ∙ kept.bought_count;
    pair_count = ap length now.pairs ∙ length-set sums.pairs.items (trade_place members row) _ ∙ kept.pair_count;
    of_products = subst (λ (s : List ℕ). AreSums (λ r. r.product) (λ r. counts r.state) s (rows ++ row ∷ [])) (sym now.products) (kept_push (λ r. r.product) (λ r. counts r.state) sums.products.items rows row kept.of_products entering.product);
    of_sellers = subst (λ (s : List ℕ). AreSums (seller_place members) (λ r. is_live r.state) s (rows ++ row ∷ [])) (sym now.sold) (kept_push (seller_place members) (λ r. is_live r.state) sums.sold.items rows row kept.of_sellers entering.sold);
    of_buyers = subst (λ (s : List ℕ). AreSums (buyer_place members) (λ r. is_live r.state) s (rows ++ row ∷ [])) (sym now.bought) (kept_push (buyer_place members) (λ r. is_live r.state) sums.bought.items rows row kept.of_buyers entering.bought);
    of_pairs = subst (λ (s : List ℕ). AreSums (trade_place members) (λ r. is_live r.state) s (rows ++ row ∷ [])) (sym now.pairs) (kept_push (trade_place members) (λ r. is_live r.state) sums.pairs.items rows row kept.of_pairs entering.pair);
  }

-- a change keeps the product and the parties of a trade
pub record SamePlaces (old new : TradeRow) : Type 0 where
  pub product : new.product ≡ old.product
  pub seller : new.seller ≡ old.seller
  pub buyer : new.buyer ≡ old.buyer

-- one trade changed
module _ (members products : ℕ) (sums : KeptSums) (rows : List TradeRow) (number : ℕ) (old new : TradeRow) (few : members ≤ 256) (few_products : products ≤ 64) (are : AreTrades members products 1 rows) (kept : AreKept members products sums rows)
    (is : trade_numbered rows number ≡ Some old) (same : SamePlaces old new) where
  there : (0 < number) × (number - 1 < length rows) × (slice_get rows (number - 1) ≡ Some old)
  there = placed rows number old is

  found : get_or rows (number - 1) old ≡ old
  found = get_or_from_slice_get rows (number - 1) old old there.2

  settling : IsPlaced members sums old
  settling = row_placed members products (1 + (number - 1)) sums rows old few few_products kept (trades_at members products 1 rows (number - 1) old are there.2)

  same_seller : seller_place members new ≡ seller_place members old
  same_seller = ap (λ k. member_place members k new.seller) same.product ∙ ap (λ k. member_place members old.product k) same.seller

  same_buyer : buyer_place members new ≡ buyer_place members old
  same_buyer = ap (λ k. member_place members k new.buyer) same.product ∙ ap (λ k. member_place members old.product k) same.buyer

  same_pair : trade_place members new ≡ trade_place members old
  same_pair = ap (λ k. member_place members k new.buyer) same_seller ∙ ap (λ k. member_place members (seller_place members old) k) same.buyer

  pub can_settle : AreTrades members products 1 (with_row rows number (Some new)) → ((product : ℕ) → gross_of product (with_row rows number (Some new)) ≤ 2 * gross_limit) → CanSettle members sums old new
  can_settle after within = record {
    placed = settling;
    product = record {
      part = part_in (λ r. r.product) (λ r. counts r.state) sums.products.items rows (number - 1) old kept.of_products there.1 found settling.product;
      fits = omega (arith, moved_is (λ r. r.product) (λ r. counts r.state) sums.products.items rows (number - 1) old new kept.of_products there.1 found same.product settling.product, within old.product);
    };
    sold = record {
      part = part_in (seller_place members) (λ r. is_live r.state) sums.sold.items rows (number - 1) old kept.of_sellers there.1 found settling.sold;
      fits = omega (arith, moved_is (seller_place members) (λ r. is_live r.state) sums.sold.items rows (number - 1) old new kept.of_sellers there.1 found same_seller settling.sold, sold_within members products (with_row rows number (Some new)) after (2 * gross_limit) within old.product old.seller old.buyer settling.seller);
    };
    bought = record {
      part = part_in (buyer_place members) (λ r. is_live r.state) sums.bought.items rows (number - 1) old kept.of_buyers there.1 found settling.bought;
      fits = omega (arith, moved_is (buyer_place members) (λ r. is_live r.state) sums.bought.items rows (number - 1) old new kept.of_buyers there.1 found same_buyer settling.bought, bought_within members products (with_row rows number (Some new)) after (2 * gross_limit) within old.product old.seller old.buyer settling.buyer);
    };
    pair = record {
      part = part_in (trade_place members) (λ r. is_live r.state) sums.pairs.items rows (number - 1) old kept.of_pairs there.1 found settling.pair;
      fits = omega (arith, moved_is (trade_place members) (λ r. is_live r.state) sums.pairs.items rows (number - 1) old new kept.of_pairs there.1 found same_pair settling.pair, pair_within members products (with_row rows number (Some new)) after (2 * gross_limit) within old.product old.seller old.buyer settling.seller settling.buyer);
    };
  }

  pub kept_settled : (after : KeptSums) → IsSettled members sums after old new → AreKept members products after (with_row rows number (Some new))
  kept_settled after now = record {
    product_count = ap length now.products ∙ length-set sums.products.items old.product _ ∙ kept.product_count;
    sold_count = ap length now.sold ∙ length-set sums.sold.items (seller_place members old) _ ∙ kept.sold_count;
    bought_count = ap length now.bought ∙ length-set sums.bought.items (buyer_place members old) _ ∙ kept.bought_count;
    pair_count = ap length now.pairs ∙ length-set sums.pairs.items (trade_place members old) _ ∙ kept.pair_count;
    of_products = subst (λ (s : List ℕ). AreSums (λ r. r.product) (λ r. counts r.state) s (with_row rows number (Some new))) (sym now.products) (kept_set (λ r. r.product) (λ r. counts r.state) sums.products.items rows (number - 1) old new kept.of_products there.1 found same.product settling.product);
    of_sellers = subst (λ (s : List ℕ). AreSums (seller_place members) (λ r. is_live r.state) s (with_row rows number (Some new))) (sym now.sold) (kept_set (seller_place members) (λ r. is_live r.state) sums.sold.items rows (number - 1) old new kept.of_sellers there.1 found same_seller settling.sold);
    of_buyers = subst (λ (s : List ℕ). AreSums (buyer_place members) (λ r. is_live r.state) s (with_row rows number (Some new))) (sym now.bought) (kept_set (buyer_place members) (λ r. is_live r.state) sums.bought.items rows (number - 1) old new kept.of_buyers there.1 found same_buyer settling.bought);
    of_pairs = subst (λ (s : List ℕ). AreSums (trade_place members) (λ r. is_live r.state) s (with_row rows number (Some new))) (sym now.pairs) (kept_set (trade_place members) (λ r. is_live r.state) sums.pairs.items rows (number - 1) old new kept.of_pairs there.1 found same_pair settling.pair);
  }

module _ (members products submitted : ℕ) (sums : KeptSums) (rows : List TradeRow) (all : IsSummedBook members products submitted sums rows) where
  -- what is read of a book's sums
  pub product_read : (p : ℕ) → get_or sums.products.items p 0 ≡ gross_of p rows
  product_read p =
      ⊎_elim (λ (low : p < products). all.kept.of_products p (omega (arith, low, all.kept.product_count)))
      (λ (high : products ≤ p). get_or_past sums.products.items p 0 (omega (arith, high, all.kept.product_count)) ∙ sym (no_gross members products 1 p rows all.book.trades high))
      (cases_lt p products)

  module _ (p s : ℕ) where
    pub member_sold : p < products → s < members → get_or sums.sold.items (member_place members p s) 0 ≡ sold_by p s rows
    member_sold low small =
        all.kept.of_sellers (member_place members p s) (omega (arith, all.kept.sold_count, mul-add-lt p members s products low small)) ∙ sold_read members products 1 p s rows all.book.trades small

    pub member_bought : p < products → s < members → get_or sums.bought.items (member_place members p s) 0 ≡ bought_by p s rows
    member_bought low small =
        all.kept.of_buyers (member_place members p s) (omega (arith, all.kept.bought_count, mul-add-lt p members s products low small)) ∙ bought_read members products 1 p s rows all.book.trades small

    pub sold_most : sold_by p s rows ≤ gross_limit
    sold_most = omega (arith, sold_le p s rows, all.book.bounded p)

    pub bought_most : bought_by p s rows ≤ gross_limit
    bought_most = omega (arith, bought_le p s rows, all.book.bounded p)

    pub sold_nothing : products ≤ p → sold_by p s rows ≡ 0
    sold_nothing high = omega (arith, sold_le p s rows, no_gross members products 1 p rows all.book.trades high)

    pub bought_nothing : products ≤ p → bought_by p s rows ≡ 0
    bought_nothing high = omega (arith, bought_le p s rows, no_gross members products 1 p rows all.book.trades high)

  pub pair_owes : (p s b : ℕ) → p < products → s < members → b < members → get_or sums.pairs.items (pair_place members p s b) 0 ≡ pair_sum_of p s b rows
  pair_owes p s b low small less =
      all.kept.of_pairs (pair_place members p s b) (omega (arith, all.kept.pair_count, place_low members products p s b low small less)) ∙ pair_read members products 1 p s b rows all.book.trades small less

  pub pair_most : (p s b : ℕ) → pair_sum_of p s b rows ≤ gross_limit
  pair_most p s b = omega (arith, pair_le p s b rows, all.book.bounded p)

  -- changes that add nothing
  pub written_with_sums : (n : ℕ) (new : List TradeRow) (f : TradeRow → TradeRow) → ((row : TradeRow) → KeepsTerms row (f row)) → ((row : TradeRow) → (f row).state ≡ row.state) → n ≡ length rows → new ≡ map f rows
      → IsSummedBook members products submitted sums (take n (new ++ drop (length new) rows))
  written_with_sums n new f keeps states size e = record {
    book = book_written f members products submitted n rows new keeps size e all.book;
    kept = subst (AreKept members products sums) (sym (rows_written f n rows new size e ∙ e))
        (record {
          product_count = all.kept.product_count;
          sold_count = all.kept.sold_count;
          bought_count = all.kept.bought_count;
          pair_count = all.kept.pair_count;
          of_products = kept_map (λ r. r.product) (λ r. counts r.state) sums.products.items rows f (λ k row. rw ((keeps row).product, (keeps row).amount, states row) refl) all.kept.of_products;
          of_sellers = kept_map (seller_place members) (λ r. is_live r.state) sums.sold.items rows f (λ k row. rw ((keeps row).product, (keeps row).seller, (keeps row).amount, states row) refl) all.kept.of_sellers;
          of_buyers = kept_map (buyer_place members) (λ r. is_live r.state) sums.bought.items rows f (λ k row. rw ((keeps row).product, (keeps row).buyer, (keeps row).amount, states row) refl) all.kept.of_buyers;
          of_pairs = kept_map (trade_place members) (λ r. is_live r.state) sums.pairs.items rows f (λ k row. rw ((keeps row).product, (keeps row).seller, (keeps row).buyer, (keeps row).amount, states row) refl) all.kept.of_pairs;
        });
  }

  pub held_with_sums : (number : ℕ) (old new : TradeRow) → trade_numbered rows number ≡ Some old → KeepsTerms old new → new.state ≡ old.state → IsSummedBook members products submitted sums (with_row rows number (Some new))
  held_with_sums number old new is keeps state =
      let there = placed rows number old is in
      let found = get_or_from_slice_get rows (number - 1) old old there.2 in
      record {
        book = book_changed members products submitted rows number old new all.book is keeps;
        kept = record {
          product_count = all.kept.product_count;
          sold_count = all.kept.sold_count;
          bought_count = all.kept.bought_count;
          pair_count = all.kept.pair_count;
          of_products = kept_same (λ r. r.product) (λ r. counts r.state) sums.products.items rows (number - 1) old new all.kept.of_products there.1 found (λ k. rw (keeps.product, keeps.amount, state) refl);
          of_sellers = kept_same (seller_place members) (λ r. is_live r.state) sums.sold.items rows (number - 1) old new all.kept.of_sellers there.1 found (λ k. rw (keeps.product, keeps.seller, keeps.amount, state) refl);
          of_buyers = kept_same (buyer_place members) (λ r. is_live r.state) sums.bought.items rows (number - 1) old new all.kept.of_buyers there.1 found (λ k. rw (keeps.product, keeps.buyer, keeps.amount, state) refl);
          of_pairs = kept_same (trade_place members) (λ r. is_live r.state) sums.pairs.items rows (number - 1) old new all.kept.of_pairs there.1 found (λ k. rw (keeps.product, keeps.seller, keeps.buyer, keeps.amount, state) refl);
        };
      }

  -- a change of one trade that keeps its terms
  module _ (number : ℕ) (old new : TradeRow) (is : trade_numbered rows number ≡ Some old) (keeps : KeepsTerms old new) where
    changed : IsBook members products submitted (with_row rows number (Some new))
    changed = book_changed members products submitted rows number old new all.book is keeps

    places : SamePlaces old new
    places = record { product = keeps.product; seller = keeps.seller; buyer = keeps.buyer }

    pub can_change : CanSettle members sums old new
    can_change = can_settle members products sums rows number old new all.book.few_members all.book.few_products all.book.trades all.kept is places changed.trades (λ product. omega (arith, changed.bounded product))

    pub changed_with_sums : (after : KeptSums) → after.members ≡ members → IsSettled members sums after old new → IsSummedBook after.members products submitted after (with_row rows number (Some new))
    changed_with_sums after same now =
        subst (λ (m : ℕ). IsSummedBook m products submitted after (with_row rows number (Some new))) (sym same)
        (record {
          book = changed;
          kept = kept_settled members products sums rows number old new all.book.few_members all.book.few_products all.book.trades all.kept is places after now;
        })

  -- a new trade that fits its product's gross
  module _ (row : TradeRow) (by_party : IsTrue (is_some row.submitter)) (is : IsTrade members products (length rows + 1) row) (fits : gross_of row.product rows + row.amount ≤ gross_limit) where
    longer : IsBook members products (submitted + 1) (rows ++ row ∷ [])
    longer = book_alleged members products submitted rows row all.book by_party is fits

    pub can_allege : CanEnter members sums row
    can_allege = can_enter members products (length rows + 1) sums rows row all.book.few_members all.book.few_products all.kept is longer.trades (λ product. omega (arith, longer.bounded product))

    pub alleged_with_sums : (after : KeptSums) → after.members ≡ members → IsEntered members sums after row → IsSummedBook after.members products (submitted + 1) after (rows ++ row ∷ [])
    alleged_with_sums after same now =
        subst (λ (m : ℕ). IsSummedBook m products (submitted + 1) after (rows ++ row ∷ [])) (sym same)
        (record {
          book = longer;
          kept = kept_entered members products (length rows + 1) sums rows row all.book.few_members all.book.few_products all.kept is after now;
        })
