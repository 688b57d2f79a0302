-- What a book keeps, where a trade comes or is changed, and what is known of a trade that may be changed.
use Rattle.std.proofs.Common.{◌≡◌, ℕ, zero, suc, ◌+◌, ◌-◌, ◌≤◌, ◌<◌, ◌==◌, ◌&&◌, ◌||◌, Bool, true, false, List, [], ◌∷◌, ◌++◌, length, map, take, drop, get_or, slice_get, slice_set, is_some, option_copied, IfSome, IsTrue, Option, Some, None, if◌then◌else◌, arith, refl, ap, sym, subst, ◌∙◌}
use Rattle.std.specs.Prelude.{sum_by}
use Rattle.std.proofs.lemmas.List.{length-map}
use Rattle.std.proofs.lemmas.List.Sums.{sum_by_push, sum_by-cons, sum_by-set, sum_by-le-sum_by, length-filter, count_by-le-length}
use Rattle.std.proofs.lemmas.Option.{get_or_from_slice_get}
use Rattle.std.proofs.lemmas.Bool.{false≢true}
use Rattle.std.proofs.lemmas.Bool.Decides.{Decides-eqb}
use Rattle.std.specs.Borrow.{Bor}
use Rattle.command_types.specs.declared.trade.TradeRow.{TradeRow}
use Rattle.command_types.specs.declared.trade.TradeState.{TradeState}
use Rattle.command_types.specs.declared.trade.TradeState.TheVariants.{Alleged, Live, Ended}
use Rattle.command_types.specs.declared.trade.Side.{Side}
use Rattle.command_types.specs.declared.trade.Side.TheVariants.{Out, In}
use Rattle.command_types.specs.Trades.{counts, is_live, is_alleged, gross_of, submitted_count, sold_by, bought_by, pair_sum_of, trade_numbered, with_row, live_row, row_ended_by, row_with_hold}
use Rattle.product_book.specs.Book.{IsTrade, AreTrades, IsBook, IsEarlier, gross_limit, may_affirm}
use Rattle.product_book.proofs.PlaceFacts.{there_by, within_by, positive, written_back}

-- what a row adds to a product's gross
abbrev pub gross_part : ℕ → TradeRow → ℕ
gross_part product row = if (row.product == product) && counts row.state then row.amount else 0

abbrev sold_part : ℕ → ℕ → TradeRow → ℕ
sold_part product member row = if (row.product == product) && is_live row.state && (row.seller == member) then row.amount else 0

abbrev bought_part : ℕ → ℕ → TradeRow → ℕ
bought_part product member row = if (row.product == product) && is_live row.state && (row.buyer == member) then row.amount else 0

abbrev pair_part : ℕ → ℕ → ℕ → TradeRow → ℕ
pair_part product seller buyer row = if (row.product == product) && is_live row.state && (row.seller == seller) && (row.buyer == buyer) then row.amount else 0

part_le : (p m : Bool) (state : TradeState) (amount : ℕ) → (if p && is_live state && m then amount else 0) ≤ (if p && counts state then amount else 0)
part_le false m state amount = omega arith
part_le true m Alleged amount = omega arith
part_le true true Live amount = omega arith
part_le true false Live amount = omega arith
part_le true m Ended amount = omega arith

pair_part_le : (p a b : Bool) (state : TradeState) (amount : ℕ) → (if p && is_live state && a && b then amount else 0) ≤ (if p && counts state then amount else 0)
pair_part_le false a b state amount = omega arith
pair_part_le true a b Alleged amount = omega arith
pair_part_le true false b Live amount = omega arith
pair_part_le true true false Live amount = omega arith
pair_part_le true true true Live amount = omega arith
pair_part_le true a b Ended amount = omega arith

-- what a member owes in a product is at most its gross
pub sold_le : (product member : ℕ) (rows : List TradeRow) → sold_by product member rows ≤ gross_of product rows
sold_le product member rows = sum_by-le-sum_by (sold_part product member) (gross_part product) rows (λ row. part_le (row.product == product) (row.seller == member) row.state row.amount)

-- and so is what it is owed
pub bought_le : (product member : ℕ) (rows : List TradeRow) → bought_by product member rows ≤ gross_of product rows
bought_le product member rows = sum_by-le-sum_by (bought_part product member) (gross_part product) rows (λ row. part_le (row.product == product) (row.buyer == member) row.state row.amount)

-- and what one member owes another
pub pair_le : (product seller buyer : ℕ) (rows : List TradeRow) → pair_sum_of product seller buyer rows ≤ gross_of product rows
pair_le product seller buyer rows = sum_by-le-sum_by (pair_part product seller buyer) (gross_part product) rows (λ row. pair_part_le (row.product == product) (row.seller == seller) (row.buyer == buyer) row.state row.amount)

if_le : (b : Bool) (n : ℕ) → (if b then n else 0) ≤ n
if_le true n = omega arith
if_le false n = omega arith

added_at : (rows : List TradeRow) (row : TradeRow) (product : ℕ) (same : Bool) → (row.product == product) ≡ same → ((p : ℕ) → gross_of p rows ≤ gross_limit) → gross_of row.product rows + row.amount ≤ gross_limit →
    gross_of product (rows ++ row ∷ []) ≤ gross_limit
added_at rows row product true is bounded fits =
    let P : ℕ → Type 0 = λ n. gross_of n rows + row.amount ≤ gross_limit in
    let here : gross_of product rows + row.amount ≤ gross_limit = subst P ((Decides-eqb row.product product).0 is) fits in
    let most = if_le ((row.product == product) && counts row.state) row.amount in
    omega (arith, sum_by_push (gross_part product) rows row)
added_at rows row product false is bounded fits =
    let none : gross_part product row ≡ 0 = ap (λ b. if b && counts row.state then row.amount else 0) is in
    let before = bounded product in
    omega (arith, sum_by_push (gross_part product) rows row)

pub trades_push : (members products n : ℕ) (rows : List TradeRow) (row : TradeRow) → AreTrades members products n rows → IsTrade members products (n + length rows) row → AreTrades members products n (rows ++ row ∷ [])
trades_push members products n [] row are is = (subst (λ k. IsTrade members products k row) (let e : n + 0 ≡ n = omega arith in e) is, tt)
trades_push members products n (first ∷ rows) row (here, later) is =
    let e : n + length (first ∷ rows) ≡ n + 1 + length rows = omega arith in
    (here, trades_push members products (n + 1) rows row later (subst (λ k. IsTrade members products k row) e is))

pub trades_set : (members products n : ℕ) (rows : List TradeRow) (i : ℕ) (row : TradeRow) → AreTrades members products n rows → IsTrade members products (n + i) row → AreTrades members products n (slice_set rows i row)
trades_set members products n [] i row are is = tt
trades_set members products n (first ∷ rows) zero row (here, later) is = (subst (λ k. IsTrade members products k row) (let e : n + 0 ≡ n = omega arith in e) is, later)
trades_set members products n (first ∷ rows) (suc i) row (here, later) is =
    let e : n + suc i ≡ n + 1 + i = omega arith in
    (here, trades_set members products (n + 1) rows i row later (subst (λ k. IsTrade members products k row) e is))

pub trades_at : (members products n : ℕ) (rows : List TradeRow) (i : ℕ) (row : TradeRow) → AreTrades members products n rows → slice_get rows i ≡ Some row → IsTrade members products (n + i) row
trades_at members products n [] i row are is = cc
trades_at members products n (first ∷ rows) zero row (here, later) is =
    let e : n ≡ n + 0 = omega arith in
    let same : first ≡ row = cc in
    subst (λ k. IsTrade members products k row) e (subst (IsTrade members products n) same here)
trades_at members products n (first ∷ rows) (suc i) row (here, later) is =
    let e : n + 1 + i ≡ n + suc i = omega arith in
    subst (λ k. IsTrade members products k row) e (trades_at members products (n + 1) rows i row later is)

-- what a row adds to the count of submitted trades
abbrev submitted_part : TradeRow → ℕ
submitted_part row = if is_some row.submitter then 1 else 0

-- there are no more submitted trades than trades
pub submitted_le : (rows : List TradeRow) → submitted_count rows ≤ length rows
submitted_le rows =
    let counted = length-filter (λ row. is_some row.submitter) rows in
    let most = count_by-le-length (λ row. is_some row.submitter) rows in
    omega arith

pub submitted_push : (rows : List TradeRow) (row : TradeRow) → IsTrue (is_some row.submitter) → submitted_count (rows ++ row ∷ []) ≡ submitted_count rows + 1
submitted_push rows row is =
    let one : submitted_part row ≡ 1 = ap (λ (t : Bool). if t then 1 else 0) is in
    let before = length-filter (λ row. is_some row.submitter) rows in
    let after = length-filter (λ row. is_some row.submitter) (rows ++ row ∷ []) in
    omega (arith, sum_by_push submitted_part rows row)

pub submitted_by_nobody : (rows : List TradeRow) (row : TradeRow) → row.submitter ≡ None → submitted_count (rows ++ row ∷ []) ≡ submitted_count rows
submitted_by_nobody rows row nobody =
    let none : submitted_part row ≡ 0 = ap (λ (o : Option Side). if is_some o then 1 else 0) nobody in
    let before = length-filter (λ row. is_some row.submitter) rows in
    let after = length-filter (λ row. is_some row.submitter) (rows ++ row ∷ []) in
    omega (arith, sum_by_push submitted_part rows row)

pub submitted_set : (rows : List TradeRow) (i : ℕ) (old new : TradeRow) → i < length rows → get_or rows i old ≡ old → new.submitter ≡ old.submitter → submitted_count (slice_set rows i new) ≡ submitted_count rows
submitted_set rows i old new within is same =
    let there : submitted_part (get_or rows i old) ≡ submitted_part old = ap submitted_part is in
    let kept : submitted_part new ≡ submitted_part old = ap (λ (o : Option Side). if is_some o then 1 else 0) same in
    let before = length-filter (λ row. is_some row.submitter) rows in
    let after = length-filter (λ row. is_some row.submitter) (slice_set rows i new) in
    omega (arith, sum_by-set submitted_part rows i new old within)

-- a new trade that fits its product's gross
pub book_alleged : (members products submitted : ℕ) (rows : List TradeRow) (row : TradeRow) → IsBook members products submitted rows → IsTrue (is_some row.submitter) → IsTrade members products (length rows + 1) row → gross_of row.product rows + row.amount ≤ gross_limit →
    IsBook members products (submitted + 1) (rows ++ row ∷ [])
book_alleged members products submitted rows row book by_party is fits = record {
  few_members = book.few_members;
  few_products = book.few_products;
  trades = trades_push members products 1 rows row book.trades (subst (λ k. IsTrade members products k row) (let e : length rows + 1 ≡ 1 + length rows = omega arith in e) is);
  bounded = λ product. added_at rows row product (row.product == product) refl book.bounded fits;
  counted = ap (λ n. n + 1) book.counted ∙ sym (submitted_push rows row by_party);
}

-- one trade of a book
pub trade_of : (members products submitted : ℕ) (rows : List TradeRow) (number : ℕ) (row : TradeRow) → IsBook members products submitted rows → 0 < number → slice_get rows (number - 1) ≡ Some row → IsTrade members products number row
trade_of members products submitted rows number row book above is =
    let e : 1 + (number - 1) ≡ number = omega arith in
    subst (λ k. IsTrade members products k row) e (trades_at members products 1 rows (number - 1) row book.trades is)

-- the terms of a trade stay, and it counts no more than before
pub record KeepsTerms (old new : TradeRow) : Type 0 where
  pub number : new.number ≡ old.number
  pub product : new.product ≡ old.product
  pub seller : new.seller ≡ old.seller
  pub buyer : new.buyer ≡ old.buyer
  pub amount : new.amount ≡ old.amount
  pub submitter : new.submitter ≡ old.submitter
  pub state : IsTrue (counts new.state) → IsTrue (counts old.state)

counted_le : (p a b : Bool) (amount : ℕ) → (IsTrue a → IsTrue b) → (if p && a then amount else 0) ≤ (if p && b then amount else 0)
counted_le false a b amount h = omega arith
counted_le true false b amount h = omega arith
counted_le true true true amount h = omega arith
counted_le true true false amount h = absurd (false≢true (h refl))

part_kept : (old new : TradeRow) (product : ℕ) → KeepsTerms old new → gross_part product new ≤ gross_part product old
part_kept old new product keeps = rw (keeps.product, keeps.amount) (counted_le (old.product == product) (counts new.state) (counts old.state) old.amount keeps.state)

trade_kept : (members products n : ℕ) (old new : TradeRow) → KeepsTerms old new → IsTrade members products n old → IsTrade members products n new
trade_kept members products n old new keeps is = record {
  number = keeps.number ∙ is.number;
  product = rw keeps.product is.product;
  seller = rw keeps.seller is.seller;
  buyer = rw keeps.buyer is.buyer;
  different = rw (keeps.seller, keeps.buyer) is.different;
}

bounded_kept : (rows : List TradeRow) (i : ℕ) (old new : TradeRow) (product : ℕ) → i < length rows → get_or rows i old ≡ old → gross_part product new ≤ gross_part product old → gross_of product rows ≤ gross_limit →
    gross_of product (slice_set rows i new) ≤ gross_limit
bounded_kept rows i old new product within is less bounded =
    let there : gross_part product (get_or rows i old) ≡ gross_part product old = ap (gross_part product) is in
    omega (arith, sum_by-set (gross_part product) rows i new old within)

some_there : (o : Option TradeRow) (row : TradeRow) → o ≡ Some row → IsTrue (is_some o)
some_there None row is = cc
some_there (Some other) row is = refl

-- a trade that is there, with its place and its row
pub placed : (rows : List TradeRow) (number : ℕ) (row : TradeRow) → trade_numbered rows number ≡ Some row → (0 < number) × (number - 1 < length rows) × (slice_get rows (number - 1) ≡ Some row)
placed rows number row is =
    let there = some_there (trade_numbered rows number) row is in
    let parts = there_by _ (slice_get rows (number - 1)) there in
    (positive number parts.0, within_by rows (number - 1) (slice_get rows (number - 1)) refl parts.1, sym (ap (λ t. if t then slice_get rows (number - 1) else None) parts.0) ∙ is)

-- a change of a trade that keeps its terms
pub book_changed : (members products submitted : ℕ) (rows : List TradeRow) (number : ℕ) (old new : TradeRow) → IsBook members products submitted rows → trade_numbered rows number ≡ Some old → KeepsTerms old new →
    IsBook members products submitted (with_row rows number (Some new))
book_changed members products submitted rows number old new book is keeps =
    let at_place = placed rows number old is in
    let row = trades_at members products 1 rows (number - 1) old book.trades at_place.2 in
    record {
      few_members = book.few_members;
      few_products = book.few_products;
      trades = trades_set members products 1 rows (number - 1) new book.trades (trade_kept members products (1 + (number - 1)) old new keeps row);
      bounded = λ product. bounded_kept rows (number - 1) old new product at_place.1 (get_or_from_slice_get rows (number - 1) old old at_place.2) (part_kept old new product keeps) (book.bounded product);
      counted = book.counted ∙ sym (submitted_set rows (number - 1) old new at_place.1 (get_or_from_slice_get rows (number - 1) old old at_place.2) keeps.submitter);
    }

trades_mapped : (f : TradeRow → TradeRow) (members products n : ℕ) (rows : List TradeRow) → ((row : TradeRow) → KeepsTerms row (f row)) → AreTrades members products n rows → AreTrades members products n (map f rows)
trades_mapped f members products n [] keeps are = tt
trades_mapped f members products n (row ∷ rows) keeps (here, later) = (trade_kept members products n row (f row) (keeps row) here, trades_mapped f members products (n + 1) rows keeps later)

gross_mapped : (f : TradeRow → TradeRow) (product : ℕ) (rows : List TradeRow) → ((row : TradeRow) → KeepsTerms row (f row)) → gross_of product (map f rows) ≤ gross_of product rows
gross_mapped f product [] keeps = omega arith
gross_mapped f product (row ∷ rows) keeps =
    omega (arith, sum_by-cons (gross_part product) row rows, sum_by-cons (gross_part product) (f row) (map f rows), part_kept row (f row) product (keeps row), gross_mapped f product rows keeps)

submitted_mapped : (f : TradeRow → TradeRow) (rows : List TradeRow) → ((row : TradeRow) → KeepsTerms row (f row)) → submitted_count (map f rows) ≡ submitted_count rows
submitted_mapped f rows keeps =
    let before = length-filter (λ (row : TradeRow). is_some row.submitter) rows in
    let after = length-filter (λ (row : TradeRow). is_some row.submitter) (map f rows) in
    omega (arith, before, after, same rows)
  where
    same : (rows : List TradeRow) → sum_by submitted_part (map f rows) ≡ sum_by submitted_part rows
    same [] = refl
    same (row ∷ rows) =
        let kept : submitted_part (f row) ≡ submitted_part row = ap (λ (o : Option Side). if is_some o then 1 else 0) (keeps row).submitter in
        omega (arith, kept, sum_by-cons submitted_part row rows, sum_by-cons submitted_part (f row) (map f rows), same rows)

-- a change of every trade that keeps the terms of each
pub book_mapped : (f : TradeRow → TradeRow) (members products submitted : ℕ) (rows : List TradeRow) → ((row : TradeRow) → KeepsTerms row (f row)) → IsBook members products submitted rows → IsBook members products submitted (map f rows)
book_mapped f members products submitted rows keeps book = record {
  few_members = book.few_members;
  few_products = book.few_products;
  trades = trades_mapped f members products 1 rows keeps book.trades;
  bounded = λ product. omega (arith, gross_mapped f product rows keeps, book.bounded product);
  counted = book.counted ∙ sym (submitted_mapped f rows keeps);
}

-- what a book's trades are once a slice of all of them was written
pub rows_written : (f : TradeRow → TradeRow) (n : ℕ) (rows new : List TradeRow) → n ≡ length rows → new ≡ map f rows → take n (new ++ drop (length new) rows) ≡ new
rows_written f n rows new all e = written_back n rows new (ap length e ∙ length-map rows f ∙ sym all)

pub book_written : (f : TradeRow → TradeRow) (members products submitted n : ℕ) (rows new : List TradeRow) → ((row : TradeRow) → KeepsTerms row (f row)) → n ≡ length rows → new ≡ map f rows → IsBook members products submitted rows →
    IsBook members products submitted (take n (new ++ drop (length new) rows))
book_written f members products submitted n rows new keeps all e book =
    subst (IsBook members products submitted) (sym (rows_written f n rows new all e ∙ e)) (book_mapped f members products submitted rows keeps book)

-- whether a trade is frozen is none of its terms
pub flag_keeps : (flag : Bool) (row : TradeRow) → KeepsTerms row (record row { frozen = flag })
flag_keeps flag row = record { number = refl; product = refl; seller = refl; buyer = refl; amount = refl; submitter = refl; state = λ h. h }

pub alleged_counts : (state : TradeState) → IsTrue (is_alleged state) → IsTrue (counts state)
alleged_counts Alleged h = refl
alleged_counts Live h = cc
alleged_counts Ended h = cc

pub live_keeps : (row : TradeRow) → IsTrue (may_affirm (Some row)) → KeepsTerms row (live_row row)
live_keeps row alleged = record { number = refl; product = refl; seller = refl; buyer = refl; amount = refl; submitter = refl; state = λ _. alleged_counts row.state alleged }

pub back_keeps : (now was : TradeRow) → IsEarlier now was → KeepsTerms now was
back_keeps now was e = record { number = e.number; product = e.product; seller = e.seller; buyer = e.buyer; amount = e.amount; submitter = e.submitter; state = λ h. sym e.counts ∙ h }

ended_keeps_by : (t : Bool) (side : Side) (row : TradeRow) → KeepsTerms row (if t then record row { state = Ended } else record row { mark = Some side })
ended_keeps_by true side row = record { number = refl; product = refl; seller = refl; buyer = refl; amount = refl; submitter = refl; state = λ h. absurd (false≢true h) }
ended_keeps_by false side row = record { number = refl; product = refl; seller = refl; buyer = refl; amount = refl; submitter = refl; state = λ h. h }

pub ended_keeps : (side : Side) (row : TradeRow) → KeepsTerms row (row_ended_by side row)
ended_keeps side row = ended_keeps_by (is_alleged row.state || is_some row.mark) side row

pub hold_keeps : (held : Bool) (side : Side) (row : TradeRow) → KeepsTerms row (row_with_hold held side row)
hold_keeps held Out row = record { number = refl; product = refl; seller = refl; buyer = refl; amount = refl; submitter = refl; state = λ h. h }
hold_keeps held In row = record { number = refl; product = refl; seller = refl; buyer = refl; amount = refl; submitter = refl; state = λ h. h }

pub hold_state : (held : Bool) (side : Side) (row : TradeRow) → (row_with_hold held side row).state ≡ row.state
hold_state held Out row = refl
hold_state held In row = refl

-- what is found under a number is that trade
pub found_trade : (members products submitted : ℕ) (rows : List TradeRow) (number : ℕ) (o : Option (Bor TradeRow)) → IsBook members products submitted rows → 0 < number → option_copied o ≡ slice_get rows (number - 1) →
    IfSome o (λ row. IsTrade members products number row.now)
found_trade members products submitted rows number None book above is = tt
found_trade members products submitted rows number (Some row) book above is = trade_of members products submitted rows number row.now book above (sym is)
