-- What keeps a book's lists right: a new trade, one that ends, and changes that leave each where it stands.
use Rattle.std.proofs.Common.{◌≡◌, ℕ, zero, suc, ◌+◌, ◌-◌, ◌*◌, ◌≤◌, ◌<◌, ◌==◌, ◌&&◌, Bool, true, false, List, [], ◌∷◌, ◌++◌, length, map, take, drop, filter, cond, not, replicate, slice_index_or, Some, arith, refl, ap, sym, subst, ◌∙◌, ⊎_elim}
use Rattle.std.proofs.lemmas.Bool.{cases_lt, and_parts, false≢true}
use Rattle.std.proofs.lemmas.Bool.Decides.{Decides-eqb}
use Rattle.std.proofs.lemmas.List.{length-replicate, get_or_past}
use Rattle.command_types.specs.declared.trade.TradeRow.{TradeRow}
use Rattle.command_types.specs.declared.trade.TradeState.{TradeState}
use Rattle.command_types.specs.declared.trade.TradeState.TheVariants.{Alleged, Ended, Live}
use Rattle.command_types.specs.Trades.{counts, is_live, trade_numbered, with_row}
use Rattle.command_types.specs.Plans.{ended_row}
use Rattle.product_book.specs.Book.{IsTrade, AreTrades, live_between}
use Rattle.command_types.specs.Books.{is_between}
use Rattle.linked_rows.specs.Rows.{list_of}
use Rattle.product_book.specs.Walks.{rows_at, live_among, EachThere}
use Rattle.product_book.specs.Kept.{pair_place, trade_place}
use Rattle.product_book.specs.OpenLists.{OpenView, numbers_in, numbers_of}
use Rattle.product_book.specs.Links.{is_open_at, AreListed, IsPushed, IsTakenOut, IsForgotten, AreLinked}
use Rattle.product_book.proofs.BookFacts.{KeepsTerms, rows_written, placed, trades_at, trades_set}
use Rattle.product_book.proofs.PairFacts.{place_low, same_test}
use Rattle.product_book.proofs.WalkFacts.{rows_open, list_numbers, none_at}
use Rattle.product_book.proofs.ListedFacts.{count_pushed, count_taken, listed_pushed, listed_taken, listed_forgotten, count_forgotten, listed_same, listed_mapped}

-- lists of no trades
none_listed : (key : TradeRow → ℕ) (v : OpenView) (n : ℕ) → v.lists ≡ replicate n [] → v.count ≡ 0 → AreListed key v []
none_listed key v n is none = record {
  count = none;
  listed = λ place low. ap (λ (ls : List (List (ℕ × ℕ))). slice_index_or (numbers_of ls) place []) is ∙ empty n place (omega (arith, low, ap (λ (ls : List (List (ℕ × ℕ))). length ls) is, length-replicate {A = List (ℕ × ℕ)} n []));
}
  where
    empty : (n place : ℕ) → place < n → slice_index_or (numbers_of (replicate n [])) place [] ≡ []
    empty zero place low = absurd (omega (arith, low))
    empty (suc n) zero low = refl
    empty (suc n) (suc place) low = empty n place (omega (arith, low))

pub none_linked : (members products : ℕ) (p q : OpenView) (spare : ℕ) → p.lists ≡ replicate products [] → q.lists ≡ replicate (members * (members * products)) [] → p.count ≡ 0 → q.count ≡ 0 → spare ≤ p.spare → spare ≤ q.spare → AreLinked members products p q spare []
none_linked members products p q spare is is' none none' room room' = record {
  product_count = ap (λ (ls : List (List (ℕ × ℕ))). length ls) is ∙ length-replicate products [];
  pair_count = ap (λ (ls : List (List (ℕ × ℕ))). length ls) is' ∙ length-replicate (members * (members * products)) [];
  of_products = none_listed (λ row. row.product) p products is none;
  of_pairs = none_listed (trade_place members) q (members * (members * products)) is' none';
  product_room = room;
  pair_room = room';
}

-- a change that keeps the terms of a trade keeps its places
pub same_place : (members : ℕ) (old new : TradeRow) → KeepsTerms old new → trade_place members new ≡ trade_place members old
same_place members old new keeps = ap (λ n. pair_place members n new.seller new.buyer) keeps.product ∙ ap (λ n. pair_place members old.product n new.buyer) keeps.seller ∙ ap (λ n. pair_place members old.product old.seller n) keeps.buyer

module _ (members products : ℕ) (p q : OpenView) (spare : ℕ) (rows : List TradeRow) (all : AreLinked members products p q spare rows) where
  pub entered_product : (n : ℕ) (row : TradeRow) → IsTrade members products n row → row.product < length p.lists
  entered_product n row is = omega (arith, is.product, all.product_count)

  pub entered_pair : (n : ℕ) (row : TradeRow) → IsTrade members products n row → trade_place members row < length q.lists
  entered_pair n row is = omega (arith, all.pair_count, place_low members products row.product row.seller row.buyer is.product is.seller is.buyer)

  pub linked_entered : (p' q' : OpenView) (rest : ℕ) (row : TradeRow) → IsPushed p p' row.product → IsPushed q q' (trade_place members row) → IsTrade members products (length rows + 1) row → counts row.state ≡ true → 1 ≤ spare → rest ≡ spare - 1 → AreLinked members products p' q' rest (rows ++ row ∷ [])
  linked_entered p' q' rest row first second is open_now some e = record {
    product_count = count_pushed p p' row.product first ∙ all.product_count;
    pair_count = count_pushed q q' (trade_place members row) second ∙ all.pair_count;
    of_products = listed_pushed (λ r. r.product) p rows all.of_products p' row first is.number open_now (entered_product (length rows + 1) row is);
    of_pairs = listed_pushed (trade_place members) q rows all.of_pairs q' row second is.number open_now (entered_pair (length rows + 1) row is);
    product_room = omega (arith, first.spare, all.product_room, e);
    pair_room = omega (arith, second.spare, all.pair_room, e);
  }

  -- the number of a trade is among those that were put into the lists
  pub left_product : (number : ℕ) (old : TradeRow) → trade_numbered rows number ≡ Some old → number ≤ p.count
  left_product number old found = let at = placed rows number old found in omega (arith, at.0, at.1, all.of_products.count)

  pub left_pair : (number : ℕ) (old : TradeRow) → trade_numbered rows number ≡ Some old → number ≤ q.count
  left_pair number old found = let at = placed rows number old found in omega (arith, at.0, at.1, all.of_pairs.count)

  pub linked_left : (p' q' : OpenView) (rest number : ℕ) (old new : TradeRow) → IsTakenOut p p' number → IsTakenOut q q' number → AreTrades members products 1 rows → trade_numbered rows number ≡ Some old → counts new.state ≡ false → rest ≡ spare → AreLinked members products p' q' rest (with_row rows number (Some new))
  linked_left p' q' rest number old new first second are found gone e = record {
    product_count = count_taken p p' number first ∙ all.product_count;
    pair_count = count_taken q q' number second ∙ all.pair_count;
    of_products = listed_taken (λ r. r.product) p rows all.of_products p' members products number old new first are found gone;
    of_pairs = listed_taken (trade_place members) q rows all.of_pairs q' members products number old new second are found gone;
    product_room = omega (arith, first.spare, all.product_room, e);
    pair_room = omega (arith, second.spare, all.pair_room, e);
  }

  pub linked_forgotten : (p' q' : OpenView) (rest : ℕ) (old : TradeRow) (front : List TradeRow) → IsForgotten p p' → IsForgotten q q' → AreTrades members products 1 rows → trade_numbered rows (length rows) ≡ Some old
      → with_row rows (length rows) (Some (ended_row old)) ≡ front ++ ended_row old ∷ [] → rest ≡ spare → AreLinked members products p' q' rest front
  linked_forgotten p' q' rest old front first second are found split e = record {
    product_count = count_forgotten p p' first ∙ all.product_count;
    pair_count = count_forgotten q q' second ∙ all.pair_count;
    of_products = listed_forgotten (λ r. r.product) p rows all.of_products p' members products old front first are found split;
    of_pairs = listed_forgotten (trade_place members) q rows all.of_pairs q' members products old front second are found split;
    product_room = omega (arith, first.spare, all.product_room, e);
    pair_room = omega (arith, second.spare, all.pair_room, e);
  }

  pub linked_same : (number : ℕ) (old new : TradeRow) → trade_numbered rows number ≡ Some old → new.number ≡ old.number → new.product ≡ old.product → trade_place members new ≡ trade_place members old → counts new.state ≡ counts old.state → AreLinked members products p q spare (with_row rows number (Some new))
  linked_same number old new found e product place state = record {
    product_count = all.product_count;
    pair_count = all.pair_count;
    of_products = listed_same (λ r. r.product) p rows all.of_products number old new found e product state;
    of_pairs = listed_same (trade_place members) q rows all.of_pairs number old new found e place state;
    product_room = all.product_room;
    pair_room = all.pair_room;
  }

  pub linked_kept : (number : ℕ) (old new : TradeRow) → trade_numbered rows number ≡ Some old → KeepsTerms old new → counts new.state ≡ counts old.state → AreLinked members products p q spare (with_row rows number (Some new))
  linked_kept number old new found keeps state = linked_same number old new found keeps.number keeps.product (same_place members old new keeps) state

  pub linked_written : (n : ℕ) (new : List TradeRow) (f : TradeRow → TradeRow) → ((row : TradeRow) → KeepsTerms row (f row)) → ((row : TradeRow) → (f row).state ≡ row.state) → n ≡ length rows → new ≡ map f rows → AreLinked members products p q spare (take n (new ++ drop (length new) rows))
  linked_written n new f keeps states size e =
      subst (AreLinked members products p q spare) (sym (rows_written f n rows new size e ∙ e))
      (record {
        product_count = all.product_count;
        pair_count = all.pair_count;
        of_products = listed_mapped (λ r. r.product) p rows all.of_products f (λ row. (keeps row).number) (λ row. (keeps row).product) states;
        of_pairs = listed_mapped (trade_place members) q rows all.of_pairs f (λ row. (keeps row).number) (λ row. same_place members row (f row) (keeps row)) states;
        product_room = all.product_room;
        pair_room = all.pair_room;
      })

-- a trade that has ended, and one that has not
pub not_counted : (b : Bool) → true ≡ not b → b ≡ false
not_counted true e = absurd (false≢true (sym e))
not_counted false e = refl

pub still_counted : (b : Bool) → false ≡ not b → b ≡ true
still_counted true e = refl
still_counted false e = absurd (false≢true e)

pub both_count : (old new : TradeRow) → KeepsTerms old new → false ≡ not (counts new.state) → counts new.state ≡ counts old.state
both_count old new keeps e = let yes_now : counts new.state ≡ true = still_counted (counts new.state) e in yes_now ∙ sym (keeps.state yes_now)

-- what a book's list of a product has, and that of a pair
pub product_numbers : (members products : ℕ) (p q : OpenView) (spare product : ℕ) (rows : List TradeRow) → AreLinked members products p q spare rows → AreTrades members products 1 rows
    → (rows_at rows (numbers_in (list_of p.lists product)) ≡ filter (is_open_at (λ row. row.product) product) rows) × EachThere rows (numbers_in (list_of p.lists product))
product_numbers members products p q spare product rows all are =
    ⊎_elim (λ (low : product < products).
    let own = list_numbers (λ row. row.product) p rows product all.of_products (omega (arith, low, all.product_count)) in
    let on = rows_open (λ row. row.product) product rows members products are in
    rw own (on.0, on.1))
    (λ (high : products ≤ product).
    let nothing : list_of p.lists product ≡ [] = get_or_past p.lists product [] (omega (arith, high, all.product_count)) in
    rw nothing (sym (none_at (λ row. row.product) product rows (λ i row is e. omega (arith, (trades_at members products 1 rows i row are is).product, e, high))), tt))
    (cases_lt product products)

pub pair_numbers : (members products : ℕ) (p q : OpenView) (spare place : ℕ) (rows : List TradeRow) → AreLinked members products p q spare rows → AreTrades members products 1 rows → place < members * (members * products)
    → (rows_at rows (numbers_in (list_of q.lists place)) ≡ filter (is_open_at (trade_place members) place) rows) × EachThere rows (numbers_in (list_of q.lists place))
pair_numbers members products p q spare place rows all are low =
    let own = list_numbers (trade_place members) q rows place all.of_pairs (omega (arith, low, all.pair_count)) in
    let on = rows_open (trade_place members) place rows members products are in
    rw own (on.0, on.1)

-- the live ones of a pair
live_once : (a c : Bool) (state : TradeState) → (cond (a && counts state) (is_live state) false) ≡ (a && is_live state)
live_once true c Alleged = refl
live_once true c Live = refl
live_once true c Ended = refl
live_once false c state = refl

twice : (f g : TradeRow → Bool) (row : TradeRow) (xs : List TradeRow) (a b : Bool) → f row ≡ a → g row ≡ b → filter g (cond a (row ∷ xs) xs) ≡ cond (cond a b false) (row ∷ filter g xs) (filter g xs)
twice f g row xs true b e e' = rw e' refl
twice f g row xs false b e e' = refl

pub live_pair : (members products n product seller buyer : ℕ) (rows : List TradeRow) → AreTrades members products n rows → seller < members → buyer < members
    → live_among (filter (is_open_at (trade_place members) (pair_place members product seller buyer)) rows) ≡ live_between product seller buyer rows
live_pair members products n product seller buyer [] are ls lb = refl
live_pair members products n product seller buyer (row ∷ rows) (here, later) ls lb =
    let test = same_test members product seller buyer row here.seller here.buyer ls lb in
    let open_is : is_open_at (trade_place members) (pair_place members product seller buyer) row ≡ (is_between product seller buyer row && counts row.state) = ap (λ (b : Bool). b && counts row.state) test in
    let on = live_pair members products (n + 1) product seller buyer rows later ls lb in
    let xs = filter (is_open_at (trade_place members) (pair_place members product seller buyer)) rows in
    twice (λ r. is_open_at (trade_place members) (pair_place members product seller buyer) r) (λ r. is_live r.state) row xs (is_open_at (trade_place members) (pair_place members product seller buyer) row) (is_live row.state) refl refl
    ∙ ap (λ (b : Bool). cond (cond b (is_live row.state) false) (row ∷ live_among xs) (live_among xs)) open_is
    ∙ ap (λ (b : Bool). cond b (row ∷ live_among xs) (live_among xs)) (live_once (is_between product seller buyer row) true row.state)
    ∙ ap (λ (ys : List TradeRow). cond (is_between product seller buyer row && is_live row.state) (row ∷ ys) ys) on

-- out of range there are none
pub no_live : (members products n product seller buyer : ℕ) (rows : List TradeRow) → AreTrades members products n rows → (product < products → seller < members → buyer < members → ⊥) → live_between product seller buyer rows ≡ []
no_live members products n product seller buyer [] are out = refl
no_live members products n product seller buyer (row ∷ rows) (here, later) out =
    ap (λ (b : Bool). cond (b && is_live row.state) (row ∷ live_between product seller buyer rows) (live_between product seller buyer rows)) (none (is_between product seller buyer row) refl)
    ∙ no_live members products (n + 1) product seller buyer rows later out
  where
    none : (b : Bool) → is_between product seller buyer row ≡ b → is_between product seller buyer row ≡ false
    none false e = e
    none true e =
        let outer = and_parts ((row.product == product) && (row.seller == seller)) (row.buyer == buyer) e in
        let inner = and_parts (row.product == product) (row.seller == seller) outer.0 in
        let p : row.product ≡ product = (Decides-eqb row.product product).0 inner.0 in
        let s : row.seller ≡ seller = (Decides-eqb row.seller seller).0 inner.1 in
        let b : row.buyer ≡ buyer = (Decides-eqb row.buyer buyer).0 outer.1 in
        absurd (out (omega (arith, here.product, p)) (omega (arith, here.seller, s)) (omega (arith, here.buyer, b)))

-- a change that keeps a trade's number, product and parties
pub trades_still : (members products : ℕ) (rows : List TradeRow) (number : ℕ) (old new : TradeRow) → AreTrades members products 1 rows → trade_numbered rows number ≡ Some old → ((n : ℕ) → IsTrade members products n old → IsTrade members products n new)
    → AreTrades members products 1 (with_row rows number (Some new))
trades_still members products rows number old new are found keeps =
    let at = placed rows number old found in
    trades_set members products 1 rows (number - 1) new are (keeps (1 + (number - 1)) (trades_at members products 1 rows (number - 1) old are at.2))
