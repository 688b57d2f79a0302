-- The table of a product's sums, as far as its trades were added, and the network that it makes.
use Rattle.std.proofs.Common.{◌≡◌, ℕ, ◌+◌, ◌<◌, ◌≤◌, ◌==◌, ◌&&◌, cond, Bool, true, false, List, [], ◌∷◌, filter, get_or, if◌then◌else◌, arith, refl, ap, sym, ◌∙◌}
use Rattle.std.specs.Prelude.{All, sum_by}
use Rattle.std.proofs.lemmas.Bool.{and_parts, false≢true}
use Rattle.std.proofs.lemmas.List.Sums.{sum_by-cons}
use Rattle.std.proofs.lemmas.List.Elements.{All-nil, All-cons, All-head, All-tail}
use Rattle.command_types.specs.declared.trade.TradeRow.{TradeRow}
use Rattle.command_types.specs.declared.trade.TradeState.{TradeState}
use Rattle.command_types.specs.declared.trade.TradeState.TheVariants.{Alleged, Ended, Live as LiveState}
use Rattle.command_types.specs.Trades.{counts, is_live, gross_of, total_where}
use Rattle.command_types.specs.Books.{is_between, is_held, network_by}
use Rattle.pair_table.specs.PairSums.{PairSums, sum_in, gross_in}
use Rattle.pair_table.proofs.PairNetworks.{network_by-same}
use Rattle.product_book.specs.declared.networks.Which.{Which}
use Rattle.product_book.specs.declared.networks.Which.TheVariants as which
use Rattle.product_book.specs.Book.{AreTrades, gross_limit}
use Rattle.product_book.specs.Links.{is_open_at}
use Rattle.product_book.specs.Networks.{is_among, network_of, AllCount, HasParties}
use Rattle.product_book.proofs.BookFacts.{gross_part}

-- the trades of a book have their parties
pub parties_of : (members products n : ℕ) (rows : List TradeRow) → AreTrades members products n rows → All (HasParties members) rows
parties_of members products n [] are = All-nil (HasParties members)
parties_of members products n (row ∷ rows) (here, later) =
    All-cons (HasParties members) row rows (record { seller = here.seller; buyer = here.buyer; different = here.different }) (parties_of members products (n + 1) rows later)

live_counts : (state : TradeState) → is_live state ≡ true → counts state ≡ true
live_counts Alleged e = refl
live_counts LiveState e = refl
live_counts Ended e = absurd (false≢true e)

and_true : (x : Bool) → (x && true) ≡ x
and_true true = refl
and_true false = refl

and_false : (x : Bool) → (x && false) ≡ false
and_false true = refl
and_false false = refl

-- the sum of a product's trades of a kind from a seller to a buyer
abbrev pub sum_of : Which → ℕ → List TradeRow → ℕ → ℕ → ℕ
sum_of w product rows seller buyer = total_where (λ row. is_between product seller buyer row && is_among w row) rows

-- a trade of the kind counts for its product's gross
among_counts : (w : Which) (rows : List TradeRow) → AllCount w rows → All (λ row. is_among w row ≡ true → counts row.state ≡ true) rows
among_counts which.Live rows all = λ k d low e. live_counts (get_or rows k d).state e
among_counts which.Frozen rows all = λ k d low e. all k d low e
among_counts which.FrozenHeld rows all = λ k d low e. all k d low (and_parts (get_or rows k d).frozen (is_held (get_or rows k d)) e).0

-- while these trades are left to add: with them the table has for each pair the sum of the product's trades of this kind, and no more than the product's gross
pub record HoldsRest (w : Which) (count product : ℕ) (left rows : List TradeRow) (table : PairSums) : Type 0 where
  pub members : table.members ≡ count
  pub sums : (i j : ℕ) → i < count → j < count → sum_in table i j + sum_of w product left i j ≡ sum_of w product rows i j
  pub gross : gross_in table + gross_of product left ≤ gross_of product rows

abbrev in_product : ℕ → TradeRow → Bool
in_product product row = is_open_at (λ r. r.product) product row

-- trades that are left out add nothing
kept_first : (p : TradeRow → Bool) (f : TradeRow → ℕ) (row : TradeRow) (rows : List TradeRow) (b : Bool) → p row ≡ b → (p row ≡ false → f row ≡ 0) → sum_by f (filter p rows) ≡ sum_by f rows → sum_by f (cond b (row ∷ filter p rows) (filter p rows)) ≡ sum_by f (row ∷ rows)
kept_first p f row rows true e h on = omega (arith, sum_by-cons f row (filter p rows), sum_by-cons f row rows, on)
kept_first p f row rows false e h on = omega (arith, sum_by-cons f row rows, on, h e)

sum_kept : (p : TradeRow → Bool) (f : TradeRow → ℕ) (rows : List TradeRow) → All (λ row. p row ≡ false → f row ≡ 0) rows → sum_by f (filter p rows) ≡ sum_by f rows
sum_kept p f [] h = refl
sum_kept p f (row ∷ rows) h =
    kept_first p f row rows (p row) refl (All-head (λ row. p row ≡ false → f row ≡ 0) row rows h) (sum_kept p f rows (All-tail (λ row. p row ≡ false → f row ≡ 0) row rows h))

-- what a trade adds to the sum of a pair
abbrev kind_part : Which → ℕ → ℕ → ℕ → TradeRow → ℕ
kind_part w product i j row = if is_between product i j row && is_among w row then row.amount else 0

zero_part : (a s t c m : Bool) (row : TradeRow) → (m ≡ true → c ≡ true) → (a && c) ≡ false → (if (a && s && t) && m then row.amount else 0) ≡ 0
zero_part false s t c m row f e = refl
zero_part true s t c true row f e = absurd (false≢true (sym e ∙ f refl))
zero_part true true true c false row f e = refl
zero_part true true false c false row f e = refl
zero_part true false t c false row f e = refl

-- before the first
pub holds_all : (w : Which) (count product : ℕ) (left rows : List TradeRow) (table : PairSums) → left ≡ filter (in_product product) rows → AllCount w rows → table.members ≡ count → ((i j : ℕ) → sum_in table i j ≡ 0) → gross_in table ≡ 0 → HoldsRest w count product left rows table
holds_all w count product left rows table is all size zeros none =
    rw is
    (record {
      members = size;
      sums = λ i j li lj.
          omega (
            arith,
            zeros i j,
            sum_kept (in_product product) (kind_part w product i j) rows
                (λ k d low e. zero_part ((get_or rows k d).product == product) ((get_or rows k d).seller == i) ((get_or rows k d).buyer == j) (counts (get_or rows k d).state) (is_among w (get_or rows k d)) (get_or rows k d) (among_counts w rows all k d low) e),
          );
      gross =
          let same = sum_kept (in_product product) (gross_part product) rows (λ k d low e. rw e refl) in
          omega (arith, none, same);
    })

-- one of them
module _ (w : Which) (count product : ℕ) (row : TradeRow) (left rows : List TradeRow) (table : PairSums) (own : in_product product row ≡ true) (holds : HoldsRest w count product (row ∷ left) rows table) where
  same : (row.product == product) ≡ true
  same = (and_parts (row.product == product) (counts row.state) own).0

  whole : gross_part product row ≡ row.amount
  whole = rw own refl

  pub fits : gross_of product rows ≤ gross_limit → gross_in table + row.amount ≤ gross_limit
  fits most = omega (arith, holds.gross, whole, sum_by-cons (gross_part product) row left, most)

  pub holds_added : (after : PairSums) (amount : ℕ) → is_among w row ≡ true → amount ≡ row.amount → after.members ≡ table.members
      → ((i j : ℕ) → i < table.members → j < table.members → sum_in after i j ≡ sum_in table i j + (if (row.seller == i) && (row.buyer == j) then amount else 0)) → gross_in after ≡ gross_in table + amount → HoldsRest w count product left rows after
  holds_added after amount among e size sums gross = record {
    members = size ∙ holds.members;
    sums = λ i j li lj.
        let test : (is_between product i j row && is_among w row) ≡ ((row.seller == i) && (row.buyer == j)) = rw (same, among) (and_true ((row.seller == i) && (row.buyer == j))) in
        let part : (if is_between product i j row && is_among w row then row.amount else 0) ≡ (if (row.seller == i) && (row.buyer == j) then amount else 0) =
        ap (λ b. if b then row.amount else 0) test ∙ ap (λ n. if (row.seller == i) && (row.buyer == j) then n else 0) (sym e) in
        omega (arith, sums i j (omega (arith, li, holds.members)) (omega (arith, lj, holds.members)), holds.sums i j li lj, part, sum_by-cons (λ (r : TradeRow). if is_between product i j r && is_among w r then r.amount else 0) row left);
    gross = omega (arith, gross, holds.gross, e, whole, sum_by-cons (gross_part product) row left);
  }

  pub holds_left : is_among w row ≡ false → HoldsRest w count product left rows table
  holds_left other = record {
    members = holds.members;
    sums = λ i j li lj.
        let test : (is_between product i j row && is_among w row) ≡ false = rw other (and_false (is_between product i j row)) in
        let part : (if is_between product i j row && is_among w row then row.amount else 0) ≡ 0 = ap (λ b. if b then row.amount else 0) test in
        omega (arith, holds.sums i j li lj, part, sum_by-cons (λ (r : TradeRow). if is_between product i j r && is_among w r then r.amount else 0) row left);
    gross = omega (arith, holds.gross, sum_by-cons (gross_part product) row left);
  }

-- the network, by its sums
by_sums : (w : Which) (members product : ℕ) (rows : List TradeRow) → network_of w members product rows ≡ network_by members (sum_of w product rows)
by_sums which.Live members product rows = refl
by_sums which.Frozen members product rows = refl
by_sums which.FrozenHeld members product rows = refl

-- the network of the table is that of the trades
pub network_by-table : (w : Which) (members product : ℕ) (rows : List TradeRow) (table : PairSums) → HoldsRest w members product [] rows table → network_by members (sum_in table) ≡ network_of w members product rows
network_by-table w members product rows table h = network_by-same members (sum_in table) (sum_of w product rows) (λ i j li lj. omega (arith, h.sums i j li lj)) ∙ sym (by_sums w members product rows)
