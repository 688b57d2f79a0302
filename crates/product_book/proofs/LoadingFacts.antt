-- What a book keeps while trades are put into it one after another.
use Rattle.std.proofs.Common.{◌≡◌, ℕ, zero, suc, ◌+◌, ◌-◌, ◌≤◌, ◌<◌, true, false, List, [], ◌∷◌, ◌++◌, length, take, get_or, slice_get, slice_set, nat_lt, Some, None, if◌then◌else◌, arith, refl, sym, ap, ◌∙◌, subst}
use Rattle.std.proofs.lemmas.Bool.{lt-ltb}
use Rattle.std.proofs.lemmas.List.{take_more}
use Rattle.std.proofs.lemmas.List.Sums.{sum_by-cons}
use Rattle.std.proofs.lemmas.Option.{slice_get_read}
use Rattle.command_types.specs.declared.trade.TradeRow.{TradeRow}
use Rattle.command_types.specs.Trades.{counts, gross_of, live_row, trade_numbered, with_row}
use Rattle.product_book.specs.declared.kept.KeptSums.{KeptSums}
use Rattle.product_book.specs.Book.{gross_limit, AreTrades, IsTrade}
use Rattle.product_book.specs.Execution.{IsRunning}
use Rattle.product_book.specs.Kept.{trade_place, AreKept, CanEnter, IsEntered}
use Rattle.product_book.specs.Links.{AreLinked, IsPushed, IsTakenOut}
use Rattle.product_book.specs.OpenLists.{OpenView}
use Rattle.units_core.specs.declared.limits.TheConstants.{MOST_MEMBERS, MOST_PRODUCTS}
use Rattle.product_book.proofs.BookFacts.{gross_part, trades_at, trades_push}
use Rattle.product_book.proofs.SumFacts.{can_enter, kept_entered}
use Rattle.product_book.proofs.LinkedFacts.{linked_entered, linked_left}

-- ---- the last trade

last_there : (rows : List TradeRow) (row : TradeRow) → slice_get (rows ++ row ∷ []) (length rows) ≡ Some row
last_there [] row = refl
last_there (first ∷ rows) row = last_there rows row

pub trade_last : (rows : List TradeRow) (row : TradeRow) (number : ℕ) → number ≡ suc (length rows) → trade_numbered (rows ++ row ∷ []) number ≡ Some row
trade_last rows row number is =
    let at : number - 1 ≡ length rows = omega (arith, is) in
    let some : nat_lt 0 number ≡ true = lt-ltb 0 number (omega (arith, is)) in
    (λ i. if some i then slice_get (rows ++ row ∷ []) (at i) else None) ∙ last_there rows row

last_set : (rows : List TradeRow) (old new : TradeRow) → slice_set (rows ++ old ∷ []) (length rows) new ≡ rows ++ new ∷ []
last_set [] old new = refl
last_set (first ∷ rows) old new = ap (λ l. first ∷ l) (last_set rows old new)

pub with_last : (rows : List TradeRow) (old new : TradeRow) (number : ℕ) → number ≡ suc (length rows) → with_row (rows ++ old ∷ []) number (Some new) ≡ rows ++ new ∷ []
with_last rows old new number is =
    let at : number - 1 ≡ length rows = omega (arith, is) in
    ap (λ n. slice_set (rows ++ old ∷ []) n new) at ∙ last_set rows old new

-- ---- amounts

-- the first trades come to no more than all
pub gross_take : (product i : ℕ) (rows : List TradeRow) → gross_of product (take i rows) ≤ gross_of product rows
gross_take product zero rows = omega arith
gross_take product (suc i) [] = omega arith
gross_take product (suc i) (row ∷ rows) =
    omega (arith, sum_by-cons (gross_part product) row rows, sum_by-cons (gross_part product) row (take i rows), gross_take product i rows)

pub length_take : (i : ℕ) (rows : List TradeRow) → i ≤ length rows → length (take i rows) ≡ i
length_take zero rows le = refl
length_take (suc i) [] le = absurd (omega (arith, le))
length_take (suc i) (row ∷ rows) le = ap suc (length_take i rows (omega (arith, le)))

pub take_push : (rows : List TradeRow) (i : ℕ) (row : TradeRow) → i < length rows → row ≡ get_or rows i row → take (i + 1) rows ≡ take i rows ++ row ∷ []
take_push rows i row lt is = take_more rows i row lt ∙ ap (λ r. take i rows ++ r ∷ []) (sym is)

-- the next of some trades
pub next_trade : (members products : ℕ) (rows : List TradeRow) (i : ℕ) (row : TradeRow) → AreTrades members products 1 rows → i < length rows → row ≡ get_or rows i row → IsTrade members products (length (take i rows) + 1) row
next_trade members products rows i row are lt is =
    let at = trades_at members products 1 rows i row are (slice_get_read rows (length rows) i row refl lt is) in
    let number = at.number in
    record { number = omega (arith, number, length_take i rows (omega (arith, lt))); product = at.product; seller = at.seller; buyer = at.buyer; different = at.different }

-- and what it comes to with those before it
pub within_next : (rows : List TradeRow) (i : ℕ) (row : TradeRow) → i < length rows → row ≡ get_or rows i row → ((product : ℕ) → gross_of product rows ≤ gross_limit) → (product : ℕ) → gross_of product (take i rows ++ row ∷ []) ≤ gross_limit
within_next rows i row lt is bounded product =
    subst (λ (l : List TradeRow). gross_of product l ≤ gross_limit) (take_push rows i row lt is) (omega (arith, gross_take product (i + 1) rows, bounded product))

-- ---- submitters

-- ---- numbers

-- a trade more, with the next number
pub trades_behind : (members products : ℕ) (rows : List TradeRow) (row : TradeRow) → AreTrades members products 1 rows → IsTrade members products (length rows + 1) row → AreTrades members products 1 (rows ++ row ∷ [])
trades_behind members products rows row are is =
    trades_push members products 1 rows row are
    (record { number = let n = is.number in omega (arith, n); product = is.product; seller = is.seller; buyer = is.buyer; different = is.different })

-- ---- sums and lists without trades

pub running_none : (members products m n : ℕ) (sums : KeptSums) (p q : OpenView) (spare : ℕ) → members ≡ m → products ≡ n → m ≤ MOST_MEMBERS → n ≤ MOST_PRODUCTS → AreKept m n sums [] → AreLinked m n p q spare []
    → IsRunning members products sums p q spare []
running_none members products m n sums p q spare same same' few few' kept linked =
    subst (λ (k : ℕ). IsRunning k products sums p q spare []) (sym same)
    (subst (λ (k : ℕ). IsRunning m k sums p q spare []) (sym same') (record { few = few; few_products = few'; trades = tt; kept = kept; linked = linked }))

-- ---- one trade more in the sums and the lists

module _ (members products : ℕ) (sums : KeptSums) (p q : OpenView) (spare : ℕ) (rows : List TradeRow) (row : TradeRow) (running : IsRunning members products sums p q spare rows) (is : IsTrade members products (length rows + 1) row) where
  pub enters : ((product : ℕ) → gross_of product (rows ++ row ∷ []) ≤ gross_limit) → CanEnter members sums row
  enters within =
      can_enter members products (length rows + 1) sums rows row running.few running.few_products running.kept is (trades_behind members products rows row running.trades is)
      (λ product. omega (arith, within product))

  module _ (after : KeptSums) (v w : OpenView) (rest : ℕ) (entered : IsEntered members sums after row) (first : IsPushed p v row.product) (second : IsPushed q w (trade_place members row)) (some : 1 ≤ spare) (one : rest ≡ spare - 1) where
    -- as it is
    pub running_open : counts row.state ≡ true → IsRunning members products after v w rest (rows ++ row ∷ [])
    running_open open_now = record {
      few = running.few;
      few_products = running.few_products;
      trades = trades_behind members products rows row running.trades is;
      kept = kept_entered members products (length rows + 1) sums rows row running.few running.few_products running.kept is after entered;
      linked = linked_entered members products p q spare rows running.linked v w rest row first second is open_now some one;
    }

    -- as a live one that leaves the lists
    pub running_ended : (x y : OpenView) (left : ℕ) → IsTakenOut v x row.number → IsTakenOut w y row.number → left ≡ rest → counts row.state ≡ false → IsRunning members products after x y left (rows ++ row ∷ [])
    running_ended x y left third fourth same gone =
        let before : TradeRow = live_row row in
        let was : IsTrade members products (length rows + 1) before = record { number = is.number; product = is.product; seller = is.seller; buyer = is.buyer; different = is.different } in
        let number : row.number ≡ suc (length rows) = let n = is.number in omega (arith, n) in
        let mid = linked_entered members products p q spare rows running.linked v w rest before first second was refl some one in
        let are = trades_behind members products rows before running.trades was in
        let out = linked_left members products v w rest (rows ++ before ∷ []) mid x y left row.number before row third fourth are (trade_last rows before row.number number) gone same in
        record {
          few = running.few;
          few_products = running.few_products;
          trades = trades_behind members products rows row running.trades is;
          kept = kept_entered members products (length rows + 1) sums rows row running.few running.few_products running.kept is after entered;
          linked = subst (AreLinked members products x y left) (with_last rows before row row.number number) out;
        }
