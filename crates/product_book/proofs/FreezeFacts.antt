-- Freezes: the steps of the walk over the trades, the flags of a day, and what a book keeps.
use Rattle.std.proofs.Common.{◌≡◌, ℕ, zero, suc, ◌+◌, ◌-◌, ◌≤◌, ◌<◌, ◌&&◌, Bool, cond, List, [], ◌∷◌, ◌++◌, length, map, get_or, slice_get, take, drop, set, IsTrue, arith, refl, ap, sym, ◌∙◌}
use Rattle.std.specs.Prelude.{All, sum_by}
use Rattle.std.proofs.lemmas.List.{get_or-append_right, get_or-drop, length-map, length-take, map_more}
use Rattle.std.proofs.lemmas.List.Edits.{map_over_more}
use Rattle.std.proofs.lemmas.List.Elements.{All-nil, All-cons, All-map}
use Rattle.std.proofs.lemmas.List.Sums.{sum_by_push, length-filter, count_by-le-length}
use Rattle.units_core.specs.Day.{DayParts}
use Rattle.command_types.specs.declared.roster.ProductRow.{ProductRow}
use Rattle.command_types.specs.declared.trade.TradeRow.{TradeRow}
use Rattle.command_types.specs.declared.trade.TradeState.{TradeState}
use Rattle.command_types.specs.declared.trade.TradeState.TheVariants.{Alleged, Live, Ended}
use Rattle.command_types.specs.Trades.{counts, is_live}
use Rattle.command_types.specs.Cycles.{product_matures_after, row_at_freeze, frozen_rows}
use Rattle.product_book.specs.Book.{AreTrades}
use Rattle.product_book.specs.Freezes.{is_chosen, row_by_choice, rows_by_choice, frozen_among, FrozenCount, chosen_by}

-- the row that the walk has come to is still the old one
read_ahead : (f : TradeRow → TradeRow) (xs ys : List TradeRow) (i : ℕ) (x : TradeRow) → i < length xs → ys ≡ map f (take i xs) ++ drop i xs → x ≡ get_or ys i x → x ≡ get_or xs i x
read_ahead f xs ys i x l e is =
    let front : length (map f (take i xs)) ≡ i = omega (arith, length-map (take i xs) f, length-take i xs) in
    let here : i + (i - i) ≡ i = omega arith in
    is ∙ ap (λ zs. get_or zs i x) e ∙ get_or-append_right (map f (take i xs)) (drop i xs) i i x front (omega arith) ∙ get_or-drop i xs (i - i) x ∙ ap (λ n. get_or xs n x) here

-- one row of the walk is written
pub freeze_step : (chosen : List Bool) (xs ys : List TradeRow) (i : ℕ) (x : TradeRow) (taken : Bool) → i < length xs → ys ≡ rows_by_choice chosen (take i xs) ++ drop i xs → x ≡ get_or ys i x →
    taken ≡ (is_live (get_or ys i x).state && is_chosen chosen (get_or ys i x).product) → set ys i (record (get_or ys i x) { frozen = taken }) ≡ rows_by_choice chosen (take (i + 1) xs) ++ drop (i + 1) xs
freeze_step chosen xs ys i x taken l e is t =
    ap (λ b. set ys i (record (get_or ys i x) { frozen = b })) t ∙ ap (λ r. set ys i (row_by_choice chosen r)) (sym is) ∙ map_over_more (row_by_choice chosen) xs ys i x l e is

abbrev frozen_count : List Bool → List TradeRow → ℕ
frozen_count chosen rows = length (frozen_among (rows_by_choice chosen rows))

count_more : (chosen : List Bool) (xs : List TradeRow) (i : ℕ) (x : TradeRow) → i < length xs → frozen_count chosen (take (i + 1) xs) ≡ frozen_count chosen (take i xs) + cond (row_by_choice chosen (get_or xs i x)).frozen 1 0
count_more chosen xs i x l =
    let one = λ (r : TradeRow). cond r.frozen 1 0 in
    let before = length-filter (λ (r : TradeRow). r.frozen) (rows_by_choice chosen (take i xs)) in
    let after = length-filter (λ (r : TradeRow). r.frozen) (rows_by_choice chosen (take (i + 1) xs)) in
    let more = ap (sum_by one) (map_more (row_by_choice chosen) xs i x l) in
    omega (arith, before, after, more, sum_by_push one (rows_by_choice chosen (take i xs)) (row_by_choice chosen (get_or xs i x)))

-- and counted, if it is frozen
pub count_step : (chosen : List Bool) (xs ys : List TradeRow) (i : ℕ) (x : TradeRow) (taken : Bool) → i < length xs → ys ≡ rows_by_choice chosen (take i xs) ++ drop i xs → x ≡ get_or ys i x →
    taken ≡ (is_live (get_or ys i x).state && is_chosen chosen (get_or ys i x).product) →
    length (frozen_among (rows_by_choice chosen (take (i + 1) xs))) ≡ length (frozen_among (rows_by_choice chosen (take i xs))) + cond taken 1 0
count_step chosen xs ys i x taken l e is t =
    let same : get_or ys i x ≡ get_or xs i x = sym is ∙ read_ahead (row_by_choice chosen) xs ys i x l e is in
    count_more chosen xs i x l ∙ ap (λ b. frozen_count chosen (take i xs) + cond b 1 0) (sym (t ∙ ap (λ (r : TradeRow). is_live r.state && is_chosen chosen r.product) same))

-- no more are frozen than the walk has passed
pub count_small : (chosen : List Bool) (xs : List TradeRow) (i : ℕ) → length (frozen_among (rows_by_choice chosen (take i xs))) ≤ i
count_small chosen xs i =
    omega (
      arith,
      length-filter (λ (r : TradeRow). r.frozen) (rows_by_choice chosen (take i xs)),
      count_by-le-length (λ (r : TradeRow). r.frozen) (rows_by_choice chosen (take i xs)),
      length-map (take i xs) (row_by_choice chosen),
      length-take i xs,
    )

-- the flag of a product that matures after the day
flag_of : (products : List ProductRow) (day : DayParts) (product : ℕ) → is_chosen (chosen_by products day) product ≡ product_matures_after (slice_get products product) day
flag_of [] day product = refl
flag_of (row ∷ products) day zero = refl
flag_of (row ∷ products) day (suc product) = flag_of products day product

pub freezes_by_maturity : (products : List ProductRow) (day : DayParts) (rows : List TradeRow) → rows_by_choice (chosen_by products day) rows ≡ frozen_rows products day rows
freezes_by_maturity products day [] = refl
freezes_by_maturity products day (row ∷ rows) =
    ap (λ b. record row { frozen = is_live row.state && b } ∷ rows_by_choice (chosen_by products day) rows) (flag_of products day row.product)
    ∙ ap (λ rest. row_at_freeze products day row ∷ rest) (freezes_by_maturity products day rows)

live_counts : (state : TradeState) (chosen : Bool) → IsTrue (is_live state && chosen) → IsTrue (counts state)
live_counts Alleged chosen h = cc
live_counts Live chosen h = refl
live_counts Ended chosen h = cc

-- a freeze takes no trade that has ended
pub none_ended : (chosen : List Bool) (rows : List TradeRow) → FrozenCount (rows_by_choice chosen rows)
none_ended chosen rows =
    All-map (λ (row : TradeRow). IsTrue row.frozen → IsTrue (counts row.state)) (row_by_choice chosen) rows (λ k d l. live_counts (get_or rows k d).state (is_chosen chosen (get_or rows k d).product))

-- the products of a book's trades are in range
pub products_of : (members products n : ℕ) (rows : List TradeRow) → AreTrades members products n rows → All (λ row. row.product < products) rows
products_of members products n [] are = All-nil (λ (row : TradeRow). row.product < products)
products_of members products n (row ∷ rows) (here, later) =
    All-cons (λ (r : TradeRow). r.product < products) row rows here.product (products_of members products (n + 1) rows later)
