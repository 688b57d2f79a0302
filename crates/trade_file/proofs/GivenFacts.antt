-- What a trade file says are trades between different members, of products, within the most gross.
use Rattle.std.proofs.Common.{◌≡◌, ◌∙◌, sym, ap, subst, refl, ℕ, ◌+◌, ◌<◌, ◌≤◌, ◌^◌, List, [], ◌∷◌, ◌++◌, length, Bool, true, false, cond, Option, Some, None, Result, Ok, Err, arith, eqb, ltb, leb, ⊎_elim}
use Rattle.std.proofs.lemmas.Bool.{cases_Bool, ltb-true, ltb-false, eqb-true, eqb-false}
use Rattle.std.proofs.lemmas.List.Sums.{sum_by_push}
use Rattle.std.proofs.lemmas.List.Elements.{All-push}
use Rattle.std.specs.List.{position, position_or_len}
use Rattle.std.specs.Str.{bytes_eq}
use Rattle.units_core.specs.Name.{is_name}
use Rattle.units_core.specs.Number.{number_of, of_amount, amount_of}
use Rattle.units_core.specs.declared.number.NumberFault.{NumberFault}
use Rattle.command_types.specs.Roster.{Rows}
use Rattle.command_types.specs.declared.file_fault.FileFault.{FileFault}
use Rattle.command_types.specs.declared.file_fault.FileFault.TheVariants.{Columns, RowLimit}
use Rattle.trade_file.specs.declared.file_trade.FileTrade.{FileTrade}
use Rattle.trade_file.specs.TradeFile.{is_trade_header, member_of, product_of, with_amount, between, trade_of, product_part, product_total, with_trade, with_trade_record, then_trades, with_trade_records, trades_of, IsFileTrade, AreFileTrades}

position_below : {X : Type 0} (p : X → Bool) (xs : List X) (i : ℕ) → position p xs ≡ Some i → i < length xs
position_below p xs i h = by (ltb (position_or_len p xs) (length xs)) refl h
  where
    by : (b : Bool) → ltb (position_or_len p xs) (length xs) ≡ b → cond b (Some (position_or_len p xs)) None ≡ Some i → i < length xs
    by true e f = let same : position_or_len p xs ≡ i = cc in let l = ltb-true _ _ e in omega arith
    by false e f = absurd cc

member_below : (rows : Rows) (field : List ℕ) (i : ℕ) → member_of rows field ≡ Some i → i < length rows.members
member_below rows field i h = by (is_name field) h
  where
    by : (b : Bool) → cond b (position (λ row. bytes_eq row.name field) rows.members) None ≡ Some i → i < length rows.members
    by true f = position_below _ rows.members i f
    by false f = absurd cc

product_below : (rows : Rows) (field : List ℕ) (i : ℕ) → product_of rows field ≡ Some i → i < length rows.products
product_below rows field i h = by (is_name field) h
  where
    by : (b : Bool) → cond b (position (λ row. bytes_eq row.name field) rows.products) None ≡ Some i → i < length rows.products
    by true f = position_below _ rows.products i f
    by false f = absurd cc

least : (r : Result ℕ NumberFault) (a : ℕ) → of_amount r ≡ Ok a → 1 ≤ a
least (Err fault) a h = absurd cc
least (Ok n) a h = ⊎_elim (λ (t : eqb n 0 ≡ true). absurd (let f = rw t at h in cc))
    (λ (d : eqb n 0 ≡ false). let f = rw d at h in let same : n ≡ a = cc in let some = eqb-false n 0 d in omega arith)
    (cases_Bool (eqb n 0))

-- the trade has these places, and an amount
record Has (s b p : ℕ) (t : FileTrade) : Type 0 where
  seller : t.seller ≡ s
  buyer : t.buyer ≡ b
  product : t.product ≡ p
  positive : 1 ≤ t.amount

with_amount-has : (n s b p : ℕ) (r : Result ℕ NumberFault) (t : FileTrade) → ((a : ℕ) → r ≡ Ok a → 1 ≤ a) → with_amount n s b p r ≡ Ok t → Has s b p t
with_amount-has n s b p (Err fault) t some h = absurd cc
with_amount-has n s b p (Ok a) t some h = ⊎_elim (λ (over : ltb 1000000000000000 a ≡ true). absurd (let f = rw over at h in cc))
    (λ (within : ltb 1000000000000000 a ≡ false).
    let f = rw within at h in
    let made : FileTrade = record { seller = s; buyer = b; product = p; amount = a } in
    let same : made ≡ t = cc in
    subst (Has s b p) same (record { seller = refl; buyer = refl; product = refl; positive = some a refl }))
    (cases_Bool (ltb 1000000000000000 a))

between-good : (rows : Rows) (n : ℕ) (s b p : Option ℕ) (last : List ℕ) (t : FileTrade)
    → ((i : ℕ) → s ≡ Some i → i < length rows.members) → ((i : ℕ) → b ≡ Some i → i < length rows.members) → ((i : ℕ) → p ≡ Some i → i < length rows.products)
    → between n s b p last ≡ Ok t → IsFileTrade rows t
between-good rows n None b p last t in_s in_b in_p h = absurd cc
between-good rows n (Some s) None p last t in_s in_b in_p h = absurd cc
between-good rows n (Some s) (Some b) None last t in_s in_b in_p h = absurd cc
between-good rows n (Some s) (Some b) (Some p) last t in_s in_b in_p h = ⊎_elim (λ (same : eqb s b ≡ true). absurd (let f = rw same at h in cc))
    (λ (apart : eqb s b ≡ false).
    let f = rw apart at h in
    let has = with_amount-has n s b p (amount_of last) t (λ a e. least (number_of last 1000000000000000000) a e) f in
    let es = has.seller in
    let eb = has.buyer in
    let ep = has.product in
    record {
      seller = rw es (in_s s refl);
      buyer = rw eb (in_b b refl);
      different = λ e. eqb-false s b apart (sym es ∙ e ∙ eb);
      product = rw ep (in_p p refl);
      positive = has.positive;
    })
    (cases_Bool (eqb s b))

trade_of-good : (rows : Rows) (n : ℕ) (fields : List (List ℕ)) (t : FileTrade) → trade_of rows n fields ≡ Ok t → IsFileTrade rows t
trade_of-good rows n [] t h = absurd cc
trade_of-good rows n (a ∷ []) t h = absurd cc
trade_of-good rows n (a ∷ b ∷ []) t h = absurd cc
trade_of-good rows n (a ∷ b ∷ c ∷ []) t h = absurd cc
trade_of-good rows n (a ∷ b ∷ c ∷ d ∷ []) t h =
    between-good rows n (member_of rows a) (member_of rows b) (product_of rows c) d t (member_below rows a) (member_below rows b) (product_below rows c) h
trade_of-good rows n (a ∷ b ∷ c ∷ d ∷ e ∷ fs) t h = absurd cc

-- one trade more, within the most
within_more : (trades : List FileTrade) (t : FileTrade) → product_total trades t.product + t.amount ≤ 10 ^ 18
    → ((product : ℕ) → product_total trades product ≤ 10 ^ 18) → (product : ℕ) → product_total (trades ++ (t ∷ [])) product ≤ 10 ^ 18
within_more trades t here old product = ⊎_elim (λ (same : eqb t.product product ≡ true).
    let e = eqb-true t.product product same in
    let part : product_part product t ≡ t.amount = rw same refl in
    let total = ap (product_total trades) e in
    omega (arith, sum_by_push (product_part product) trades t, part, total, here))
    (λ (other : eqb t.product product ≡ false).
    let part : product_part product t ≡ 0 = rw other refl in
    omega (arith, sum_by_push (product_part product) trades t, part, old product))
    (cases_Bool (eqb t.product product))

with_trade-good : (rows : Rows) (n : ℕ) (trades : List FileTrade) (r : Result FileTrade FileFault) (next : List FileTrade)
    → AreFileTrades rows trades → ((t : FileTrade) → r ≡ Ok t → IsFileTrade rows t) → with_trade n trades r ≡ Ok next → AreFileTrades rows next
with_trade-good rows n trades (Err fault) next old good h = absurd cc
with_trade-good rows n trades (Ok t) next old good h = ⊎_elim (λ (over : ltb 1000000000000000000 (product_total trades t.product + t.amount) ≡ true). absurd (let f = rw over at h in cc))
    (λ (within : ltb 1000000000000000000 (product_total trades t.product + t.amount) ≡ false).
    let f = rw within at h in
    let made : List FileTrade = trades ++ (t ∷ []) in
    let same : made ≡ next = cc in
    let le = ltb-false _ _ within in
    subst (AreFileTrades rows) same (record {
      each = All-push (IsFileTrade rows) trades t old.each (good t refl);
      within = within_more trades t (omega arith) old.within;
    }))
    (cases_Bool (ltb 1000000000000000000 (product_total trades t.product + t.amount)))

step-good : (rows : Rows) (n : ℕ) (trades : List FileTrade) (fields : List (List ℕ)) (next : List FileTrade)
    → AreFileTrades rows trades → with_trade_record rows n trades fields ≡ Ok next → AreFileTrades rows next
step-good rows n trades fields next old h = by (eqb n 1) (is_trade_header fields) (leb 100000 (length trades)) h
  where
    by : (first header full : Bool) → cond first (cond header (Ok trades) (Err (Columns 1))) (cond full (Err (RowLimit n)) (with_trade n trades (trade_of rows n fields))) ≡ Ok next → AreFileTrades rows next
    by true true full e = let made : List FileTrade = trades in let same : made ≡ next = cc in subst (AreFileTrades rows) same old
    by true false full e = absurd cc
    by false header true e = absurd cc
    by false header false e = with_trade-good rows n trades (trade_of rows n fields) next old (λ t g. trade_of-good rows n fields t g) e

after_step : (rows : Rows) (n : ℕ) (more : List (List (List ℕ))) (end : List FileTrade) (r : Result (List FileTrade) FileFault)
    → ((next : List FileTrade) → AreFileTrades rows next → with_trade_records rows (n + 1) next more ≡ Ok end → AreFileTrades rows end)
    → ((next : List FileTrade) → r ≡ Ok next → AreFileTrades rows next)
    → then_trades (λ next. with_trade_records rows (n + 1) next more) r ≡ Ok end → AreFileTrades rows end
after_step rows n more end (Err fault) rest good h = absurd cc
after_step rows n more end (Ok next) rest good h = rest next (good next refl) h

records-good : (rows : Rows) (n : ℕ) (trades : List FileTrade) (records : List (List (List ℕ))) (end : List FileTrade)
    → AreFileTrades rows trades → with_trade_records rows n trades records ≡ Ok end → AreFileTrades rows end
unfolding with_trade_records
records-good rows n trades [] end old h = let made : List FileTrade = trades in let same : made ≡ end = cc in subst (AreFileTrades rows) same old
records-good rows n trades (fields ∷ more) end old h =
    after_step rows n more end (with_trade_record rows n trades fields) (λ next good e. records-good rows (n + 1) next more end good e)
    (λ next e. step-good rows n trades fields next old e) h

none : (rows : Rows) → AreFileTrades rows []
none rows = record { each = λ k d l. absurd (omega arith); within = λ product. omega arith }

-- what a trade file says
pub given : (rows : Rows) (records : List (List (List ℕ))) (end : List FileTrade) → trades_of rows records ≡ Ok end → AreFileTrades rows end
given rows [] end h = absurd cc
given rows (fields ∷ more) end h = records-good rows 1 [] (fields ∷ more) end (none rows) h
