-- Rows that a worker reads by itself, and how they go to the trades of the whole file.
use Rattle.std.proofs.Common.{◌≡◌, sym, ap, subst, refl, arith, ℕ, ◌+◌, ◌≤◌, ◌<◌, List, [], ◌∷◌, ◌++◌, Bool, true, false, cond, Ok, Err, length, length-append, append_assoc, ltb}
use Rattle.std.proofs.lemmas.Bool.{eq-eqb, le-ltb, lt-leb}
use Rattle.std.proofs.lemmas.List.{append-nil}
use Rattle.std.proofs.lemmas.List.Sums.{sum_by-append, sum_by_push}
use Rattle.command_types.specs.Roster.{Rows}
use Rattle.command_types.specs.declared.file_fault.FileFault.TheVariants.{GrossLimit}
use Rattle.units_core.specs.declared.limits.TheConstants.{MOST_FILE_TRADES, MOST_GROSS, MOST_PRODUCTS}
use Rattle.trade_file.specs.declared.file_trade.FileTrade.{FileTrade}
use Rattle.trade_file.specs.declared.trade_draft.TradeDraft.{TradeDraft}
use Rattle.trade_file.specs.TradeDraft.{IsTradeDraft, trades_of_draft}
use Rattle.trade_file.specs.TradeFile.{product_part, product_total, with_trade}
use Rattle.trade_file.specs.PlainRow.{first_record, ReadsRow}
use Rattle.trade_file.specs.Pieces.{ReadsRows, TakesRows}
use Rattle.trade_file.proofs.PlainReadFacts.{IsUpTo, up_to_skipped, up_to_more}
use Rattle.trade_file.proofs.PlainTradeFacts.{takes_trade}

-- no row yet
pub reads_none : (rows : Rows) (text : List ℕ) → ReadsRows rows text [] text
unfolding ReadsRows
reads_none rows text = refl

-- one row more, and line ends behind it
pub reads_more : (rows : Rows) (text : List ℕ) (trades : List FileTrade) (from : List ℕ) (trade : FileTrade) (behind rest : List ℕ)
    → ReadsRows rows text trades from → ReadsRow rows from trade behind → first_record rest ≡ first_record behind → ReadsRows rows text (trades ++ trade ∷ []) rest
unfolding ReadsRows
reads_more rows text [] from trade behind rest h reads same = (from, behind, h, reads, sym same)
reads_more rows text (first ∷ trades) from trade behind rest h reads same =
    (h.0, h.1, h.2, h.3, reads_more rows h.1 trades from trade behind rest h.4 reads same)

-- a trade that was put last
pub put_last : (n : ℕ) (trades all : List FileTrade) (trade : FileTrade) → with_trade n trades (Ok trade) ≡ Ok all → all ≡ trades ++ trade ∷ []
put_last n trades all trade h = by (ltb MOST_GROSS (product_total trades trade.product + trade.amount)) h
  where
    by : (over : Bool) → cond over (Err (GrossLimit n)) (Ok (trades ++ trade ∷ [])) ≡ Ok all → all ≡ trades ++ trade ∷ []
    by true e = absurd cc
    by false e =
        let made : List FileTrade = trades ++ trade ∷ [] in
        let same : made ≡ all = cc in
        sym same

-- a trade fits where it and those behind it do
put_fits : (n : ℕ) (trades more : List FileTrade) (trade : FileTrade) → product_total (trades ++ trade ∷ [] ++ more) trade.product ≤ MOST_GROSS
    → with_trade n trades (Ok trade) ≡ Ok (trades ++ trade ∷ [])
put_fits n trades more trade within =
    let part : product_part trade.product trade ≡ trade.amount = rw (eq-eqb trade.product trade.product refl) refl in
    let fits : product_total trades trade.product + trade.amount ≤ MOST_GROSS =
    omega (arith, within, part, sum_by-append (product_part trade.product) (trades ++ trade ∷ []) more, sum_by_push (product_part trade.product) trades trade) in
    rw (le-ltb MOST_GROSS (product_total trades trade.product + trade.amount) fits) refl

-- the rows of a piece go to the trades of the file
pub up_to_rows : (rows : Rows) (text : List ℕ) (n : ℕ) (trades more : List FileTrade) (here rest : List ℕ) → IsUpTo rows text n trades here → ReadsRows rows here more rest
    → ((product : ℕ) → product < MOST_PRODUCTS → product_total (trades ++ more) product ≤ MOST_GROSS) → length (trades ++ more) ≤ MOST_FILE_TRADES
    → IsUpTo rows text (n + length more) (trades ++ more) rest
unfolding ReadsRows
up_to_rows rows text n trades [] here rest so_far ahead within few =
    let at : n + 0 ≡ n = omega arith in
    subst (λ k. IsUpTo rows text k (trades ++ []) rest) (sym at) (subst (λ ts. IsUpTo rows text n ts rest) (sym (append-nil trades)) (up_to_skipped rows text n trades here rest so_far (sym ahead)))
up_to_rows rows text n trades (trade ∷ more) here rest so_far ahead within few =
    let from : List ℕ = ahead.0 in
    let behind : List ℕ = ahead.1 in
    let next : List FileTrade = trades ++ trade ∷ [] in
    let at : n + length (trade ∷ more) ≡ n + 1 + length more = omega arith in
    let all : next ++ more ≡ trades ++ trade ∷ more = append_assoc trades (trade ∷ []) more in
    let within_next : (product : ℕ) → product < MOST_PRODUCTS → product_total (next ++ more) product ≤ MOST_GROSS = λ product lt. subst (λ ts. product_total ts product ≤ MOST_GROSS) (sym all) (within product lt) in
    let few_next : length (next ++ more) ≤ MOST_FILE_TRADES = subst (λ ts. length ts ≤ MOST_FILE_TRADES) (sym all) few in
    let room = lt-leb MOST_FILE_TRADES (length trades) (omega (arith, few, length-append trades (trade ∷ more))) in
    let put = put_fits n trades more trade (within_next trade.product ahead.3.product) in
    let takes = takes_trade rows n trades next from behind trade (λ e. absurd (omega (arith, e, so_far.later))) room ahead.3.trade_is put in
    let step = up_to_more rows text n trades next from behind (up_to_skipped rows text n trades here from so_far (sym ahead.2)) takes in
    subst (λ k. IsUpTo rows text k (trades ++ trade ∷ more) rest) (sym at)
    (subst (λ ts. IsUpTo rows text (n + 1 + length more) ts rest) all (up_to_rows rows text (n + 1) next more behind rest step ahead.4 within_next few_next))

-- a piece goes to the trades of the file
pub up_to_piece : (rows : Rows) (text : List ℕ) (trades all : List FileTrade) (here rest : List ℕ) → IsUpTo rows text (2 + length trades) trades here → TakesRows rows here trades all rest
    → ((product : ℕ) → product < MOST_PRODUCTS → product_total all product ≤ MOST_GROSS) → IsUpTo rows text (2 + length all) all rest
up_to_piece rows text trades all here rest so_far takes within =
    let is = takes.all_are in
    let within_all : (product : ℕ) → product < MOST_PRODUCTS → product_total (trades ++ takes.more) product ≤ MOST_GROSS = λ product lt. subst (λ ts. product_total ts product ≤ MOST_GROSS) is (within product lt) in
    let few_all : length (trades ++ takes.more) ≤ MOST_FILE_TRADES = subst (λ ts. length ts ≤ MOST_FILE_TRADES) is takes.few in
    let step = up_to_rows rows text (2 + length trades) trades takes.more here rest so_far takes.read within_all few_all in
    let size : 2 + length trades + length takes.more ≡ 2 + length all = omega (arith, length-append trades takes.more, ap length is) in
    subst (λ k. IsUpTo rows text k all rest) size (subst (λ ts. IsUpTo rows text (2 + length trades + length takes.more) ts rest) (sym is) step)

-- no sum of a draft passes the most
pub draft_within : (draft : TradeDraft) → IsTradeDraft draft → (product : ℕ) → product < MOST_PRODUCTS → product_total (trades_of_draft draft) product ≤ MOST_GROSS
draft_within draft h product lt = omega (arith, (h product lt).0, (h product lt).1)
