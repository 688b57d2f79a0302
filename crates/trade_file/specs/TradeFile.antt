-- What a trade file says: its trades, or its first fault.
use Rattle.std.specs.Prelude.{◌≢◌, ℕ, ◌+◌, ◌<◌, ◌≤◌, ◌==◌, nat_lt, nat_le, Bool, false, ◌&&◌, List, [], ◌∷◌, ◌++◌, length, sum_by, All, Option, Some, None, Result, Ok, Err, codes, if◌then◌else◌}
use Rattle.std.specs.Str.{bytes_eq}
use Rattle.units_core.specs.Name.{is_name}
use Rattle.units_core.specs.Number.{amount_of}
use Rattle.units_core.specs.declared.number.NumberFault.{NumberFault}
use Rattle.command_types.specs.Roster.{Rows, member_place, product_place}
use Rattle.command_types.specs.declared.file_fault.FileFault.{FileFault}
use Rattle.command_types.specs.declared.file_fault.FileFault.TheVariants.{TooLong, Columns, RowLimit, UnknownName, SameParty, BadAmount, GrossLimit}
use Rattle.trade_file.specs.declared.file_trade.FileTrade.{FileTrade}
use Rattle.trade_file.specs.RosterFile.{records_of}
use Rattle.units_core.specs.declared.limits.TheConstants.{MOST_FILE, MOST_FILE_TRADES, MOST_GROSS, MOST_TRADE_AMOUNT}

-- the fields of the first record
abbrev pub is_trade_header : List (List ℕ) → Bool
is_trade_header (a ∷ b ∷ c ∷ d ∷ []) =
    bytes_eq a (codes "seller") && bytes_eq b (codes "buyer") && bytes_eq c (codes "product") && bytes_eq d (codes "amount")
is_trade_header fields = false

-- the member whose name a field is
abbrev pub member_of : Rows → List ℕ → Option ℕ
member_of rows field = if is_name field then member_place rows field else None

-- the product whose name a field is
abbrev pub product_of : Rows → List ℕ → Option ℕ
product_of rows field = if is_name field then product_place rows field else None

-- the trade of record n with the amount that its last field writes, at most 10^15
abbrev pub with_amount : ℕ → ℕ → ℕ → ℕ → Result ℕ NumberFault → Result FileTrade FileFault
with_amount n seller buyer product (Err fault) = Err (BadAmount n)
with_amount n seller buyer product (Ok amount) =
    if nat_lt MOST_TRADE_AMOUNT amount then Err (BadAmount n)
    else Ok (record { seller = seller; buyer = buyer; product = product; amount = amount })

-- the trade of record n, by whom its first three fields name
abbrev pub between : ℕ → Option ℕ → Option ℕ → Option ℕ → List ℕ → Result FileTrade FileFault
between n (Some seller) (Some buyer) (Some product) last =
    if seller == buyer then Err (SameParty n) else with_amount n seller buyer product (amount_of last)
between n seller buyer product last = Err (UnknownName n)

-- the trade that the fields of record n write, or what is wrong with them
abbrev pub trade_of : Rows → ℕ → List (List ℕ) → Result FileTrade FileFault
trade_of rows n (seller ∷ buyer ∷ product ∷ last ∷ []) =
    between n (member_of rows seller) (member_of rows buyer) (product_of rows product) last
trade_of rows n fields = Err (Columns n)

-- what one trade has of a product
abbrev pub product_part : ℕ → FileTrade → ℕ
product_part product trade = if trade.product == product then trade.amount else 0

-- the sum of a product's amounts
abbrev pub product_total : List FileTrade → ℕ → ℕ
product_total trades product = sum_by (product_part product) trades

-- the trades with that of record n, or why it can't stand there
abbrev pub with_trade : ℕ → List FileTrade → Result FileTrade FileFault → Result (List FileTrade) FileFault
with_trade n trades (Err fault) = Err fault
with_trade n trades (Ok trade) =
    if nat_lt MOST_GROSS (product_total trades trade.product + trade.amount) then Err (GrossLimit n)
    else Ok (trades ++ trade ∷ [])

-- the trades after record n: record 1 is the header, each other one a trade, of at most 100,000
abbrev pub with_trade_record : Rows → ℕ → List FileTrade → List (List ℕ) → Result (List FileTrade) FileFault
with_trade_record rows n trades fields =
    if n == 1 then (if is_trade_header fields then Ok trades else Err (Columns 1))
    else if nat_le MOST_FILE_TRADES (length trades) then Err (RowLimit n)
    else with_trade n trades (trade_of rows n fields)

-- goes on from trades, or stays at a fault
abbrev pub then_trades : (List FileTrade → Result (List FileTrade) FileFault) → Result (List FileTrade) FileFault → Result (List FileTrade) FileFault
then_trades more (Err fault) = Err fault
then_trades more (Ok trades) = more trades

-- the trades after the records from n on, or the first fault
unfoldable pub with_trade_records : Rows → ℕ → List FileTrade → List (List (List ℕ)) → Result (List FileTrade) FileFault
with_trade_records rows n trades [] = Ok trades
with_trade_records rows n trades (fields ∷ more) =
    then_trades (λ next. with_trade_records rows (n + 1) next more) (with_trade_record rows n trades fields)

-- the trades of a trade file with these records, or the first fault
abbrev pub trades_of : Rows → List (List (List ℕ)) → Result (List FileTrade) FileFault
trades_of rows [] = Err (Columns 1)
trades_of rows (fields ∷ more) = with_trade_records rows 1 [] (fields ∷ more)

-- the trades of a trade file with these bytes, or the first fault
abbrev pub trade_file : Rows → List ℕ → Result (List FileTrade) FileFault
trade_file rows bytes = if nat_lt MOST_FILE (length bytes) then Err TooLong else trades_of rows (records_of bytes)

-- a trade between different members, of a product
pub record IsFileTrade (rows : Rows) (trade : FileTrade) : Type 0 where
  pub seller : trade.seller < length rows.members
  pub buyer : trade.buyer < length rows.members
  pub different : trade.seller ≢ trade.buyer
  pub product : trade.product < length rows.products
  pub positive : 1 ≤ trade.amount

-- trades as a trade file has them
pub record AreFileTrades (rows : Rows) (trades : List FileTrade) : Type 0 where
  pub each : All (IsFileTrade rows) trades
  pub within : (product : ℕ) → product_total trades product ≤ MOST_GROSS
