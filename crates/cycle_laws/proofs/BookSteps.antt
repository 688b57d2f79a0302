-- The trades of a state are those of a book, and stay so where a command changes them.
use Rattle.std.proofs.Common.{◌≡◌, ℕ, ◌+◌, ◌≤◌, false, true, List, [], ◌∷◌, ◌++◌, length, map, Option, Some, None, is_none, unwrap_or, refl, subst, arith}
use Rattle.std.specs.Str.{bytes_eq}
use Rattle.units_core.specs.Day.{DayParts}
use Rattle.command_types.specs.declared.ask.What.TheVariants.{Trade, Affirm}
use Rattle.command_types.specs.declared.figures.State.{State}
use Rattle.command_types.specs.declared.plan.PlanRow.{PlanRow}
use Rattle.command_types.specs.declared.roster.ProductRow.{ProductRow}
use Rattle.command_types.specs.declared.trade.Side.{Side}
use Rattle.command_types.specs.declared.trade.TradeRow.{TradeRow}
use Rattle.command_types.specs.Roster.{Rows, member_place, product_place}
use Rattle.command_types.specs.Trades.{submitted_count, trade_numbered, with_row, changed_row, alleged_row, with_alleged, affirmed, ended_by, held_by, freed_by, live_row, row_ended_by, row_with_hold}
use Rattle.command_types.specs.Cycles.{is_taken, row_at_freeze, frozen_rows}
use Rattle.command_types.specs.Plans.{executed, thawed_row, thawed}
use Rattle.command_types.specs.Execution.{IsExecutable}
use Rattle.command_types.specs.Machine.{first_of, refusals, member_of, product_of, side_of}
use Rattle.product_book.specs.Book.{IsBook, IsTrade}
use Rattle.product_book.proofs.BookFacts.{KeepsTerms, book_alleged, book_changed, book_mapped, flag_keeps, live_keeps, ended_keeps, hold_keeps}
use Rattle.product_book.proofs.ExecutionFacts.{book_executed}
use Rattle.cycle_states.proofs.MachineFacts.{terms_stand, trade_fits, parties_differ, found_by, neither, some_member}
use Rattle.cycle_states.proofs.KeptFacts.{affirm_stands}

-- the trades are those of a book of the roster's members and products
abbrev pub IsBookOfRoster : Rows → List TradeRow → Type 0
IsBookOfRoster roster rows = IsBook (length roster.members) (length roster.products) (submitted_count rows) rows

recounted : (members products submitted : ℕ) (rows : List TradeRow) → IsBook members products submitted rows → IsBook members products (submitted_count rows) rows
recounted members products submitted rows book = subst (λ n. IsBook members products n rows) book.counted book

one_changed : (roster : Rows) (change : TradeRow → TradeRow) (rows : List TradeRow) (number : ℕ) (o : Option TradeRow) → trade_numbered rows number ≡ o → ((row : TradeRow) → o ≡ Some row → KeepsTerms row (change row)) →
    IsBookOfRoster roster rows → IsBookOfRoster roster (with_row rows number (changed_row change o))
one_changed roster change rows number None is keeps book = book
one_changed roster change rows number (Some row) is keeps book =
    recounted (length roster.members) (length roster.products) (submitted_count rows) (with_row rows number (Some (change row)))
    (book_changed (length roster.members) (length roster.products) (submitted_count rows) rows number row (change row) book is (keeps row refl))

mapped : (roster : Rows) (change : TradeRow → TradeRow) (rows : List TradeRow) → ((row : TradeRow) → KeepsTerms row (change row)) → IsBookOfRoster roster rows → IsBookOfRoster roster (map change rows)
mapped roster change rows keeps book =
    recounted (length roster.members) (length roster.products) (submitted_count rows) (map change rows)
    (book_mapped change (length roster.members) (length roster.products) (submitted_count rows) rows keeps book)

pub affirm_book : (s : State) (by : Option (List ℕ)) (trade : ℕ) → first_of (refusals s by (Affirm trade)) ≡ None → IsBookOfRoster s.roster s.trades → IsBookOfRoster s.roster (affirmed s.trades trade)
affirm_book s by trade none book =
    one_changed s.roster live_row s.trades trade (trade_numbered s.trades trade) refl (λ row is. live_keeps row (affirm_stands s by trade row none is)) book

pub end_book : (roster : Rows) (rows : List TradeRow) (side : Side) (trade : ℕ) → IsBookOfRoster roster rows → IsBookOfRoster roster (ended_by side rows trade)
end_book roster rows side trade book = one_changed roster (row_ended_by side) rows trade (trade_numbered rows trade) refl (λ row is. ended_keeps side row) book

pub hold_book : (roster : Rows) (rows : List TradeRow) (side : Side) (trade : ℕ) → IsBookOfRoster roster rows → IsBookOfRoster roster (held_by side rows trade)
hold_book roster rows side trade book = one_changed roster (row_with_hold true side) rows trade (trade_numbered rows trade) refl (λ row is. hold_keeps true side row) book

pub free_book : (roster : Rows) (rows : List TradeRow) (side : Side) (trade : ℕ) → IsBookOfRoster roster rows → IsBookOfRoster roster (freed_by side rows trade)
free_book roster rows side trade book = one_changed roster (row_with_hold false side) rows trade (trade_numbered rows trade) refl (λ row is. hold_keeps false side row) book

pub freeze_book : (roster : Rows) (rows : List TradeRow) (day : DayParts) → IsBookOfRoster roster rows → IsBookOfRoster roster (frozen_rows roster.products day rows)
freeze_book roster rows day book = mapped roster (row_at_freeze roster.products day) rows (λ row. flag_keeps (is_taken roster.products day row) row) book

pub thaw_book : (roster : Rows) (rows : List TradeRow) → IsBookOfRoster roster rows → IsBookOfRoster roster (thawed rows)
thaw_book roster rows book = mapped roster thawed_row rows (λ row. flag_keeps false row) book

-- so do those after a plan that can be executed
pub execution_book : (roster : Rows) (rows : List TradeRow) (plan : List PlanRow) → IsExecutable (length roster.members) (length roster.products) rows plan → IsBookOfRoster roster rows → IsBookOfRoster roster (thawed (executed plan rows))
execution_book roster rows plan may book =
    thaw_book roster (executed plan rows)
    (recounted (length roster.members) (length roster.products) (submitted_count rows) (executed plan rows)
    (book_executed (length roster.members) (length roster.products) (submitted_count rows) rows plan book may))

some_product : ProductRow
some_product = record { name = []; maturity = record { year = 0; month = 0; day = 0 } }

-- the parties and the product of an accepted TRADE are in the roster
named_trade : (s : State) (name seller buyer product : List ℕ) (amount : ℕ) (day : DayParts) → first_of (refusals s (Some name) (Trade seller buyer product amount day)) ≡ None →
    IsTrade (length s.roster.members) (length s.roster.products) (length s.trades + 1) (alleged_row (length s.trades + 1) (member_of s seller) (member_of s buyer) (product_of s product) amount day (side_of name seller))
named_trade s name seller buyer product amount day none =
    let stand = terms_stand s (Some name) name seller buyer product amount day refl none in
    let there = neither (is_none (member_place s.roster seller)) (is_none (member_place s.roster buyer)) stand.0 in
    record {
      number = refl;
      product = (found_by (λ row. bytes_eq row.name product) s.roster.products some_product (product_place s.roster product) refl stand.1.0).0;
      seller = (found_by (λ row. bytes_eq row.name seller) s.roster.members some_member (member_place s.roster seller) refl there.0).0;
      buyer = (found_by (λ row. bytes_eq row.name buyer) s.roster.members some_member (member_place s.roster buyer) refl there.1).0;
      different = parties_differ s (Some name) name seller buyer product amount day refl none;
    }

pub trade_book : (s : State) (by : Option (List ℕ)) (seller buyer product : List ℕ) (amount : ℕ) (day : DayParts) → first_of (refusals s by (Trade seller buyer product amount day)) ≡ None → IsBookOfRoster s.roster s.trades →
    IsBookOfRoster s.roster (with_alleged s.trades (member_of s seller) (member_of s buyer) (product_of s product) amount day (side_of (unwrap_or by []) seller))
trade_book s None seller buyer product amount day none book = cc
trade_book s (Some name) seller buyer product amount day none book =
    let row = alleged_row (length s.trades + 1) (member_of s seller) (member_of s buyer) (product_of s product) amount day (side_of name seller) in
    recounted (length s.roster.members) (length s.roster.products) (submitted_count s.trades + 1) (s.trades ++ row ∷ [])
    (book_alleged (length s.roster.members) (length s.roster.products) (submitted_count s.trades) s.trades row book refl (named_trade s name seller buyer product amount day none)
    (trade_fits s (Some name) name seller buyer product amount day refl none))

pub empty_book : (roster : Rows) → length roster.members ≤ 256 → length roster.products ≤ 64 → IsBookOfRoster roster []
empty_book roster few_members few_products = record { few_members = few_members; few_products = few_products; trades = tt; bounded = λ product. omega arith; counted = refl }
