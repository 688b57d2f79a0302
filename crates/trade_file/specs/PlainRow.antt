-- What a row says that is cut at its commas and its line's end alone, as rows without quotes are.
use Rattle.std.specs.Prelude.{◌≡◌, ◌⊎◌, ℕ, ◌<◌, ◌==◌, ◌||◌, Bool, true, false, List, [], ◌∷◌, ◌++◌, Option, Some, Ok}
use Rattle.csv.specs.Machine.{Read, next_record, ends_at_end, carriage_return, line_feed}
use Rattle.csv.specs.Reading.{default_config}
use Rattle.csv.specs.declared.parser.State.{State}
use Rattle.csv.specs.declared.parser.State.TheVariants as st
use Rattle.units_core.specs.Number.{amount_of}
use Rattle.command_types.specs.Roster.{Rows}
use Rattle.trade_file.specs.declared.file_trade.FileTrade.{FileTrade}
use Rattle.trade_file.specs.TradeFile.{is_trade_header, trade_of, with_trade_record}
use Rattle.units_core.specs.declared.limits.TheConstants.{MOST_PRODUCTS}

-- the byte that ends a field behind which another one stands
abbrev pub comma : ℕ
comma = 44

-- a byte that ends a line
abbrev pub is_line_end : ℕ → Bool
is_line_end byte = (byte == carriage_return) || (byte == line_feed)

-- a line at the front of a text, and what stands behind the byte that ends it: the end of the text ends the last line
abbrev pub IsLine : List ℕ → List ℕ → List ℕ → Type 0
IsLine text line rest = ((text ≡ line) × (rest ≡ [])) ⊎ ((byte : ℕ) × (is_line_end byte ≡ true) × (text ≡ line ++ byte ∷ rest))

-- the rest of a line is this amount, in digits
abbrev pub EndsInAmount : List ℕ → ℕ → List ℕ → Type 0
EndsInAmount text amount rest = (digits : List ℕ) × (amount_of digits ≡ Ok amount) × IsLine text digits rest

-- the record that a text between two records goes on with
abbrev pub first_record : List ℕ → Option Read
first_record text = next_record default_config st.StartRecord [] [] text

-- the text's first record has these fields, and behind it the text is between two records again
abbrev pub TakesRecord : List ℕ → List (List ℕ) → List ℕ → Type 0
TakesRecord text fields rest = (s : State) × (first_record text ≡ Some (fields, s, rest)) × (ends_at_end s ≡ false)

-- the text's first record is a trade file's header
abbrev pub TakesHeader : List ℕ → List ℕ → Type 0
TakesHeader text rest = (fields : List (List ℕ)) × TakesRecord text fields rest × (is_trade_header fields ≡ true)

-- the text's first record, which has this number, goes to the trades
abbrev pub TakesTrade : Rows → ℕ → List FileTrade → List ℕ → List FileTrade → List ℕ → Type 0
TakesTrade rows n trades text more rest = (fields : List (List ℕ)) × TakesRecord text fields rest × (with_trade_record rows n trades fields ≡ Ok more)

-- the text's first record, whatever its number, writes this trade
abbrev pub ReadsTrade : Rows → List ℕ → FileTrade → List ℕ → Type 0
ReadsTrade rows text trade rest = (n : ℕ) → (fields : List (List ℕ)) × TakesRecord text fields rest × (trade_of rows n fields ≡ Ok trade)

-- the text's first record writes this trade, of a product that a draft has a sum for
pub record ReadsRow (rows : Rows) (text : List ℕ) (trade : FileTrade) (rest : List ℕ) : Type 0 where
  pub trade_is : ReadsTrade rows text trade rest
  pub product : trade.product < MOST_PRODUCTS

-- the text's first record goes to the trades as the last of them
pub record TakesRow (rows : Rows) (text : List ℕ) (trades all : List FileTrade) (rest : List ℕ) : Type 0 where
  pub trade : FileTrade
  pub reads : ReadsRow rows text trade rest
  pub all_are : all ≡ trades ++ trade ∷ []
