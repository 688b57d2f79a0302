-- The rows of a piece of a trade file, which a worker reads by itself, and how pieces are put together.
use Rattle.std.specs.Prelude.{◌≡◌, ◌≤◌, ℕ, List, [], ◌∷◌, ◌++◌, length, IfOk, IfSome}
use Rattle.command_types.specs.Roster.{Rows}
use Rattle.trade_file.specs.declared.file_trade.FileTrade.{FileTrade}
use Rattle.trade_file.specs.declared.pieces.Piece.{Piece}
use Rattle.trade_file.specs.TradeDraft.{IsTradeDraft, trades_of_draft}
use Rattle.trade_file.specs.PlainRow.{first_record, ReadsRow}
use Rattle.units_core.specs.declared.limits.TheConstants.{MOST_FILE_TRADES}

-- rows from a text on write these trades, and behind them the rest is left; line ends between two rows belong to none
unfoldable pub ReadsRows : Rows → List ℕ → List FileTrade → List ℕ → Type 0
ReadsRows rows text [] rest = first_record text ≡ first_record rest
ReadsRows rows text (trade ∷ trades) rest =
    (from : List ℕ) × (behind : List ℕ) × (first_record text ≡ first_record from) × ReadsRow rows from trade behind × ReadsRows rows behind trades rest

-- what was found in the piece is the draft of some trades
abbrev pub HasDraft : Piece → Type 0
HasDraft piece = IfOk piece.found (λ found. IfSome found (λ found. IsTradeDraft found.draft))

-- its text starts with rows that write these trades, and goes on with what is left
abbrev pub HasRows : Rows → Piece → Type 0
HasRows rows piece = IfOk piece.found (λ found. IfSome found (λ found. ReadsRows rows piece.text.now (trades_of_draft found.draft) found.rest.now))

-- what was found in the piece is what its text says
pub record HasRead (rows : Rows) (piece : Piece) : Type 0 where
  pub draft : HasDraft piece
  pub rows_read : HasRows rows piece

-- the rows that a text starts with go to trades, all of which a file may have
pub record TakesRows (rows : Rows) (text : List ℕ) (trades all : List FileTrade) (rest : List ℕ) : Type 0 where
  pub more : List FileTrade
  pub read : ReadsRows rows text more rest
  pub all_are : all ≡ trades ++ more
  pub few : length all ≤ MOST_FILE_TRADES
