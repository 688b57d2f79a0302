-- What of a trade can be written.
use Rattle.std.specs.Prelude.{ℕ, ◌<◌, List, [], ◌∷◌, ◌++◌, IsTrue}
use Rattle.std.specs.Int.{w16, to_le_bytes}
use Rattle.units_core.specs.Number.{is_amount}
use Rattle.command_types.specs.declared.trade.TradeRow.{TradeRow}
use Rattle.command_types.specs.Bases.{state_byte, party_byte, hold_byte}
use Rattle.command_types.specs.Spelling.{number_spelling, day_spelling, IsDay}

-- places in two bytes each, an amount, and a day
pub record IsTradeForm (row : TradeRow) : Type 0 where
  pub seller : row.seller < 65536
  pub buyer : row.buyer < 65536
  pub product : row.product < 65536
  pub amount : IsTrue (is_amount row.amount)
  pub day : IsDay row.day

-- the parties, the product, the amount and the day of a trade
abbrev pub terms_spelling : TradeRow → List ℕ
terms_spelling row = to_le_bytes w16 row.seller ++ to_le_bytes w16 row.buyer ++ to_le_bytes w16 row.product ++ number_spelling row.amount ++ day_spelling row.day

-- one byte each for its state, the submitter, the mark and the holds
abbrev pub marks_spelling : TradeRow → List ℕ
marks_spelling row = state_byte row.state ∷ party_byte row.submitter ∷ party_byte row.mark ∷ hold_byte row ∷ []
