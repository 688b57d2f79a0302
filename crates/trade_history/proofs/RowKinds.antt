-- The changes that commands and plans make of a trade: none looks at its being frozen, and those of commands leave its terms.
use Rattle.std.proofs.Common.{◌≡◌, ℕ, Bool, true, false, cond, ◌||◌, Some, is_some, refl}
use Rattle.command_types.specs.declared.trade.Side.{Side}
use Rattle.command_types.specs.declared.trade.Side.TheVariants.{Out, In}
use Rattle.command_types.specs.declared.trade.TradeRow.{TradeRow}
use Rattle.command_types.specs.declared.trade.TradeState.TheVariants.{Ended}
use Rattle.command_types.specs.Trades.{live_row, row_ended_by, row_with_hold, is_alleged}
use Rattle.command_types.specs.Plans.{ended_row, cut_row}
use Rattle.trade_history.proofs.Changes.{KeepsNumber, KeepsTerms}

-- the changes that commands and plans make
pub live-number : KeepsNumber live_row
live-number = record { number = λ row. refl; marks = λ b row. refl }

pub live-terms : KeepsTerms live_row
live-terms = record { seller = λ row. refl; buyer = λ row. refl; product = λ row. refl; amount = λ row. refl; frozen = λ row. refl }

pub hold-number : (held : Bool) (side : Side) → KeepsNumber (row_with_hold held side)
hold-number held Out = record { number = λ row. refl; marks = λ b row. refl }
hold-number held In = record { number = λ row. refl; marks = λ b row. refl }

pub hold-terms : (held : Bool) (side : Side) → KeepsTerms (row_with_hold held side)
hold-terms held Out = record { seller = λ row. refl; buyer = λ row. refl; product = λ row. refl; amount = λ row. refl; frozen = λ row. refl }
hold-terms held In = record { seller = λ row. refl; buyer = λ row. refl; product = λ row. refl; amount = λ row. refl; frozen = λ row. refl }

abbrev ended_if : Bool → Side → TradeRow → TradeRow
ended_if ends side row = cond ends (record row { state = Ended }) (record row { mark = Some side })

end_number : (ends : Bool) (side : Side) (row : TradeRow) → (ended_if ends side row).number ≡ row.number
end_number true side row = refl
end_number false side row = refl

end_marks : (ends : Bool) (side : Side) (b : Bool) (row : TradeRow) → ended_if ends side (record row { frozen = b }) ≡ record (ended_if ends side row) { frozen = b }
end_marks true side b row = refl
end_marks false side b row = refl

pub end-number : (side : Side) → KeepsNumber (row_ended_by side)
end-number side = record {
  number = λ row. end_number (is_alleged row.state || is_some row.mark) side row;
  marks = λ b row. end_marks (is_alleged row.state || is_some row.mark) side b row;
}

end_seller : (ends : Bool) (side : Side) (row : TradeRow) → (ended_if ends side row).seller ≡ row.seller
end_seller true side row = refl
end_seller false side row = refl

end_buyer : (ends : Bool) (side : Side) (row : TradeRow) → (ended_if ends side row).buyer ≡ row.buyer
end_buyer true side row = refl
end_buyer false side row = refl

end_product : (ends : Bool) (side : Side) (row : TradeRow) → (ended_if ends side row).product ≡ row.product
end_product true side row = refl
end_product false side row = refl

end_amount : (ends : Bool) (side : Side) (row : TradeRow) → (ended_if ends side row).amount ≡ row.amount
end_amount true side row = refl
end_amount false side row = refl

end_frozen : (ends : Bool) (side : Side) (row : TradeRow) → (ended_if ends side row).frozen ≡ row.frozen
end_frozen true side row = refl
end_frozen false side row = refl

pub end-terms : (side : Side) → KeepsTerms (row_ended_by side)
end-terms side = record {
  seller = λ row. end_seller (is_alleged row.state || is_some row.mark) side row;
  buyer = λ row. end_buyer (is_alleged row.state || is_some row.mark) side row;
  product = λ row. end_product (is_alleged row.state || is_some row.mark) side row;
  amount = λ row. end_amount (is_alleged row.state || is_some row.mark) side row;
  frozen = λ row. end_frozen (is_alleged row.state || is_some row.mark) side row;
}

pub ended-number : KeepsNumber ended_row
ended-number = record { number = λ row. refl; marks = λ b row. refl }

pub cut-number : (amount : ℕ) → KeepsNumber (cut_row amount)
cut-number amount = record { number = λ row. refl; marks = λ b row. refl }
