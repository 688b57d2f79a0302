-- What a freeze makes of the trades.
use Rattle.std.specs.Prelude.{◌≡◌, ℕ, ◌&&◌, Bool, false, List, map, filter, slice_index_or, All, IsTrue}
use Rattle.units_core.specs.Day.{DayParts, is_before}
use Rattle.command_types.specs.declared.roster.ProductRow.{ProductRow}
use Rattle.command_types.specs.declared.trade.TradeRow.{TradeRow}
use Rattle.command_types.specs.Trades.{counts, is_live}
use Rattle.command_types.specs.Cycles.{frozen_rows}

-- the product's flag
abbrev pub is_chosen : List Bool → ℕ → Bool
is_chosen chosen product = slice_index_or chosen product false

abbrev pub row_by_choice : List Bool → TradeRow → TradeRow
row_by_choice chosen row = record row { frozen = is_live row.state && is_chosen chosen row.product }

-- the rows in which the live trades of the chosen products are frozen, and no others
abbrev pub rows_by_choice : List Bool → List TradeRow → List TradeRow
rows_by_choice chosen rows = map (row_by_choice chosen) rows

-- the trades that take part in a cycle
abbrev pub frozen_among : List TradeRow → List TradeRow
frozen_among rows = filter (λ row. row.frozen) rows

-- no frozen trade has ended: each counts for its product's gross
abbrev pub FrozenCount : List TradeRow → Type 0
FrozenCount rows = All (λ row. IsTrue row.frozen → IsTrue (counts row.state)) rows

-- a flag for each product: it matures after the day
abbrev pub chosen_by : List ProductRow → DayParts → List Bool
chosen_by products day = map (λ row. is_before day row.maturity) products

-- with the flags of the products that mature after a day, the rows are those after a freeze of the day
abbrev pub FreezesByMaturity : Type 0
FreezesByMaturity =
    (products : List ProductRow) (day : DayParts) (rows : List TradeRow) → rows_by_choice (chosen_by products day) rows ≡ frozen_rows products day rows
