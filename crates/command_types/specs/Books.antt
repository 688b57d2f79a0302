-- The networks that trade rows make: for each product, what each member owes each other one.
use Rattle.std.specs.Prelude.{ℕ, zero, suc, ◌==◌, ◌&&◌, ◌||◌, nat_lt, Bool, List, [], ◌∷◌, ◌++◌, if◌then◌else◌}
use Rattle.network_laws.specs.declared.rows.Row.{Row}
use Rattle.network_laws.specs.Networks.{NetworkData}
use Rattle.command_types.specs.declared.trade.TradeRow.{TradeRow}
use Rattle.command_types.specs.Trades.{total_where, is_live}

-- what f gives for the numbers below n, in their order
abbrev pub listed_below : {T : Type 0} → ℕ → (ℕ → List T) → List T
listed_below zero f = []
listed_below (suc n) f = listed_below n f ++ f n

-- what f gives for the ordered pairs of numbers below n, in their order
abbrev pub listed_pairs : {T : Type 0} → ℕ → (ℕ → ℕ → List T) → List T
listed_pairs n f = listed_below n (λ i. listed_below n (f i))

-- a network's row of a pair with this amount; 0 has none
abbrev pub amount_row : ℕ → ℕ → ℕ → List Row
amount_row i j amount = if nat_lt 0 amount then record { seller = i; buyer = j; amount = amount } ∷ [] else []

-- the network in which each pair has the amount that f gives
abbrev pub network_by : ℕ → (ℕ → ℕ → ℕ) → NetworkData
network_by members f = record { members = members; rows = listed_pairs members (λ i j. amount_row i j (f i j)) }

-- the trade is one of this product, from this seller to this buyer
abbrev pub is_between : ℕ → ℕ → ℕ → TradeRow → Bool
is_between product seller buyer row = (row.product == product) && (row.seller == seller) && (row.buyer == buyer)

-- a party of the trade keeps it out of compression
abbrev pub is_held : TradeRow → Bool
is_held row = row.hold_out || row.hold_in

-- a product's network of those trades for which the test holds
abbrev pub network_where : (TradeRow → Bool) → ℕ → ℕ → List TradeRow → NetworkData
network_where test members product rows =
    network_by members (λ seller buyer. total_where (λ row. is_between product seller buyer row && test row) rows)

-- a product's network of live trades
abbrev pub live_network : ℕ → ℕ → List TradeRow → NetworkData
live_network members product rows = network_where (λ row. is_live row.state) members product rows

-- a product's network of the frozen trades
abbrev pub frozen_network : ℕ → ℕ → List TradeRow → NetworkData
frozen_network members product rows = network_where (λ row. row.frozen) members product rows

-- a product's network of those frozen trades that a party holds
abbrev pub held_network : ℕ → ℕ → List TradeRow → NetworkData
held_network members product rows = network_where (λ row. row.frozen && is_held row) members product rows
