-- Small histories of three dealers A, B and C and one product P, by which the definitions can be read.
use Rattle.std.specs.Prelude.{ℕ, List, [], ◌∷◌, ◌++◌, map, Some, pos}
use Rattle.network_laws.specs.declared.rows.Row.{Row}
use Rattle.command_types.specs.declared.ask.What.{What}
use Rattle.command_types.specs.declared.ask.What.TheVariants.{Trade, Affirm, End, Freeze, Begin, Post, Accept, Decline}
use Rattle.command_types.specs.declared.ask.Entry.{Entry}
use Rattle.command_types.specs.declared.cycle.Mode.TheVariants.{Conservative}
use Rattle.command_types.specs.declared.roster.Role.TheVariants.{Dealer}
use Rattle.command_types.specs.declared.trade.TradeRow.{TradeRow}
use Rattle.command_types.specs.declared.trade.TradeState.{TradeState}
use Rattle.command_types.specs.Roster.{Rows}
use Rattle.command_types.specs.Machine.{empty_state}
use Rattle.command_types.specs.History.{History}
use Rattle.trade_history.specs.Book.{trades_of}

abbrev name_a : List ℕ
name_a = 65 ∷ []

abbrev name_b : List ℕ
name_b = 66 ∷ []

abbrev name_c : List ℕ
name_c = 67 ∷ []

abbrev name_ops : List ℕ
name_ops = 79 ∷ 80 ∷ 83 ∷ []

abbrev name_p : List ℕ
name_p = 80 ∷ []

abbrev pub three_dealers : Rows
three_dealers = record {
  members = record { name = name_a; role = Dealer; key = 75 ∷ 65 ∷ [] } ∷ record { name = name_b; role = Dealer; key = 75 ∷ 66 ∷ [] } ∷ record { name = name_c; role = Dealer; key = 75 ∷ 67 ∷ [] } ∷ [];
  products = record { name = name_p; maturity = record { year = 2031; month = 6; day = 30 } } ∷ [];
  operator = Some (record { name = name_ops; key = 75 ∷ 79 ∷ [] });
}

abbrev change : List ℕ → What → Entry
change by what = record { seat = 0; ask = record { by = Some by; what = what; moment = 0 } }

-- a trade that its buyer affirms
abbrev deal : ℕ → List ℕ → List ℕ → ℕ → List Entry
deal number seller buyer amount =
    change seller (Trade seller buyer name_p amount (record { year = 2026; month = 3; day = 2 })) ∷ change buyer (Affirm number) ∷ []

-- A, B and C each owe the next one 10
abbrev ring : List Entry
ring = deal 1 name_a name_b 10 ++ deal 2 name_b name_c 10 ++ deal 3 name_c name_a 10

abbrev freeze : List Entry
freeze = change name_ops (Freeze (record { year = 2026; month = 3; day = 31 })) ∷ []

-- a version begins, and these rows are posted in it
abbrev proposal : ℕ → List Row → List Entry
proposal version rows =
    change name_ops (Begin 1 Conservative)
    ∷ change name_ops (Post 1 version (record { network = record { members = 3; rows = rows }; potentials = pos 0 ∷ pos 0 ∷ pos 0 ∷ [] } ∷ []))
    ∷ []

abbrev accept : ℕ → List ℕ → List Entry
accept version by = change by (Accept 1 version) ∷ []

abbrev history_of : List Entry → History
history_of entries = record { base = record { position = 0; state = empty_state three_dealers }; entries = entries }

abbrev end : ℕ → List ℕ → List Entry
end number by = change by (End number) ∷ []

-- the ring is compressed to nothing
abbrev pub ring_compressed : History
ring_compressed = history_of (ring ++ freeze ++ proposal 1 [] ++ accept 1 name_a ++ accept 1 name_b ++ accept 1 name_c)

-- after that A and B come to owe each other 10, which cycle 2 compresses to nothing
abbrev pub pair_in_cycle_2 : List Entry
pair_in_cycle_2 =
    deal 4 name_a name_b 10 ++ deal 5 name_b name_a 10 ++ freeze
    ++ change name_ops (Begin 2 Conservative)
    ∷ change name_ops (Post 2 1 (record { network = record { members = 3; rows = [] }; potentials = pos 0 ∷ pos 0 ∷ pos 0 ∷ [] } ∷ []))
    ∷ change name_a (Accept 2 1)
    ∷ change name_b (Accept 2 1)
    ∷ []

-- C has not accepted yet
abbrev pub ring_waiting : History
ring_waiting = history_of (ring ++ freeze ++ proposal 1 [] ++ accept 1 name_a ++ accept 1 name_b)

-- a trade that comes after the freeze stays
abbrev pub ring_with_later_trade : History
ring_with_later_trade =
    history_of (ring ++ freeze ++ deal 4 name_a name_c 5 ++ proposal 1 [] ++ accept 1 name_a ++ accept 1 name_b ++ accept 1 name_c)

-- trade 1 is ended before the last vote, which the machine would refuse
abbrev pub ring_broken : History
ring_broken =
    history_of (ring ++ freeze ++ proposal 1 [] ++ accept 1 name_a ++ accept 1 name_b ++ end 1 name_a ++ end 1 name_b ++ accept 1 name_c)

-- A declines, so the next version is proposed, and B's and C's votes are of the first one, which the machine would refuse
abbrev pub ring_declined : History
ring_declined =
    history_of (ring ++ freeze ++ proposal 1 [] ++ accept 1 name_a ++ change name_a (Decline 1 1) ∷ [] ++ proposal 2 [] ++ accept 2 name_a ++ accept 1 name_b ++ accept 1 name_c)

-- A owes B 10, and B owes C 7
abbrev chain : List Entry
chain = deal 1 name_a name_b 10 ++ deal 2 name_b name_c 7

-- nothing can fall, so the posting touches nobody; the machine would refuse it with these potentials
abbrev pub chain_unchanged : History
chain_unchanged =
    history_of (chain ++ freeze ++ proposal 1 (record { seller = 0; buyer = 1; amount = 10 } ∷ record { seller = 1; buyer = 2; amount = 7 } ∷ []))

-- B is passed by: A comes to owe C 7, which the machine would refuse in this mode
abbrev pub chain_compressed : History
chain_compressed =
    history_of (chain ++ freeze ++ proposal 1 (record { seller = 0; buyer = 1; amount = 3 } ∷ record { seller = 0; buyer = 2; amount = 7 } ∷ [])
    ++ accept 1 name_a ++ accept 1 name_b ++ accept 1 name_c)

-- a trade as it reads: its number, seller, buyer, amount and state
pub record TradeLine : Type 0 where
  pub number : ℕ
  pub seller : ℕ
  pub buyer : ℕ
  pub amount : ℕ
  pub state : TradeState

abbrev pub line_of : TradeRow → TradeLine
line_of row = record { number = row.number; seller = row.seller; buyer = row.buyer; amount = row.amount; state = row.state }

abbrev pub lines_of : History → List TradeLine
lines_of h = map line_of (trades_of h)
