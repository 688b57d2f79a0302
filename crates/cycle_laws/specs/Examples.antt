-- Small legal histories, over the dealers A, B and C and the product P of the examples of `trade_history`.
use Rattle.std.specs.Prelude.{ℕ, List, [], ◌∷◌, ◌++◌, map, take, drop, Some, ℤ, pos}
use Rattle.network_laws.specs.declared.rows.Row.{Row}
use Rattle.command_types.specs.declared.ask.What.TheVariants.{Begin, Post}
use Rattle.command_types.specs.declared.ask.Entry.{Entry}
use Rattle.command_types.specs.declared.answer.Answer.{Answer}
use Rattle.command_types.specs.declared.cycle.Mode.{Mode}
use Rattle.command_types.specs.declared.cycle.Mode.TheVariants.{Conservative, Hybrid}
use Rattle.command_types.specs.Trades.{gross_of}
use Rattle.command_types.specs.Machine.{answer_to}
use Rattle.command_types.specs.History.{History, cut_after, replayed}
use Rattle.acceptance.specs.Laws.{position}
use Rattle.trade_history.specs.Examples.{chain_compressed}

-- the operator begins version 1 in this mode, and posts these rows with these potentials
abbrev proposal : Mode → List Row → List ℤ → List Entry
proposal mode rows potentials =
    record { seat = 0; ask = record { by = Some (79 ∷ 80 ∷ 83 ∷ []); what = Begin 1 mode; moment = 0 } }
    ∷ record { seat = 0; ask = record { by = Some (79 ∷ 80 ∷ 83 ∷ []); what = Post 1 1 (record { network = record { members = 3; rows = rows }; potentials = potentials } ∷ []); moment = 0 } }
    ∷ []

-- A owes B 10 and B owes C 7, and both trades are frozen
abbrev chain_frozen : List Entry
chain_frozen = take 5 chain_compressed.entries

-- in hybrid mode A may come to owe C: B is passed by, and all three accept
abbrev pub chain_in_hybrid : History
chain_in_hybrid = record chain_compressed {
  entries = chain_frozen
      ++ proposal Hybrid (record { seller = 0; buyer = 1; amount = 3 } ∷ record { seller = 0; buyer = 2; amount = 7 } ∷ []) (pos 1 ∷ pos 0 ∷ pos 0 ∷ [])
      ++ drop 7 chain_compressed.entries;
}

-- in conservative mode nothing can fall, so the posting touches nobody
abbrev pub chain_in_conservative : History
chain_in_conservative = record chain_compressed {
  entries = chain_frozen ++ proposal Conservative (record { seller = 0; buyer = 1; amount = 10 } ∷ record { seller = 1; buyer = 2; amount = 7 } ∷ []) (pos 2 ∷ pos 1 ∷ pos 0 ∷ []);
}

-- the positions of A, B and C in the product after so many changes
abbrev pub nets_after : ℕ → History → List ℤ
nets_after count h = map (λ member. position 0 member (replayed (cut_after h count)).trades) (0 ∷ 1 ∷ 2 ∷ [])

-- and the product's gross
abbrev pub gross_after : ℕ → History → ℕ
gross_after count h = gross_of 0 (replayed (cut_after h count)).trades

-- what the change after so many is answered
abbrev pub answers_after : ℕ → History → List Answer
answers_after count h = map (λ entry. answer_to (replayed (cut_after h count)) entry.ask) (take 1 (drop count h.entries))
