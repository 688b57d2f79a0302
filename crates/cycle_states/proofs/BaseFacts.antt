-- A machine's base, and the trades of one.
use Rattle.std.proofs.Common.{◌≡◌, ℕ, suc, ◌+◌, false, List, [], ◌∷◌, map, All, Some, None, if◌then◌else◌, sym, ap, ◌∙◌, subst, arith}
use Rattle.std.proofs.lemmas.List.Elements.{All-head, All-tail}
use Rattle.command_types.specs.declared.figures.State.{State}
use Rattle.command_types.specs.declared.roster.MemberRow.{MemberRow}
use Rattle.command_types.specs.declared.roster.ProductRow.{ProductRow}
use Rattle.command_types.specs.declared.tolerance.ToleranceRow.{ToleranceRow}
use Rattle.command_types.specs.declared.trade.TradeRow.{TradeRow}
use Rattle.command_types.specs.Bases.{AreNumbered, IsTradeIn, written}
use Rattle.command_types.specs.Cycles.{is_open}
use Rattle.product_book.specs.Book.{AreTrades}
use Rattle.cycle_states.specs.BaseOf.{base_of}
use Rattle.cycle_states.specs.Replayed.{base_at}

-- the trades of a base that can be written and fits a roster are those of a book
pub trades_of_base : (members products n : ℕ) (rows : List TradeRow) → AreNumbered n rows → All (IsTradeIn members products) rows → AreTrades members products n rows
trades_of_base members products n [] numbered all = tt
trades_of_base members products n (row ∷ rows) (number, free, later) all =
    let here = All-head (IsTradeIn members products) row rows all in
    let next : suc n ≡ n + 1 = omega arith in (
      record { number = number; product = here.product; seller = here.seller; buyer = here.buyer; different = here.different },
      trades_of_base members products (n + 1) rows (subst (λ k. AreNumbered k rows) next later) (All-tail (IsTradeIn members products) row rows all),
    )

-- what is written of a state in which no cycle is open, field by field
pub base_is : (s : State) (position cycle version : ℕ) (members products : List (List ℕ)) (tolerances : List ToleranceRow) (trades : List TradeRow) → is_open s.cycle.phase ≡ false →
    cycle ≡ s.cycle.number → version ≡ s.cycle.version → members ≡ map (λ (row : MemberRow). row.name) s.roster.members → products ≡ map (λ (row : ProductRow). row.name) s.roster.products →
    tolerances ≡ s.tolerances → trades ≡ s.trades →
    Some (record { position = position; cycle = cycle; version = version; members = members; products = products; tolerances = tolerances; trades = trades }) ≡ base_of position s
base_is s position cycle version members products tolerances trades at_rest is_cycle is_version are_members are_products are_tolerances are_trades =
    (λ i. Some (record {
      position = position;
      cycle = is_cycle i;
      version = is_version i;
      members = are_members i;
      products = are_products i;
      tolerances = are_tolerances i;
      trades = are_trades i;
    }))
    ∙ ap (λ b. if b then None else Some (written (base_at position s))) (sym at_rest)
