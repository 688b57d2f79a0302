-- What is held is part of what is frozen, in every pair.
use Rattle.std.proofs.Common.{◌≡◌, ℕ, ◌≤◌, ◌==◌, ◌&&◌, Bool, true, false, List, refl, arith, if◌then◌else◌}
use Rattle.std.proofs.lemmas.List.Sums.{sum_by-le-sum_by}
use Rattle.network_laws.specs.Networks.{pair_part, at, sum_below}
use Rattle.network_laws.proofs.Figures.{sum_below-le}
use Rattle.command_types.specs.declared.trade.TradeRow.{TradeRow}
use Rattle.command_types.specs.Books.{is_between, is_held, frozen_network, held_network}
use Rattle.pair_table.proofs.PairNetworks.{row_of, at-network_by}
use Rattle.product_book.specs.declared.networks.Which.TheVariants as which
use Rattle.product_book.proofs.NetworkFacts.{sum_of}

part_le_part : (here : Bool) (x y : ℕ) → x ≤ y → (if here then x else 0) ≤ (if here then y else 0)
part_le_part true x y le = le
part_le_part false x y le = omega arith

part_below : (product i j : ℕ) (row : TradeRow) → (if is_between product i j row && (row.frozen && is_held row) then row.amount else 0) ≤ (if is_between product i j row && row.frozen then row.amount else 0)
part_below product i j row = by (is_between product i j row) row.frozen (is_held row)
  where
    by : (b f h : Bool) → (if b && (f && h) then row.amount else 0) ≤ (if b && f then row.amount else 0)
    by true true true = omega arith
    by true true false = omega arith
    by true false h = omega arith
    by false f h = omega arith

below : (members product : ℕ) (rows : List TradeRow) (i j : ℕ) → at (held_network members product rows) i j ≤ at (frozen_network members product rows) i j
below members product rows i j =
    let held = sum_of which.FrozenHeld product rows in
    let frozen = sum_of which.Frozen product rows in
    let held_part : ℕ → ℕ → ℕ = λ a b. pair_part i j (row_of a b (held a b)) in
    let frozen_part : ℕ → ℕ → ℕ = λ a b. pair_part i j (row_of a b (frozen a b)) in
    let less = sum_below-le members (λ a. sum_below members (held_part a)) (λ a. sum_below members (frozen_part a)) (λ a _.
    sum_below-le members (held_part a) (frozen_part a) (λ b _.
    part_le_part ((a == i) && (b == j)) (held a b) (frozen a b) (sum_by-le-sum_by (λ (row : TradeRow). if is_between product a b row && (row.frozen && is_held row) then row.amount else 0) (λ row. if is_between product a b row && row.frozen then row.amount else 0) rows (part_below product a b)))) in
    omega (arith, less, at-network_by members i j held, at-network_by members i j frozen)

pub held_is_within_frozen : (members product : ℕ) (rows : List TradeRow) → ((held_network members product rows).members ≡ members) × ((i j : ℕ) → at (held_network members product rows) i j ≤ at (frozen_network members product rows) i j)
held_is_within_frozen members product rows = (refl, below members product rows)
