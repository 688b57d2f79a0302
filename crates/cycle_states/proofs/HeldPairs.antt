-- What is held of a pair, found from the pair's live trades.
use Rattle.std.proofs.Common.{◌≡◌, ◌≢◌, ℕ, ◌+◌, ◌<◌, ◌≤◌, ◌⊎◌, ◌==◌, ◌&&◌, Bool, true, false, cond, List, [], ◌∷◌, if◌then◌else◌, refl, sym, ap, ◌∙◌, arith, ⊎_elim, inl, inr}
use Rattle.std.specs.Prelude.{◌-◌, nat_le, sum_by, IsTrue}
use Rattle.std.proofs.lemmas.Bool.{cases_eq, eq-eqb, ne_eqb, false≢true}
use Rattle.std.proofs.lemmas.Bool.Decides.{leb_tells}
use Rattle.std.proofs.lemmas.List.Elements.{All-head, All-tail}
use Rattle.std.proofs.lemmas.List.Sums.{sum_by-cons}
use Rattle.network_laws.specs.Networks.{at, pair_part, sum_below}
use Rattle.network_laws.proofs.Figures.{sum_below-none}
use Rattle.network_laws.proofs.RowSums.{pair_part-seller, pair_part-buyer}
use Rattle.command_types.specs.declared.trade.TradeRow.{TradeRow}
use Rattle.command_types.specs.Books.{held_network, is_between, is_held, network_by}
use Rattle.command_types.specs.Trades.{is_live, total_where}
use Rattle.pair_table.proofs.PairNetworks.{at-network_by, at-network_by_within, row_of}
use Rattle.product_book.specs.Book.{live_between}
use Rattle.cycle_states.specs.Machine.{FrozenAreLive}

-- what a trade has of what is held
abbrev pub held_part : TradeRow → ℕ
held_part row = if row.frozen && is_held row then row.amount else 0

abbrev pub held_of : ℕ → ℕ → ℕ → List TradeRow → ℕ
held_of product seller buyer rows = total_where (λ row. is_between product seller buyer row && (row.frozen && is_held row)) rows

none_if_ended : (f h : Bool) (m : ℕ) → (IsTrue f → IsTrue false) → (if f && h then m else 0) ≡ 0
none_if_ended false h m live = refl
none_if_ended true h m live = absurd (false≢true (live refl))

one : (row : TradeRow) (rest : List TradeRow) (b l : Bool) → (IsTrue row.frozen → IsTrue l) →
    sum_by held_part (cond (b && l) (row ∷ rest) rest) ≡ (if b && (row.frozen && is_held row) then row.amount else 0) + sum_by held_part rest
one row rest true true live = sum_by-cons held_part row rest
one row rest true false live = let none = none_if_ended row.frozen (is_held row) row.amount live in omega (arith, none)
one row rest false l live = omega arith

-- frozen trades are live, so that those of a pair are all among its live ones
pub held_of_live : (product seller buyer : ℕ) (rows : List TradeRow) → FrozenAreLive rows → sum_by held_part (live_between product seller buyer rows) ≡ held_of product seller buyer rows
held_of_live product seller buyer [] live = refl
held_of_live product seller buyer (row ∷ rows) live =
    let test : TradeRow → ℕ = λ r. if is_between product seller buyer r && (r.frozen && is_held r) then r.amount else 0 in
    omega (
      arith,
      one row (live_between product seller buyer rows) (is_between product seller buyer row) (is_live row.state) (All-head (λ (r : TradeRow). IsTrue r.frozen → IsTrue (is_live r.state)) row rows live),
      held_of_live product seller buyer rows (All-tail (λ (r : TradeRow). IsTrue r.frozen → IsTrue (is_live r.state)) row rows live),
      sum_by-cons test row rows,
    )

-- the network has that sum for each pair of members
pub held_at : (members product seller buyer : ℕ) (rows : List TradeRow) → seller < members → buyer < members → at (held_network members product rows) seller buyer ≡ held_of product seller buyer rows
held_at members product seller buyer rows in_seller in_buyer = at-network_by_within members seller buyer (λ i j. held_of product i j rows) in_seller in_buyer

-- and nothing for others
part_of_others : (i j a b m : ℕ) → (a ≢ i) ⊎ (b ≢ j) → pair_part i j (row_of a b m) ≡ 0
part_of_others i j a b m =
    ⊎_elim (λ (ne : a ≢ i). pair_part-seller i j (row_of a b m) (λ e. ne (sym e)))
    (λ (ne : b ≢ j). ⊎_elim (λ (e : i ≡ a). pair_part-buyer i j (row_of a b m) e (λ e'. ne (sym e'))) (λ (other : i ≢ a). pair_part-seller i j (row_of a b m) other) (cases_eq i a))

outside : (n i j : ℕ) (f : ℕ → ℕ → ℕ) → ((a b : ℕ) → a < n → b < n → (a ≢ i) ⊎ (b ≢ j)) → at (network_by n f) i j ≡ 0
outside n i j f other =
    at-network_by n i j f
    ∙ sum_below-none n (λ a. sum_below n (λ b. pair_part i j (row_of a b (f a b)))) (λ a in_a.
    sum_below-none n (λ b. pair_part i j (row_of a b (f a b))) (λ b in_b. part_of_others i j a b (f a b) (other a b in_a in_b)))

pub held_of_no_seller : (members product seller buyer : ℕ) (rows : List TradeRow) → members ≤ seller → at (held_network members product rows) seller buyer ≡ 0
held_of_no_seller members product seller buyer rows out = outside members seller buyer (λ i j. held_of product i j rows) (λ a b in_a in_b. inl (λ e. omega (arith, e, in_a, out)))

pub held_of_no_buyer : (members product seller buyer : ℕ) (rows : List TradeRow) → members ≤ buyer → at (held_network members product rows) seller buyer ≡ 0
held_of_no_buyer members product seller buyer rows out = outside members seller buyer (λ i j. held_of product i j rows) (λ a b in_a in_b. inr (λ e. omega (arith, e, in_b, out)))

-- so much is held where nothing is left of it
pub none_left : (amount held : ℕ) → ((amount - held) == 0) ≡ nat_le amount held
none_left amount held =
    ⊎_elim (λ (le : (nat_le amount held ≡ true) × (amount ≤ held)). eq-eqb (amount - held) 0 (omega (arith, le.1)) ∙ sym (le.0))
    (λ (gt : (nat_le amount held ≡ false) × (held < amount)). ne_eqb (amount - held) 0 (λ e. omega (arith, e, gt.1)) ∙ sym (gt.0)) (leb_tells amount held)

pub left_is_held : (amount held listed : ℕ) → listed ≡ held → ((amount - listed) == 0) ≡ nat_le amount held
left_is_held amount held listed e = ap (λ n. (amount - n) == 0) e ∙ none_left amount held

pub nothing_held : (amount held : ℕ) → held ≡ 0 → (amount == 0) ≡ nat_le amount held
nothing_held amount held e =
    let same : amount - 0 ≡ amount = omega arith in
    ap (λ n. n == 0) (sym same) ∙ none_left amount 0 ∙ ap (nat_le amount) (sym e)
