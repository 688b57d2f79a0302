-- The market of a number, row by row.
use Rattle.std.proofs.Common.{◌≡◌, refl, sym, ap, subst, ℕ, suc, ◌+◌, ◌*◌, ◌%◌, ◌<◌, ◌≤◌, [], ◌∷◌, ◌++◌, length, arith, add-one, zero, cond, eqb, ltb, Bool, true, false, ◌≢◌}
use Rattle.std.proofs.lemmas.List.FromFn.{map-range_with_len_more, length-map-range_with_len, get_or-map-range_with_len, sum_by-map-range_with_len_more}
use Rattle.std.proofs.lemmas.Bool.Decides.{nat_tests}
use Rattle.command_types.specs.Roster.{IsRoster}
use Rattle.trade_file.specs.declared.file_trade.FileTrade.{FileTrade}
use Rattle.trade_file.specs.TradeFile.{IsFileTrade, AreFileTrades, product_part, product_total}
use Rattle.trade_file.specs.Generated.{next_state, drawn, other_than, after_trade, trade_from, state_after, first_trades, generated_member, generated_product, first_members, first_products, generated_rows}

pub no_trades : (number : ℕ) → first_trades number 0 ≡ []
unfolding first_trades
no_trades number = refl

pub trades_more : (number count : ℕ) → first_trades number (count + 1) ≡ first_trades number count ++ trade_from (state_after number count) ∷ []
unfolding first_trades
trades_more number count = map-range_with_len_more (λ k. trade_from (state_after number k)) 0 count count (omega arith)

pub state_first : (number : ℕ) → state_after number 0 ≡ number
unfolding state_after
state_first number = refl

pub state_more : (number count : ℕ) → state_after number (count + 1) ≡ after_trade (state_after number count)
unfolding state_after
state_more number count = ap (state_after number) (add-one count)

pub no_members : first_members 0 ≡ []
unfolding first_members
no_members = refl

pub members_more : (count : ℕ) → first_members (count + 1) ≡ first_members count ++ generated_member count ∷ []
unfolding first_members
members_more count = map-range_with_len_more generated_member 0 count count (omega arith)

pub length-members : (count : ℕ) → length (first_members count) ≡ count
unfolding first_members
length-members count = length-map-range_with_len generated_member 0 count

pub no_products : first_products 0 ≡ []
unfolding first_products
no_products = refl

pub products_more : (count : ℕ) → first_products (count + 1) ≡ first_products count ++ generated_product count ∷ []
unfolding first_products
products_more count = map-range_with_len_more generated_product 0 count count (omega arith)

pub length-products : (count : ℕ) → length (first_products count) ≡ count
unfolding first_products
length-products count = length-map-range_with_len generated_product 0 count

-- no name comes twice, and the rows are few
pub is_roster : IsRoster generated_rows
unfolding first_members first_products
is_roster = record {
  few_members = omega arith;
  few_dealers = omega arith;
  few_products = omega arith;
  different = refl;
}

-- the other of two members is another one
other_by : (b : Bool) (one n : ℕ) → ltb n one ≡ b → n < 43 → (cond b n (n + 1) < 44) × (one ≢ cond b n (n + 1))
other_by true one n e l = grind (arith, nat_tests)
other_by false one n e l = grind (arith, nat_tests)

other_is : (one n : ℕ) → n < 43 → (other_than one n < 44) × (one ≢ other_than one n)
other_is one n l = other_by (ltb n one) one n refl l

pub trade_is : (s : ℕ) → IsFileTrade generated_rows (trade_from s)
trade_is s =
    let first = next_state s in
    let second = next_state first in
    let third = next_state second in
    let other : (other_than (drawn first % 44) (drawn second % 43) < 44) × (drawn first % 44 ≢ other_than (drawn first % 44) (drawn second % 43)) = other_is (drawn first % 44) (drawn second % 43) (omega arith) in
    record {
      seller = rw length-members (omega arith);
      buyer = rw length-members other.0;
      different = other.1;
      product = rw length-products (omega arith);
      positive = omega arith;
    }

part_by : (b : Bool) (amount : ℕ) → amount ≤ 1000000 → cond b amount 0 ≤ 1000000
part_by true amount l = l
part_by false amount l = omega arith

part_small : (product s : ℕ) → product_part product (trade_from s) ≤ 1000000
part_small product s = part_by (eqb (trade_from s).product product) (trade_from s).amount (omega arith)

-- what is drawn adds up to little
total_small : (number product count : ℕ) → product_total (first_trades number count) product ≤ count * 1000000
unfolding first_trades
total_small number product zero = omega arith
total_small number product (suc count) =
    let part : product_part product (trade_from (state_after number count)) ≤ 1000000 = part_small product (state_after number count) in
    let rest : product_total (first_trades number count) product ≤ count * 1000000 = total_small number product count in
    let more : product_total (first_trades number (count + 1)) product ≡ product_total (first_trades number count) product + product_part product (trade_from (state_after number count)) = sum_by-map-range_with_len_more (product_part product) (λ k. trade_from (state_after number k)) 0 count count (omega arith) in
    let one : product_total (first_trades number (count + 1)) product ≡ product_total (first_trades number (suc count)) product = ap (λ n. product_total (first_trades number n) product) (add-one count) in
    omega (arith, part, rest, more, one)

pub are_trades : (number count : ℕ) → count ≤ 3000 → AreFileTrades generated_rows (first_trades number count)
unfolding first_trades
are_trades number count few = record {
  each = λ k d l.
      let f : ℕ → FileTrade = λ k. trade_from (state_after number k) in
      let within : k < count = omega (arith, length-map-range_with_len f 0 count) in
      subst (IsFileTrade generated_rows) (sym (get_or-map-range_with_len f 0 count k k d within (omega arith))) (trade_is (state_after number k));
  within = λ product. omega (arith, total_small number product count);
}
