-- The market of a number: who takes part is always the same, and the trades are drawn by a linear congruential generator
-- that starts from the number.
use Rattle.std.specs.Prelude.{ℕ, zero, suc, ◌+◌, ◌*◌, ◌/◌, ◌%◌, ◌^◌, nat_lt, List, [], ◌∷◌, map, None, if◌then◌else◌}
use Rattle.std.specs.List.{range_with_len}
use Rattle.units_core.specs.Day.{two_digits_of}
use Rattle.command_types.specs.Roster.{Rows}
use Rattle.command_types.specs.declared.roster.Role.TheVariants.{Dealer, Customer}
use Rattle.command_types.specs.declared.roster.MemberRow.{MemberRow}
use Rattle.command_types.specs.declared.roster.ProductRow.{ProductRow}
use Rattle.trade_file.specs.declared.file_trade.FileTrade.{FileTrade}

-- the state that a draw leaves
abbrev pub next_state : ℕ → ℕ
next_state s = (s * 6364136223846793005 + 1442695040888963407) % 2 ^ 64

-- what is drawn where this state is left: its high 31 bits
abbrev pub drawn : ℕ → ℕ
drawn s = s / 2 ^ 33

-- the member of this number among all but one
abbrev pub other_than : ℕ → ℕ → ℕ
other_than one n = if nat_lt n one then n else n + 1

-- the trade for which four draws leave these states
abbrev pub trade_drawn : ℕ → ℕ → ℕ → ℕ → FileTrade
trade_drawn first second third fourth = record {
  seller = drawn first % 44;
  buyer = other_than (drawn first % 44) (drawn second % 43);
  product = drawn third % 8;
  amount = 1 + drawn fourth % 1000000;
}

-- the trade that is drawn from a state on
abbrev pub trade_from : ℕ → FileTrade
trade_from s = trade_drawn (next_state s) (next_state (next_state s)) (next_state (next_state (next_state s))) (next_state (next_state (next_state (next_state s))))

-- the state that the four draws of a trade leave
abbrev pub after_trade : ℕ → ℕ
after_trade s = next_state (next_state (next_state (next_state s)))

-- the state that the draws of so many trades leave
unfoldable pub state_after : ℕ → ℕ → ℕ
state_after number zero = number
state_after number (suc trades) = after_trade (state_after number trades)

-- the first so many trades of a number
unfoldable pub first_trades : ℕ → ℕ → List FileTrade
first_trades number count = map (λ k. trade_from (state_after number k)) (range_with_len 0 count)

-- the trades of a number
abbrev pub generated_trades : ℕ → List FileTrade
generated_trades number = first_trades number 3000

-- `D00` to `D13`, and from 14 on `C14` and so on
abbrev pub generated_name : ℕ → List ℕ
generated_name n = (if nat_lt n 14 then 68 else 67) ∷ two_digits_of n

-- the members below 14 are dealers; each key is the name
abbrev pub generated_member : ℕ → MemberRow
generated_member n = record { name = generated_name n; role = if nat_lt n 14 then Dealer else Customer; key = generated_name n }

-- `P0` and so on, which mature on 2040-01-01
abbrev pub generated_product : ℕ → ProductRow
generated_product n = record { name = 80 ∷ (48 + n) ∷ []; maturity = record { year = 2040; month = 1; day = 1 } }

-- the first so many members
unfoldable pub first_members : ℕ → List MemberRow
first_members count = map generated_member (range_with_len 0 count)

-- the first so many products
unfoldable pub first_products : ℕ → List ProductRow
first_products count = map generated_product (range_with_len 0 count)

-- 44 members and 8 products, and nobody operates
abbrev pub generated_rows : Rows
generated_rows = record { members = first_members 44; products = first_products 8; operator = None }
