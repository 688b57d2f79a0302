-- The sums that a book keeps beside its trades: of each product, of each member in it, and of each ordered pair of members in it.
use Rattle.std.specs.Prelude.{◌≡◌, ℕ, ◌+◌, ◌-◌, ◌*◌, ◌<◌, ◌≤◌, ◌^◌, ◌==◌, ◌&&◌, Bool, List, length, slice_index, slice_set, if◌then◌else◌}
use Rattle.command_types.specs.declared.trade.TradeRow.{TradeRow}
use Rattle.command_types.specs.Trades.{counts, is_live, total_where}
use Rattle.product_book.specs.declared.kept.KeptSums.{KeptSums}
use Rattle.product_book.specs.Book.{IsBook}
use Rattle.units_core.specs.declared.limits.TheConstants.{MOST_MEMBERS, MOST_PRODUCTS}

-- the place of a member in a product, and that of an ordered pair
abbrev pub member_place : ℕ → ℕ → ℕ → ℕ
member_place members product member = product * members + member

abbrev pub pair_place : ℕ → ℕ → ℕ → ℕ → ℕ
pair_place members product seller buyer = member_place members (member_place members product seller) buyer

-- the places of a trade's seller, of its buyer, and of the two together
abbrev pub seller_place : ℕ → TradeRow → ℕ
seller_place members row = member_place members row.product row.seller

abbrev pub buyer_place : ℕ → TradeRow → ℕ
buyer_place members row = member_place members row.product row.buyer

abbrev pub trade_place : ℕ → TradeRow → ℕ
trade_place members row = pair_place members row.product row.seller row.buyer

-- what a trade adds to its product's sum, and to those of its members and of its pair
abbrev pub counted_part : TradeRow → ℕ
counted_part row = if counts row.state then row.amount else 0

abbrev pub live_part : TradeRow → ℕ
live_part row = if is_live row.state then row.amount else 0

-- one sum raised, and one moved from what a trade added to what it adds now
abbrev pub raised : List ℕ → ℕ → ℕ → List ℕ
raised sums place more = slice_set sums place (slice_index sums place + more)

abbrev pub moved : List ℕ → ℕ → ℕ → ℕ → List ℕ
moved sums place less more = slice_set sums place (slice_index sums place - less + more)

-- each sum is that of the trades with its place for which the test holds
abbrev pub AreSums : (TradeRow → ℕ) → (TradeRow → Bool) → List ℕ → List TradeRow → Type 0
AreSums key test sums rows = (n : ℕ) → n < length sums → slice_index sums n ≡ total_where (λ row. (key row == n) && test row) rows

-- the sums of these trades: of each product, the alleged and live amounts; of each member in it, the live ones that it sold and those that it bought; of each pair, the live ones
pub record AreKept (members products : ℕ) (sums : KeptSums) (rows : List TradeRow) : Type 0 where
  pub product_count : length sums.products.items ≡ products
  pub sold_count : length sums.sold.items ≡ members * products
  pub bought_count : length sums.bought.items ≡ members * products
  pub pair_count : length sums.pairs.items ≡ members * (members * products)
  pub of_products : AreSums (λ row. row.product) (λ row. counts row.state) sums.products.items rows
  pub of_sellers : AreSums (seller_place members) (λ row. is_live row.state) sums.sold.items rows
  pub of_buyers : AreSums (buyer_place members) (λ row. is_live row.state) sums.bought.items rows
  pub of_pairs : AreSums (trade_place members) (λ row. is_live row.state) sums.pairs.items rows

-- a trade has its places among the sums
pub record IsPlaced (members : ℕ) (sums : KeptSums) (row : TradeRow) : Type 0 where
  pub few : members ≤ MOST_MEMBERS
  pub few_products : length sums.products.items ≤ MOST_PRODUCTS
  pub seller : row.seller < members
  pub buyer : row.buyer < members
  pub product : row.product < length sums.products.items
  pub sold : seller_place members row < length sums.sold.items
  pub bought : buyer_place members row < length sums.bought.items
  pub pair : trade_place members row < length sums.pairs.items

-- what a trade adds fits its sums
pub record CanEnter (members : ℕ) (sums : KeptSums) (row : TradeRow) : Type 0 where
  pub placed : IsPlaced members sums row
  pub product : slice_index sums.products.items row.product + counted_part row < 2 ^ 64
  pub sold : slice_index sums.sold.items (seller_place members row) + live_part row < 2 ^ 64
  pub bought : slice_index sums.bought.items (buyer_place members row) + live_part row < 2 ^ 64
  pub pair : slice_index sums.pairs.items (trade_place members row) + live_part row < 2 ^ 64

-- and is added
pub record IsEntered (members : ℕ) (before after : KeptSums) (row : TradeRow) : Type 0 where
  pub members_is : after.members ≡ before.members
  pub products : after.products.items ≡ raised before.products.items row.product (counted_part row)
  pub sold : after.sold.items ≡ raised before.sold.items (seller_place members row) (live_part row)
  pub bought : after.bought.items ≡ raised before.bought.items (buyer_place members row) (live_part row)
  pub pairs : after.pairs.items ≡ raised before.pairs.items (trade_place members row) (live_part row)

-- what a trade added before a change is in a sum, and what it adds now fits it
pub record CanMove (sum less more : ℕ) : Type 0 where
  pub part : less ≤ sum
  pub fits : sum - less + more < 2 ^ 64

pub record CanSettle (members : ℕ) (sums : KeptSums) (old new : TradeRow) : Type 0 where
  pub placed : IsPlaced members sums old
  pub product : CanMove (slice_index sums.products.items old.product) (counted_part old) (counted_part new)
  pub sold : CanMove (slice_index sums.sold.items (seller_place members old)) (live_part old) (live_part new)
  pub bought : CanMove (slice_index sums.bought.items (buyer_place members old)) (live_part old) (live_part new)
  pub pair : CanMove (slice_index sums.pairs.items (trade_place members old)) (live_part old) (live_part new)

-- and is put in its place
pub record IsSettled (members : ℕ) (before after : KeptSums) (old new : TradeRow) : Type 0 where
  pub members_is : after.members ≡ before.members
  pub products : after.products.items ≡ moved before.products.items old.product (counted_part old) (counted_part new)
  pub sold : after.sold.items ≡ moved before.sold.items (seller_place members old) (live_part old) (live_part new)
  pub bought : after.bought.items ≡ moved before.bought.items (buyer_place members old) (live_part old) (live_part new)
  pub pairs : after.pairs.items ≡ moved before.pairs.items (trade_place members old) (live_part old) (live_part new)

-- what each book keeps, with its sums
pub record IsSummedBook (members products submitted : ℕ) (sums : KeptSums) (rows : List TradeRow) : Type 0 where
  pub book : IsBook members products submitted rows
  pub kept : AreKept members products sums rows
