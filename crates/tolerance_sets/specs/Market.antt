-- What the limits of a product follow from, as the walk over the pairs has it.
use Rattle.std.specs.Prelude.{◌≡◌, ℕ, ◌+◌, ◌*◌, ◌<◌, ◌≤◌, Bool, true, false, List, [], length, slice_get}
use Rattle.network_laws.specs.declared.rows.LimitRow.{LimitRow}
use Rattle.network_laws.specs.Networks.{IsRising, IsCursor, amount_in}
use Rattle.command_types.specs.declared.roster.MemberRow.{MemberRow}
use Rattle.command_types.specs.declared.tolerance.ToleranceRow.{ToleranceRow}
use Rattle.command_types.specs.Tolerances.{is_dealer_row, may_grow, pair_limit, limit_row, pair_lower, pair_floor, pair_upper, pair_ceiling}
use Rattle.tolerance_sets.specs.declared.limits.Market.{Market}
use Rattle.tolerance_sets.specs.declared.pair_cursor.PairCursor.{PairCursor}

-- no member from a place on is a dealer
abbrev pub AreNoDealers : List MemberRow → ℕ → Type 0
AreNoDealers members from = (k : ℕ) → from ≤ k → is_dealer_row (slice_get members k) ≡ false

-- rows are in order, and nobody owes himself
pub record IsMarket (market : Market) : Type 0 where
  pub network : IsRising market.network.now
  pub apart : (member : ℕ) → amount_in market.network.now member member ≡ 0
  pub held : IsRising market.held.now
  pub dealers : AreNoDealers market.members.now market.dealers_end

-- the row of a pair with this amount, so much of it held, that may grow or not
abbrev pub row_of_pair : List ToleranceRow → ℕ → ℕ → ℕ → ℕ → ℕ → Bool → List LimitRow
row_of_pair settings product seller buyer amount held grows =
    limit_row seller buyer
    (pair_lower amount (pair_floor settings product seller buyer) held)
    (pair_upper grows amount (pair_ceiling settings product seller buyer))

-- the row of a pair, if it has one
abbrev pub market_limit : Market → ℕ → ℕ → List LimitRow
market_limit market seller buyer =
    pair_limit market.mode market.members.now market.settings.now.settings market.product
    (record { members = length market.members.now; rows = market.network.now })
    (record { members = length market.members.now; rows = market.held.now })
    seller buyer

-- no pair of the seller with a buyer from one on and below another has a row
abbrev pub HaveNone : Market → ℕ → ℕ → ℕ → Type 0
HaveNone market seller from to = (buyer : ℕ) → from ≤ buyer → buyer < to → market_limit market seller buyer ≡ []

-- the cursors are those of the pair, and no pair between it and the growing one may grow
pub record IsAtPair (market : Market) (at : PairCursor) : Type 0 where
  pub end : at.buyer ≤ length market.members.now
  pub row_end : at.row_at ≤ length market.network.now
  pub row : IsCursor market.network.now at.row_at (at.seller * 65536 + at.buyer)
  pub held_end : at.held_at ≤ length market.held.now
  pub held : IsCursor market.held.now at.held_at (at.seller * 65536 + at.buyer)
  pub growing : (buyer : ℕ) → at.buyer ≤ buyer → buyer < at.growing → may_grow market.mode market.members.now at.seller buyer ≡ false

-- with the growing buyer, if he is a member, the seller's pair may grow
abbrev pub KnowsGrowing : Market → PairCursor → Type 0
KnowsGrowing market at = at.growing < length market.members.now → may_grow market.mode market.members.now at.seller at.growing ≡ true
