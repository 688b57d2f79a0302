-- What is written of a state that can be written as a base, and the state of a base that fits: the laws.
use Rattle.std.proofs.Common.{◌≡◌, ℕ, suc, ◌+◌, List, [], ◌∷◌, length, All, IsTrue, refl, sym, ap, subst, arith}
use Rattle.std.proofs.lemmas.List.{length-map}
use Rattle.std.proofs.lemmas.List.Elements.{All-nil, All-cons, All-weaker}
use Rattle.units_core.specs.Number.{is_amount}
use Rattle.command_types.specs.declared.roster.MemberRow.{MemberRow}
use Rattle.command_types.specs.declared.roster.ProductRow.{ProductRow}
use Rattle.command_types.specs.declared.trade.TradeRow.{TradeRow}
use Rattle.command_types.specs.Roster.{Rows}
use Rattle.command_types.specs.Plans.{thawed, thawed_row}
use Rattle.command_types.specs.Bases.{AreNumbered, AreTradeRows, IsTradeIn}
use Rattle.product_book.specs.Book.{AreTrades}
use Rattle.trade_history.specs.Book.{AreNumbered as AreCounted}
use Rattle.cycle_states.proofs.BaseFacts.{trades_of_base}
use Rattle.cycle_laws.specs.Bases.{FittingIsWritable, SpellingsStandForBases, WritableCanBeWritten}
use Rattle.cycle_laws.proofs.Bases.{writable_comes_back, writable_fits}
use Rattle.cycle_laws.proofs.Writable.{IsFreshRow}

-- ---- the state of a base that fits

thawed_numbered : (n : ℕ) (rows : List TradeRow) → AreNumbered n rows → thawed rows ≡ rows
thawed_numbered n [] numbered = refl
thawed_numbered n (row ∷ rows) (number, free, later) = (λ i. (record row { frozen = sym free i }) ∷ thawed_numbered (suc n) rows later i)

counted : (n : ℕ) (rows : List TradeRow) → AreNumbered (suc n) rows → AreCounted n rows
counted n [] numbered = tt
counted n (row ∷ rows) (number, free, later) = (number, counted (suc n) rows later)

pub fitting_is_writable : FittingIsWritable
fitting_is_writable roster b few_members few_products can fits = record {
  market = record {
    same = refl;
    closed = record { phase = refl; mode = refl; free = thawed_numbered 1 b.trades can.numbered; numbered = counted 0 b.trades can.numbered };
    book = record {
      few_members = few_members;
      few_products = few_products;
      trades = trades_of_base (length roster.members) (length roster.products) 1 b.trades can.numbered fits.trades;
      bounded = fits.bounded;
      counted = refl;
    };
  };
  clear = refl;
  fresh = All-weaker (IsTradeIn (length roster.members) (length roster.products)) IsFreshRow (λ row is. is.fresh) b.trades fits.trades;
  few = fits.few;
  settings = fits.settings;
  rising = can.rising;
}

-- ---- what is written

first_same : (a b : TradeRow) (xs ys : List TradeRow) → a ∷ xs ≡ b ∷ ys → (a ≡ b) × (xs ≡ ys)
first_same a b xs ys e = (cc, cc)

numbered_thawed : (members products n : ℕ) (rows : List TradeRow) → AreTrades members products n rows → thawed rows ≡ rows → AreNumbered n rows
numbered_thawed members products n [] are free = tt
numbered_thawed members products n (row ∷ rows) (here, later) free =
    let parts = first_same (thawed_row row) row (thawed rows) rows free in
    let next : n + 1 ≡ suc n = omega arith in
    (here.number, sym (ap (λ (r : TradeRow). r.frozen) parts.0), subst (λ k. AreNumbered k rows) next (numbered_thawed members products (n + 1) rows later parts.1))

pub writable_can_be_written : WritableCanBeWritten
writable_can_be_written roster base is =
    let few : length base.state.roster.members ≡ length roster.members = ap (λ (r : Rows). length r.members) is.market.same in
    let few_products : length base.state.roster.products ≡ length roster.products = ap (λ (r : Rows). length r.products) is.market.same in
    let members = is.market.book.few_members in
    let products = is.market.book.few_products in
    record {
      few_members = omega (arith, length-map base.state.roster.members (λ (row : MemberRow). row.name), few, members);
      few_products = omega (arith, length-map base.state.roster.products (λ (row : ProductRow). row.name), few_products, products);
      rising = is.rising;
      numbered = numbered_thawed (length roster.members) (length roster.products) 1 base.state.trades is.market.book.trades is.market.closed.free;
    }

amounts : (n : ℕ) (rows : List TradeRow) → AreTradeRows n rows → All (λ row. IsTrue (is_amount row.amount)) rows
amounts n [] are = All-nil (λ (row : TradeRow). IsTrue (is_amount row.amount))
amounts n (row ∷ rows) (here, later) = All-cons (λ (row : TradeRow). IsTrue (is_amount row.amount)) row rows here.amount (amounts (suc n) rows later)

pub spellings_stand_for_bases : SpellingsStandForBases
spellings_stand_for_bases roster base bytes is small spells = (
  writable_fits roster base is small.position small.cycle small.version (amounts 1 base.state.trades spells.fields.trades),
  sym (writable_comes_back roster base is),
)
