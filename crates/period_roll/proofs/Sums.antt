-- Sums over trades that were filtered, moved and numbered.
use Rattle.std.proofs.Common.{◌≡◌, ℕ, suc, ◌+◌, Bool, true, false, List, [], ◌∷◌, filter, sum_by, Ok, if◌then◌else◌, refl, sym, ap, ◌∙◌, arith}
use Rattle.std.proofs.lemmas.List.Sums.{sum_by-cons}
use Rattle.command_types.specs.declared.trade.TradeRow.{TradeRow}
use Rattle.command_types.specs.Roster.{Rows}
use Rattle.period_roll.specs.Trades.{moved_trade, moved_trades, numbered_from}
use Rattle.period_roll.proofs.Moved.{IsMoved, is_moved, is_joined}

both : (a b c d : ℕ) → a ≡ c → b ≡ d → a + b ≡ c + d
both a b c d e f = omega (arith, e, f)

-- a sum of nothing
pub sums_none : (f : TradeRow → ℕ) → ((row : TradeRow) → f row ≡ 0) → (rows : List TradeRow) → sum_by f rows ≡ 0
sums_none f none [] = refl
sums_none f none (row ∷ rows) = sum_by-cons f row rows ∙ both (f row) (sum_by f rows) 0 0 (none row) (sums_none f none rows)

-- a sum over those for which a test holds
module _ (test : TradeRow → Bool) (f g : TradeRow → ℕ) (agree : (row : TradeRow) → (if test row then f row else 0) ≡ g row) where
  filtered_by : (row : TradeRow) (rows : List TradeRow) (t : Bool) → test row ≡ t → sum_by f (filter test rows) ≡ sum_by g rows →
      sum_by f (if t then row ∷ filter test rows else filter test rows) ≡ g row + sum_by g rows
  filtered_by row rows true is rest =
      sum_by-cons f row (filter test rows) ∙ both (f row) (sum_by f (filter test rows)) (g row) (sum_by g rows) (sym (ap (λ t. if t then f row else 0) is) ∙ agree row) rest
  filtered_by row rows false is rest =
      let none : g row ≡ 0 = sym (agree row) ∙ ap (λ t. if t then f row else 0) is in
      omega (arith, rest, none)

  pub sums_filtered : (rows : List TradeRow) → sum_by f (filter test rows) ≡ sum_by g rows
  sums_filtered [] = refl
  sums_filtered (row ∷ rows) = filtered_by row rows (test row) refl (sums_filtered rows) ∙ sym (sum_by-cons g row rows)

-- a sum over moved trades
module _ (old new : Rows) (f g : TradeRow → ℕ) (each : (row moved : TradeRow) → IsMoved old new row moved → g moved ≡ f row) where
  pub sums_moved : (rows made : List TradeRow) → moved_trades old new rows ≡ Ok made → sum_by g made ≡ sum_by f rows
  sums_moved [] made e = let none : [] ≡ made = cc in ap (sum_by g) (sym none)
  sums_moved (row ∷ rows) made e =
      let is = is_joined (moved_trade old new row) (moved_trades old new rows) made e in
      ap (sum_by g) (sym is.same) ∙ sum_by-cons g is.moved is.more
      ∙ both (g is.moved) (sum_by g is.more) (f row) (sum_by f rows) (each row is.moved (is_moved old new row is.moved is.first_is)) (sums_moved rows is.more is.rest_is)
      ∙ sym (sum_by-cons f row rows)

-- a sum that sees no numbers
module _ (g : TradeRow → ℕ) (blind : (row : TradeRow) (n : ℕ) → g (record row { number = n }) ≡ g row) where
  pub sums_numbered : (n : ℕ) (rows : List TradeRow) → sum_by g (numbered_from n rows) ≡ sum_by g rows
  sums_numbered n [] = refl
  sums_numbered n (row ∷ rows) =
      sum_by-cons g (record row { number = n }) (numbered_from (suc n) rows)
      ∙ both (g (record row { number = n })) (sum_by g (numbered_from (suc n) rows)) (g row) (sum_by g rows) (blind row n) (sums_numbered (suc n) rows)
      ∙ sym (sum_by-cons g row rows)
