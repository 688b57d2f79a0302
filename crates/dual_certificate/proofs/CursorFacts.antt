-- What stands at a cursor that has the place of its row.
use Rattle.std.proofs.Common.{◌≡◌, ◌≢◌, ℕ, ◌+◌, ◌*◌, ◌/◌, ◌%◌, ◌<◌, ◌≤◌, Some, List, length, get_or, ◌∙◌, arith, ⊎_elim}
use Rattle.std.proofs.lemmas.Bool.{cases_lt}
use Rattle.network_laws.specs.declared.rows.Row.{Row}
use Rattle.network_laws.specs.declared.rows.LimitRow.{LimitRow}
use Rattle.network_laws.specs.Networks.{place, amount_in, IsRising, IsCursor, AreRows}
use Rattle.network_laws.specs.Limits.{lower_in, upper_in, limit_place, IsRisingLimits, IsLimitCursor, AreLimitRows}
use Rattle.network_laws.proofs.LimitOrder.{is_for-other, is_for-yes, found_at, lookup_none}
use Rattle.network_laws.proofs.RowOrder.{amount_here, amount_none}
use Rattle.network_laws.proofs.RowSums.{pair_part-is}
use Rattle.network_laws.proofs.LimitOrder as LimitOrder
use Rattle.network_laws.proofs.RowOrder as RowOrder
use Rattle.dual_certificate.specs.Walks.{no_pair}
use Rattle.dual_certificate.proofs.PairFacts.{split, limit_from, row_from, no_limit, no_row, limit_here, limit_end, row_here, row_end}

-- a place before the end's is that of a row
pub row_stands : (rows : List Row) (m w : ℕ) → row_from rows m ≡ w → w < no_pair → m < length rows
row_stands rows m w e l = ⊎_elim (λ (b : m < length rows). b) (λ (g : length rows ≤ m). absurd (omega (arith, e, row_end rows m g))) (cases_lt m (length rows))

pub limit_stands : (rows : List LimitRow) (m w : ℕ) → limit_from rows m ≡ w → w < no_pair → m < length rows
limit_stands rows m w e l = ⊎_elim (λ (b : m < length rows). b) (λ (g : length rows ≤ m). absurd (omega (arith, e, limit_end rows m g))) (cases_lt m (length rows))

-- the cursor of the next place is behind the row, or the same
pub row_past : (rows : List Row) (m w : ℕ) → IsRising rows → IsCursor rows m w → row_from rows m ≡ w → w < no_pair → IsCursor rows (m + 1) (w + 1)
row_past rows m w rising cursor e l =
    let b = row_stands rows m w e l in
    RowOrder.cursor_past rows m w no_row rising cursor b (omega (arith, e, row_here rows m no_row b))

pub row_stays : (rows : List Row) (m w : ℕ) → IsRising rows → IsCursor rows m w → row_from rows m ≢ w → IsCursor rows m (w + 1)
row_stays rows m w rising cursor ne = RowOrder.cursor_stays rows m w rising cursor (λ d b q. ne (row_here rows m d b ∙ q))

pub limit_past : (rows : List LimitRow) (m w : ℕ) → IsRisingLimits rows → IsLimitCursor rows m w → limit_from rows m ≡ w → w < no_pair → IsLimitCursor rows (m + 1) (w + 1)
limit_past rows m w rising cursor e l =
    let b = limit_stands rows m w e l in
    LimitOrder.cursor_past rows m w no_limit rising cursor b (omega (arith, e, limit_here rows m no_limit b))

pub limit_stays : (rows : List LimitRow) (m w : ℕ) → IsRisingLimits rows → IsLimitCursor rows m w → limit_from rows m ≢ w → IsLimitCursor rows m (w + 1)
limit_stays rows m w rising cursor ne = LimitOrder.cursor_stays rows m w rising cursor (λ d b q. ne (limit_here rows m d b ∙ q))

-- the pair of a place has its row at the cursor, or none
module _ (rows : List Row) (m w : ℕ) (rising : IsRising rows) (cursor : IsCursor rows m w) where
  pub amount_of_row : (n : ℕ) (d : Row) → n ≤ 256 → AreRows n rows → row_from rows m ≡ w → w < no_pair → amount_in rows (w / 65536) (w % 65536) ≡ (get_or rows m d).amount
  amount_of_row n d few h e l =
      let b = row_stands rows m w e l in
      let here : place (get_or rows m d) ≡ w = omega (arith, e, row_here rows m d b) in
      let good = h.good m d b in
      amount_here rows (w / 65536) (w % 65536) m d b rising (λ k x lk. omega (arith, cursor.before k x lk, split w)) (λ k x mk lk. omega (arith, cursor.behind k x mk lk, split w))
      ∙ pair_part-is (w / 65536) (w % 65536) (get_or rows m d) (omega (arith, here, good.buyer, few)) (omega (arith, here, good.buyer, few))

  pub amount_elsewhere : row_from rows m ≢ w → amount_in rows (w / 65536) (w % 65536) ≡ 0
  amount_elsewhere ne =
      let stays = row_stays rows m w rising cursor ne in
      amount_none rows (w / 65536) (w % 65536) (λ k d lk q.
      ⊎_elim (λ (b : k < m). omega (arith, q, split w, cursor.before k d b)) (λ (g : m ≤ k). omega (arith, q, split w, stays.behind k d g lk)) (cases_lt k m))

module _ (rows : List LimitRow) (m w : ℕ) (rising : IsRisingLimits rows) (cursor : IsLimitCursor rows m w) where
  pub bounds_of_row : (n : ℕ) (d : LimitRow) → n ≤ 256 → AreLimitRows n rows → limit_from rows m ≡ w → w < no_pair → (lower_in rows (w / 65536) (w % 65536) ≡ (get_or rows m d).lower) × (upper_in rows (w / 65536) (w % 65536) ≡ (get_or rows m d).upper)
  bounds_of_row n d few h e l =
      let b = limit_stands rows m w e l in
      let here : limit_place (get_or rows m d) ≡ w = omega (arith, e, limit_here rows m d b) in
      let good = h.good m d b in
      let at_pair : IsLimitCursor rows m ((w / 65536) * 65536 + w % 65536) = rw (split w) cursor in
      found_at rows (w / 65536) (w % 65536) m rising at_pair d b (is_for-yes (w / 65536) (w % 65536) (get_or rows m d) (omega (arith, here, good.buyer, few)) (omega (arith, here, good.buyer, few)))

  pub bounds_elsewhere : limit_from rows m ≢ w → (lower_in rows (w / 65536) (w % 65536) ≡ 0) × (upper_in rows (w / 65536) (w % 65536) ≡ Some 0)
  bounds_elsewhere ne =
      let stays = limit_stays rows m w rising cursor ne in
      lookup_none rows (w / 65536) (w % 65536) (λ k d lk. is_for-other (w / 65536) (w % 65536) (get_or rows k d) (λ q.
      ⊎_elim (λ (b : k < m). omega (arith, q, split w, cursor.before k d b)) (λ (g : m ≤ k). omega (arith, q, split w, stays.behind k d g lk)) (cases_lt k m)))
