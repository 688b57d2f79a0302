-- The walk over the pairs that have a row: what is passed, and the first pair at which a test finds something.
use Rattle.std.proofs.Common.{◌≡◌, ◌≢◌, ℕ, ◌+◌, ◌*◌, ◌/◌, ◌%◌, ◌<◌, ◌≤◌, min, Option, Some, None, List, length, get_or, ℤ, refl, ap, ◌∙◌, subst, arith, ⊎_elim}
use Rattle.std.specs.Prelude.{slice_get}
use Rattle.std.proofs.lemmas.Bool.{cases_eq, cases_lt}
use Rattle.std.proofs.lemmas.Option.{slice_get-get_or, slice_get_past}
use Rattle.network_laws.specs.declared.rows.Row.{Row}
use Rattle.network_laws.specs.declared.rows.LimitRow.{LimitRow}
use Rattle.network_laws.specs.declared.clash.Clash.{Clash}
use Rattle.network_laws.specs.Networks.{place, IsRising, IsCursor, AreRows}
use Rattle.network_laws.specs.Limits.{lower_in, upper_in, limit_place, IsRisingLimits, IsLimitCursor, AreLimitRows}
use Rattle.network_laws.specs.Clash.{first_below, first_pair}
use Rattle.network_laws.proofs.Clashes.{first_below-none, first_below-found}
use Rattle.network_laws.proofs.LimitOrder.{is_for-other, lookup_none}
use Rattle.network_laws.proofs.RowOrder.{amount_none}
use Rattle.dual_certificate.specs.declared.pair_cursor.Pairs.{Pairs}
use Rattle.dual_certificate.specs.Walks.{ArePairs, HasNoRow, HaveNoRow, no_pair, limit_or_end, row_or_end, rows_bounds_clash, rows_price_clash}

abbrev pub no_limit : LimitRow
no_limit = record { seller = 0; buyer = 0; lower = 0; upper = None }

abbrev pub no_row : Row
no_row = record { seller = 0; buyer = 0; amount = 0 }

pub split : (p : ℕ) → (p / 65536) * 65536 + p % 65536 ≡ p
split p = omega arith

-- the next rows of both lists
abbrev pub limit_from : List LimitRow → ℕ → ℕ
limit_from rows m = limit_or_end (slice_get rows m)

abbrev pub row_from : List Row → ℕ → ℕ
row_from rows m = row_or_end (slice_get rows m)

pub limit_here : (rows : List LimitRow) (m : ℕ) (d : LimitRow) → m < length rows → limit_from rows m ≡ limit_place (get_or rows m d)
limit_here rows m d l = ap limit_or_end (slice_get-get_or rows m d l)

pub limit_end : (rows : List LimitRow) (m : ℕ) → length rows ≤ m → limit_from rows m ≡ no_pair
limit_end rows m le = ap limit_or_end (slice_get_past rows m le)

pub row_here : (rows : List Row) (m : ℕ) (d : Row) → m < length rows → row_from rows m ≡ place (get_or rows m d)
row_here rows m d l = ap row_or_end (slice_get-get_or rows m d l)

pub row_end : (rows : List Row) (m : ℕ) → length rows ≤ m → row_from rows m ≡ no_pair
row_end rows m le = ap row_or_end (slice_get_past rows m le)

-- are not before the place of their cursor
pub limit_not_before : (rows : List LimitRow) (m w : ℕ) → w ≤ no_pair → IsLimitCursor rows m w → w ≤ limit_from rows m
limit_not_before rows m w le cursor =
    ⊎_elim (λ (l : m < length rows). omega (arith, limit_here rows m no_limit l, cursor.behind m no_limit (omega arith) l)) (λ (g : length rows ≤ m). omega (arith, le, limit_end rows m g)) (cases_lt m (length rows))

pub row_not_before : (rows : List Row) (m w : ℕ) → w ≤ no_pair → IsCursor rows m w → w ≤ row_from rows m
row_not_before rows m w le cursor =
    ⊎_elim (λ (l : m < length rows). omega (arith, row_here rows m no_row l, cursor.behind m no_row (omega arith) l)) (λ (g : length rows ≤ m). omega (arith, le, row_end rows m g)) (cases_lt m (length rows))

-- and the cursor of a place is that of each one up to the next row
pub limit_raised : (rows : List LimitRow) (m w v : ℕ) → IsRisingLimits rows → IsLimitCursor rows m w → w ≤ v → v ≤ limit_from rows m → IsLimitCursor rows m v
limit_raised rows m w v rising cursor le up_to = record {
  before = λ k d l. omega (arith, le, cursor.before k d l);
  behind = λ k d mk l.
      let first = limit_here rows m d (omega (arith, mk, l)) in
      ⊎_elim (λ (e : k ≡ m). omega (arith, up_to, first, ap (λ j. limit_place (get_or rows j d)) e)) (λ (ne : k ≢ m). omega (arith, up_to, first, rising m k d (omega (arith, mk, ne)) l)) (cases_eq k m);
}

pub row_raised : (rows : List Row) (m w v : ℕ) → IsRising rows → IsCursor rows m w → w ≤ v → v ≤ row_from rows m → IsCursor rows m v
row_raised rows m w v rising cursor le up_to = record {
  before = λ k d l. omega (arith, le, cursor.before k d l);
  behind = λ k d mk l.
      let first = row_here rows m d (omega (arith, mk, l)) in
      ⊎_elim (λ (e : k ≡ m). omega (arith, up_to, first, ap (λ j. place (get_or rows j d)) e)) (λ (ne : k ≢ m). omega (arith, up_to, first, rising m k d (omega (arith, mk, ne)) l)) (cases_eq k m);
}

-- a place is that of a pair of the first n members
abbrev pub IsOfMembers : ℕ → ℕ → Type 0
IsOfMembers n p = (p / 65536 < n) × (p % 65536 < n)

limit_of_members : (n : ℕ) (rows : List LimitRow) (m : ℕ) → n ≤ 256 → AreLimitRows n rows → limit_from rows m < no_pair → IsOfMembers n (limit_from rows m)
limit_of_members n rows m few h l =
    ⊎_elim (λ (b : m < length rows). let good = h.good m no_limit b in let here = limit_here rows m no_limit b in (omega (arith, few, here, good.seller, good.buyer), omega (arith, few, here, good.seller, good.buyer)))
    (λ (g : length rows ≤ m). absurd (omega (arith, l, limit_end rows m g)))
    (cases_lt m (length rows))

row_of_members : (n : ℕ) (rows : List Row) (m : ℕ) → n ≤ 256 → AreRows n rows → row_from rows m < no_pair → IsOfMembers n (row_from rows m)
row_of_members n rows m few h l =
    ⊎_elim (λ (b : m < length rows). let good = h.good m no_row b in let here = row_here rows m no_row b in (omega (arith, few, here, good.seller, good.buyer), omega (arith, few, here, good.seller, good.buyer)))
    (λ (g : length rows ≤ m). absurd (omega (arith, l, row_end rows m g)))
    (cases_lt m (length rows))

-- the first of both rows is that of a pair of members
pub next_of_members : (pairs : Pairs) (limit_at row_at p : ℕ) → ArePairs pairs → p ≡ min (limit_from pairs.limits.now limit_at) (row_from pairs.rows.now row_at) → p < no_pair → IsOfMembers pairs.members p
next_of_members pairs limit_at row_at p h e l =
    ⊎_elim (λ (b : limit_from pairs.limits.now limit_at < row_from pairs.rows.now row_at).
    let same : limit_from pairs.limits.now limit_at ≡ p = omega (arith, e, b) in
    let found = limit_of_members pairs.members pairs.limits.now limit_at h.few h.limits (omega (arith, same, l)) in
    (subst (λ q. q / 65536 < pairs.members) same found.0, subst (λ q. q % 65536 < pairs.members) same found.1))
    (λ (g : row_from pairs.rows.now row_at ≤ limit_from pairs.limits.now limit_at).
    let same : row_from pairs.rows.now row_at ≡ p = omega (arith, e, g) in
    let found = row_of_members pairs.members pairs.rows.now row_at h.few h.rows (omega (arith, same, l)) in
    (subst (λ q. q / 65536 < pairs.members) same found.0, subst (λ q. q % 65536 < pairs.members) same found.1))
    (cases_lt (limit_from pairs.limits.now limit_at) (row_from pairs.rows.now row_at))

-- between two places with the same cursors no pair has a row
pub have_no_row : (pairs : Pairs) (limit_at row_at from to : ℕ) → IsLimitCursor pairs.limits.now limit_at from → IsLimitCursor pairs.limits.now limit_at to → IsCursor pairs.rows.now row_at from → IsCursor pairs.rows.now row_at to → HaveNoRow pairs from to
have_no_row pairs limit_at row_at from to first last first' last' i j le l = record {
  amount = amount_none pairs.rows.now i j (λ k d lk e.
      ⊎_elim (λ (b : k < row_at). omega (arith, e, le, first'.before k d b)) (λ (g : row_at ≤ k). omega (arith, e, l, last'.behind k d g lk)) (cases_lt k row_at));
  lower = none.0;
  upper = none.1;
}
  where
    none : (lower_in pairs.limits.now i j ≡ 0) × (upper_in pairs.limits.now i j ≡ Some 0)
    none = lookup_none pairs.limits.now i j (λ k d lk. is_for-other i j (get_or pairs.limits.now k d) (λ e.
        ⊎_elim (λ (b : k < limit_at). omega (arith, e, le, first.before k d b)) (λ (g : limit_at ≤ k). omega (arith, e, l, last.behind k d g lk)) (cases_lt k limit_at)))

-- a test finds nothing at a pair without a row
abbrev pub FindsRows : Pairs → (ℕ → ℕ → Option Clash) → Type 0
FindsRows pairs f = (i j : ℕ) → HasNoRow pairs i j → f i j ≡ None

pub bounds_find_rows : (pairs : Pairs) → FindsRows pairs (rows_bounds_clash pairs.limits.now pairs.rows.now)
bounds_find_rows pairs i j h = rw (h.amount, h.lower, h.upper) refl

pub prices_find_rows : (pairs : Pairs) (p : List ℤ) → FindsRows pairs (rows_price_clash pairs.limits.now pairs.rows.now p)
prices_find_rows pairs p i j h = rw (h.amount, h.lower, h.upper) refl

-- it finds nothing before a place
abbrev pub FindsNone : ℕ → (ℕ → ℕ → Option Clash) → ℕ → Type 0
FindsNone n f w = (i j : ℕ) → i < n → j < n → i * 65536 + j < w → f i j ≡ None

module _ (pairs : Pairs) (f : ℕ → ℕ → Option Clash) (few : pairs.members ≤ 256) where
  pub none_at_next : (p next : ℕ) → FindsRows pairs f → FindsNone pairs.members f p → f (p / 65536) (p % 65536) ≡ None → HaveNoRow pairs (p + 1) next → FindsNone pairs.members f next
  none_at_next p next finds before here passed i j in_i in_j l =
      ⊎_elim (λ (b : i * 65536 + j < p). before i j in_i in_j b)
      (λ (g : p ≤ i * 65536 + j).
      ⊎_elim (λ (e : i * 65536 + j ≡ p).
      let i_is : i ≡ p / 65536 = omega (arith, e, in_j, few) in
      let j_is : j ≡ p % 65536 = omega (arith, e, in_j, few) in
      ap (λ k. f k j) i_is ∙ ap (f (p / 65536)) j_is ∙ here)
      (λ (ne : i * 65536 + j ≢ p). finds i j (passed i j (omega (arith, g, ne)) l))
      (cases_eq (i * 65536 + j) p))
      (cases_lt (i * 65536 + j) p)

  pub first_found : (p : ℕ) (c : Clash) → FindsNone pairs.members f p → IsOfMembers pairs.members p → f (p / 65536) (p % 65536) ≡ Some c → first_pair pairs.members f ≡ Some c
  first_found p c before of_members here =
      let i = p / 65536 in
      let j = p % 65536 in
      let sellers = first_below-none i (λ k. first_below pairs.members (f k)) (λ k lk. first_below-none pairs.members (f k) (λ b lb. before k b (omega (arith, lk, of_members.0)) lb (omega (arith, lk, lb, few, split p)))) in
      let buyers = first_below-none j (f i) (λ b lb. before i b of_members.0 (omega (arith, lb, of_members.1)) (omega (arith, lb, split p))) in
      first_below-found pairs.members i (λ k. first_below pairs.members (f k)) c of_members.0 sellers (first_below-found pairs.members j (f i) c of_members.1 buyers here)

  pub none_found : (p : ℕ) → FindsNone pairs.members f p → no_pair ≤ p → first_pair pairs.members f ≡ None
  none_found p before le =
      first_below-none pairs.members (λ i. first_below pairs.members (f i)) (λ i in_i. first_below-none pairs.members (f i) (λ j in_j. before i j in_i in_j (omega (arith, le, in_i, in_j, few))))
