-- Rows in rising order: how they are read, and that they are a network's.
use Rattle.std.proofs.Common.{◌≡◌, ◌≢◌, ℕ, zero, suc, ◌+◌, ◌-◌, ◌^◌, ◌<◌, ◌≤◌, ◌&&◌, not, Bool, true, false, eqb, leb, ltb, List, [], ◌∷◌, ◌++◌, length, take, drop, flat_map, All, Some, Ok, refl, sym, ap, subst, ◌∙◌, append_assoc, IsTrue, arith, leb-true, le-leb, ltb-true, lt-ltb, ne_eqb}
use Rattle.std.specs.Int.{w16, w64, to_le_bytes, from_le_bytes}
use Rattle.std.proofs.lemmas.Bool.{and_parts, and_from, not_from_false}
use Rattle.std.proofs.lemmas.List.{take-append-drop, length-take, length-drop, get_or-take, drop-drop}
use Rattle.std.proofs.lemmas.List.Elements.{All-head, All-tail, All-cons, All-nil}
use Rattle.std.proofs.lemmas.List.Kept.{AllPairs-cons}
use Rattle.std.proofs.lemmas.List.Sums.{sum_by-cons}
use Rattle.std.proofs.lemmas.List.Concat.{flat_map-cons}
use Rattle.std.proofs.lemmas.Nat.{le_bytes_2, le_bytes_8, from_le_bytes-to_le_bytes_2, from_le_bytes-to_le_bytes_8}
use Rattle.network_laws.specs.declared.rows.Row.{Row}
use Rattle.network_laws.specs.Networks.{place, total, IsGoodRow, IsRising, AreRows}
use Rattle.command_types.specs.Spelling.{row_spelling}
use Rattle.record_codec.specs.Reading.{Read, ◌>>=◌, row_of, is_row, row_if, row_in, row_at, rows_at}
use Rattle.record_codec.proofs.FieldFacts.{IsBytes, IsBytes-take, IsBytes-drop, Takes, Takes-then, IsFormat, IsField, format_of, field_ok, bind_ok, ok_is, seq_takes, seq_again}

abbrev most_gross : ℕ
most_gross = 1000000000000000000

-- ---- one row

-- what a row that was read keeps
pub record RowFacts (members next room : ℕ) (row : Row) : Type 0 where
  pub seller : row.seller < members
  pub buyer : row.buyer < members
  pub different : row.seller ≢ row.buyer
  pub positive : 1 ≤ row.amount
  pub behind : next ≤ place row
  pub within : row.amount ≤ room

differs : (a b : ℕ) → not (eqb a b) ≡ true → a ≢ b
differs a b h e = absurd (same (eqb a b) (subst (λ (k : ℕ). eqb a k ≡ true) e (grind arith)) h)
  where
    same : (t : Bool) → t ≡ true → not t ≡ true → ⊥
    same true p q = absurd cc
    same false p q = absurd cc

pub row_facts : (members next room : ℕ) (row : Row) → IsTrue (is_row members next room row) → RowFacts members next room row
row_facts members next room row is =
    let f = and_parts (ltb row.seller members && ltb row.buyer members && not (eqb row.seller row.buyer) && leb 1 row.amount && leb next (place row)) (leb row.amount room) is in
    let e = and_parts (ltb row.seller members && ltb row.buyer members && not (eqb row.seller row.buyer) && leb 1 row.amount) (leb next (place row)) f.0 in
    let d = and_parts (ltb row.seller members && ltb row.buyer members && not (eqb row.seller row.buyer)) (leb 1 row.amount) e.0 in
    let c = and_parts (ltb row.seller members && ltb row.buyer members) (not (eqb row.seller row.buyer)) d.0 in
    let b = and_parts (ltb row.seller members) (ltb row.buyer members) c.0 in
    record {
      seller = ltb-true _ _ b.0;
      buyer = ltb-true _ _ b.1;
      different = differs row.seller row.buyer c.1;
      positive = leb-true _ _ d.1;
      behind = leb-true _ _ e.1;
      within = leb-true _ _ f.1;
    }

pub row_passes : (members next room : ℕ) (row : Row) → RowFacts members next room row → IsTrue (is_row members next room row)
row_passes members next room row h =
    and_from _ _ (and_from _ _ (and_from _ _ (and_from _ _ (and_from _ _ (lt-ltb _ _ h.seller) (lt-ltb _ _ h.buyer)) (not_from_false _ (ne_eqb _ _ h.different))) (le-leb _ _ h.positive)) (le-leb _ _ h.behind)) (le-leb _ _ h.within)

row_chosen : (b : Bool) (r row : Row) → row_if b r ≡ Some row → (b ≡ true) × (r ≡ row)
row_chosen true r row e = (refl, cc)
row_chosen false r row e = absurd cc

-- the first two bytes of a text, as a number and written again
front_2 : (text : List ℕ) → 2 ≤ length text → IsBytes text → to_le_bytes w16 (from_le_bytes w16 text) ≡ take 2 text
front_2 text long fits =
    let read : from_le_bytes w16 text ≡ from_le_bytes w16 (take 2 text) = rw (get_or-take 2 text 0 0 (omega arith), get_or-take 2 text 1 0 (omega arith)) refl in
    le_bytes_2 (take 2 text) (from_le_bytes w16 text) (omega (arith, length-take 2 text)) (IsBytes-take 2 text fits) read

twelve : (text : List ℕ) → length text ≡ 12 → IsBytes text → text ≡ row_spelling (row_of text)
twelve text len fits =
    let behind_2 = IsBytes-drop 2 text fits in
    let behind_4 : drop 2 (drop 2 text) ≡ drop 4 text = drop-drop 2 2 text in
    let seller : to_le_bytes w16 (from_le_bytes w16 text) ≡ take 2 text = front_2 text (omega arith) fits in
    let buyer : to_le_bytes w16 (from_le_bytes w16 (drop 2 text)) ≡ take 2 (drop 2 text) = front_2 (drop 2 text) (omega (arith, length-drop 2 text)) behind_2 in
    let amount : to_le_bytes w64 (from_le_bytes w64 (drop 4 text)) ≡ drop 4 text = le_bytes_8 (drop 4 text) _ (omega (arith, length-drop 4 text)) (IsBytes-drop 4 text fits) refl in
    sym (take-append-drop 2 text)
    ∙ ap (λ (t : List ℕ). t ++ drop 2 text) (sym seller)
    ∙ ap (λ (t : List ℕ). to_le_bytes w16 (from_le_bytes w16 text) ++ t) (sym (take-append-drop 2 (drop 2 text)) ∙ ap (λ (t : List ℕ). t ++ drop 2 (drop 2 text)) (sym buyer) ∙ ap (λ (t : List ℕ). to_le_bytes w16 (from_le_bytes w16 (drop 2 text)) ++ t) (behind_4 ∙ sym amount))

row_back : (row : Row) → row.seller < 2 ^ 16 → row.buyer < 2 ^ 16 → row.amount < 2 ^ 64 → row_of (row_spelling row) ≡ row
row_back row seller buyer amount =
    let s : from_le_bytes w16 (row_spelling row) ≡ row.seller = from_le_bytes-to_le_bytes_2 row.seller seller in
    let b : from_le_bytes w16 (drop 2 (row_spelling row)) ≡ row.buyer = from_le_bytes-to_le_bytes_2 row.buyer buyer in
    let a : from_le_bytes w64 (drop 4 (row_spelling row)) ≡ row.amount = from_le_bytes-to_le_bytes_8 row.amount amount in
    λ i. record { seller = s i; buyer = b i; amount = a i }

row_field : (members next room : ℕ) → members ≤ 256 → room ≤ most_gross → IsField 12 (row_in members next room) row_spelling (λ row. IsTrue (is_row members next room row))
row_field members next room few most = record {
  back = λ text row len fits e.
      let c = row_chosen (is_row members next room (row_of text)) (row_of text) row e in
      (twelve text len fits ∙ ap row_spelling c.1, subst (λ (r : Row). is_row members next room r ≡ true) c.1 c.0);
  again = λ row is.
      let h = row_facts members next room row is in
      let same = row_back row (omega (arith, h.seller)) (omega (arith, h.buyer)) (omega (arith, h.within)) in
      subst (λ (r : Row). row_if (is_row members next room r) r ≡ Some row) (sym same) (ap (λ (t : Bool). row_if t row) is);
  sized = λ row is. refl;
}

pub row_format : (members next room : ℕ) → members ≤ 256 → room ≤ most_gross → IsFormat (row_at members next room) row_spelling (λ row. IsTrue (is_row members next room row))
row_format members next room few most = format_of 12 (row_in members next room) row_spelling (λ row. IsTrue (is_row members next room row)) (row_field members next room few most)

-- ---- all rows

-- rows from a place on, whose amounts together are at most `room`
abbrev pub RowsFrom : ℕ → ℕ → ℕ → List Row → Type 0
RowsFrom members next room [] = Unit {0}
RowsFrom members next room (row ∷ rows) = IsTrue (is_row members next room row) × RowsFrom members (place row + 1) (room - row.amount) rows

pub rows_take : (count members next room : ℕ) (bytes : List ℕ) (x : List Row × List ℕ) → members ≤ 256 → room ≤ most_gross → IsBytes bytes → rows_at count members next room bytes ≡ Ok x
    → Takes bytes (flat_map row_spelling x.0) x.1 × (length x.0 ≡ count) × RowsFrom members next room x.0
unfolding rows_at
rows_take zero members next room bytes x few most fits e =
    subst (λ (y : List Row × List ℕ). Takes bytes (flat_map row_spelling y.0) y.1 × (length y.0 ≡ 0) × RowsFrom members next room y.0) (ok_is ([], bytes) x e) (record { parts = refl; rest_fits = fits }, refl, tt)
rows_take (suc n) members next room bytes x few most fits e =
    let a = seq_takes (row_format members next room few most) bytes (λ row. rows_at n members (place row.0 + 1) (room - row.0.amount) row.1 >>= λ others. Ok (row.0 ∷ others.0, others.1)) x fits e in
    let row = a.0.0 in
    let b = bind_ok (rows_at n members (place row + 1) (room - row.amount) a.0.1) (λ others. Ok (row ∷ others.0, others.1)) x a.3 in
    let second = rows_take n members (place row + 1) (room - row.amount) a.0.1 b.0 few (omega arith) a.1.rest_fits b.1 in
    let both = Takes-then bytes (row_spelling row) a.0.1 (flat_map row_spelling b.0.0) b.0.1 a.1 second.0 in
    subst (λ (y : List Row × List ℕ). Takes bytes (flat_map row_spelling y.0) y.1 × (length y.0 ≡ suc n) × RowsFrom members next room y.0) (ok_is (row ∷ b.0.0, b.0.1) x b.2) (rw flat_map-cons both, ap suc second.1, (a.2, second.2))

pub rows_again : (rows : List Row) (members next room : ℕ) (rest : List ℕ) → members ≤ 256 → room ≤ most_gross → RowsFrom members next room rows → rows_at (length rows) members next room (flat_map row_spelling rows ++ rest) ≡ Ok (rows, rest)
unfolding rows_at
rows_again [] members next room rest few most h = refl
rows_again (row ∷ rows) members next room rest few most h =
    let regrouped : flat_map row_spelling (row ∷ rows) ++ rest ≡ row_spelling row ++ (flat_map row_spelling rows ++ rest) = ap (λ (t : List ℕ). t ++ rest) (flat_map-cons row_spelling row rows) ∙ append_assoc (row_spelling row) (flat_map row_spelling rows) rest in
    ap (rows_at (suc (length rows)) members next room) regrouped
    ∙ seq_again (row_format members next room few most) row (flat_map row_spelling rows ++ rest) (λ r. rows_at (length rows) members (place r.0 + 1) (room - r.0.amount) r.1 >>= λ others. Ok (r.0 ∷ others.0, others.1)) h.0
    ∙ ap (λ (r : Read (List Row)). r >>= λ others. Ok (row ∷ others.0, others.1)) (rows_again rows members (place row + 1) (room - row.amount) rest few (omega arith) h.1)

-- rows that were read keep their rules
pub rows_allowed : (count members next room : ℕ) (bytes : List ℕ) (x : List Row × List ℕ) → rows_at count members next room bytes ≡ Ok x → RowsFrom members next room x.0
unfolding rows_at
rows_allowed zero members next room bytes x e = subst (λ (y : List Row × List ℕ). RowsFrom members next room y.0) (ok_is ([], bytes) x e) tt
rows_allowed (suc n) members next room bytes x e =
    let a = bind_ok (row_at members next room bytes) (λ row. rows_at n members (place row.0 + 1) (room - row.0.amount) row.1 >>= λ others. Ok (row.0 ∷ others.0, others.1)) x e in
    let b = bind_ok (rows_at n members (place a.0.0 + 1) (room - a.0.0.amount) a.0.1) (λ others. Ok (a.0.0 ∷ others.0, others.1)) x a.2 in
    let f = field_ok 12 (row_in members next room) bytes a.0 a.1 in
    let c = row_chosen (is_row members next room (row_of (take 12 bytes))) (row_of (take 12 bytes)) a.0.0 f.1 in
    let first : is_row members next room a.0.0 ≡ true = subst (λ (r : Row). is_row members next room r ≡ true) c.1 c.0 in
    subst (λ (y : List Row × List ℕ). RowsFrom members next room y.0) (ok_is (a.0.0 ∷ b.0.0, b.0.1) x b.2) (first, rows_allowed n members (place a.0.0 + 1) (room - a.0.0.amount) a.0.1 b.0 b.1)

-- ---- rows of a network

total_more : (row : Row) (rows : List Row) → total (row ∷ rows) ≡ row.amount + total rows
total_more row rows = sum_by-cons (λ (r : Row). r.amount) row rows

-- what rows that were read keep
record RowsKeep (members next room : ℕ) (rows : List Row) : Type 0 where
  good : All (IsGoodRow members) rows
  from : All (λ row. next ≤ place row) rows
  rising : IsRising rows
  within : total rows ≤ room

keep : (members next room : ℕ) (rows : List Row) → RowsFrom members next room rows → RowsKeep members next room rows
keep members next room [] h = record { good = All-nil (IsGoodRow members); from = All-nil (λ row. next ≤ place row); rising = λ i j d lt within. absurd (omega arith); within = omega arith }
keep members next room (row ∷ rows) h =
    let f = row_facts members next room row h.0 in
    let k = keep members (place row + 1) (room - row.amount) rows h.1 in
    record {
      good = All-cons (IsGoodRow members) row rows (record { seller = f.seller; buyer = f.buyer; different = f.different; positive = f.positive }) k.good;
      from = All-cons (λ r. next ≤ place r) row rows f.behind (λ i d lt. omega (arith, k.from i d lt, f.behind));
      rising = AllPairs-cons (λ (a b : Row). place a < place b) row rows (λ i d lt. omega (arith, k.from i d lt)) k.rising;
      within = omega (arith, k.within, f.within, total_more row rows);
    }

pub rows_are : (members : ℕ) (rows : List Row) → RowsFrom members 0 most_gross rows → AreRows members rows
rows_are members rows h =
    let k = keep members 0 most_gross rows h in
    record { good = k.good; rising = k.rising; within = omega (arith, k.within) }

from_rows : (members next room : ℕ) (rows : List Row) → RowsKeep members next room rows → RowsFrom members next room rows
from_rows members next room [] k = tt
from_rows members next room (row ∷ rows) k =
    let g = All-head (IsGoodRow members) row rows k.good in
    let here : next ≤ place row = All-head (λ r. next ≤ place r) row rows k.from in (
      row_passes members next room row (record { seller = g.seller; buyer = g.buyer; different = g.different; positive = g.positive; behind = here; within = omega (arith, k.within, total_more row rows) }),
      from_rows members (place row + 1) (room - row.amount) rows (record {
        good = All-tail (IsGoodRow members) row rows k.good;
        from = λ i d lt. omega (arith, k.rising 0 (suc i) d (omega arith) (omega arith));
        rising = λ i j d lt within. k.rising (suc i) (suc j) d (omega arith) (omega arith);
        within = omega (arith, k.within, total_more row rows);
      }),
    )

pub rows_from : (members : ℕ) (rows : List Row) → AreRows members rows → RowsFrom members 0 most_gross rows
rows_from members rows h = from_rows members 0 most_gross rows (record { good = h.good; from = λ i d lt. omega arith; rising = h.rising; within = omega (arith, h.within) })

few_from : (members next room : ℕ) (rows : List Row) → members ≤ 256 → next ≤ 16777216 → RowsFrom members next room rows → length rows + next ≤ 16777216
few_from members next room [] few le h = omega arith
few_from members next room (row ∷ rows) few le h =
    let f = row_facts members next room row h.0 in
    omega (arith, f.seller, f.buyer, f.behind, few_from members (place row + 1) (room - row.amount) rows few (omega (arith, f.seller, f.buyer)) h.1)

-- at most one row for each pair
pub rows_few : (members : ℕ) (rows : List Row) → members ≤ 256 → AreRows members rows → length rows ≤ 16777216
rows_few members rows few h = omega (arith, few_from members 0 most_gross rows few (omega arith) (rows_from members rows h))
