-- The rows of a draft with one more, which replaces the earlier one of its product and pair.
use Rattle.std.proofs.Common.{◌≡◌, ℕ, suc, ◌+◌, Bool, true, false, ◌&&◌, List, [], ◌∷◌, length, sum_by, Option, Some, is_some, unwrap_or, refl, sym, ap, cond, arith}
use Rattle.std.proofs.lemmas.Bool.{and_parts}
use Rattle.std.proofs.lemmas.List.Sums.{sum_by-cons}
use Rattle.std.proofs.lemmas.Slice.Eq.{bytes_eq-Decides}
use Rattle.std.specs.Map.{lookup}
use Rattle.std.specs.Str.{bytes_eq}
use Rattle.indexmap.specs.IndexMap.{insert_entry}
use Rattle.command_types.specs.Session.{DraftRow, is_same_row, with_draft_row, draft_amount, draft_sum}
use Rattle.session.specs.declared.draft_rows.PairKey.{PairKey}
use Rattle.session.specs.Drafts.{row_of, rows_of, is_same_pair}

same_bytes : (a b : List ℕ) → bytes_eq a b ≡ true → a ≡ b
same_bytes a b h = (bytes_eq-Decides a b).0 h

-- two keys that the test finds the same
pub pair_same : (a b : PairKey) → is_same_pair a b ≡ true → a ≡ b
pair_same a b h =
    let both = and_parts _ _ h in
    let first = and_parts _ _ both.0 in
    let product : a.product ≡ b.product = same_bytes _ _ first.0 in
    let seller : a.seller ≡ b.seller = same_bytes _ _ first.1 in
    let buyer : a.buyer ≡ b.buyer = same_bytes _ _ both.1 in
    λ i. record { product = product i; seller = seller i; buyer = buyer i }

-- what a draft has for the product and pair of a row
abbrev pub earlier : DraftRow → List DraftRow → ℕ
earlier new [] = 0
earlier new (row ∷ rows) = cond {A = ℕ} (is_same_row new row) row.amount (earlier new rows)

-- the amount of a row that passes a test
abbrev part : (DraftRow → Bool) → DraftRow → ℕ
part f row = cond {A = ℕ} (f row) row.amount 0

only_then : (t : Bool) → cond {A = ℕ} t 0 0 ≡ 0
only_then true = refl
only_then false = refl

-- a sum over the rows that pass a test of products and parties, with one more row
sum_with : (f : DraftRow → Bool) → ((a b : DraftRow) → is_same_row a b ≡ true → f a ≡ f b) → (new : DraftRow) (rows : List DraftRow) →
    sum_by (part f) (with_draft_row new rows) + cond {A = ℕ} (f new) (earlier new rows) 0 ≡ sum_by (part f) rows + part f new
sum_with f congr new [] = omega (arith, only_then (f new))
sum_with f congr new (row ∷ rows) = by (is_same_row new row) refl (sum_with f congr new rows)
  where
    by : (b : Bool) → is_same_row new row ≡ b →
        sum_by (part f) (with_draft_row new rows) + cond {A = ℕ} (f new) (earlier new rows) 0 ≡ sum_by (part f) rows + part f new →
        sum_by (part f) (cond {A = List DraftRow} b (new ∷ rows) (row ∷ with_draft_row new rows)) + cond {A = ℕ} (f new) (cond {A = ℕ} b row.amount (earlier new rows)) 0 ≡ sum_by (part f) (row ∷ rows) + part f new
    by true is others =
        let same : cond {A = ℕ} (f new) row.amount 0 ≡ part f row = ap (λ t. cond {A = ℕ} t row.amount 0) (congr new row is) in
        omega (arith, same, sum_by-cons (part f) new rows, sum_by-cons (part f) row rows)
    by false is others =
        omega (arith, others, sum_by-cons (part f) row rows, sum_by-cons (part f) row (with_draft_row new rows))

-- a row's product and parties are those of a row that the test finds the same
row_same : (a b : DraftRow) → is_same_row a b ≡ true → (a.product ≡ b.product) × (a.seller ≡ b.seller) × (a.buyer ≡ b.buyer)
row_same a b h =
    let both = and_parts _ _ h in
    let first = and_parts _ _ both.0 in
    (same_bytes _ _ first.0, same_bytes _ _ first.1, same_bytes _ _ both.1)

-- the sum of a product with one more row
pub sum_after : (product : List ℕ) (new : DraftRow) (rows : List DraftRow) →
    draft_sum product (with_draft_row new rows) + cond {A = ℕ} (bytes_eq new.product product) (earlier new rows) 0 ≡ draft_sum product rows + cond {A = ℕ} (bytes_eq new.product product) new.amount 0
sum_after product new rows =
    sum_with (λ row. bytes_eq row.product product) (λ a b h. ap (λ name. bytes_eq name product) (row_same a b h).0) new rows

abbrev is_pair : List ℕ → List ℕ → List ℕ → DraftRow → Bool
is_pair product seller buyer row = bytes_eq row.product product && bytes_eq row.seller seller && bytes_eq row.buyer buyer

-- the amount of a pair with one more row
pub amount_after : (product seller buyer : List ℕ) (new : DraftRow) (rows : List DraftRow) →
    draft_amount product seller buyer (with_draft_row new rows) + cond {A = ℕ} (is_pair product seller buyer new) (earlier new rows) 0 ≡ draft_amount product seller buyer rows + cond {A = ℕ} (is_pair product seller buyer new) new.amount 0
amount_after product seller buyer new rows =
    sum_with (is_pair product seller buyer)
    (λ a b h. λ i. bytes_eq ((row_same a b h).0 i) product && bytes_eq ((row_same a b h).1 i) seller && bytes_eq ((row_same a b h).2 i) buyer)
    new rows

-- the earlier amount is found by its key
pub earlier_found : (key : PairKey) (amount : ℕ) (entries : List (PairKey × ℕ)) → earlier (row_of (key, amount)) (rows_of entries) ≡ unwrap_or (lookup (is_same_pair key) entries) 0
earlier_found key amount [] = refl
earlier_found key amount (entry ∷ entries) = by (is_same_pair key entry.0) (earlier_found key amount entries)
  where
    by : (b : Bool) → earlier (row_of (key, amount)) (rows_of entries) ≡ unwrap_or (lookup (is_same_pair key) entries) 0 → cond {A = ℕ} b entry.1 (earlier (row_of (key, amount)) (rows_of entries)) ≡ unwrap_or (cond {A = Option ℕ} b (Some entry.1) (lookup (is_same_pair key) entries)) 0
    by true others = refl
    by false others = others

pub length_rows : (entries : List (PairKey × ℕ)) → length (rows_of entries) ≡ length entries
length_rows [] = refl
length_rows (entry ∷ entries) = ap suc (length_rows entries)

-- how many rows there are with one more
pub length_with : (key : PairKey) (amount : ℕ) (entries : List (PairKey × ℕ)) →
    length (with_draft_row (row_of (key, amount)) (rows_of entries)) ≡ length entries + cond {A = ℕ} (is_some (lookup (is_same_pair key) entries)) 0 1
length_with key amount [] = refl
length_with key amount (entry ∷ entries) = by (is_same_pair key entry.0) (length_with key amount entries)
  where
    by : (b : Bool) → length (with_draft_row (row_of (key, amount)) (rows_of entries)) ≡ length entries + cond {A = ℕ} (is_some (lookup (is_same_pair key) entries)) 0 1 →
        length (cond {A = List DraftRow} b (row_of (key, amount) ∷ rows_of entries) (row_of entry ∷ with_draft_row (row_of (key, amount)) (rows_of entries)))
        ≡ length (entry ∷ entries) + cond {A = ℕ} (is_some (cond {A = Option ℕ} b (Some entry.1) (lookup (is_same_pair key) entries))) 0 1
    by true others = omega (arith, length_rows entries)
    by false others = omega (arith, others)

-- the entries with one more are the rows with one more
pub rows_insert : (key : PairKey) (amount : ℕ) (entries : List (PairKey × ℕ)) → rows_of (insert_entry is_same_pair entries key amount) ≡ with_draft_row (row_of (key, amount)) (rows_of entries)
rows_insert key amount [] = refl
rows_insert key amount (entry ∷ entries) = by (is_same_pair key entry.0) refl (rows_insert key amount entries)
  where
    by : (b : Bool) → is_same_pair key entry.0 ≡ b → rows_of (insert_entry is_same_pair entries key amount) ≡ with_draft_row (row_of (key, amount)) (rows_of entries) →
        rows_of (cond {A = List (PairKey × ℕ)} b ((entry.0, amount) ∷ entries) (entry ∷ insert_entry is_same_pair entries key amount))
        ≡ cond {A = List DraftRow} b (row_of (key, amount) ∷ rows_of entries) (row_of entry ∷ with_draft_row (row_of (key, amount)) (rows_of entries))
    by true is others = ap (λ k. row_of (k, amount) ∷ rows_of entries) (sym (pair_same key entry.0 is))
    by false is others = ap (λ rows. row_of entry ∷ rows) others

-- the sum of a row's own product with it
pub own_sum : (new : DraftRow) (rows : List DraftRow) → draft_sum new.product (with_draft_row new rows) + earlier new rows ≡ draft_sum new.product rows + new.amount
own_sum new rows = by (bytes_eq new.product new.product) ((bytes_eq-Decides new.product new.product).1 refl) (sum_after new.product new rows)
  where
    by : (t : Bool) → t ≡ true → draft_sum new.product (with_draft_row new rows) + cond {A = ℕ} t (earlier new rows) 0 ≡ draft_sum new.product rows + cond {A = ℕ} t new.amount 0 →
        draft_sum new.product (with_draft_row new rows) + earlier new rows ≡ draft_sum new.product rows + new.amount
    by true e h = h
    by false e h = absurd (cc e)
