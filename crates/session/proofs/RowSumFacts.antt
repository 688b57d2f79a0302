-- What a table of sums has of a draft's rows, with one row more.
use Rattle.std.proofs.Common.{◌≡◌, ◌≢◌, ℕ, ◌+◌, ◌<◌, ◌≤◌, true, List, [], ◌∷◌, ◌++◌, length, take, slice_get, Some, refl, sym, ap, subst, ◌∙◌, arith}
use Rattle.std.proofs.lemmas.Bool.{eq-eqb}
use Rattle.std.proofs.lemmas.List.{take_more}
use Rattle.std.proofs.lemmas.List.Sums.{sum_by-cons, sum_by-append, sum_by-take-drop}
use Rattle.std.proofs.lemmas.Option.{get_or_from_slice_get}
use Rattle.std.proofs.lemmas.Slice.Eq.{bytes_eq-Decides}
use Rattle.std.specs.Str.{bytes_eq}
use Rattle.command_types.specs.declared.roster.MemberRow.{MemberRow}
use Rattle.command_types.specs.Session.{DraftRow, draft_amount, draft_sum}
use Rattle.pair_table.specs.PairSums.{PairSums, gross_in}
use Rattle.session.proofs.PlaceFacts.{nobody}
use Rattle.session.specs.Places.{name_at, IsPlaceOf, pair_part, product_part, HasMore, HasRows}

-- the name of the member at the place of a name
named : (members : List MemberRow) (name : List ℕ) (p : ℕ) → IsPlaceOf members name (Some p) → name ≡ name_at members p nobody
named members name p place = (bytes_eq-Decides name (name_at members p nobody)).0 (sym (place.is p nobody place.within) ∙ eq-eqb p p refl)

-- different parties have different places
pub places_differ : (members : List MemberRow) (seller buyer : List ℕ) (p q amount : ℕ) → IsPlaceOf members seller (Some p) → IsPlaceOf members buyer (Some q) →
    (bytes_eq seller buyer ≡ true → amount ≡ 0) → amount ≢ 0 → p ≢ q
places_differ members seller buyer p q amount of_seller of_buyer parties some e =
    some (parties ((bytes_eq-Decides seller buyer).1 (named members seller p of_seller ∙ ap (λ n. name_at members n nobody) e ∙ sym (named members buyer q of_buyer))))

amount_more : (product seller buyer : List ℕ) (rows : List DraftRow) (row : DraftRow) → draft_amount product seller buyer (rows ++ row ∷ []) ≡ draft_amount product seller buyer rows + pair_part product row seller buyer
amount_more product seller buyer rows row =
    let f : DraftRow → ℕ = λ r. pair_part product r seller buyer in
    omega (arith, sum_by-append f rows (row ∷ []), sum_by-cons f row [])

sum_more : (product : List ℕ) (rows : List DraftRow) (row : DraftRow) → draft_sum product (rows ++ row ∷ []) ≡ draft_sum product rows + product_part product row
sum_more product rows row =
    let f : DraftRow → ℕ = product_part product in
    omega (arith, sum_by-append f rows (row ∷ []), sum_by-cons f row [])

row_more : (rows : List DraftRow) (k : ℕ) (row : DraftRow) → slice_get rows k ≡ Some row → k < length rows → take (k + 1) rows ≡ take k rows ++ row ∷ []
row_more rows k row is lt = take_more rows k row lt ∙ ap (λ r. take k rows ++ r ∷ []) (get_or_from_slice_get rows k row row is)

-- a row more
pub has_more : (members : List MemberRow) (product : List ℕ) (rows : List DraftRow) (k : ℕ) (row : DraftRow) (old new : PairSums) → slice_get rows k ≡ Some row → k < length rows →
    HasRows members product (take k rows) old → HasMore members product row old new → HasRows members product (take (k + 1) rows) new
has_more members product rows k row old new is lt has more =
    subst (λ rs. HasRows members product rs new) (sym (row_more rows k row is lt)) (record {
      count = more.count ∙ has.count;
      sums = λ i j other in_i in_j.
          omega (arith, more.sums i j other in_i in_j, has.sums i j other in_i in_j, amount_more product (name_at members i other) (name_at members j other) (take k rows) row);
      gross = omega (arith, more.gross, has.gross, sum_more product (take k rows) row);
    })

take_within : (product : List ℕ) (k : ℕ) (rows : List DraftRow) → draft_sum product (take k rows) ≤ draft_sum product rows
take_within product k rows = omega (arith, sum_by-take-drop (product_part product) rows k)

-- what comes to a table with a row more is not above what the draft has
pub more_within : (members : List MemberRow) (product : List ℕ) (rows : List DraftRow) (k : ℕ) (row : DraftRow) (table : PairSums) → slice_get rows k ≡ Some row → k < length rows →
    HasRows members product (take k rows) table → gross_in table + product_part product row ≤ draft_sum product rows
more_within members product rows k row table is lt has =
    omega (arith, has.gross, sum_more product (take k rows) row, ap (draft_sum product) (row_more rows k row is lt), take_within product (k + 1) rows)
