-- What a draft keeps of its rows holds again with one more row.
use Rattle.std.proofs.Common.{◌≡◌, ℕ, ◌+◌, ◌≤◌, Bool, true, false, ◌&&◌, List, Option, Some, unwrap_or, refl, sym, ap, subst, ◌∙◌, cond, arith}
use Rattle.std.proofs.lemmas.Slice.Eq.{bytes_eq-Decides}
use Rattle.std.specs.Map.{lookup}
use Rattle.std.specs.Str.{bytes_eq}
use Rattle.command_types.specs.Session.{DraftRow, with_draft_row, draft_amount, draft_sum}
use Rattle.session.specs.declared.draft_rows.PairKey.{PairKey}
use Rattle.session.specs.Drafts.{row_of, rows_of, is_same_pair, AreFound, AreSums, AreWithin, NoneWithItself}
use Rattle.session.proofs.DraftRowFacts.{pair_same, earlier, earlier_found, sum_after, amount_after}

-- The entries have one more row, and are found by it.
pub record IsWith (entries next : List (PairKey × ℕ)) (key : PairKey) (amount : ℕ) : Type 0 where
  pub rows : rows_of next ≡ with_draft_row (row_of (key, amount)) (rows_of entries)
  pub looks : (other : PairKey) → lookup (is_same_pair other) next ≡ cond {A = Option ℕ} (is_same_pair key other) (Some amount) (lookup (is_same_pair other) entries)

pub found_after : (entries next : List (PairKey × ℕ)) (key : PairKey) (amount : ℕ) → IsWith entries next key amount → AreFound entries → AreFound next
found_after entries next key amount one found other =
    by (is_same_pair key other) refl (amount_after other.product other.seller other.buyer (row_of (key, amount)) (rows_of entries)) (one.looks other)
  where
    by : (t : Bool) → is_same_pair key other ≡ t →
        draft_amount other.product other.seller other.buyer (with_draft_row (row_of (key, amount)) (rows_of entries)) + cond {A = ℕ} t (earlier (row_of (key, amount)) (rows_of entries)) 0
        ≡ draft_amount other.product other.seller other.buyer (rows_of entries) + cond {A = ℕ} t amount 0 →
        lookup (is_same_pair other) next ≡ cond {A = Option ℕ} t (Some amount) (lookup (is_same_pair other) entries) →
        draft_amount other.product other.seller other.buyer (rows_of next) ≡ unwrap_or (lookup (is_same_pair other) next) 0
    by true is sums look =
        let had : earlier (row_of (key, amount)) (rows_of entries) ≡ draft_amount other.product other.seller other.buyer (rows_of entries) =
        earlier_found key amount entries ∙ ap (λ k. unwrap_or (lookup (is_same_pair k) entries) 0) (pair_same key other is) ∙ sym (found other) in
        let now : draft_amount other.product other.seller other.buyer (with_draft_row (row_of (key, amount)) (rows_of entries)) ≡ amount = omega (arith, had, sums) in
        ap (λ rows. draft_amount other.product other.seller other.buyer rows) one.rows ∙ now ∙ sym (ap (λ o. unwrap_or o 0) look)
    by false is sums look =
        let now : draft_amount other.product other.seller other.buyer (with_draft_row (row_of (key, amount)) (rows_of entries)) ≡ draft_amount other.product other.seller other.buyer (rows_of entries) = omega (arith, sums) in
        ap (λ rows. draft_amount other.product other.seller other.buyer rows) one.rows ∙ now ∙ found other ∙ sym (ap (λ o. unwrap_or o 0) look)

pub sums_after : (entries next : List (PairKey × ℕ)) (sums later : List (List ℕ × ℕ)) (key : PairKey) (amount sum : ℕ) → IsWith entries next key amount →
    sum ≡ draft_sum key.product (with_draft_row (row_of (key, amount)) (rows_of entries)) →
    ((other : List ℕ) → lookup (bytes_eq other) later ≡ cond {A = Option ℕ} (bytes_eq key.product other) (Some sum) (lookup (bytes_eq other) sums)) →
    AreSums entries sums → AreSums next later
sums_after entries next sums later key amount sum one is looks summed product =
    by (bytes_eq key.product product) refl (sum_after product (row_of (key, amount)) (rows_of entries)) (looks product)
  where
    by : (t : Bool) → bytes_eq key.product product ≡ t →
        draft_sum product (with_draft_row (row_of (key, amount)) (rows_of entries)) + cond {A = ℕ} t (earlier (row_of (key, amount)) (rows_of entries)) 0 ≡ draft_sum product (rows_of entries) + cond {A = ℕ} t amount 0 →
        lookup (bytes_eq product) later ≡ cond {A = Option ℕ} t (Some sum) (lookup (bytes_eq product) sums) →
        draft_sum product (rows_of next) ≡ unwrap_or (lookup (bytes_eq product) later) 0
    by true same total look =
        ap (λ rows. draft_sum product rows) one.rows ∙ ap (λ p. draft_sum p (with_draft_row (row_of (key, amount)) (rows_of entries))) (sym ((bytes_eq-Decides key.product product).0 same)) ∙ sym is ∙ sym (ap (λ o. unwrap_or o 0) look)
    by false other total look =
        let now : draft_sum product (with_draft_row (row_of (key, amount)) (rows_of entries)) ≡ draft_sum product (rows_of entries) = omega (arith, total) in
        ap (λ rows. draft_sum product rows) one.rows ∙ now ∙ summed product ∙ sym (ap (λ o. unwrap_or o 0) look)

pub within_after : (entries next : List (PairKey × ℕ)) (key : PairKey) (amount : ℕ) → IsWith entries next key amount →
    draft_sum key.product (with_draft_row (row_of (key, amount)) (rows_of entries)) ≤ 1000000000000000000 → AreWithin entries → AreWithin next
within_after entries next key amount one fits within product =
    let P : List DraftRow → Type 0 = λ rows. draft_sum product rows ≤ 1000000000000000000 in
    subst P (sym one.rows) (by (bytes_eq key.product product) refl (sum_after product (row_of (key, amount)) (rows_of entries)))
  where
    by : (t : Bool) → bytes_eq key.product product ≡ t →
        draft_sum product (with_draft_row (row_of (key, amount)) (rows_of entries)) + cond {A = ℕ} t (earlier (row_of (key, amount)) (rows_of entries)) 0 ≡ draft_sum product (rows_of entries) + cond {A = ℕ} t amount 0 →
        draft_sum product (with_draft_row (row_of (key, amount)) (rows_of entries)) ≤ 1000000000000000000
    by true same total =
        let Q : List ℕ → Type 0 = λ p. draft_sum p (with_draft_row (row_of (key, amount)) (rows_of entries)) ≤ 1000000000000000000 in
        subst Q ((bytes_eq-Decides key.product product).0 same) fits
    by false other total = omega (arith, total, within product)

-- a row of two parties is no row of one with itself
no_self : (p s b : Bool) → (s ≡ true → b ≡ true → false ≡ true) → (p && s && b) ≡ false
no_self true true true h = sym (h refl refl)
no_self true true false h = refl
no_self true false b h = refl
no_self false s b h = refl

pub parted_after : (entries next : List (PairKey × ℕ)) (key : PairKey) (amount : ℕ) → IsWith entries next key amount → bytes_eq key.seller key.buyer ≡ false → NoneWithItself entries → NoneWithItself next
parted_after entries next key amount one parties parted product member =
    let differ : bytes_eq key.seller member ≡ true → bytes_eq key.buyer member ≡ true → false ≡ true =
    λ s b. sym parties ∙ (bytes_eq-Decides key.seller key.buyer).1 ((bytes_eq-Decides key.seller member).0 s ∙ sym ((bytes_eq-Decides key.buyer member).0 b)) in
    let other = no_self (bytes_eq key.product product) (bytes_eq key.seller member) (bytes_eq key.buyer member) differ in
    let total = rw other at (amount_after product member member (row_of (key, amount)) (rows_of entries)) in
    let now : draft_amount product member member (with_draft_row (row_of (key, amount)) (rows_of entries)) ≡ draft_amount product member member (rows_of entries) = omega (arith, total) in
    ap (λ rows. draft_amount product member member rows) one.rows ∙ now ∙ parted product member
