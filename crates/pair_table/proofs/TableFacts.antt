-- What a table keeps: at first, and when an amount is added to a pair.
use Rattle.std.proofs.Common.{◌≡◌, ◌≢◌, ℕ, ◌+◌, ◌*◌, ◌^◌, ◌<◌, ◌≤◌, length, slice_set, get_or, replicate, ◌∙◌, ap, arith, ⊎_elim, length-set}
use Rattle.std.proofs.lemmas.Bool.{cases_eq, cases_lt}
use Rattle.std.proofs.lemmas.List.{get_or-set_same, get_or-set_other, get_or_default, get_or_past, get_or-replicate, length-replicate}
use Rattle.network_laws.specs.Networks.{pair_part, sum_below}
use Rattle.network_laws.proofs.Figures.{sum_below-none, sum_below-more}
use Rattle.network_laws.proofs.RowOrder.{pair_part-other}
use Rattle.network_laws.proofs.RowSums.{pair_part-is}
use Rattle.pair_table.specs.PairSums.{PairSums, IsPairTable, sum_in, gross_in}
use Rattle.pair_table.proofs.PairNetworks.{row_of, sum_pairs-more}

pub sum_in-none : (table : PairSums) (n : ℕ) → table.sums ≡ replicate n 0 → (i j : ℕ) → sum_in table i j ≡ 0
sum_in-none table n none i j =
    ⊎_elim (λ (l : i * 256 + j < length table.sums). rw none (get_or-replicate n (i * 256 + j) 0 0 (omega (arith, ap length none, length-replicate {A = ℕ} n 0))))
    (λ (past : length table.sums ≤ i * 256 + j). get_or_past table.sums (i * 256 + j) 0 past)
    (cases_lt (i * 256 + j) (length table.sums))

pub gross_in-none : (table : PairSums) (n : ℕ) → table.sums ≡ replicate n 0 → gross_in table ≡ 0
gross_in-none table n none =
    sum_below-none table.members (λ i. sum_below table.members (sum_in table i)) (λ i _. sum_below-none table.members (sum_in table i) (λ j _. sum_in-none table n none i j))

abbrev with_sum : PairSums → ℕ → ℕ → ℕ → PairSums
with_sum table s b x = record table { sums = slice_set table.sums (s * 256 + b) x }

-- the sum x of a pair, where an amount fits
module _ (table now : PairSums) (s b x amount : ℕ) (is : IsPairTable table) (view : table ≡ now) (in_s : s < now.members) (in_b : b < now.members) (was : x ≡ get_or table.sums (s * 256 + b) x) where
  pub members_same : table.members ≡ now.members
  members_same = ap (λ (t : PairSums). t.members) view

  sum_is : x ≡ sum_in table s b
  sum_is = was ∙ get_or_default table.sums (s * 256 + b) x 0 (omega (arith, members_same, is.size, is.few))

  pub sum_within : x ≤ gross_in now
  sum_within =
      omega (arith, sum_is, members_same, ap gross_in view, sum_below-more table.members s (λ i. sum_below table.members (sum_in table i)) (omega (arith, members_same)), sum_below-more table.members b (sum_in table s) (omega (arith, members_same)))

  sums_added : (i j : ℕ) → i < table.members → j < table.members → sum_in (with_sum table s b (x + amount)) i j ≡ sum_in table i j + pair_part i j (row_of s b amount)
  sums_added i j in_i in_j =
      ⊎_elim (λ (e : i * 256 + j ≡ s * 256 + b).
      let here : get_or (slice_set table.sums (s * 256 + b) (x + amount)) (s * 256 + b) 0 ≡ x + amount = get_or-set_same table.sums (s * 256 + b) (x + amount) 0 (omega (arith, members_same, is.size, is.few)) in
      let part = pair_part-is i j (row_of s b amount) (omega (arith, members_same, is.few)) (omega (arith, members_same, is.few)) in
      omega (arith, ap (λ k. get_or (slice_set table.sums (s * 256 + b) (x + amount)) k 0) e, ap (λ k. get_or table.sums k 0) e, here, sum_is, part))
      (λ (ne : i * 256 + j ≢ s * 256 + b).
      omega (arith, get_or-set_other table.sums (s * 256 + b) (i * 256 + j) (x + amount) 0 ne, pair_part-other i j (row_of s b amount) (λ e. ne (omega (arith, members_same, is.few)))))
      (cases_eq (i * 256 + j) (s * 256 + b))

  pub gross_added : gross_in (with_sum table s b (x + amount)) ≡ gross_in now + amount
  gross_added =
      sum_pairs-more table.members s b amount (sum_in table) (sum_in (with_sum table s b (x + amount))) (omega (arith, members_same)) (omega (arith, members_same)) sums_added
      ∙ ap (λ (t : PairSums). gross_in t + amount) view

  pub table_added : s ≢ b → gross_in now + amount ≤ 10 ^ 18 → IsPairTable (with_sum table s b (x + amount))
  table_added different within = record {
    few = is.few;
    size = length-set table.sums (s * 256 + b) (x + amount) ∙ is.size;
    different = λ i. get_or-set_other table.sums (s * 256 + b) (i * 256 + i) (x + amount) 0 (λ e. different (omega (arith, members_same, is.few))) ∙ is.different i;
    within = omega (arith, gross_added);
  }
