-- Sums that are set to 0.
use Rattle.std.proofs.Common.{◌≡◌, ◌≢◌, ℕ, ◌+◌, ◌*◌, ◌<◌, ◌≤◌, true, false, not, eqb, ◌&&◌, List, length, get_or, set, refl, sym, ap, ◌∙◌, arith, ⊎_elim, true≢false, length-set, get_or-set_same, get_or-set_other}
use Rattle.std.proofs.lemmas.Bool.{cases_eq, ne_eqb, and_parts}
use Rattle.member_set.specs.declared.set.MemberSet.{MemberSet}
use Rattle.member_set.specs.Members.{has}
use Rattle.network_laws.specs.Networks.{sum_below}
use Rattle.network_laws.proofs.Figures.{sum_below-none}
use Rattle.pair_table.specs.PairSums.{IsPairTable}
use Rattle.pair_table.specs.Buyers.{HasBuyers, IsCleared}

-- the sums of the buyers that are left may be above 0
pub record IsClearing (members : ℕ) (i : ℕ) (old new : List ℕ) (left : MemberSet) : Type 0 where
  pub same_length : length new ≡ length old
  pub inside : (j : ℕ) → has left j ≡ true → j < members
  pub sold : (j : ℕ) → j < members → 0 < get_or new (i * 256 + j) 0 → has left j ≡ true
  pub lower : (k : ℕ) → get_or new k 0 ≤ get_or old k 0

pub clearing_none : (members : ℕ) (i : ℕ) (sums : List ℕ) (buyers : MemberSet) → HasBuyers members sums i buyers → IsClearing members i sums sums buyers
clearing_none members i sums buyers h = record { same_length = refl; inside = h.inside; sold = h.sold; lower = λ k. omega arith }

zero_at : (sums : List ℕ) (at k : ℕ) → at < length sums → k ≡ at → get_or (set sums at 0) k 0 ≡ 0
zero_at sums at k l e = ap (λ x. get_or (set sums at 0) x 0) e ∙ get_or-set_same sums at 0 0 l

pub clearing_more : (members : ℕ) (i : ℕ) (old sums : List ℕ) (left rest : MemberSet) (b : ℕ) → i * 256 + b < length sums → IsClearing members i old sums left → has left b ≡ true → ((m : ℕ) → has rest m ≡ (not (eqb m b) && has left m)) → IsClearing members i old (set sums (i * 256 + b) 0) rest
clearing_more members i old sums left rest b inside h on gone = record {
  same_length = length-set sums (i * 256 + b) 0 ∙ h.same_length;
  inside = λ j there. h.inside j (was j there);
  sold = λ j l some.
      ⊎_elim (λ (e : j ≡ b). absurd (omega (arith, some, zero_at sums (i * 256 + b) (i * 256 + j) inside (omega (arith, e)))))
      (λ (ne : j ≢ b). gone j ∙ rw (ne_eqb j b ne) (h.sold j l (omega (arith, some, get_or-set_other sums (i * 256 + b) (i * 256 + j) 0 0 (λ q. ne (omega (arith, q)))))))
      (cases_eq j b);
  lower = λ k.
      ⊎_elim (λ (e : k ≡ i * 256 + b). omega (arith, zero_at sums (i * 256 + b) k inside e)) (λ (ne : k ≢ i * 256 + b). omega (arith, get_or-set_other sums (i * 256 + b) k 0 0 ne, h.lower k)) (cases_eq k (i * 256 + b));
}
  where
    was : (j : ℕ) → has rest j ≡ true → has left j ≡ true
    was j there = (and_parts (not (eqb j b)) (has left j) (sym (gone j) ∙ there)).1

-- where none is left, all are 0
pub cleared_seller : (members : ℕ) (i : ℕ) (old sums : List ℕ) (left : MemberSet) → IsClearing members i old sums left → ((j : ℕ) → has left j ≡ false) → IsCleared members i (i + 1) old sums
cleared_seller members i old sums left h none = record {
  same_length = h.same_length;
  zeros = λ k j from to l.
      let e : k ≡ i = omega arith in
      ap (λ x. get_or sums (x * 256 + j) 0) e
      ∙ ⊎_elim (λ (q : get_or sums (i * 256 + j) 0 ≡ 0). q) (λ (ne : get_or sums (i * 256 + j) 0 ≢ 0). absurd (true≢false (sym (h.sold j l (omega (arith, ne))) ∙ none j))) (cases_eq (get_or sums (i * 256 + j) 0) 0);
  lower = h.lower;
}

module _ (members : ℕ) (old new : List ℕ) (is : IsPairTable (record { members = members; sums = old })) (x : IsCleared members 0 members old new) where
  pub sums_cleared : (i j : ℕ) → i < members → j < members → get_or new (i * 256 + j) 0 ≡ 0
  sums_cleared i j in_i in_j = x.zeros i j (omega arith) in_i in_j

  pub gross_cleared : sum_below members (λ i. sum_below members (λ j. get_or new (i * 256 + j) 0)) ≡ 0
  gross_cleared =
      sum_below-none members (λ i. sum_below members (λ j. get_or new (i * 256 + j) 0)) (λ i in_i. sum_below-none members (λ j. get_or new (i * 256 + j) 0) (λ j in_j. sums_cleared i j in_i in_j))

  pub table_cleared : IsPairTable (record { members = members; sums = new })
  table_cleared = record {
    few = is.few;
    size = x.same_length ∙ is.size;
    different = λ i. omega (arith, x.lower (i * 256 + i), is.different i);
    within = omega (arith, gross_cleared);
  }
