-- One pair is noted at both its members.
use Rattle.std.proofs.Common.{◌≡◌, ℕ, ◌<◌, Bool, cond, ltb, eqb, ◌&&◌, List, length, set, refl, ap, ◌∙◌, inl, inr, arith, length-set, get_or-set_same, get_or-set_other}
use Rattle.std.proofs.lemmas.Bool.{cases_eq, eq-eqb, ne_eqb}
use Rattle.member_set.specs.declared.set.MemberSet.{MemberSet}
use Rattle.member_set.specs.Members.{has}
use Rattle.residual_graph.specs.declared.flow.Flow.{Flow}
use Rattle.path_solver.specs.declared.entries.Entry.{Entry}
use Rattle.path_solver.specs.Entries.{no_entry, entry_at, IsNoted}

same_buyers : (old : List Entry) (b : ℕ) (e : Entry) (v : ℕ) → b < length old → e.buyers ≡ (entry_at old b).buyers → (entry_at (set old b e) v).buyers ≡ (entry_at old v).buyers
same_buyers old b e v l same =
    elim (cases_eq v b) [
      | inl q ↦ rw q (ap (λ (x : Entry). x.buyers) (get_or-set_same old b e no_entry l) ∙ same)
      | inr ne ↦ ap (λ (x : Entry). x.buyers) (get_or-set_other old b v e no_entry ne)
    ]

same_sellers : (old : List Entry) (b : ℕ) (e : Entry) (v : ℕ) → b < length old → e.sellers ≡ (entry_at old b).sellers → (entry_at (set old b e) v).sellers ≡ (entry_at old v).sellers
same_sellers old b e v l same =
    elim (cases_eq v b) [
      | inl q ↦ rw q (ap (λ (x : Entry). x.sellers) (get_or-set_same old b e no_entry l) ∙ same)
      | inr ne ↦ ap (λ (x : Entry). x.sellers) (get_or-set_other old b v e no_entry ne)
    ]

new_sellers : (old : List Entry) (b s : ℕ) (on : Bool) (e : Entry) (v u : ℕ) → b < length old → ((m : ℕ) → has e.sellers m ≡ cond (eqb m s) on (has (entry_at old b).sellers m))
    → has (entry_at (set old b e) v).sellers u ≡ cond (eqb v b && eqb u s) on (has (entry_at old v).sellers u)
new_sellers old b s on e v u l says =
    elim (cases_eq v b) [
      | inl q ↦ rw (q, eq-eqb b b refl) (ap (λ (x : Entry). has x.sellers u) (get_or-set_same old b e no_entry l) ∙ says u)
      | inr ne ↦ rw (ne_eqb v b ne) (ap (λ (x : Entry). has x.sellers u) (get_or-set_other old b v e no_entry ne))
    ]

new_buyers : (old : List Entry) (b s : ℕ) (on : Bool) (e : Entry) (v u : ℕ) → b < length old → ((m : ℕ) → has e.buyers m ≡ cond (eqb m s) on (has (entry_at old b).buyers m))
    → has (entry_at (set old b e) v).buyers u ≡ cond (eqb v b && eqb u s) on (has (entry_at old v).buyers u)
new_buyers old b s on e v u l says =
    elim (cases_eq v b) [
      | inl q ↦ rw (q, eq-eqb b b refl) (ap (λ (x : Entry). has x.buyers u) (get_or-set_same old b e no_entry l) ∙ says u)
      | inr ne ↦ rw (ne_eqb v b ne) (ap (λ (x : Entry). has x.buyers u) (get_or-set_other old b v e no_entry ne))
    ]

-- the buyer's entry first, and then the seller's
pub noted_one : (f : Flow) (old : List Entry) (first second : Entry) → f.buyer < length old → f.seller < length old
    → first.buyers ≡ (entry_at old f.buyer).buyers → ((m : ℕ) → has first.sellers m ≡ cond (eqb m f.seller) (ltb 0 f.room) (has (entry_at old f.buyer).sellers m))
    → second.sellers ≡ (entry_at (set old f.buyer first) f.seller).sellers
    → ((m : ℕ) → has second.buyers m ≡ cond (eqb m f.buyer) (ltb 0 f.back) (has (entry_at (set old f.buyer first) f.seller).buyers m))
    → IsNoted f old (set (set old f.buyer first) f.seller second)
noted_one f old first second lb ls keeps says keeps_too says_too =
    let mid = set old f.buyer first in
    let in_mid : f.seller < length (set old f.buyer first) = omega (arith, length-set old f.buyer first) in
    record {
      one_each = length-set mid f.seller second ∙ length-set old f.buyer first;
      sellers = λ v u l.
          ap (λ (x : MemberSet). has x u) (same_sellers mid f.seller second v in_mid keeps_too) ∙ new_sellers old f.buyer f.seller (ltb 0 f.room) first v u lb says;
      buyers = λ v u l.
          new_buyers mid f.seller f.buyer (ltb 0 f.back) second v u in_mid says_too
          ∙ ap (λ (x : MemberSet). cond (eqb v f.seller && eqb u f.buyer) (ltb 0 f.back) (has x u)) (same_buyers old f.buyer first v lb keeps);
    }
