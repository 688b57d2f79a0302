-- Cursors into rows, one for each member.
use Rattle.std.proofs.Common.{◌≡◌, ◌≢◌, ℕ, ◌+◌, ◌*◌, ◌<◌, ◌≤◌, List, length, get_or, set, replicate, ap, ◌∙◌, arith, ⊎_elim}
use Rattle.std.proofs.lemmas.Bool.{cases_eq}
use Rattle.std.proofs.lemmas.List.{get_or-set_same, get_or-set_other, length-set, get_or-replicate, length-replicate}
use Rattle.network_laws.specs.declared.rows.Row.{Row}
use Rattle.network_laws.specs.Networks.{IsCursor}
use Rattle.net_positions.specs.Cursors.{AreCursors}

pub at_the_start : (rows : List Row) → AreCursors rows (replicate 256 0) 0
at_the_start rows = record {
  full = length-replicate {A = ℕ} 256 0;
  within = λ member l. omega (arith, get_or-replicate {A = ℕ} 256 member 0 0 l);
  before = λ member k d l lk. absurd (omega (arith, lk, get_or-replicate {A = ℕ} 256 member 0 0 l));
}

-- for a later buyer they are no further past
pub for_later : (rows : List Row) (cursors : List ℕ) (buyer later : ℕ) → buyer ≤ later → AreCursors rows cursors buyer → AreCursors rows cursors later
for_later rows cursors buyer later le h = record {
  full = h.full;
  within = h.within;
  before = λ member k d l lk. omega (arith, le, h.before member k d l lk);
}

-- one of them went on
module _ (rows : List Row) (cursors : List ℕ) (seller buyer m : ℕ) (in_range : seller < 256) (end : m ≤ length rows) (cursor : IsCursor rows m (seller * 65536 + buyer)) (h : AreCursors rows cursors buyer) where
  here : (member : ℕ) → member ≡ seller → get_or (set cursors seller m) member 0 ≡ m
  here member e = ap (λ i. get_or (set cursors seller m) i 0) e ∙ get_or-set_same cursors seller m 0 (omega (arith, in_range, h.full))

  other : (member : ℕ) → member ≢ seller → get_or (set cursors seller m) member 0 ≡ get_or cursors member 0
  other member ne = get_or-set_other cursors seller member m 0 ne

  pub one_moved : AreCursors rows (set cursors seller m) buyer
  one_moved = record {
    full = length-set cursors seller m ∙ h.full;
    within = λ member l.
        ⊎_elim (λ (e : member ≡ seller). omega (arith, here member e, end)) (λ (ne : member ≢ seller). omega (arith, other member ne, h.within member l)) (cases_eq member seller);
    before = λ member k d l lk.
        ⊎_elim (λ (e : member ≡ seller). omega (arith, e, cursor.before k d (omega (arith, here member e, lk)))) (λ (ne : member ≢ seller). h.before member k d l (omega (arith, other member ne, lk))) (cases_eq member seller);
  }
