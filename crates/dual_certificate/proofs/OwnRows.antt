-- What a certificate says of a member rests on the member's own rows.
use Rattle.std.proofs.Common.{◌≡◌, ◌≢◌, ℕ, Bool, true, false, cond, eqb, List, [], ◌∷◌, filter, sum_by, ℤ, refl, sym, ap, ◌∙◌, subst, arith, ⊎_elim}
use Rattle.std.proofs.lemmas.Bool.{cases_Bool, both_ways, eq-eqb, or_left, or_right}
use Rattle.std.proofs.lemmas.Int.{ints}
use Rattle.std.proofs.lemmas.List.Sums.{sum_by-cons}
use Rattle.network_laws.specs.declared.rows.Row.{Row}
use Rattle.network_laws.specs.declared.rows.LimitRow.{LimitRow}
use Rattle.network_laws.specs.Networks.{NetworkData, pair_part, sold_part, bought_part, at, net}
use Rattle.network_laws.specs.Limits.{LimitsData, is_for, lower_in, upper_in, lower, upper, IsWithin, IsBelow}
use Rattle.network_laws.proofs.RowSums.{pair_part-seller, sold_part-other, bought_part-other}
use Rattle.network_laws.proofs.RowOrder.{pair_part-other_buyer}
use Rattle.network_laws.proofs.LimitOrder.{is_for-seller, is_for-buyer}
use Rattle.dual_certificate.specs.Own.{has_side, has_limit_side, own_network, own_limits, IsPairCertified, IsCertifiedFor}
use Rattle.dual_certificate.specs.OwnLaws.{OwnRowsAreEnough}

-- rows that count for nothing can be left out
sum_kept : (p : Row → Bool) (f : Row → ℕ) → ((row : Row) → p row ≡ false → f row ≡ 0) → (rows : List Row) → sum_by f (filter p rows) ≡ sum_by f rows
sum_kept p f h [] = refl
sum_kept p f h (row ∷ rows) =
    ⊎_elim (λ (t : p row ≡ true). rw t (omega (arith, sum_by-cons f row (filter p rows), sum_by-cons f row rows, sum_kept p f h rows)))
    (λ (e : p row ≡ false). rw e (omega (arith, sum_by-cons f row rows, h row e, sum_kept p f h rows)))
    (cases_Bool (p row))

bounds_kept : (p : LimitRow → Bool) (i j : ℕ) → ((row : LimitRow) → p row ≡ false → is_for i j row ≡ false) → (rows : List LimitRow) → (lower_in (filter p rows) i j ≡ lower_in rows i j) × (upper_in (filter p rows) i j ≡ upper_in rows i j)
bounds_kept p i j h [] = (refl, refl)
bounds_kept p i j h (row ∷ rows) =
    let rest = bounds_kept p i j h rows in
    ⊎_elim (λ (t : p row ≡ true).
    ((rw t (ap (λ x. cond (is_for i j row) row.lower x) rest.0)), (rw t (ap (λ x. cond (is_for i j row) row.upper x) rest.1))))
    (λ (e : p row ≡ false).
    ((rw (e, h row e) rest.0), (rw (e, h row e) rest.1)))
    (cases_Bool (p row))

module _ (m : ℕ) where
  no_side : (row : Row) → has_side m row ≡ false → (row.seller ≢ m) × (row.buyer ≢ m)
  no_side row h =
      ((λ e. both_ways (has_side m row) h (or_left (eqb row.seller m) (eqb row.buyer m) (eq-eqb row.seller m e))), (λ e. both_ways (has_side m row) h (or_right (eqb row.seller m) (eqb row.buyer m) (eq-eqb row.buyer m e))))

  no_limit_side : (row : LimitRow) → has_limit_side m row ≡ false → (row.seller ≢ m) × (row.buyer ≢ m)
  no_limit_side row h =
      ((λ e. both_ways (has_limit_side m row) h (or_left (eqb row.seller m) (eqb row.buyer m) (eq-eqb row.seller m e))), (λ e. both_ways (has_limit_side m row) h (or_right (eqb row.seller m) (eqb row.buyer m) (eq-eqb row.buyer m e))))

  sells : (y : NetworkData) (j : ℕ) → at (own_network m y) m j ≡ at y m j
  sells y j = sum_kept (has_side m) (pair_part m j) (λ row h. pair_part-seller m j row (λ e. (no_side row h).0 (sym e))) y.rows

  buys : (y : NetworkData) (i : ℕ) → at (own_network m y) i m ≡ at y i m
  buys y i = sum_kept (has_side m) (pair_part i m) (λ row h. pair_part-other_buyer i m row (no_side row h).1) y.rows

  same_own_net : (y : NetworkData) → net (own_network m y) m ≡ net y m
  same_own_net y =
      omega (arith, ints, sum_kept (has_side m) (sold_part m) (λ row h. sold_part-other m row (λ e. (no_side row h).0 (sym e))) y.rows, sum_kept (has_side m) (bought_part m) (λ row h. bought_part-other m row (λ e. (no_side row h).1 (sym e))) y.rows)

  selling_bounds : (limits : LimitsData) (j : ℕ) → (lower (own_limits m limits) m j ≡ lower limits m j) × (upper (own_limits m limits) m j ≡ upper limits m j)
  selling_bounds limits j = bounds_kept (has_limit_side m) m j (λ row h. is_for-seller m j row (no_limit_side row h).0) limits.rows

  buying_bounds : (limits : LimitsData) (i : ℕ) → (lower (own_limits m limits) i m ≡ lower limits i m) × (upper (own_limits m limits) i m ≡ upper limits i m)
  buying_bounds limits i = bounds_kept (has_limit_side m) i m (λ row h. is_for-buyer i m row (no_limit_side row h).1) limits.rows

-- what is said of a pair rests on its amount and its bounds
same_pair : (limits others : LimitsData) (y z : NetworkData) (p : List ℤ) (i j : ℕ) → at y i j ≡ at z i j → (lower limits i j ≡ lower others i j) × (upper limits i j ≡ upper others i j) → IsPairCertified limits y p i j → IsPairCertified others z p i j
same_pair limits others y z p i j amount bounds c = record {
  above = omega (arith, amount, bounds.0, c.above);
  below = subst (λ a. IsWithin a (upper others i j)) amount (subst (λ o. IsWithin (at y i j) o) bounds.1 c.below);
  growing = λ h. c.growing (subst (λ a. IsBelow a (upper limits i j)) (sym amount) (subst (λ o. IsBelow (at z i j) o) (sym bounds.1) h));
  falling = λ h. c.falling (omega (arith, amount, bounds.0, h));
}

pub own_rows_are_enough : OwnRowsAreEnough
own_rows_are_enough limits old new p m = (there, back)
  where
    own : LimitsData
    own = own_limits m limits

    mine : NetworkData
    mine = own_network m new

    there : IsCertifiedFor own (own_network m old) mine p m → IsCertifiedFor limits old new p m
    there c = record {
      selling = λ j in_j. same_pair own limits mine new p m j (sells m new j) (selling_bounds m limits j) (c.selling j in_j);
      buying = λ i in_i. same_pair own limits mine new p i m (buys m new i) (buying_bounds m limits i) (c.buying i in_i);
      keeping = sym (same_own_net m new) ∙ c.keeping ∙ same_own_net m old;
    }

    back : IsCertifiedFor limits old new p m → IsCertifiedFor own (own_network m old) mine p m
    back c = record {
      selling = λ j in_j. same_pair limits own new mine p m j (sym (sells m new j)) (sym (selling_bounds m limits j).0, sym (selling_bounds m limits j).1) (c.selling j in_j);
      buying = λ i in_i. same_pair limits own new mine p i m (sym (buys m new i)) (sym (buying_bounds m limits i).0, sym (buying_bounds m limits i).1) (c.buying i in_i);
      keeping = same_own_net m new ∙ c.keeping ∙ sym (same_own_net m old);
    }
