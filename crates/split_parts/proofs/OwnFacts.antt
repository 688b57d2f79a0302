-- A part's limits and network are limits and a network, within them.
use Rattle.std.proofs.Common.{◌≡◌, ◌≢◌, ℕ, ◌<◌, ◌+◌, ◌*◌, true, false, List, [], ◌∷◌, length, get_or, Some, None, Option, ◌⊎◌, inl, inr, refl, sym, ap, ◌∙◌, subst, arith, ⊎_elim}
use Rattle.std.specs.Prelude.{All, filter_map}
use Rattle.std.proofs.lemmas.Bool.{cases_eq}
use Rattle.network_laws.specs.declared.rows.Row.{Row}
use Rattle.network_laws.specs.declared.rows.LimitRow.{LimitRow}
use Rattle.network_laws.specs.Networks.{NetworkData, IsNetwork, IsGoodRow, place, at, pair_part}
use Rattle.network_laws.specs.Limits.{LimitsData, AreLimits, IsGoodLimit, limit_place, lower, upper, lower_in, upper_in, is_for, IsWithin, IsWithinLimits}
use Rattle.network_laws.proofs.LimitOrder.{is_for-seller, is_for-buyer, is_for-yes}
use Rattle.network_laws.proofs.RowSums.{pair_part-seller, pair_part-is}
use Rattle.network_laws.proofs.RowOrder.{pair_part-other_buyer}
use Rattle.split_parts.specs.Own.{number_in, own_row, own_bounds, own_limits, own_network, row_between, bounds_between}
use Rattle.split_parts.specs.Parts.{IsRisingPart}
use Rattle.split_parts.proofs.Numbers.{option_cases, some_is, none_some, number_some, number_none, number_at, number_rises, part_short}
use Rattle.split_parts.proofs.Kept.{kept_all, kept_pairs, kept_sum, kept_le, kept_yes, kept_no}

pub record BecomesRow (o p : Option ℕ) (amount : ℕ) (y : Row) : Type 0 where
  pub seller : o ≡ Some y.seller
  pub buyer : p ≡ Some y.buyer
  pub amounts : y.amount ≡ amount

pub row_from : (o p : Option ℕ) (amount : ℕ) (y : Row) → row_between o p amount ≡ Some y → BecomesRow o p amount y
row_from None p amount y e = absurd (none_some y e)
row_from (Some a) None amount y e = absurd (none_some y e)
row_from (Some a) (Some b) amount y e = let is = some_is (record { seller = a; buyer = b; amount = amount }) y e in record { seller = ap (λ r. Some r.seller) is; buyer = ap (λ r. Some r.buyer) is; amounts = sym (ap (λ r. r.amount) is) }

pub row_none : (o p : Option ℕ) (amount : ℕ) → row_between o p amount ≡ None → (o ≡ None) ⊎ (p ≡ None)
row_none None p amount e = inl refl
row_none (Some a) None amount e = inr refl
row_none (Some a) (Some b) amount e = absurd (none_some (record { seller = a; buyer = b; amount = amount }) (sym e))

record BecomesBounds (o p : Option ℕ) (low : ℕ) (high : Option ℕ) (y : LimitRow) : Type 0 where
  seller : o ≡ Some y.seller
  buyer : p ≡ Some y.buyer
  low_is : y.lower ≡ low
  high_is : y.upper ≡ high

bounds_from : (o p : Option ℕ) (low : ℕ) (high : Option ℕ) (y : LimitRow) → bounds_between o p low high ≡ Some y → BecomesBounds o p low high y
bounds_from None p low high y e = absurd (none_some y e)
bounds_from (Some a) None low high y e = absurd (none_some y e)
bounds_from (Some a) (Some b) low high y e = let is = some_is (record { seller = a; buyer = b; lower = low; upper = high }) y e in record { seller = ap (λ r. Some r.seller) is; buyer = ap (λ r. Some r.buyer) is; low_is = sym (ap (λ r. r.lower) is); high_is = sym (ap (λ r. r.upper) is) }

bounds_none : (o p : Option ℕ) (low : ℕ) (high : Option ℕ) → bounds_between o p low high ≡ None → (o ≡ None) ⊎ (p ≡ None)
bounds_none None p low high e = inl refl
bounds_none (Some a) None low high e = inr refl
bounds_none (Some a) (Some b) low high e = absurd (none_some (record { seller = a; buyer = b; lower = low; upper = high }) (sym e))

-- order by seller and buyer is kept
lexical : (part : List ℕ) (s b s' b' p q p' q' : ℕ) → IsRisingPart part → number_in part s ≡ Some p → number_in part b ≡ Some q → number_in part s' ≡ Some p' → number_in part b' ≡ Some q' → b < 65536 → b' < 65536 → q < 65536 → q' < 65536 → s * 65536 + b < s' * 65536 + b' → p * 65536 + q < p' * 65536 + q'
lexical part s b s' b' p q p' q' rising sp bq sp' bq' lb lb' lq lq' lt =
    ⊎_elim (λ (e : s ≡ s'). let same : p ≡ p' = some_is p p' (sym sp ∙ ap (number_in part) e ∙ sp') in let up : q < q' = number_rises part b b' q q' rising bq bq' (omega arith) in omega arith)
    (λ (n : s ≢ s'). let up : p < p' = number_rises part s s' p p' rising sp sp' (omega arith) in omega arith)
    (cases_eq s s')

pub own_limits_good : (limits : LimitsData) (part : List ℕ) → AreLimits limits → IsRisingPart part → All (λ m. m < limits.members) part → AreLimits (own_limits limits part)
own_limits_good limits part good rising within =
    let short = part_short part limits.members rising within in
    let few = good.few in
    record {
      few = omega arith;
      rows = record {
        good = kept_all (own_bounds part) (IsGoodLimit limits.members) (IsGoodLimit (length part)) (λ x y ok e.
            let is = bounds_from (number_in part x.seller) (number_in part x.buyer) x.lower x.upper y e in
            let s = number_some part x.seller y.seller is.seller in
            let b = number_some part x.buyer y.buyer is.buyer in
            record {
              seller = s.0;
              buyer = b.0;
              different = λ q. ok.different (sym s.1 ∙ ap (λ k. get_or part k 0) q ∙ b.1);
              not_crossed = subst (λ h. IsWithin y.lower h) (sym is.high_is) (subst (λ l. IsWithin l x.upper) (sym is.low_is) ok.not_crossed);
            }) limits.rows good.rows.good;
        rising = kept_pairs (own_bounds part) (IsGoodLimit limits.members) (λ a b. limit_place a < limit_place b) (λ a b. limit_place a < limit_place b) (λ x x' y y' ok ok' e e' lt.
            let is = bounds_from (number_in part x.seller) (number_in part x.buyer) x.lower x.upper y e in
            let is' = bounds_from (number_in part x'.seller) (number_in part x'.buyer) x'.lower x'.upper y' e' in
            let b = (number_some part x.buyer y.buyer is.buyer).0 in
            let b' = (number_some part x'.buyer y'.buyer is'.buyer).0 in
            let h = ok.buyer in
            let h' = ok'.buyer in
            lexical part x.seller x.buyer x'.seller x'.buyer y.seller y.buyer y'.seller y'.buyer rising is.seller is.buyer is'.seller is'.buyer (omega arith) (omega arith) (omega arith) (omega arith) lt) limits.rows good.rows.good good.rows.rising;
      };
    }

pub own_network_good : (y : NetworkData) (part : List ℕ) → IsNetwork y → IsRisingPart part → All (λ m. m < y.members) part → IsNetwork (own_network y part)
own_network_good y part good rising within =
    let short = part_short part y.members rising within in
    let few = good.few in
    record {
      few = omega arith;
      rows = record {
        good = kept_all (own_row part) (IsGoodRow y.members) (IsGoodRow (length part)) (λ x z ok e.
            let is = row_from (number_in part x.seller) (number_in part x.buyer) x.amount z e in
            let s = number_some part x.seller z.seller is.seller in
            let b = number_some part x.buyer z.buyer is.buyer in
            record {
              seller = s.0;
              buyer = b.0;
              different = λ q. ok.different (sym s.1 ∙ ap (λ k. get_or part k 0) q ∙ b.1);
              positive = (let a = is.amounts in let p = ok.positive in omega arith);
            }) y.rows good.rows.good;
        rising = kept_pairs (own_row part) (IsGoodRow y.members) (λ a b. place a < place b) (λ a b. place a < place b) (λ x x' z z' ok ok' e e' lt.
            let is = row_from (number_in part x.seller) (number_in part x.buyer) x.amount z e in
            let is' = row_from (number_in part x'.seller) (number_in part x'.buyer) x'.amount z' e' in
            let b = (number_some part x.buyer z.buyer is.buyer).0 in
            let b' = (number_some part x'.buyer z'.buyer is'.buyer).0 in
            let h = ok.buyer in
            let h' = ok'.buyer in
            lexical part x.seller x.buyer x'.seller x'.buyer z.seller z.buyer z'.seller z'.buyer rising is.seller is.buyer is'.seller is'.buyer (omega arith) (omega arith) (omega arith) (omega arith) lt) y.rows good.rows.good good.rows.rising;
        within = (let le = kept_le (own_row part) (λ (r : Row). r.amount) (λ (r : Row). r.amount) (λ x z e. (row_from (number_in part x.seller) (number_in part x.buyer) x.amount z e).amounts) y.rows in let w = good.rows.within in omega arith);
      };
    }

-- the amount between two members of the part is the one between their own numbers
pub own_at : (y : NetworkData) (part : List ℕ) → IsRisingPart part → (a b : ℕ) → a < length part → b < length part → at (own_network y part) a b ≡ at y (get_or part a 0) (get_or part b 0)
own_at y part rising a b la lb =
    kept_sum (own_row part) (λ x. Unit {0}) (pair_part (get_or part a 0) (get_or part b 0)) (pair_part a b) (λ x z u e. gives x z (row_from (number_in part x.seller) (number_in part x.buyer) x.amount z e))
    (λ x u e. drops x (row_none (number_in part x.seller) (number_in part x.buyer) x.amount e)) y.rows (λ k d l. tt)
  where
    gives : (x z : Row) → BecomesRow (number_in part x.seller) (number_in part x.buyer) x.amount z → pair_part a b z ≡ pair_part (get_or part a 0) (get_or part b 0) x
    gives x z is =
        let s = (number_some part x.seller z.seller is.seller).1 in
        let t = (number_some part x.buyer z.buyer is.buyer).1 in
        ⊎_elim (λ (e : z.seller ≡ a).
        ⊎_elim (λ (f : z.buyer ≡ b). pair_part-is a b z e f ∙ is.amounts ∙ sym (pair_part-is (get_or part a 0) (get_or part b 0) x (sym s ∙ ap (λ k. get_or part k 0) e) (sym t ∙ ap (λ k. get_or part k 0) f)))
        (λ (n : z.buyer ≢ b). pair_part-other_buyer a b z n ∙ sym (pair_part-other_buyer (get_or part a 0) (get_or part b 0) x (λ q. n (some_is z.buyer b (sym is.buyer ∙ ap (number_in part) q ∙ number_at part b rising lb)))))
        (cases_eq z.buyer b))
        (λ (n : z.seller ≢ a). pair_part-seller a b z (λ q. n (sym q)) ∙ sym (pair_part-seller (get_or part a 0) (get_or part b 0) x (λ q. n (some_is z.seller a (sym is.seller ∙ ap (number_in part) (sym q) ∙ number_at part a rising la)))))
        (cases_eq z.seller a)

    drops : (x : Row) → (number_in part x.seller ≡ None) ⊎ (number_in part x.buyer ≡ None) → pair_part (get_or part a 0) (get_or part b 0) x ≡ 0
    drops x (inl e) = pair_part-seller (get_or part a 0) (get_or part b 0) x (number_none part x.seller e a la)
    drops x (inr e) = pair_part-other_buyer (get_or part a 0) (get_or part b 0) x (λ q. number_none part x.buyer e b lb (sym q))

-- and so are the bounds
record SameBounds (rows own : List LimitRow) (i j a b : ℕ) : Type 0 where
  low : lower_in own a b ≡ lower_in rows i j
  high : upper_in own a b ≡ upper_in rows i j

same_bounds : (part : List ℕ) → IsRisingPart part → (a b : ℕ) → a < length part → b < length part → (rows : List LimitRow) → SameBounds rows (filter_map (own_bounds part) rows) (get_or part a 0) (get_or part b 0) a b
same_bounds part rising a b la lb [] = record { low = refl; high = refl }
same_bounds part rising a b la lb (row ∷ rows) = by_cases (same_bounds part rising a b la lb rows) (option_cases (own_bounds part row))
  where
    i : ℕ
    i = get_or part a 0

    j : ℕ
    j = get_or part b 0

    other : is_for i j row ≡ false → SameBounds rows (filter_map (own_bounds part) rows) i j a b → (own : List LimitRow) → own ≡ filter_map (own_bounds part) rows → SameBounds (row ∷ rows) own i j a b
    other e rest own is = record {
      low = ap (λ xs. lower_in xs a b) is ∙ rest.low ∙ sym ((let q : lower_in (row ∷ rows) i j ≡ lower_in rows i j = rw e refl in q));
      high = ap (λ xs. upper_in xs a b) is ∙ rest.high ∙ sym ((let q : upper_in (row ∷ rows) i j ≡ upper_in rows i j = rw e refl in q));
    }

    passed : (y : LimitRow) → is_for i j row ≡ false → is_for a b y ≡ false → SameBounds rows (filter_map (own_bounds part) rows) i j a b → SameBounds (row ∷ rows) (y ∷ filter_map (own_bounds part) rows) i j a b
    passed y e f rest = record {
      low = (let q : lower_in (y ∷ filter_map (own_bounds part) rows) a b ≡ lower_in (filter_map (own_bounds part) rows) a b = rw f refl in q) ∙ rest.low ∙ sym ((let q : lower_in (row ∷ rows) i j ≡ lower_in rows i j = rw e refl in q));
      high = (let q : upper_in (y ∷ filter_map (own_bounds part) rows) a b ≡ upper_in (filter_map (own_bounds part) rows) a b = rw f refl in q) ∙ rest.high ∙ sym ((let q : upper_in (row ∷ rows) i j ≡ upper_in rows i j = rw e refl in q));
    }

    met : (y : LimitRow) → is_for i j row ≡ true → is_for a b y ≡ true → y.lower ≡ row.lower → y.upper ≡ row.upper → SameBounds (row ∷ rows) (y ∷ filter_map (own_bounds part) rows) i j a b
    met y e f low high = record {
      low = (let q : lower_in (y ∷ filter_map (own_bounds part) rows) a b ≡ y.lower = rw f refl in q) ∙ low ∙ sym ((let q : lower_in (row ∷ rows) i j ≡ row.lower = rw e refl in q));
      high = (let q : upper_in (y ∷ filter_map (own_bounds part) rows) a b ≡ y.upper = rw f refl in q) ∙ high ∙ sym ((let q : upper_in (row ∷ rows) i j ≡ row.upper = rw e refl in q));
    }

    missing : (number_in part row.seller ≡ None) ⊎ (number_in part row.buyer ≡ None) → is_for i j row ≡ false
    missing (inl e) = is_for-seller i j row (λ q. number_none part row.seller e a la (sym q))
    missing (inr e) = is_for-buyer i j row (λ q. number_none part row.buyer e b lb (sym q))

    found : (y : LimitRow) → BecomesBounds (number_in part row.seller) (number_in part row.buyer) row.lower row.upper y → SameBounds rows (filter_map (own_bounds part) rows) i j a b → SameBounds (row ∷ rows) (y ∷ filter_map (own_bounds part) rows) i j a b
    found y is rest =
        let s = (number_some part row.seller y.seller is.seller).1 in
        let t = (number_some part row.buyer y.buyer is.buyer).1 in
        ⊎_elim (λ (e : y.seller ≡ a).
        ⊎_elim (λ (f : y.buyer ≡ b). met y (is_for-yes i j row (sym s ∙ ap (λ k. get_or part k 0) e) (sym t ∙ ap (λ k. get_or part k 0) f)) (is_for-yes a b y e f) is.low_is is.high_is)
        (λ (n : y.buyer ≢ b). passed y (is_for-buyer i j row (λ q. n (some_is y.buyer b (sym is.buyer ∙ ap (number_in part) q ∙ number_at part b rising lb)))) (is_for-buyer a b y n) rest)
        (cases_eq y.buyer b))
        (λ (n : y.seller ≢ a). passed y (is_for-seller i j row (λ q. n (some_is y.seller a (sym is.seller ∙ ap (number_in part) q ∙ number_at part a rising la)))) (is_for-seller a b y n) rest)
        (cases_eq y.seller a)

    by_cases : SameBounds rows (filter_map (own_bounds part) rows) i j a b → (own_bounds part row ≡ None) ⊎ ((y : LimitRow) × (own_bounds part row ≡ Some y)) → SameBounds (row ∷ rows) (filter_map (own_bounds part) (row ∷ rows)) i j a b
    by_cases rest (inl e) = other (missing (bounds_none (number_in part row.seller) (number_in part row.buyer) row.lower row.upper e)) rest (filter_map (own_bounds part) (row ∷ rows)) (kept_no (own_bounds part) row rows e)
    by_cases rest (inr y) =
        subst (λ own. SameBounds (row ∷ rows) own i j a b) (sym (kept_yes (own_bounds part) row rows y.0 y.1))
        (found y.0 (bounds_from (number_in part row.seller) (number_in part row.buyer) row.lower row.upper y.0 y.1) rest)

pub own_lower : (limits : LimitsData) (part : List ℕ) → IsRisingPart part → (a b : ℕ) → a < length part → b < length part → lower (own_limits limits part) a b ≡ lower limits (get_or part a 0) (get_or part b 0)
own_lower limits part rising a b la lb = (same_bounds part rising a b la lb limits.rows).low

pub own_upper : (limits : LimitsData) (part : List ℕ) → IsRisingPart part → (a b : ℕ) → a < length part → b < length part → upper (own_limits limits part) a b ≡ upper limits (get_or part a 0) (get_or part b 0)
own_upper limits part rising a b la lb = (same_bounds part rising a b la lb limits.rows).high

pub own_within : (limits : LimitsData) (y : NetworkData) (part : List ℕ) → IsWithinLimits limits y → IsRisingPart part → All (λ m. m < y.members) part → IsWithinLimits (own_limits limits part) (own_network y part)
own_within limits y part h rising within = record {
  above = λ a b la lb.
      let low = own_lower limits part rising a b la lb in
      let amount = own_at y part rising a b la lb in
      let le = h.above (get_or part a 0) (get_or part b 0) (within a 0 la) (within b 0 lb) in
      omega arith;
  below = λ a b la lb.
      subst (IsWithin (at (own_network y part) a b)) (sym (own_upper limits part rising a b la lb))
      (subst (λ z. IsWithin z (upper limits (get_or part a 0) (get_or part b 0))) (sym (own_at y part rising a b la lb)) (h.below (get_or part a 0) (get_or part b 0) (within a 0 la) (within b 0 lb)));
}

-- rows of sellers outside the part are left out
pub row_outside : (part : List ℕ) (row : Row) → number_in part row.seller ≡ None → own_row part row ≡ None
row_outside part row e = ap (λ o. row_between o (number_in part row.buyer) row.amount) e

pub bounds_outside : (part : List ℕ) (row : LimitRow) → number_in part row.seller ≡ None → own_bounds part row ≡ None
bounds_outside part row e = ap (λ o. bounds_between o (number_in part row.buyer) row.lower row.upper) e
