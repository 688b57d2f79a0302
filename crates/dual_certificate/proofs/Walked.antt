-- What the test of one pair, or of one member, finds.
use Rattle.std.proofs.Common.{◌≡◌, ◌≢◌, ℕ, ◌+◌, Bool, true, false, cond, Option, Some, None, List, ℤ, refl, sym, ap, ◌∙◌, ◌↔◌, arith}
use Rattle.std.specs.Option.{option_or, IsNone}
use Rattle.std.specs.Ordering.{int_eq}
use Rattle.std.proofs.lemmas.Bool.{both_ways}
use Rattle.std.proofs.lemmas.Option.{none-some}
use Rattle.std.proofs.lemmas.Int.{ints}
use Rattle.network_laws.specs.declared.rows.Row.{Row}
use Rattle.network_laws.specs.declared.rows.LimitRow.{LimitRow}
use Rattle.network_laws.specs.declared.clash.Clash.{Clash}
use Rattle.network_laws.specs.declared.clash.Clash.TheVariants.{Net}
use Rattle.network_laws.specs.Networks.{NetworkData, amount_in, sold, bought, net}
use Rattle.network_laws.specs.Limits.{LimitsData, lower_in, upper_in, reduced, IsCertified}
use Rattle.network_laws.specs.Clash.{bounds_clash, price_clash, net_clash, pair_bounds_clash, pair_price_clash, first_below, first_pair, first_clash}
use Rattle.network_laws.proofs.Clashes.{no_clash_is_certified}
use Rattle.dual_certificate.specs.Walks.{rows_bounds_clash, rows_price_clash}

pub bounds_found : (limits : List LimitRow) (rows : List Row) (i j amount low : ℕ) (high : Option ℕ) (r : Option Clash) → amount ≡ amount_in rows i j → low ≡ lower_in limits i j → high ≡ upper_in limits i j → r ≡ bounds_clash i j amount low high → rows_bounds_clash limits rows i j ≡ r
bounds_found limits rows i j amount low high r e_amount e_low e_high e =
    sym (e ∙ ap (λ x. bounds_clash i j x low high) e_amount ∙ ap (λ x. bounds_clash i j (amount_in rows i j) x high) e_low ∙ ap (bounds_clash i j (amount_in rows i j) (lower_in limits i j)) e_high)

pub price_found : (limits : List LimitRow) (rows : List Row) (p : List ℤ) (i j amount low : ℕ) (high : Option ℕ) (cost : ℤ) (r : Option Clash) → amount ≡ amount_in rows i j → low ≡ lower_in limits i j → high ≡ upper_in limits i j → cost ≡ reduced p i j → r ≡ price_clash i j amount low high cost → rows_price_clash limits rows p i j ≡ r
price_found limits rows p i j amount low high cost r e_amount e_low e_high e_cost e =
    sym (e ∙ ap (λ x. price_clash i j x low high cost) e_amount ∙ ap (λ x. price_clash i j (amount_in rows i j) x high cost) e_low ∙ ap (λ x. price_clash i j (amount_in rows i j) (lower_in limits i j) x cost) e_high ∙ ap (price_clash i j (amount_in rows i j) (lower_in limits i j) (upper_in limits i j)) e_cost)

-- the sums that the test compares, crosswise
pub net_same : (old new : NetworkData) (i : ℕ) → sold new i + bought old i ≡ sold old i + bought new i → net_clash old new i ≡ None
net_same old new i e = by (int_eq (net new i) (net old i)) refl
  where
    by : (t : Bool) → int_eq (net new i) (net old i) ≡ t → cond t None (Some (Net i)) ≡ None
    by true e' = refl
    by false e' = absurd (grind (arith, ints, e))

pub net_differs : (old new : NetworkData) (i : ℕ) → sold new i + bought old i ≢ sold old i + bought new i → net_clash old new i ≡ Some (Net i)
net_differs old new i ne = by (int_eq (net new i) (net old i)) refl
  where
    by : (t : Bool) → int_eq (net new i) (net old i) ≡ t → cond t None (Some (Net i)) ≡ Some (Net i)
    by true e' = let same : net new i ≡ net old i = grind (arith, ints) in absurd (ne (omega (arith, ints, same)))
    by false e' = refl

-- what the walks over the rows of limits and network find
pub bounds_of_rows : (limits : LimitsData) (new : NetworkData) (m n : ℕ) (xs : List LimitRow) (ys : List Row) → m ≡ n → xs ≡ limits.rows → ys ≡ new.rows → first_pair m (rows_bounds_clash xs ys) ≡ first_pair n (pair_bounds_clash limits new)
bounds_of_rows limits new m n xs ys e e' e'' =
    ap (λ k. first_pair k (rows_bounds_clash xs ys)) e ∙ ap (λ zs. first_pair n (rows_bounds_clash zs ys)) e' ∙ ap (λ zs. first_pair n (rows_bounds_clash limits.rows zs)) e''

pub prices_of_rows : (limits : LimitsData) (new : NetworkData) (p : List ℤ) (m n : ℕ) (xs : List LimitRow) (ys : List Row) → m ≡ n → xs ≡ limits.rows → ys ≡ new.rows → first_pair m (rows_price_clash xs ys p) ≡ first_pair n (pair_price_clash limits new p)
prices_of_rows limits new p m n xs ys e e' e'' =
    ap (λ k. first_pair k (rows_price_clash xs ys p)) e ∙ ap (λ zs. first_pair n (rows_price_clash zs ys p)) e' ∙ ap (λ zs. first_pair n (rows_price_clash limits.rows zs p)) e''

module _ (limits : LimitsData) (old new : NetworkData) (p : List ℤ) where
  pub first_of_bounds : (c : Clash) → first_pair old.members (pair_bounds_clash limits new) ≡ Some c → Some c ≡ first_clash limits old new p
  first_of_bounds c e =
      sym (ap (λ o. option_or o (option_or (first_below old.members (net_clash old new)) (first_pair old.members (pair_price_clash limits new p)))) e)

  pub first_of_rest : first_pair old.members (pair_bounds_clash limits new) ≡ None → first_clash limits old new p ≡ option_or (first_below old.members (net_clash old new)) (first_pair old.members (pair_price_clash limits new p))
  first_of_rest e =
      ap (λ o. option_or o (option_or (first_below old.members (net_clash old new)) (first_pair old.members (pair_price_clash limits new p)))) e

  pub first_of_nets : (c : Clash) → first_pair old.members (pair_bounds_clash limits new) ≡ None → first_below old.members (net_clash old new) ≡ Some c → Some c ≡ first_clash limits old new p
  first_of_nets c e e' = sym (first_of_rest e ∙ ap (λ o. option_or o (first_pair old.members (pair_price_clash limits new p))) e')

  pub first_of_prices : (r : Option Clash) → first_pair old.members (pair_bounds_clash limits new) ≡ None → first_below old.members (net_clash old new) ≡ None → r ≡ first_pair old.members (pair_price_clash limits new p) → r ≡ first_clash limits old new p
  first_of_prices r e e' e'' = e'' ∙ sym (first_of_rest e ∙ ap (λ o. option_or o (first_pair old.members (pair_price_clash limits new p))) e')

  pub first_where_clean : (r : Option Clash) → first_pair old.members (pair_bounds_clash limits new) ≡ None → first_pair old.members (pair_price_clash limits new p) ≡ None → r ≡ first_below old.members (net_clash old new) → r ≡ first_clash limits old new p
  first_where_clean None e e' e'' = first_of_prices None e (sym e'') (sym e')
  first_where_clean (Some c) e e' e'' = first_of_nets c e (sym e'')

  pub certified_iff : limits.members ≡ old.members → new.members ≡ old.members → (r : Option Clash) → r ≡ first_clash limits old new p → IsNone r ↔ IsCertified limits old new p
  certified_iff m m' None e =
      let law = no_clash_is_certified limits old new p m m' in
      ((λ _. law.0 (sym e)), (λ _. refl))
  certified_iff m m' (Some c) e =
      let law = no_clash_is_certified limits old new p m m' in
      ((λ h. absurd (both_ways true h refl)), (λ certified. absurd (none-some c (sym (e ∙ law.1 certified)))))
