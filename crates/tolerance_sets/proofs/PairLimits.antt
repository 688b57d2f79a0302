-- The limits of a product, pair by pair.
use Rattle.std.proofs.Common.{◌≡◌, ◌≢◌, ℕ, ◌+◌, ◌*◌, ◌<◌, ◌≤◌, ◌++◌, max, Bool, true, false, List, [], length, Option, Some, None, refl, sym, ap, ◌∙◌, subst, arith}
use Rattle.std.specs.Prelude.{All}
use Rattle.std.proofs.Math.Nat.{min-le_left, le-min, le-max_left, le-max_right}
use Rattle.std.proofs.lemmas.Bool.{both_ways, eqb-true, eq-eqb}
use Rattle.std.proofs.lemmas.List.{append-nil}
use Rattle.std.proofs.lemmas.List.Elements.{All-nil, All-cons}
use Rattle.network_laws.specs.declared.rows.LimitRow.{LimitRow}
use Rattle.network_laws.specs.Networks.{NetworkData, IsNetwork, at}
use Rattle.network_laws.specs.Limits.{lower, upper, lower_in, upper_in, IsWithin}
use Rattle.network_laws.proofs.LimitOrder.{is_for-yes}
use Rattle.network_laws.proofs.RowOrder.{amount_none}
use Rattle.command_types.specs.declared.cycle.Mode.{Mode}
use Rattle.command_types.specs.declared.roster.MemberRow.{MemberRow}
use Rattle.command_types.specs.declared.tolerance.ToleranceRow.{ToleranceRow}
use Rattle.command_types.specs.Tolerances.{may_grow, is_zero_bound, limit_row, pair_limit, pair_floor, pair_ceiling, pair_lower, pair_upper, limits_of}
use Rattle.tolerance_sets.specs.Laws.{NetworkIsWithin, HeldIsKept, BoundsAreThePairs, LimitsAreGood}
use Rattle.tolerance_sets.proofs.PairRows.{IsOfPair, same_pair, AreBefore, MayFollow, one_more, before_later, rows_of_pairs}

-- an amount is within its pair's bounds
pub lower_le : (now floor held : ℕ) → pair_lower now floor held ≤ now
lower_le now floor held = min-le_left now (max floor held)

pub within_upper : (grows : Bool) (now : ℕ) (ceiling : Option ℕ) → IsWithin now (pair_upper grows now ceiling)
within_upper false now ceiling = omega arith
within_upper true now None = tt
within_upper true now (Some most) = le-max_left now most

within_less : (a b : ℕ) (high : Option ℕ) → a ≤ b → IsWithin b high → IsWithin a high
within_less a b None le h = tt
within_less a b (Some most) le h = omega (arith, le, h)

-- what is held is below the lower bound where the amount is not below it
held_le : (now floor held : ℕ) → held ≤ now → held ≤ pair_lower now floor held
held_le now floor held le = le-min le (le-max_right floor held)

zero_bound : (high : Option ℕ) → is_zero_bound high ≡ true → high ≡ Some 0
zero_bound None e = cc
zero_bound (Some most) e = ap Some (eqb-true most 0 e)

-- the row of a pair
row_own : (i j low : ℕ) (high : Option ℕ) (t : Bool) → is_zero_bound high ≡ t → All (IsOfPair i j) (limit_row i j low high)
row_own i j low high true e = rw e (All-nil (IsOfPair i j))
row_own i j low high false e = rw e (All-cons (IsOfPair i j) (record { seller = i; buyer = j; lower = low; upper = high }) [] (refl, refl) (All-nil (IsOfPair i j)))

row_bounds : (i j low : ℕ) (high : Option ℕ) (t : Bool) → is_zero_bound high ≡ t → IsWithin low high → (lower_in (limit_row i j low high) i j ≡ low) × (upper_in (limit_row i j low high) i j ≡ high)
row_bounds i j low high true e within =
    let none = zero_bound high e in
    let least : low ≤ 0 = subst (IsWithin low) none within in
    let zero_low : 0 ≡ low = omega (arith, least) in
    (rw e zero_low, rw e (sym none))
row_bounds i j low high false e within =
    let yes = is_for-yes i j (record { seller = i; buyer = j; lower = low; upper = high }) refl refl in
    (rw e (rw yes refl), rw e (rw yes refl))

module _ (mode : Mode) (members : List MemberRow) (settings : List ToleranceRow) (product : ℕ) (network held : NetworkData) where
  abbrev low_of : ℕ → ℕ → ℕ
  low_of i j = pair_lower (at network i j) (pair_floor settings product i j) (at held i j)

  abbrev high_of : ℕ → ℕ → Option ℕ
  high_of i j = pair_upper (may_grow mode members i j) (at network i j) (pair_ceiling settings product i j)

  within_pair : (i j : ℕ) → IsWithin (at network i j) (high_of i j)
  within_pair i j = within_upper (may_grow mode members i j) (at network i j) (pair_ceiling settings product i j)

  crossed_not : (i j : ℕ) → IsWithin (low_of i j) (high_of i j)
  crossed_not i j = within_less (low_of i j) (at network i j) (high_of i j) (lower_le (at network i j) (pair_floor settings product i j) (at held i j)) (within_pair i j)

  pub bounds_of_pair : (i j : ℕ) → i < length members → j < length members → (lower (limits_of mode members settings product network held) i j ≡ low_of i j) × (upper (limits_of mode members settings product network held) i j ≡ high_of i j)
  bounds_of_pair i j in_i in_j =
      let same = same_pair (length members) i j (pair_limit mode members settings product network held) in_i in_j (λ a b. row_own a b (low_of a b) (high_of a b) (is_zero_bound (high_of a b)) refl) in
      let own = row_bounds i j (low_of i j) (high_of i j) (is_zero_bound (high_of i j)) refl (crossed_not i j) in
      (same.0 ∙ own.0, same.1 ∙ own.1)

  -- a pair of one member has no row
  not_own : (i : ℕ) → may_grow mode members i i ≡ false
  not_own i = rw (eq-eqb i i refl) refl

pub network_is_within : NetworkIsWithin
network_is_within mode members settings product network held same = record {
  above = λ i j in_i in_j.
      let bounds = bounds_of_pair mode members settings product network held i j (omega (arith, same)) (omega (arith, same)) in
      subst (λ x. x ≤ at network i j) (sym bounds.0) (lower_le (at network i j) (pair_floor settings product i j) (at held i j));
  below = λ i j in_i in_j.
      let bounds = bounds_of_pair mode members settings product network held i j (omega (arith, same)) (omega (arith, same)) in
      subst (IsWithin (at network i j)) (sym bounds.1) (within_pair mode members settings product network held i j);
}

pub held_is_kept : HeldIsKept
held_is_kept mode members settings product network held less i j in_i in_j =
    let bounds = bounds_of_pair mode members settings product network held i j in_i in_j in
    subst (λ x. at held i j ≤ x) (sym bounds.0) (held_le (at network i j) (pair_floor settings product i j) (at held i j) (less i j in_i in_j))

pub bounds_are_the_pairs : BoundsAreThePairs
bounds_are_the_pairs mode members settings product network held i j in_i in_j = bounds_of_pair mode members settings product network held i j in_i in_j

-- no member owes itself
none_to_itself : (network : NetworkData) (i : ℕ) → i < 256 → IsNetwork network → at network i i ≡ 0
none_to_itself network i l h =
    amount_none network.rows i i (λ k d lk e.
    let good = h.rows.good k d lk in
    good.different (omega (arith, e, h.few, good.seller, good.buyer, l)))

-- so the pair of a member with itself has no row
own_bound : (mode : Mode) (members : List MemberRow) (settings : List ToleranceRow) (product : ℕ) (network held : NetworkData) (i : ℕ) → i < 256 → IsNetwork network → is_zero_bound (high_of mode members settings product network held i i) ≡ true
own_bound mode members settings product network held i l h =
    rw (not_own mode members settings product network held i, none_to_itself network i l h) refl

row_follows : (n i j low : ℕ) (high : Option ℕ) (t : Bool) (rows : List LimitRow) → is_zero_bound high ≡ t → i < n → j < n → (is_zero_bound high ≡ false → i ≢ j) → IsWithin low high → AreBefore n (i * 65536 + j) rows → AreBefore n (i * 65536 + j + 1) (rows ++ limit_row i j low high)
row_follows n i j low high true rows e in_i in_j different within h =
    rw e (subst (AreBefore n (i * 65536 + j + 1)) (sym (append-nil rows)) (before_later n (i * 65536 + j) (i * 65536 + j + 1) rows (omega arith) h))
row_follows n i j low high false rows e in_i in_j different within h =
    rw e (one_more n (i * 65536 + j) rows (record { seller = i; buyer = j; lower = low; upper = high }) refl (record { seller = in_i; buyer = in_j; different = different e; not_crossed = within }) h)

pub limits_are_good : LimitsAreGood
limits_are_good mode members settings product network held few good = record {
  few = few;
  rows = rows_of_pairs (length members) (pair_limit mode members settings product network held) few follow;
}
  where
    follow : MayFollow (length members) (pair_limit mode members settings product network held)
    follow i j rows in_i in_j h =
        row_follows (length members) i j (low_of mode members settings product network held i j) (high_of mode members settings product network held i j) (is_zero_bound (high_of mode members settings product network held i j)) rows refl in_i in_j different (crossed_not mode members settings product network held i j) h
      where
        different : is_zero_bound (high_of mode members settings product network held i j) ≡ false → i ≢ j
        different e q =
            let e' = subst (λ k. is_zero_bound (high_of mode members settings product network held i k) ≡ false) (sym q) e in
            both_ways (is_zero_bound (high_of mode members settings product network held i i)) e' (own_bound mode members settings product network held i (omega (arith, few, in_i)) good)
