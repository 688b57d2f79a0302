-- Whose the bounds of a pair are.
use Rattle.std.proofs.Common.{◌≡◌, ℕ, ◌-◌, ◌≤◌, ◌<◌, min, max, Bool, true, false, Option, Some, None, if◌then◌else◌, refl, sym, ap, subst, arith, ⊎_elim}
use Rattle.std.specs.Prelude.{nat_le, ◌==◌}
use Rattle.std.proofs.Math.Nat.{min-le_right, min-eq_left, min-eq_right, max-le}
use Rattle.std.proofs.lemmas.Bool.{eqb-true, leb-true}
use Rattle.std.proofs.lemmas.Bool.Decides.{leb_tells, nat_tests}
use Rattle.network_laws.specs.Networks.{at}
use Rattle.network_laws.specs.Limits.{lower}
use Rattle.command_types.specs.declared.proof.Whose.TheVariants.{Seller, Buyer, Hold, Nobody}
use Rattle.command_types.specs.declared.trade.Side.TheVariants.{Out, In}
use Rattle.command_types.specs.MemberProofs.{whose_lower, whose_upper}
use Rattle.command_types.specs.Tolerances.{limits_of, floor_in, ceiling_in, may_grow, pair_floor, pair_upper, smaller_of}
use Rattle.tolerance_sets.specs.Laws.{IsLowerOf, IsUpperOf, BoundsHaveOwners}
use Rattle.tolerance_sets.proofs.PairLimits.{bounds_of_pair}

three_tests : (none holds sells : Bool) (low held seller buyer : ℕ) → (none ≡ true → low ≡ 0) → (holds ≡ true → low ≤ held) → (sells ≡ true → low ≤ seller) → (holds ≡ false → sells ≡ false → low ≤ buyer) →
    IsLowerOf (if none then Nobody else (if holds then Hold else (if sells then Seller else Buyer))) low held seller buyer
three_tests true holds sells low held seller buyer z h s b = z refl
three_tests false true sells low held seller buyer z h s b = h refl
three_tests false false true low held seller buyer z h s b = s refl
three_tests false false false low held seller buyer z h s b = b refl refl

above : (a b : ℕ) → nat_le a b ≡ false → b < a
above a b off = grind (arith, nat_tests)

-- a number within the largest of three and above two of them is within the third
third : (low held seller buyer : ℕ) → low ≤ max (max seller buyer) held → held < low → seller < low → low ≤ buyer
third low held seller buyer le h s = ⊎_elim
    (λ (x : (nat_le low buyer ≡ true) × (low ≤ buyer)). x.1)
    (λ (x : (nat_le low buyer ≡ false) × (buyer < low)).
    let a : seller ≤ low - 1 = omega (arith, s) in
    let b : buyer ≤ low - 1 = omega (arith, x.1) in
    let c : held ≤ low - 1 = omega (arith, h) in
    let all : max (max seller buyer) held ≤ low - 1 = max-le (max-le a b) c in absurd (omega (arith, le, all, h)))
    (leb_tells low buyer)

lower_owned : (low held seller buyer : ℕ) → low ≤ max (max seller buyer) held → IsLowerOf (whose_lower low held seller) low held seller buyer
lower_owned low held seller buyer le =
    three_tests (low == 0) (nat_le low held) (nat_le low seller) low held seller buyer (eqb-true low 0) (leb-true low held) (leb-true low seller)
    (λ h s. third low held seller buyer le (above low held h) (above low seller s))

smaller_owned : (t : Bool) (now a b : ℕ) → nat_le a b ≡ t → IsUpperOf (if t then Seller else Buyer) true (Some (max now (min a b))) now (Some a) (Some b)
smaller_owned true now a b e = (refl, ap (λ m. Some (max now m)) (min-eq_left (leb-true a b e)))
smaller_owned false now a b e = let less = above a b e in (refl, ap (λ m. Some (max now m)) (min-eq_right (omega (arith, less))))

upper_owned : (grows : Bool) (now : ℕ) (seller buyer : Option ℕ) → IsUpperOf (whose_upper grows seller buyer) grows (pair_upper grows now (smaller_of seller buyer)) now seller buyer
upper_owned false now seller buyer = (refl, refl)
upper_owned true now None None = refl
upper_owned true now (Some a) None = (refl, refl)
upper_owned true now None (Some b) = (refl, refl)
upper_owned true now (Some a) (Some b) = smaller_owned (nat_le a b) now a b refl

-- each bound of a pair is of whom it is told to be
pub bounds_have_owners : BoundsHaveOwners
bounds_have_owners mode members settings product network held i j in_i in_j =
    let bounds = bounds_of_pair mode members settings product network held i j in_i in_j in
    let low = lower (limits_of mode members settings product network held) i j in
    let floor = pair_floor settings product i j in
    let most_out = ceiling_in settings i product j Out in
    let most_in = ceiling_in settings j product i In in
    let grows = may_grow mode members i j in
    let within : low ≤ max floor (at held i j) = omega (arith, bounds.0, min-le_right (at network i j) (max floor (at held i j))) in (
      lower_owned low (at held i j) (floor_in settings i product j Out) (floor_in settings j product i In) within,
      subst (λ high. IsUpperOf (whose_upper grows most_out most_in) grows high (at network i j) most_out most_in) (sym bounds.1) (upper_owned grows (at network i j) most_out most_in),
    )
