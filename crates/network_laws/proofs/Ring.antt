-- Products of integers, which `omega (arith, ints)` reads as unknowns.
use Rattle.std.proofs.Common.{◌≡◌, ℕ, ◌*◌, ◌≤◌, ℤ, pos, negsuc, ◌+ℤ◌, ◌*ℤ◌, neg_ℤ, ◌≤ℤ◌, ap, arith}
use Rattle.std.proofs.lemmas.Int.{ints}
use Rattle.std.proofs.Math.Nat.{mul-le-mul_left}
use borrow.Author.Differences.{up, down, product_is, sum_is_lem, neg_is, same_in}

pub mul_add : (a b c : ℤ) → a *ℤ (b +ℤ c) ≡ (a *ℤ b) +ℤ (a *ℤ c)
mul_add a b c =
    same_in (a *ℤ (b +ℤ c)) ((a *ℤ b) +ℤ (a *ℤ c))
    (omega (arith, product_is a (b +ℤ c), product_is a b, product_is a c, sum_is_lem (a *ℤ b) (a *ℤ c), ap (λ x. up a * x) (sum_is_lem b c), ap (λ x. down a * x) (sum_is_lem b c)))

pub add_mul : (a b c : ℤ) → (a +ℤ b) *ℤ c ≡ (a *ℤ c) +ℤ (b *ℤ c)
add_mul a b c =
    same_in ((a +ℤ b) *ℤ c) ((a *ℤ c) +ℤ (b *ℤ c))
    (omega (arith, product_is (a +ℤ b) c, product_is a c, product_is b c, sum_is_lem (a *ℤ c) (b *ℤ c), ap (λ x. x * up c) (sum_is_lem a b), ap (λ x. x * down c) (sum_is_lem a b)))

pub neg_mul : (a b : ℤ) → neg_ℤ a *ℤ b ≡ neg_ℤ (a *ℤ b)
neg_mul a b =
    same_in (neg_ℤ a *ℤ b) (neg_ℤ (a *ℤ b))
    (omega (arith, product_is (neg_ℤ a) b, product_is a b, neg_is (a *ℤ b), ap (λ x. x * up b) (neg_is a).0, ap (λ x. x * down b) (neg_is a).0, ap (λ x. x * up b) (neg_is a).1, ap (λ x. x * down b) (neg_is a).1))

pub one_mul : (b : ℤ) → pos 1 *ℤ b ≡ b
one_mul b = same_in (pos 1 *ℤ b) b (omega (arith, product_is (pos 1) b))

pub mul_zero : (a : ℤ) → a *ℤ pos 0 ≡ pos 0
mul_zero a = same_in (a *ℤ pos 0) (pos 0) (omega (arith, product_is a (pos 0)))

-- a larger amount at a cost that is not negative, and at one that is not positive
pub mul_mono : (r : ℤ) (x y : ℕ) → pos 0 ≤ℤ r → x ≤ y → (r *ℤ pos x) ≤ℤ (r *ℤ pos y)
mul_mono (pos r) x y h le = omega (arith, ints, mul-le-mul_left r le)
mul_mono (negsuc r) x y h le = omega (arith, ints)

pub mul_anti : (r : ℤ) (x y : ℕ) → r ≤ℤ pos 0 → x ≤ y → (r *ℤ pos y) ≤ℤ (r *ℤ pos x)
mul_anti (pos r) x y h le = let z : r ≡ 0 = omega (arith, ints) in rw z (omega (arith, ints))
mul_anti (negsuc r) x y h le = omega (arith, ints, mul-le-mul_left r le)
