-- Bounds on both sides.
use Rattle.std.proofs.Common.{ℕ, suc, ◌*◌, ◌≤◌, ℤ, pos, negsuc, ◌*ℤ◌, arith}
use Rattle.std.proofs.lemmas.Int.{ints}
use Rattle.dual_certificate.specs.Bounds.{IsBetween}

mul_le : (a b m n : ℕ) → a ≤ m → b ≤ n → a * b ≤ m * n
mul_le a b m n h h' = grind arith

pub mul_between : (m n : ℕ) (a b : ℤ) → IsBetween m a → IsBetween n b → IsBetween (m * n) (a *ℤ b)
mul_between m n (pos a) (pos b) h h' =
    let le = mul_le a b m n (omega (arith, ints, h.high)) (omega (arith, ints, h'.high)) in
    record { low = omega (arith, ints); high = omega (arith, ints) }
mul_between m n (pos a) (negsuc b) h h' =
    let le = mul_le a (suc b) m n (omega (arith, ints, h.high)) (omega (arith, ints, h'.low)) in
    record { low = omega (arith, ints); high = omega (arith, ints) }
mul_between m n (negsuc a) (pos b) h h' =
    let le = mul_le (suc a) b m n (omega (arith, ints, h.low)) (omega (arith, ints, h'.high)) in
    record { low = omega (arith, ints); high = omega (arith, ints) }
mul_between m n (negsuc a) (negsuc b) h h' =
    let le = mul_le (suc a) (suc b) m n (omega (arith, ints, h.low)) (omega (arith, ints, h'.low)) in
    record { low = omega (arith, ints); high = omega (arith, ints) }
