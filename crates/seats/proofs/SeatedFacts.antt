-- Seats that are split off from one pass.
use Rattle.std.proofs.Common.{◌≡◌, ℕ, ap}
use Rattle.session.specs.Serving.{Sight}
use Rattle.seats.specs.Final.{seated}

-- what one pass has seen and another, but for the numbers of their seats
pub seated_any : (a b : Sight) (n : ℕ) → seated a 0 ≡ seated b 0 → seated a n ≡ seated b n
seated_any a b n same = ap (λ (s : Sight). seated s n) same
