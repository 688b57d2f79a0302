-- A text that is on its way into a sink.
use Rattle.std.specs.Prelude.{◌≡◌, ℕ, List, ◌++◌, Option}
use Rattle.outside.specs.Flow.{Takes}

-- A text came behind what waited. Of both the sink took a front, and the rest waits.
pub record Says (begun taken : Option (List ℕ)) (waited waits text : List ℕ) : Type 0 where
  pub written : List ℕ
  pub took : Takes begun taken written
  pub order : waited ++ text ≡ written ++ waits
