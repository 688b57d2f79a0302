-- What contracts see of the votes on a plan, and the flags that keep them.
use Rattle.std.specs.Prelude.{ℕ, ◌/◌, ◌%◌, ◌==◌, not, Bool, List, length, filter, slice_index}
use Rattle.std.specs.Int.{bit_at}
use Rattle.command_types.specs.Books.{listed_below}
use Rattle.command_types.specs.CycleRefusals.{has_voted}
use Rattle.command_types.specs.Plans.{only_if}
use Rattle.units_core.specs.declared.limits.TheConstants.{MOST_MEMBERS}

-- the members that must accept, and those that have accepted, each in rising order
pub record VotesView : Type 0 where
  pub needed : List ℕ
  pub accepted : List ℕ

-- the member's flag is set: member n has the bit n, counted from the lowest bit of the first word
unfoldable pub is_flagged : List ℕ → ℕ → Bool
is_flagged words member = bit_at (slice_index words (member / 64)) (member % 64) == 1

-- the members below 256 whose flag is set, in rising order
unfoldable pub flagged : List ℕ → List ℕ
flagged words = listed_below MOST_MEMBERS (λ member. only_if (is_flagged words member) member)

-- the member is not among those that have accepted
abbrev pub is_left : List ℕ → ℕ → Bool
is_left accepted member = not (has_voted accepted member)

-- how many of the needed members have not accepted
abbrev pub left_of : List ℕ → List ℕ → ℕ
left_of needed accepted = length (filter (is_left accepted) needed)
