-- Which members a set has.
use Rattle.std.specs.Prelude.{ℕ, zero, suc, ◌+◌, if◌then◌else◌, ◌/◌, ◌%◌, ◌==◌, ◌&&◌, nat_lt, Bool, List, [], slice_index}
use Rattle.std.specs.Int.{bit_at}
use Rattle.member_set.specs.declared.set.MemberSet.{MemberSet}
use Rattle.member_set.specs.declared.part.Part.{Part}

-- whether the words have the member
abbrev pub has_bit : List ℕ → ℕ → Bool
has_bit words m = nat_lt m 256 && (bit_at (slice_index words (m / 64)) (m % 64) == 1)

-- whether the set has the member
unfoldable pub has : MemberSet → ℕ → Bool
has set m = has_bit set.words m

-- whether the part has the member
unfoldable pub has_in : Part → ℕ → Bool
has_in part m = (m / 64 == part.place) && (bit_at part.word (m % 64) == 1)

-- how many of the numbers below n a test takes
unfoldable pub size_to : (ℕ → Bool) → ℕ → ℕ
size_to f zero = 0
size_to f (suc n) = size_to f n + (if f n then 1 else 0)

-- how many members the set has
unfoldable pub size : MemberSet → ℕ
size set = size_to (has set) 256

-- how many members the part has
unfoldable pub size_in : Part → ℕ
size_in part = size_to (has_in part) 256

-- what a reader of a list of sets takes for the sets behind its end
abbrev pub no_members : MemberSet
no_members = record { words = [] }
