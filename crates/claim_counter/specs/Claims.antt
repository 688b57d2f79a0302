-- The claims of workers, and the rule of their counter.
use Rattle.std.specs.Prelude.{◌≡◌, ℕ, ◌+◌, ◌-◌, ◌==◌, ◌<◌, ◌≤◌, nat_lt, Bool, true, false, List, [], ◌∷◌, ◌++◌, length}
use mathlib.Core.Option.{some}
use lib.ListN.{get_elem?}
use Rattle.atomic_table.specs.Table.{State, Me}
use Rattle.claim_counter.specs.declared.rule.Claims.{Claims}

abbrev pub one_if : Bool → ℕ
one_if true = 1
one_if false = 0

-- how often x stands in the list
abbrev pub times : ℕ → List ℕ → ℕ
times x [] = 0
times x (y ∷ ys) = one_if (y == x) + times x ys

abbrev pub total : (Claims → ℕ) → List Claims → ℕ
total f [] = 0
total f (v ∷ vs) = f v + total f vs

abbrev pub room_of : Claims → ℕ
room_of v = v.room

abbrev pub parts_of : Claims → ℕ
parts_of v = v.parts

-- how often the view has claimed the number n
abbrev pub claims : ℕ → Claims → ℕ
claims n v = times n v.taken

-- how many numbers the view has claimed
abbrev pub count_of : Claims → ℕ
count_of v = length v.taken

-- The numbers below the word are claimed, each once, and no others. At most 64 claims pass the last piece. A view without a part has claimed nothing.
pub record Kept (pieces : ℕ) (s : State ℕ Claims) : Type 0 where
  pub word : ℕ
  pub words : s.words ≡ word ∷ []
  pub once : (n : ℕ) → total (claims n) s.views ≡ one_if (nat_lt n word)
  pub count : total count_of s.views ≡ word
  pub rooms : total room_of s.views ≤ 64
  pub few : word + total room_of s.views ≤ pieces + 64
  pub parts : total parts_of s.views ≡ 65
  pub idle : (j : ℕ) (v : Claims) → get_elem? s.views j ≡ some v → v.parts ≡ 0 → v.taken ≡ []
  pub same : (j : ℕ) (v : Claims) → get_elem? s.views j ≡ some v → 0 < v.parts → v.pieces ≡ pieces

-- the first worker, who can split off 64 others and keep a part
abbrev pub newcomer : ℕ → Claims
newcomer pieces = record { pieces = pieces; taken = []; room = 64; parts = 65 }

abbrev pub nobody : Claims
nobody = record { pieces = 0; taken = []; room = 0; parts = 0 }

-- a claim past the last piece uses up room
abbrev pub room_after : Bool → ℕ → ℕ
room_after true room = room
room_after false room = room - 1

abbrev pub with_claim : ℕ → Claims → Claims
with_claim n v = record v { taken = n ∷ v.taken; room = room_after (nat_lt n v.pieces) v.room }

abbrev pub rest_of : Claims → Claims
rest_of v = record v { room = v.room - 1; parts = v.parts - 1 }

abbrev pub worker : Claims → Claims
worker v = record { pieces = v.pieces; taken = []; room = 1; parts = 1 }

abbrev pub both : Claims → Claims → Claims
both v w = record v { taken = v.taken ++ w.taken; room = v.room + w.room; parts = v.parts + w.parts }

-- the number n was claimed, which is no less than how many the worker had claimed before
abbrev pub claimed : Me ℕ Claims → ℕ → Me ℕ Claims → Type 0
claimed m n w = (w.0 ≡ with_claim n m.0) × (w.1 ≡ m.1) × (count_of m.0 ≤ n)

-- who has every part knows that the numbers below the word are its own claims, each once, and no others
abbrev pub known : Me ℕ Claims → ℕ → Me ℕ Claims → Type 0
known m n w = (w ≡ m) × (m.0.parts ≡ 65 → (k : ℕ) → times k m.0.taken ≡ one_if (nat_lt k n))
