-- Room for the votes on a plan: each vote is of a member that waits, and leaves fewer waiting.
use Rattle.std.proofs.Common.{◌≡◌, ℕ, zero, suc, ◌+◌, ◌≤◌, ◌<◌, ◌==◌, ◌||◌, not, Bool, true, false, cond, List, [], ◌∷◌, ◌++◌, length, filter, IsTrue, arith, refl, ap, sym, ◌∙◌, length-append, eqb-true, eq-eqb}
use Rattle.std.proofs.lemmas.Bool.{false≢true}
use Rattle.std.proofs.lemmas.List.Folds.{list_any-append}
use Rattle.command_types.specs.declared.plan.PlanRow.{PlanRow}
use Rattle.command_types.specs.declared.trade.TradeRow.{TradeRow}
use Rattle.command_types.specs.Books.{listed_below}
use Rattle.command_types.specs.CycleRefusals.{has_voted}
use Rattle.command_types.specs.Plans.{is_touched, only_if, touched_by}
use Rattle.cycle_states.specs.Ballot.{waiting}

or_none : (b : Bool) → (b || false) ≡ b
or_none true = refl
or_none false = refl

or_turned : (a b : Bool) → (a || b) ≡ (b || a)
or_turned true true = refl
or_turned true false = refl
or_turned false true = refl
or_turned false false = refl

-- who has voted once this member has, in either order
pub voted_last : (votes : List ℕ) (member m : ℕ) → has_voted (member ∷ votes) m ≡ has_voted (votes ++ member ∷ []) m
voted_last votes member m =
    or_turned (member == m) (has_voted votes m)
    ∙ ap (λ b. has_voted votes m || b) (sym (or_none (member == m)))
    ∙ sym (list_any-append (λ voter. voter == m) votes (member ∷ []))

-- ---- a filter by a stronger test keeps no more, and fewer where it drops one that the other keeps

module _ (p q : ℕ → Bool) (stronger : (m : ℕ) → IsTrue (q m) → IsTrue (p m)) where
  no_more_at : (a b : Bool) (x : ℕ) (kept left : List ℕ) → (IsTrue b → IsTrue a) → length left ≤ length kept → length (cond b (x ∷ left) left) ≤ length (cond a (x ∷ kept) kept)
  no_more_at true true x kept left h rest = omega (arith, rest)
  no_more_at true false x kept left h rest = omega (arith, rest)
  no_more_at false true x kept left h rest = absurd (false≢true (h refl))
  no_more_at false false x kept left h rest = rest

  no_more : (xs : List ℕ) → length (filter q xs) ≤ length (filter p xs)
  no_more [] = omega arith
  no_more (x ∷ xs) = no_more_at (p x) (q x) x (filter p xs) (filter q xs) (stronger x) (no_more xs)

  fewer_at : (a b : Bool) (x : ℕ) (kept left : List ℕ) → (IsTrue b → IsTrue a) → 1 + length left ≤ length kept → 1 + length (cond b (x ∷ left) left) ≤ length (cond a (x ∷ kept) kept)
  fewer_at true true x kept left h rest = omega (arith, rest)
  fewer_at true false x kept left h rest = omega (arith, rest)
  fewer_at false true x kept left h rest = absurd (false≢true (h refl))
  fewer_at false false x kept left h rest = rest

  gone : (a b : Bool) (x : ℕ) (kept left : List ℕ) → a ≡ true → b ≡ false → length left ≤ length kept → 1 + length (cond b (x ∷ left) left) ≤ length (cond a (x ∷ kept) kept)
  gone true false x kept left on off rest = omega (arith, rest)
  gone true true x kept left on off rest = absurd (false≢true (sym off))
  gone false b x kept left on off rest = absurd (false≢true on)

  fewer : (member : ℕ) (xs : List ℕ) → p member ≡ true → q member ≡ false → has_voted xs member ≡ true → 1 + length (filter q xs) ≤ length (filter p xs)
  fewer member [] on off there = absurd (false≢true there)
  fewer member (x ∷ xs) on off there = by (x == member) refl there (λ later. fewer member xs on off later)
    where
      by : (same : Bool) → (x == member) ≡ same → (same || has_voted xs member) ≡ true → (has_voted xs member ≡ true → 1 + length (filter q xs) ≤ length (filter p xs)) → 1 + length (filter q (x ∷ xs)) ≤ length (filter p (x ∷ xs))
      by true is here rest =
          let one : x ≡ member = eqb-true x member is in
          gone (p x) (q x) x (filter p xs) (filter q xs) (ap p one ∙ on) (ap q one ∙ off) (no_more xs)
      by false is later rest = fewer_at (p x) (q x) x (filter p xs) (filter q xs) (stronger x) (rest later)

-- ---- the members that wait

not_either : (a b : Bool) → not (a || b) ≡ true → not b ≡ true
not_either true b h = absurd (false≢true h)
not_either false b h = h

-- a vote of a member that waits leaves fewer waiting
pub fewer_wait : (votes needed : List ℕ) (member : ℕ) → has_voted needed member ≡ true → has_voted votes member ≡ false → 1 + length (waiting (votes ++ member ∷ []) needed) ≤ length (waiting votes needed)
fewer_wait votes needed member there first =
    let last : (m : ℕ) → has_voted (votes ++ member ∷ []) m ≡ ((member == m) || has_voted votes m) = λ m. sym (voted_last votes member m) in
    fewer (λ m. not (has_voted votes m)) (λ m. not (has_voted (votes ++ member ∷ []) m))
    (λ m h. not_either (member == m) (has_voted votes m) (ap not (sym (last m)) ∙ h))
    member needed (ap not first) (ap not (last member ∙ ap (λ b. b || has_voted votes member) (eq-eqb member member refl))) there

-- so where there was room for all that wait, there is for this vote and for those that still do
pub vote_fits : (votes needed : List ℕ) (member : ℕ) → has_voted needed member ≡ true → has_voted votes member ≡ false → length votes + length (waiting votes needed) ≤ 256 → length votes < 256
vote_fits votes needed member there first room = let less = fewer_wait votes needed member there first in omega (arith, less, room)

pub rest_fits : (votes needed : List ℕ) (member : ℕ) → has_voted needed member ≡ true → has_voted votes member ≡ false → length votes + length (waiting votes needed) ≤ 256 →
    length (votes ++ member ∷ []) + length (waiting (votes ++ member ∷ []) needed) ≤ 256
rest_fits votes needed member there first room = let less = fewer_wait votes needed member there first in omega (arith, less, room, length-append votes (member ∷ []))

-- of a plan on which nobody has voted yet, there is room for the votes of all that it touches
all_wait : (xs : List ℕ) → length (waiting [] xs) ≡ length xs
all_wait [] = refl
all_wait (x ∷ xs) = ap suc (all_wait xs)

one_at_most : (b : Bool) (m : ℕ) → length (only_if b m) ≤ 1
one_at_most true m = omega arith
one_at_most false m = omega arith

few_listed : (f : ℕ → Bool) (n : ℕ) → length (listed_below n (λ m. only_if (f m) m)) ≤ n
few_listed f zero = omega arith
few_listed f (suc n) = omega (arith, length-append (listed_below n (λ m. only_if (f m) m)) (only_if (f n) n), few_listed f n, one_at_most (f n) n)

pub first_fits : (members : ℕ) (rows : List TradeRow) (plan : List PlanRow) (needed : List ℕ) → members ≤ 256 → needed ≡ touched_by members rows plan → length (waiting [] needed) ≤ 256
first_fits members rows plan needed few is = omega (arith, all_wait needed, ap length is, few_listed (is_touched rows plan) members, few)
