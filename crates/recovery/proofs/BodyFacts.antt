-- The records of a body, one by one, and with one more behind them.
use Rattle.std.proofs.Common.{◌≡◌, ℕ, suc, ◌+◌, ◌≤◌, Bool, true, false, cond, List, [], ◌∷◌, ◌++◌, length, map, refl, ap, arith}
use Rattle.std.proofs.lemmas.Slice.Eq.{bytes_eq-Decides}
use Rattle.command_types.specs.declared.spelling.Spelling.{Spelling}
use Rattle.command_types.specs.declared.spelling.Spelling.TheVariants.{First, Second}
use Rattle.command_types.specs.Spelling.{turn}
use Rattle.journal_core.specs.Walk.{placed}
use Rattle.recovery.specs.Bodies.{Written, Placed, turns, changes_in, changes_of, spelling_after}

-- ---- the first record

pub plain_first : (s : Spelling) (place : ℕ) (bytes : List ℕ) (others : List (ℕ × List ℕ)) → turns s bytes ≡ false → changes_of s ((place, bytes) ∷ others) ≡ (place, (s, bytes)) ∷ changes_of s others
plain_first s place bytes others is = ap (λ (b : Bool). cond {A = List Placed} b (changes_of Second others) ((place, (s, bytes)) ∷ changes_of s others)) is

pub turned_first : (s : Spelling) (place : ℕ) (bytes : List ℕ) (others : List (ℕ × List ℕ)) → turns s bytes ≡ true → changes_of s ((place, bytes) ∷ others) ≡ changes_of Second others
turned_first s place bytes others is = ap (λ (b : Bool). cond {A = List Placed} b (changes_of Second others) ((place, (s, bytes)) ∷ changes_of s others)) is

pub plain_after : (s : Spelling) (bytes : List ℕ) (others : List (List ℕ)) → turns s bytes ≡ false → spelling_after s (bytes ∷ others) ≡ spelling_after s others
plain_after s bytes others is = ap (λ (b : Bool). spelling_after (cond {A = Spelling} b Second s) others) is

pub turned_after : (s : Spelling) (bytes : List ℕ) (others : List (List ℕ)) → turns s bytes ≡ true → spelling_after s (bytes ∷ others) ≡ spelling_after Second others
turned_after s bytes others is = ap (λ (b : Bool). spelling_after (cond {A = Spelling} b Second s) others) is

-- ---- places

-- bytes without their places
abbrev pub written_in : List Placed → List Written
written_in changes = map (λ (c : Placed). c.1) changes

written_either : (b : Bool) (c : Placed) (xs ys : List Placed) (vs ws : List Written) → written_in xs ≡ vs → written_in ys ≡ ws → written_in (cond b xs (c ∷ ys)) ≡ cond b vs (c.1 ∷ ws)
written_either true c xs ys vs ws x y = x
written_either false c xs ys vs ws x y = ap (λ (l : List Written). c.1 ∷ l) y

pub written_in-changes : (s : Spelling) (place : ℕ) (records : List (List ℕ)) → written_in (changes_of s (placed place records)) ≡ changes_in s records
written_in-changes s place [] = refl
written_in-changes s place (r ∷ records) =
    let next = place + (5 + length r) in
    written_either (turns s r) (place, (s, r)) (changes_of Second (placed next records)) (changes_of s (placed next records)) (changes_in Second records) (changes_in s records)
    (written_in-changes Second next records) (written_in-changes s next records)

few_either : (b : Bool) (c : Placed) (xs ys : List Placed) (n : ℕ) → length xs ≤ n → length ys ≤ n → length (cond b xs (c ∷ ys)) ≤ suc n
few_either true c xs ys n x y = omega (arith, x)
few_either false c xs ys n x y = omega (arith, y)

-- no more are to spell changes than there are records
pub few_changes : (s : Spelling) (place : ℕ) (records : List (List ℕ)) → length (changes_of s (placed place records)) ≤ length records
few_changes s place [] = omega arith
few_changes s place (r ∷ records) =
    let next = place + (5 + length r) in
    few_either (turns s r) (place, (s, r)) (changes_of Second (placed next records)) (changes_of s (placed next records)) (length records)
    (few_changes Second next records) (few_changes s next records)

-- ---- one record more

-- the spelling behind it
pub after_more : (s : Spelling) (records : List (List ℕ)) (bytes : List ℕ) → spelling_after s (records ++ bytes ∷ []) ≡ cond (turns (spelling_after s records) bytes) Second (spelling_after s records)
after_more s [] bytes = refl
after_more s (r ∷ records) bytes = after_more (cond (turns s r) Second s) records bytes

-- that turns nothing is to spell a change
pub changes_more : (s : Spelling) (records : List (List ℕ)) (bytes : List ℕ) → turns (spelling_after s records) bytes ≡ false
    → changes_in s (records ++ bytes ∷ []) ≡ changes_in s records ++ (spelling_after s records, bytes) ∷ []
changes_more s [] bytes is = ap (λ (b : Bool). cond {A = List Written} b [] ((s, bytes) ∷ [])) is
changes_more s (r ∷ records) bytes is = by (turns s r) is (changes_more Second records bytes) (changes_more s records bytes)
  where
    by : (b : Bool) → turns (spelling_after (cond b Second s) records) bytes ≡ false
        → (turns (spelling_after Second records) bytes ≡ false → changes_in Second (records ++ bytes ∷ []) ≡ changes_in Second records ++ (spelling_after Second records, bytes) ∷ [])
        → (turns (spelling_after s records) bytes ≡ false → changes_in s (records ++ bytes ∷ []) ≡ changes_in s records ++ (spelling_after s records, bytes) ∷ [])
        → cond b (changes_in Second (records ++ bytes ∷ [])) ((s, r) ∷ changes_in s (records ++ bytes ∷ [])) ≡ cond b (changes_in Second records) ((s, r) ∷ changes_in s records) ++ (spelling_after (cond b Second s) records, bytes) ∷ []
    by true here second same = second here
    by false here second same = ap (λ (l : List Written). (s, r) ∷ l) (same here)

-- one that turns the body is to spell none
pub changes_turned : (s : Spelling) (records : List (List ℕ)) (bytes : List ℕ) → turns (spelling_after s records) bytes ≡ true → changes_in s (records ++ bytes ∷ []) ≡ changes_in s records
changes_turned s [] bytes is = ap (λ (b : Bool). cond {A = List Written} b [] ((s, bytes) ∷ [])) is
changes_turned s (r ∷ records) bytes is = by (turns s r) is (changes_turned Second records bytes) (changes_turned s records bytes)
  where
    by : (b : Bool) → turns (spelling_after (cond b Second s) records) bytes ≡ true
        → (turns (spelling_after Second records) bytes ≡ true → changes_in Second (records ++ bytes ∷ []) ≡ changes_in Second records)
        → (turns (spelling_after s records) bytes ≡ true → changes_in s (records ++ bytes ∷ []) ≡ changes_in s records)
        → cond b (changes_in Second (records ++ bytes ∷ [])) ((s, r) ∷ changes_in s (records ++ bytes ∷ [])) ≡ cond b (changes_in Second records) ((s, r) ∷ changes_in s records)
    by true here second same = second here
    by false here second same = ap (λ (l : List Written). (s, r) ∷ l) (same here)

-- the turn does
pub turn_turns : turns First turn ≡ true
turn_turns = (bytes_eq-Decides turn turn).1 refl
