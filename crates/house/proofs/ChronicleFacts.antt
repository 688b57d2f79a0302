-- A history's changes and their records.
use Rattle.std.proofs.Common.{◌≡◌, ℕ, ◌+◌, ◌-◌, ◌≤◌, ◌<◌, zero, suc, List, [], ◌∷◌, length, drop, ap, sym, subst, refl, arith}
use Rattle.std.specs.Prelude.{slice_index_or}
use Rattle.command_types.specs.declared.answer.Answer.TheVariants.{EntryBytes}
use Rattle.command_types.specs.declared.ask.Entry.{Entry}
use Rattle.command_types.specs.declared.spelling.Spelling.TheVariants.{Second}
use Rattle.command_types.specs.History.{History}
use Rattle.command_types.specs.Offers.{first_behind}
use Rattle.recovery.specs.Bodies.{Written}
use Rattle.record_pool.specs.Pool.{spelled}
use Rattle.record_pool.proofs.SpelledFacts.{given}
use Rattle.house.specs.Chronicle.{AreRecords, HasVoteRoom}

-- there are as many
pub as_many : (records : List Written) (entries : List Entry) → AreRecords records entries → length records ≡ length entries
as_many [] [] are = refl
as_many [] (x ∷ entries) are = absurd are
as_many (r ∷ records) [] are = absurd are
as_many (r ∷ records) (x ∷ entries) are = ap suc (as_many records entries are.1)

-- the record of the entry behind a place
pub behind : (position number : ℕ) (records : List Written) (entries : List Entry) → AreRecords records entries → number < length entries
    → EntryBytes (position + 1) (spelled (slice_index_or records number (Second, []))) ≡ first_behind position (drop number entries)
behind position number [] [] are within = absurd (omega (arith, within))
behind position number [] (x ∷ entries) are within = absurd are
behind position number (r ∷ records) [] are within = absurd are
behind position zero (r ∷ records) (x ∷ entries) are within = ap (EntryBytes (position + 1)) (given r x are.0)
behind position (suc number) (r ∷ records) (x ∷ entries) are within = behind position number records entries are.1 (omega (arith, within))

-- ---- room for votes

-- where there is room for the votes of all members, there is for those that are missing
pub all_votes : (h : History) (room : ℕ) → 13056 ≤ room → HasVoteRoom h room
all_votes h room enough = λ on. omega (arith, enough)

-- more room is room too
pub more_room : (h : History) (room more : ℕ) → room ≤ more → HasVoteRoom h room → HasVoteRoom h more
more_room h room more le has = λ on. let there = has on in omega (arith, there, le)

-- what is left behind a record
pub room_behind : (h after : History) (room left bytes : ℕ) → after ≡ h → left + bytes ≡ room → HasVoteRoom h (room - bytes) → HasVoteRoom after left
room_behind h after room left bytes same less has = subst (λ (n : History). HasVoteRoom n left) (sym same) (more_room h (room - bytes) left (omega (arith, less)) has)
