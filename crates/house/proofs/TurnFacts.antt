-- A journal that is turned, or needs no turn, or has no room for it.
use Rattle.std.proofs.Common.{◌≡◌, ℕ, ◌+◌, ◌≤◌, ◌<◌, nat_lt, Bool, true, false, cond, List, Option, Some, None, IsTrue, refl, sym, ◌∙◌, subst, ap, arith, ◌↔◌}
use Rattle.std.proofs.lemmas.Bool.{false≢true, ltb-true, ltb-false, lt-ltb, le-ltb}
use Rattle.command_types.specs.declared.spelling.Spelling.{Spelling}
use Rattle.command_types.specs.declared.spelling.Spelling.TheVariants.{First, Second}
use Rattle.command_types.specs.History.{History}
use Rattle.command_types.specs.Spelling.{turn}
use Rattle.outside.specs.Disk as disks
use Rattle.journal_core.specs.Calls.{IsAppended, IsAppending}
use Rattle.journal_core.specs.Holds.{limit}
use Rattle.journal_core.specs.Moments.{LeavesOnly}
use Rattle.journal_core.proofs.MomentFacts.{started}
use Rattle.journal_core.specs.declared.form.Form.{Form}
use Rattle.recovery.specs.StandsFor.{StandsFor}
use Rattle.house.specs.Storing.{AreStoredAs, AreWrittenAs, end_turned, turn_end}
use Rattle.house.proofs.JournalFacts.{written_stand, turn_leaves, turn_writes}

-- where nothing is done, a crash leaves only what stands for the same
pub written_still : (o : Option disks.History) (form : Form) (size : ℕ) (last : Spelling) (h : History) → AreWrittenAs o form size last h → LeavesOnly o o (λ image. StandsFor image h)
written_still None form size last h written = refl
written_still (Some disk) form size last h w =
    started disk (λ image. StandsFor image h) (λ image now. subst (λ file. StandsFor file h) (sym (w.2.0 image now)) (written_stand disk form size last h w))

-- what is written in the second spelling is stored,
pub second_stored : (o : Option disks.History) (form : Form) (size : ℕ) (h : History) → AreWrittenAs o form size Second h → AreStoredAs o form size h
second_stored None form size h written = tt
second_stored (Some disk) form size h w = (Second, w, tt)

-- and what is written in the first where there is no room for the turn
pub full_stored : (o : Option disks.History) (form : Form) (size : ℕ) (h : History) → limit < turn_end size → AreWrittenAs o form size First h → AreStoredAs o form size h
full_stored None form size h full written = tt
full_stored (Some disk) form size h full w = (First, w, full)

-- and what is written behind the turn
pub turned_stored : (old new : Option disks.History) (form next : Form) (end size : ℕ) (h : History) (bytes : List ℕ) → bytes ≡ turn → next ≡ form → IsAppending old new form end bytes → IsAppended old new form end size bytes
    → AreWrittenAs old form end First h → AreStoredAs new next size h
turned_stored old new form next end size h bytes is same appending appended written =
    let here = subst (λ b. IsAppending old new form end b) is appending in
    let there = subst (λ b. IsAppended old new form end size b) is appended in
    subst (λ f. AreStoredAs new f size h) (sym same) (second_stored new form size h (turn_writes old new form end size h here there written))

pub turned_leaves : (old new : Option disks.History) (form : Form) (end : ℕ) (h : History) (bytes : List ℕ) → bytes ≡ turn → IsAppending old new form end bytes → AreWrittenAs old form end First h
    → LeavesOnly old new (λ image. StandsFor image h)
turned_leaves old new form end h bytes is appending written = turn_leaves old new form end h (subst (λ b. IsAppending old new form end b) is appending) written

-- ---- how long it is

-- no room
pub is_full : (fits : Bool) (size : ℕ) → fits ≡ false → (IsTrue fits ↔ (size + 4 + 8 + 1 ≤ limit)) → limit < turn_end size
is_full fits size off tells = by_test (nat_lt limit (turn_end size)) refl
  where
    by_test : (t : Bool) → nat_lt limit (turn_end size) ≡ t → limit < turn_end size
    by_test true e = ltb-true limit (turn_end size) e
    by_test false e =
        let room : size + 4 + 8 + 1 ≤ limit = omega (arith, ltb-false limit (turn_end size) e) in
        absurd (false≢true (sym off ∙ tells.1 room))

pub has_turn_room : (fits : Bool) (size : ℕ) → fits ≡ true → (IsTrue fits ↔ (size + 4 + 8 + 1 ≤ limit)) → turn_end size ≤ limit
has_turn_room fits size on tells = let room : size + 4 + 8 + 1 ≤ limit = tells.0 on in omega (arith, room)

pub full_end : (size : ℕ) → limit < turn_end size → end_turned First size ≡ size
full_end size full = ap (λ b. cond b size (turn_end size)) (lt-ltb limit (turn_end size) full)

pub room_end : (size : ℕ) → turn_end size ≤ limit → end_turned First size ≡ turn_end size
room_end size room = ap (λ b. cond b size (turn_end size)) (le-ltb limit (turn_end size) room)
