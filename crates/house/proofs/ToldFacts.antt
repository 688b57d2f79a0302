-- What a house tells of its journal.
use Rattle.std.proofs.Common.{◌≡◌, inl, inr, ℕ, ◌+◌, ◌-◌, ◌≤◌, nat_lt, Bool, true, false, ◌&&◌, [], ◌∷◌, drop, Some, IsTrue, refl, sym, ◌∙◌, ap, arith, ◌↔◌}
use Rattle.std.proofs.lemmas.Bool.{false≢true, ltb-false, le-ltb}
use Rattle.std.proofs.lemmas.List.{append-nil}
use Rattle.command_types.specs.declared.ask.Ask.{Ask}
use Rattle.command_types.specs.declared.answer.Answer.TheVariants.{No}
use Rattle.command_types.specs.declared.answer.Reply.{Reply}
use Rattle.command_types.specs.declared.refusal.Refusal.{Refusal}
use Rattle.command_types.specs.declared.refusal.Refusal.TheVariants.{JournalFull, Stopped, DiskFault}
use Rattle.command_types.specs.Machine.{answer_to, changes, first_of}
use Rattle.command_types.specs.History.{end_of, is_recorded, replayed}
use Rattle.command_types.specs.Sizes.{journal_limit, record_size, frame_size, frames_size}
use Rattle.command_types.specs.Told.{IsTold, journal_size, house_refusals}
use Rattle.house.specs.House.{HouseView, figures_of, is_stopped, bytes_of}

-- the journal's bytes at the history's end
bytes_told : (v : HouseView) → journal_size (figures_of v) v.journal v.history.entries ≡ bytes_of v
bytes_told v =
    let e : v.history.base.position + v.opening - v.history.base.position ≡ v.opening = omega arith in
    ap (λ (n : ℕ). v.journal.size + frames_size (drop n v.history.entries)) e

pub first_full : (size n : ℕ) (before after : Bool) (ask : Ask) → nat_lt journal_limit (size + frame_size ask) ≡ true → first_of (house_refusals size n before after ask) ≡ Some (JournalFull size)
first_full size n before after ask full = ap (λ (t : Bool). first_of ((t, JournalFull size) ∷ (before, Stopped n) ∷ (after, DiskFault) ∷ [])) full

pub first_stopped : (size n : ℕ) (before after : Bool) (ask : Ask) → nat_lt journal_limit (size + frame_size ask) ≡ false → before ≡ true → first_of (house_refusals size n before after ask) ≡ Some (Stopped n)
first_stopped size n before after ask room was =
    ap (λ (t : Bool). first_of ((t, JournalFull size) ∷ (before, Stopped n) ∷ (after, DiskFault) ∷ [])) room
    ∙ ap (λ (t : Bool). first_of ((false, JournalFull size) ∷ (t, Stopped n) ∷ (after, DiskFault) ∷ [])) was

pub first_failed : (size n : ℕ) (ask : Ask) → nat_lt journal_limit (size + frame_size ask) ≡ false → first_of (house_refusals size n false true ask) ≡ Some DiskFault
first_failed size n ask room = ap (λ (t : Bool). first_of ((t, JournalFull size) ∷ (false, Stopped n) ∷ (true, DiskFault) ∷ [])) room

-- a change that the machine accepts, and the journal refuses
pub told_by_journal : (v : HouseView) (seat : ℕ) (ask : Ask) (reply : Reply) (after : Bool) (refusal : Refusal) → reply.at ≡ end_of v.history → IsTrue (is_recorded ask.what (answer_to (replayed v.history) ask))
    → first_of (house_refusals (bytes_of v) reply.at (is_stopped v) after ask) ≡ Some refusal → reply.answer ≡ No refusal → IsTold (figures_of v) (is_stopped v) after v.history seat ask reply
told_by_journal v seat ask reply after refusal place change first same = record {
  front = v.history.entries;
  back = [];
  split = sym (append-nil v.history.entries);
  place = place;
  one = inr (inr (inl (record {
    change = change;
    refusal = refusal;
    first = ap (λ (n : ℕ). first_of (house_refusals n reply.at (is_stopped v) after ask)) (bytes_told v) ∙ first;
    same = same;
  })));
}

-- a refusal is not recorded
and_false : (b : Bool) → (b && false) ≡ false
and_false true = refl
and_false false = refl

pub no_refusal_recorded : (ask : Ask) (refusal : Refusal) → is_recorded ask.what (No refusal) ≡ false
no_refusal_recorded ask refusal = and_false (changes ask.what)

-- whether a record fits, in the words of the refusal
pub no_room : (fits : Bool) (size long : ℕ) (ask : Ask) → fits ≡ false → (IsTrue fits ↔ (size + 4 + long + 1 ≤ journal_limit)) → long ≡ record_size ask → nat_lt journal_limit (size + frame_size ask) ≡ true
no_room fits size long ask off tells is = by_test (nat_lt journal_limit (size + frame_size ask)) refl
  where
    by_test : (t : Bool) → nat_lt journal_limit (size + frame_size ask) ≡ t → nat_lt journal_limit (size + frame_size ask) ≡ true
    by_test true e = e
    by_test false e =
        let within : size + 4 + long + 1 ≤ journal_limit = omega (arith, ltb-false journal_limit (size + frame_size ask) e, is) in
        absurd (false≢true (sym off ∙ tells.1 within))

pub has_room : (fits : Bool) (size long : ℕ) (ask : Ask) → fits ≡ true → (IsTrue fits ↔ (size + 4 + long + 1 ≤ journal_limit)) → long ≡ record_size ask → size + frame_size ask ≤ journal_limit
has_room fits size long ask on tells is = let within : size + 4 + long + 1 ≤ journal_limit = tells.0 on in omega (arith, within, is)

pub room_told : (size : ℕ) (ask : Ask) → size + frame_size ask ≤ journal_limit → nat_lt journal_limit (size + frame_size ask) ≡ false
room_told size ask le = le-ltb journal_limit (size + frame_size ask) le
