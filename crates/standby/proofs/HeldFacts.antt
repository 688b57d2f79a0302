-- What a crash leaves since a line was said.
use Rattle.std.proofs.Common.{◌≡◌, if◌then◌else◌, ℕ, ◌≤◌, Bool, true, false, not, List, [], ◌∷◌, length, Option, Some, None, inl, IsTrue, refl, sym, ap, ◌∙◌, subst}
use Rattle.std.specs.Prelude.{◌||◌}
use Rattle.std.proofs.lemmas.List.{append-nil}
use Rattle.command_types.specs.declared.ask.Ask.{Ask}
use Rattle.command_types.specs.declared.ask.Entry.{Entry}
use Rattle.command_types.specs.declared.answer.Answer.{Answer}
use Rattle.command_types.specs.declared.answer.Reply.{Reply}
use Rattle.command_types.specs.History.{History, longer, recorded, is_recorded}
use Rattle.outside.specs.Disk as disks
use Rattle.journal_core.specs.Moments.{LeavesOnly}
use Rattle.journal_core.proofs.MomentFacts.{started}
use Rattle.house.specs.Folding.{StandsForOne}
use Rattle.house.specs.Storing.{any_kept, AreStored, AreOnDisk, LeavesHistory, moment_of}
use Rattle.house.specs.House.{HouseView, bytes_of, Keeps}
use Rattle.house.specs.Calling.{is_disk_fault, Calls}
use Rattle.house.proofs.StoringFacts.{on_disk_more, on_disk_broken, on_disk_first}
use Rattle.house.proofs.CallingFacts.{nothing_of, running_stored}
use Rattle.standby.specs.Following.{HeldSince}

now_leaves : (o : Option disks.History) (h : History) → LeavesHistory o h → LeavesOnly o o (StandsForOne h h)
now_leaves None h leaves = refl
now_leaves (Some disk) h leaves = started disk (StandsForOne h h) (λ image left. inl (leaves image left))

-- a house that runs has had its history on the disk since now
pub held_now : (v : HouseView) → Keeps v → v.kept ≡ [] → HeldSince v v
held_now v keeps none =
    subst (λ k. AreOnDisk (moment_of v.disk) (length v.history.entries) v.history v.disk (bytes_of v) v.history k) (sym none)
    (on_disk_first v.disk v.disk (bytes_of v) v.history v.history (now_leaves v.disk v.history (keeps.leaves none))
    (running_stored v keeps (ap any_kept none)))

any_size : (since opening : ℕ) (first : History) (o : Option disks.History) (m n : ℕ) (h : History) (entry : Entry) → AreOnDisk since opening first o m h (entry ∷ []) → AreOnDisk since opening first o n h (entry ∷ [])
any_size since opening first None m n h entry on = tt
any_size since opening first (Some disk) m n h entry on = record { later = on.later; stored = λ none. absurd cc; each = on.each }

recorded_one : (seat : ℕ) (ask : Ask) (answer : Answer) → is_recorded ask.what answer ≡ true → recorded seat ask answer ≡ record { seat = seat; ask = ask } ∷ []
recorded_one seat ask answer made = ap (λ (t : Bool). if t then record { seat = seat; ask = ask } ∷ [] else []) made

recorded_none : (seat : ℕ) (ask : Ask) (answer : Answer) → is_recorded ask.what answer ≡ false → recorded seat ask answer ≡ []
recorded_none seat ask answer made = ap (λ (t : Bool). if t then record { seat = seat; ask = ask } ∷ [] else []) made

pub longer_nil : (h : History) → longer h [] ≡ h
longer_nil h = ap (λ (es : List Entry). record h { entries = es }) (append-nil h.entries)

module _ (a b : HouseView) (seat : ℕ) (ask : Ask) (reply : Reply) (keeps : Keeps a) (none : a.kept ≡ []) (calls : Calls a b seat ask reply) where
  -- a change that was made
  pub grows_by_one : is_recorded ask.what reply.answer ≡ true → b.history ≡ longer a.history (record { seat = seat; ask = ask } ∷ [])
  grows_by_one made = calls.grows ∙ ap (longer a.history) (recorded_one seat ask reply.answer made)

  pub grows_not : is_recorded ask.what reply.answer ≡ false → b.history ≡ a.history
  grows_not made = calls.grows ∙ ap (longer a.history) (recorded_none seat ask reply.answer made) ∙ longer_nil a.history

  pub runs_on : is_recorded ask.what reply.answer ≡ true → b.kept ≡ []
  runs_on made = nothing_of b.kept (calls.runs made)

  module _ (start : HouseView) (within : length start.history.entries ≤ length a.history.entries) (held : HeldSince start a) where
    held_none : AreOnDisk (moment_of start.disk) (length start.history.entries) start.history a.disk (bytes_of a) a.history []
    held_none = subst (λ k. AreOnDisk (moment_of start.disk) (length start.history.entries) start.history a.disk (bytes_of a) a.history k) none held

    held_made : is_recorded ask.what reply.answer ≡ true → HeldSince start b
    held_made made =
        let entry : Entry = record { seat = seat; ask = ask } in
        let more : b.history ≡ longer a.history (entry ∷ []) = grows_by_one made in
        let stored : AreStored b.disk (bytes_of b) (longer a.history (entry ∷ [])) = subst (AreStored b.disk (bytes_of b)) more (running_stored b calls.keeps (calls.runs made)) in
        let there = on_disk_more (length start.history.entries) start.history a.history within (moment_of start.disk) a.disk b.disk (bytes_of a) (bytes_of b) (entry ∷ []) held_none (calls.any_moment (ap any_kept none)) stored in
        subst (λ k. AreOnDisk (moment_of start.disk) (length start.history.entries) start.history b.disk (bytes_of b) b.history k) (sym (runs_on made))
        (subst (λ (h : History). AreOnDisk (moment_of start.disk) (length start.history.entries) start.history b.disk (bytes_of b) h []) (sym more) there)

    held_broken : is_recorded ask.what reply.answer ≡ false → is_disk_fault reply.answer ≡ true → HeldSince start b
    held_broken made fault =
        let entry : Entry = record { seat = seat; ask = ask } in
        let broken = on_disk_broken (length start.history.entries) start.history a.history within (moment_of start.disk) a.disk b.disk (bytes_of a) entry [] held_none (calls.any_moment (ap any_kept none)) in
        let sized = any_size (moment_of start.disk) (length start.history.entries) start.history b.disk (bytes_of a) (bytes_of b) a.history entry broken in
        subst (λ k. AreOnDisk (moment_of start.disk) (length start.history.entries) start.history b.disk (bytes_of b) b.history k) (sym (calls.failed fault).1)
        (subst (λ (h : History). AreOnDisk (moment_of start.disk) (length start.history.entries) start.history b.disk (bytes_of b) h (entry ∷ [])) (sym (grows_not made)) sized)

    held_either : (t f : Bool) → is_recorded ask.what reply.answer ≡ t → is_disk_fault reply.answer ≡ f → HeldSince start b
    held_either true f made fault = held_made made
    held_either false true made fault = held_broken made fault
    held_either false false made fault =
        let same : IsTrue (not (is_recorded ask.what reply.answer || is_disk_fault reply.answer)) = ap not (ap (λ t. t || is_disk_fault reply.answer) made ∙ fault) in
        subst (HeldSince start) (sym (calls.same same)) held

    pub held_on : HeldSince start b
    held_on = held_either (is_recorded ask.what reply.answer) (is_disk_fault reply.answer) refl refl
