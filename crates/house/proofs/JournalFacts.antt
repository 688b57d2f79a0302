-- How a file comes to stand for a history.
use Rattle.std.proofs.Common.{◌≡◌, ◌⊎◌, inl, inr, ⊎_elim, List, ℕ, ◌+◌, ◌≤◌, [], ◌∷◌, ◌++◌, true, false, Option, Some, None, refl, sym, ◌∙◌, subst, ap, arith, append_assoc, cond}
use Rattle.std.proofs.lemmas.List.{append-nil}
use Rattle.std.proofs.lemmas.List.Sums.{sum_by-cons}
use Rattle.command_types.specs.declared.ask.Entry.{Entry}
use Rattle.command_types.specs.Folds.{folded}
use Rattle.command_types.specs.declared.base.Base.{Base}
use Rattle.command_types.specs.declared.figures.Start.{Start}
use Rattle.command_types.specs.declared.spelling.Spelling.{Spelling}
use Rattle.command_types.specs.declared.spelling.Spelling.TheVariants.{First, Second}
use Rattle.command_types.specs.Bases.{spelling_behind}
use Rattle.command_types.specs.History.{History, longer}
use Rattle.std.specs.List.{AllZip}
use Rattle.command_types.specs.Sizes.{frame_size, frames_size}
use Rattle.command_types.specs.Spelling.{Spells, turn}
use Rattle.outside.specs.Disk as disks
use Rattle.journal_core.specs.Form.{begun_form}
use Rattle.journal_core.specs.declared.form.Form.{Form}
use Rattle.journal_core.specs.Holds.{limit, Holds}
use Rattle.journal_core.specs.Journal.{HoldsAllOrNone, HoldsWithOrWithout, HoldsEither, IsReady}
use Rattle.journal_core.proofs.MomentFacts.{leaves_more, yet_more}
use Rattle.journal_core.proofs.PartFacts.{journal_holds}
use Rattle.journal_core.proofs.OneReading.{one_reading}
use Rattle.base_codec.proofs.BaseReading.{bases_unique}
use Rattle.recovery.specs.Bodies.{Written, turns, changes_in, spelling_after}
use Rattle.recovery.specs.StandsFor.{SpellAll, SpellsAs, StandsForBase, StandsFor}
use Rattle.recovery.proofs.EntryFacts.{AllZip-more, read_stand, stands_read, read_one_way as read_the_same, one_list_of_entries}
use Rattle.recovery.proofs.BaseFacts.{one_base as read_one_base}
use Rattle.recovery.proofs.BodyFacts.{after_more, changes_more, changes_turned, turn_turns}
use Rattle.recovery.proofs.PlaceFacts.{ends_hold}
use Rattle.house.specs.Folding.{fold_bytes}
use Rattle.house.specs.Storing.{AreStoredAs, AreWrittenAs, IsTurned, IsWrittenAs, StandsForAllOrNone}
use Rattle.house.specs.Journals.{ContentsStand, ContentsAreRead, FilesReadOneWay, FilesHaveOneBase, StoredHistoriesStand, StoredHistoriesAreReady}
use Rattle.house.specs.Journals.{AppendAddsTheEntries, AppendLeavesAllOrNone, AppendAddsTheEntry, AppendLeavesEither, AppendLeavesYet, TurnChangesNothing, TurnWritesTheSame, StartChangesNothing, StartWritesTheSame}
use Rattle.house.specs.Journals.{StagingChangesNothing, StagingWritesTheSame, SwitchLeavesEither, SwitchStoresTheFold}

-- ---- what is read of a file

pub contents_stand : ContentsStand
contents_stand = read_stand

pub contents_read : ContentsAreRead
contents_read = stands_read

pub read_one_way : FilesReadOneWay
read_one_way = read_the_same

pub one_base : FilesHaveOneBase
one_base = read_one_base

-- it stands for histories of one position alone, whatever their roster, and of one list of changes
same_position : (bytes : List ℕ) (a b : Start) → StandsForBase bytes a → StandsForBase bytes b → a.position ≡ b.position
same_position [] a b first second = ap (λ (s : Start). s.position) first ∙ sym (ap (λ (s : Start). s.position) second)
same_position (x ∷ xs) a b first second =
    ap (λ (s : Start). s.position) first.3 ∙ ap (λ (w : Base). w.position) (bases_unique (x ∷ xs) first.0 second.0 first.1 second.1) ∙ sym (ap (λ (s : Start). s.position) second.3)

pub one_place : (file : List ℕ) (a b : History) → StandsFor file a → StandsFor file b → (a.base.position ≡ b.base.position) × (a.entries ≡ b.entries)
one_place file a b first second =
    let same = one_reading file first.0 second.0 first.1 second.1 first.2 second.2 in
    (same_position first.0 a.base b.base first.3 (subst (λ (bytes : List ℕ). StandsForBase bytes b.base) (sym same.0) second.3), one_list_of_entries file a b first second)

-- ---- what is written to it

-- what is written is what the content stands for
pub written_stand : (disk : disks.History) (form : Form) (end : ℕ) (last : Spelling) (h : History) → IsWrittenAs disk form end last h → StandsFor disk.content h
written_stand disk form end last h written = (written.0, written.1, journal_holds form disk.content written.0 written.1 written.2.1.0, written.3, written.4)

pub stored_stand : StoredHistoriesStand
stored_stand disk end h (form, stored) = written_stand disk form end stored.0 h stored.1

pub written_ready : (disk : Option disks.History) (form : Form) (end : ℕ) (last : Spelling) (h : History) → AreWrittenAs disk form end last h → IsReady disk form end
written_ready None form end last h written = tt
written_ready (Some disk) form end last h written = (written.0, written.1, written.2)

pub stored_ready : StoredHistoriesAreReady
stored_ready None form end h stored = tt
stored_ready (Some disk) form end h stored = written_ready (Some disk) form end stored.0 h stored.1

-- ---- one change more

-- a body that goes on in the second spelling, and one change more
spelled_more : (begins : Spelling) (records : List (List ℕ)) (entries : List Entry) (bytes : List ℕ) (entry : Entry) → Second ≡ spelling_after begins records → SpellAll begins records entries → Spells Second bytes entry
    → SpellAll begins (records ++ bytes ∷ []) (entries ++ entry ∷ [])
spelled_more begins records entries bytes entry last all here =
    let plain : turns (spelling_after begins records) bytes ≡ false = ap (λ (s : Spelling). turns s bytes) (sym last) in
    let more = changes_more begins records bytes plain ∙ ap (λ (s : Spelling). changes_in begins records ++ (s, bytes) ∷ []) (sym last) in
    subst (λ (l : List Written). AllZip SpellsAs l (entries ++ entry ∷ [])) (sym more) (AllZip-more SpellsAs (changes_in begins records) entries (Second, bytes) entry all here)

-- goes on so
second_after : (begins : Spelling) (records : List (List ℕ)) (bytes : List ℕ) → Second ≡ spelling_after begins records → Second ≡ spelling_after begins (records ++ bytes ∷ [])
second_after begins records bytes last = ap (λ (s : Spelling). cond (turns s bytes) Second s) last ∙ sym (after_more begins records bytes)

-- and some changes more
spelled_all : (begins : Spelling) (records more : List (List ℕ)) (entries others : List Entry) → Second ≡ spelling_after begins records → SpellAll begins records entries → AllZip (Spells Second) more others
    → SpellAll begins (records ++ more) (entries ++ others)
spelled_all begins records [] entries [] last all here =
    subst (λ (rs : List (List ℕ)). SpellAll begins rs (entries ++ [])) (sym (append-nil records)) (subst (λ (es : List Entry). SpellAll begins records es) (sym (append-nil entries)) all)
spelled_all begins records [] entries (e ∷ others) last all here = absurd here
spelled_all begins records (r ∷ more) entries [] last all here = absurd here
spelled_all begins records (r ∷ more) entries (e ∷ others) last all here =
    subst (λ (rs : List (List ℕ)). SpellAll begins rs (entries ++ e ∷ others)) (append_assoc records (r ∷ []) more)
    (subst (λ (es : List Entry). SpellAll begins ((records ++ r ∷ []) ++ more) es) (append_assoc entries (e ∷ []) others)
    (spelled_all begins (records ++ r ∷ []) more (entries ++ e ∷ []) others (second_after begins records r last) (spelled_more begins records entries r e last all here.0) here.1))

second_all : (begins : Spelling) (records more : List (List ℕ)) → Second ≡ spelling_after begins records → Second ≡ spelling_after begins (records ++ more)
second_all begins records [] last = subst (λ (rs : List (List ℕ)). Second ≡ spelling_after begins rs) (sym (append-nil records)) last
second_all begins records (r ∷ more) last =
    subst (λ (rs : List (List ℕ)). Second ≡ spelling_after begins rs) (append_assoc records (r ∷ []) more) (second_all begins (records ++ r ∷ []) more (second_after begins records r last))

-- a journal that has room for a change is turned
room_turned : (last : Spelling) (end : ℕ) (entry : Entry) (others : List Entry) → IsTurned end last → end + frames_size (entry ∷ others) ≤ limit → Second ≡ last
room_turned Second end entry others turned room = refl
room_turned First end entry others turned room = absurd (omega (arith, turned, room, sum_by-cons (λ (e : Entry). frame_size e.ask) entry others))

pub append_adds_all : AppendAddsTheEntries
append_adds_all None new form end next h records entry others spells room appending appended stored =
    subst (λ (a : Option disks.History). AreStoredAs a form next (longer h (entry ∷ others))) (sym (appending [] [] tt)) tt
append_adds_all (Some disk) None form end next h records entry others spells room appending appended stored = absurd (appending stored.1.0 stored.1.1 stored.1.2)
append_adds_all (Some disk) (Some later) form end next h records entry others spells room appending appended stored =
    let w = stored.1 in
    let last = room_turned stored.0 end entry others stored.2 room ∙ w.5 in (
      Second,
      (
        w.0,
        w.1 ++ records,
        appended w.0 w.1 w.2,
        w.3,
        spelled_all (spelling_behind w.0) w.1 records h.entries (entry ∷ others) last w.4 spells,
        second_all (spelling_behind w.0) w.1 records last,
      ),
      tt,
    )

pub append_leaves_all : AppendLeavesAllOrNone
append_leaves_all None new form end h records entry others spells room appending stored = appending [] [] tt
append_leaves_all (Some disk) new form end h records entry others spells room appending stored =
    let w = stored.1 in
    let last = room_turned stored.0 end entry others stored.2 room ∙ w.5 in
    leaves_more (Some disk) new (HoldsAllOrNone w.0 w.1 records) (StandsForAllOrNone h (entry ∷ others))
    (λ image. ⊎_elim (λ without. inl (w.0, w.1, without, w.3, w.4))
    (λ with_them. inr (w.0, w.1 ++ records, with_them, w.3, spelled_all (spelling_behind w.0) w.1 records h.entries (entry ∷ others) last w.4 spells)))
    (appending w.0 w.1 w.2)

-- of one
pub append_adds : AppendAddsTheEntry
append_adds old new form end next h bytes entry spells room appending appended stored =
    append_adds_all old new form end next h (bytes ∷ []) entry [] (spells, tt) (omega (arith, room)) appending appended stored

pub append_leaves : AppendLeavesEither
append_leaves old new form end h bytes entry spells room appending stored =
    append_leaves_all old new form end h (bytes ∷ []) entry [] (spells, tt) (omega (arith, room)) appending stored

pub append_yet : AppendLeavesYet
append_yet None new form end h last stored = tt
append_yet (Some disk) new form end h last stored =
    let w = stored.1 in
    yet_more (Some disk) new (λ image. Holds image w.0 w.1) (λ image. StandsFor image h) (λ image holds. (w.0, w.1, holds, w.3, w.4))
    (last w.0 w.1 w.2)

-- ---- the turn

-- it turns a body that goes on in the first spelling
turns_there : (begins : Spelling) (records : List (List ℕ)) → First ≡ spelling_after begins records → turns (spelling_after begins records) turn ≡ true
turns_there begins records last = ap (λ (s : Spelling). turns s turn) (sym last) ∙ turn_turns

-- which spells the same behind it
spelled_turned : (begins : Spelling) (records : List (List ℕ)) (entries : List Entry) → First ≡ spelling_after begins records → SpellAll begins records entries → SpellAll begins (records ++ turn ∷ []) entries
spelled_turned begins records entries last all =
    subst (λ (l : List Written). AllZip SpellsAs l entries) (sym (changes_turned begins records turn (turns_there begins records last))) all

second_turned : (begins : Spelling) (records : List (List ℕ)) → First ≡ spelling_after begins records → Second ≡ spelling_after begins (records ++ turn ∷ [])
second_turned begins records last = sym (after_more begins records turn ∙ ap (λ b. cond b Second (spelling_after begins records)) (turns_there begins records last))

pub turn_leaves : TurnChangesNothing
turn_leaves None new form end h appending written = appending [] [] tt
turn_leaves (Some disk) new form end h appending w =
    leaves_more (Some disk) new (HoldsWithOrWithout w.0 w.1 turn) (λ image. StandsFor image h)
    (λ image. ⊎_elim (λ without. (w.0, w.1, without, w.3, w.4)) (λ with_it. (w.0, w.1 ++ turn ∷ [], with_it, w.3, spelled_turned (spelling_behind w.0) w.1 h.entries w.5 w.4)))
    (appending w.0 w.1 w.2)

pub turn_writes : TurnWritesTheSame
turn_writes None new form end next h appending appended written = subst (λ (a : Option disks.History). AreWrittenAs a form next Second h) (sym (appending [] [] tt)) tt
turn_writes (Some disk) None form end next h appending appended w = absurd (appending w.0 w.1 w.2)
turn_writes (Some disk) (Some later) form end next h appending appended w = (
  w.0,
  w.1 ++ turn ∷ [],
  appended w.0 w.1 w.2,
  w.3,
  spelled_turned (spelling_behind w.0) w.1 h.entries w.5 w.4,
  second_turned (spelling_behind w.0) w.1 w.5,
)

-- ---- the start

pub start_leaves : StartChangesNothing
start_leaves None new h starting stands = starting [] [] tt
start_leaves (Some disk) new h starting stands =
    leaves_more (Some disk) new (λ image. Holds image stands.0 stands.1) (λ image. StandsFor image h) (λ image holds. (stands.0, stands.1, holds, stands.3, stands.4))
    (starting stands.0 stands.1 stands.2)

pub start_writes : StartWritesTheSame
start_writes None new form end last h starting started ends is stands = subst (λ (a : Option disks.History). AreWrittenAs a (begun_form form) end last h) (sym (starting [] [] tt)) tt
start_writes (Some disk) None form end last h starting started ends is stands = absurd (starting stands.0 stands.1 stands.2)
start_writes (Some disk) (Some later) form end last h starting started ends is stands =
    let held = ends_hold form disk.content end ends.0 ends.1 ends.2 in
    let same = one_reading disk.content ends.0 stands.0 ends.1 stands.1 held stands.2 in
    let here = one_reading disk.content is.0 ends.0 is.1 ends.1 is.2 held in (
      ends.0,
      ends.1,
      started end ends.0 ends.1 ends.2,
      subst (λ (b : List ℕ). StandsForBase b h.base) (sym same.0) stands.3,
      subst (λ (b : List ℕ). SpellAll (spelling_behind b) ends.1 h.entries) (sym same.0) (subst (λ (rs : List (List ℕ)). SpellAll (spelling_behind stands.0) rs h.entries) (sym same.1) stands.4),
      is.3 ∙ ap (λ (b : List ℕ). spelling_after (spelling_behind b) is.1) here.0 ∙ ap (λ (rs : List (List ℕ)). spelling_after (spelling_behind ends.0) rs) here.1,
    )

-- ---- how it is folded

pub staging_leaves : StagingChangesNothing
staging_leaves None new form end last h staging written = staging [] [] tt
staging_leaves (Some disk) new form end last h staging w =
    leaves_more (Some disk) new (λ image. Holds image w.0 w.1) (λ image. StandsFor image h) (λ image holds. (w.0, w.1, holds, w.3, w.4))
    (staging w.0 w.1 w.2)

pub staging_writes : StagingWritesTheSame
staging_writes None new form end last h staging beside written = subst (λ (a : Option disks.History). AreWrittenAs a form end last h) (sym (staging [] [] tt)) tt
staging_writes (Some disk) None form end last h staging beside w = absurd (staging w.0 w.1 w.2)
staging_writes (Some disk) (Some later) form end last h staging beside w = (w.0, w.1, beside w.0 w.1 w.2, w.3, w.4, w.5)

pub switch_leaves : SwitchLeavesEither
switch_leaves None new form end last staged h stands switching is written = switching [] [] (fold_bytes h) tt tt
switch_leaves (Some disk) new form end last staged h stands switching is w =
    leaves_more (Some disk) new (HoldsEither w.0 w.1 (fold_bytes h)) (λ image. StandsFor image h ⊎ StandsFor image (folded h))
    (λ image. ⊎_elim (λ was. inl (w.0, w.1, was, w.3, w.4)) (λ next. inr (fold_bytes h, [], next, stands, tt)))
    (switching w.0 w.1 (fold_bytes h) w.2 is)

pub switch_stores : SwitchStoresTheFold
switch_stores None new form next end size last staged h stands switching switched is written =
    subst (λ (a : Option disks.History). AreStoredAs a next size (folded h)) (sym (switching [] [] (fold_bytes h) tt tt)) tt
switch_stores (Some disk) None form next end size last staged h stands switching switched is w = absurd (switching w.0 w.1 (fold_bytes h) w.2 is)
switch_stores (Some disk) (Some later) form next end size last staged h stands switching switched is w = (Second, (fold_bytes h, [], switched (fold_bytes h) is, stands, tt, refl), tt)
