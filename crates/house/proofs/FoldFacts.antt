-- When a file is to be folded, and what a fold leaves.
use Rattle.std.proofs.Common.{◌≡◌, ◌⊎◌, inl, inr, ⊎_elim, ℕ, ◌≤◌, List, [], ◌∷◌, length, Option, Some, None, IfSome, refl, sym, ◌∙◌, subst, ap, arith}
use Rattle.std.specs.List.{flat_map}
use Rattle.command_types.specs.declared.ask.Entry.{Entry}
use Rattle.command_types.specs.declared.spelling.Spelling.{Spelling}
use Rattle.command_types.specs.Bases.{spelling_behind}
use Rattle.command_types.specs.Folds.{folded}
use Rattle.command_types.specs.History.{History}
use Rattle.outside.specs.Disk as disks
use Rattle.journal_core.specs.Form.{IsSlots, fold_end}
use Rattle.journal_core.specs.Holds.{limit, frame, IsShort, IsJournal, end_in}
use Rattle.journal_core.specs.Journal.{EndsAs, EndsAt, HasForm, IsFormOf, IsReadyToSwitch, IsStaged}
use Rattle.journal_core.specs.Calls.{IsStaging, IsStagedBeside, IsSwitching, IsSwitched}
use Rattle.journal_core.specs.Moments.{LeavesOnly}
use Rattle.journal_core.specs.declared.form.Form.{Form}
use Rattle.journal_core.specs.declared.form.Form.TheVariants.{Short, Plain, SlotsShort, Slots}
use Rattle.journal_core.specs.declared.staged.Staged.{Staged}
use Rattle.journal_core.proofs.MomentFacts.{leaves_more, leaves_both}
use Rattle.journal_core.proofs.PartFacts.{journal_holds}
use Rattle.journal_core.proofs.OneReading.{one_lead, one_reading}
use Rattle.recovery.specs.Bodies.{spelling_after}
use Rattle.recovery.specs.StandsFor.{SpellAll, StandsForBase, StandsFor, GoesOnIn}
use Rattle.recovery.specs.Reading.{FindsSpelling}
use Rattle.recovery.proofs.PlaceFacts.{ends_hold, one_form}
use Rattle.house.specs.Folding.{MayBeFolded, fold_bytes, IsToFold, end_folded, IsEnd, OpensWith, OpensOn, StandsForOne, StandsForOpened, LeavesOpenedAs}
use Rattle.house.specs.Due.{IsFoldOf}
use Rattle.house.specs.Storing.{AreStoredAs, AreWrittenAs, ContentStandsFor, end_turned}
use Rattle.house.proofs.JournalFacts.{staging_leaves, staging_writes, switch_leaves, switch_stores}

-- ---- which files are to be folded

-- no records spell nothing
none_spelled : (begins : Spelling) (records : List (List ℕ)) (entries : List Entry) → records ≡ [] → SpellAll begins records entries → length entries ≡ 0
none_spelled begins [] [] is all = refl
none_spelled begins [] (e ∷ entries) is all = absurd all
none_spelled begins (r ∷ records) entries is all = absurd cc

-- a file of many changes is long enough
long_enough : (file : List ℕ) (h : History) → StandsFor file h → 1 ≤ length h.entries → IsShort file → ⊥
long_enough file h stands many short =
    let same = one_reading file [] stands.0 [] stands.1 (inl (short, refl, refl)) stands.2 in
    omega (arith, many, none_spelled (spelling_behind stands.0) stands.1 h.entries (sym same.1) stands.4)

-- a file in which its journal ends so, and whose history may be folded, is to be folded where the body fits
pub is_to_fold : (file : List ℕ) (form : Form) (end : ℕ) (base : List ℕ) (records : List (List ℕ)) (h : History) → EndsAs form file end base records → IsSlots form → StandsFor file h → MayBeFolded h
    → fold_end form end (length (fold_bytes h)) ≤ limit → (t : IsToFold file h) × (fold_end form end (length (fold_bytes h)) ≡ end_folded t)
is_to_fold file Short end base records h ends slots stands may fits = absurd slots
is_to_fold file Plain end base records h ends slots stands may fits = absurd slots
is_to_fold file SlotsShort end base records h ends slots stands may fits = absurd slots
is_to_fold file (Slots which offset) end base records h ends slots stands may fits =
    let place : fold_end (Slots which offset) end (length (fold_bytes h)) ≡ fold_end (Slots which offset) (end_in ends.0) (length (fold_bytes h)) =
    ap (λ (n : ℕ). fold_end (Slots which offset) n (length (fold_bytes h))) ends.1 in (
      record {
        long = long_enough file h stands (omega (arith, may.many));
        which = which;
        offset = offset;
        base = base;
        records = records;
        journal = ends.0;
        may = may;
        fits = subst (λ (n : ℕ). n ≤ limit) place fits;
      },
      place,
    )

-- two journals on a file end at one place
one_end : (f g : Form) (file b c : List ℕ) (rs ss : List (List ℕ)) (j : IsJournal f file b rs) (k : IsJournal g file c ss) → end_in j ≡ end_in k
one_end f g file b c rs ss j k =
    let lead = one_lead f g file b c j.place k.place (omega (arith, j.within)) (omega (arith, k.within)) j.leads k.leads in
    let same = one_reading file b c rs ss (journal_holds f file b rs j) (journal_holds g file c ss k) in
    omega (arith, lead.1, ap (λ (l : List (List ℕ)). length (flat_map frame l)) same.1)

-- what is to be folded has slots, may be folded, and has room for the body where its journal ends
pub folds_as : (file : List ℕ) (form : Form) (end : ℕ) (base : List ℕ) (records : List (List ℕ)) (h : History) → EndsAs form file end base records → IsToFold file h
    → IsSlots form × (fold_end form end (length (fold_bytes h)) ≤ limit)
folds_as file Short end base records h ends t = absurd (t.long (inl ends.0))
folds_as file SlotsShort end base records h ends t = absurd (t.long (inr (ends.0, ends.1)))
folds_as file Plain end base records h ends t = absurd (let same : Plain ≡ Slots t.which t.offset = one_form Plain (Slots t.which t.offset) file base t.base records t.records ends.0 t.journal in cc)
folds_as file (Slots which offset) end base records h ends t =
    let same : Slots which offset ≡ Slots t.which t.offset = one_form (Slots which offset) (Slots t.which t.offset) file base t.base records t.records ends.0 t.journal in
    let there : end ≡ end_in t.journal = ends.1 ∙ one_end (Slots which offset) (Slots t.which t.offset) file base t.base records t.records ends.0 t.journal in
    let place : fold_end (Slots which offset) end (length (fold_bytes h)) ≡ end_folded t =
    ap (λ (f : Form). fold_end f end (length (fold_bytes h))) same ∙ ap (λ (n : ℕ). fold_end (Slots t.which t.offset) n (length (fold_bytes h))) there in
    (tt, subst (λ (n : ℕ). n ≤ limit) (sym place) t.fits)

-- ---- how a house opens

pub opens_with : (o : Option disks.History) (first h : History) (size : ℕ) → OpensOn o first h size → OpensWith first h
opens_with None first h size opens = opens
opens_with (Some disk) first h size (inl same) = inl same.1
opens_with (Some disk) first h size (inr (t, is, place)) = inr (t.may.at_rest, is)

-- a journal that ends there and was in this spelling, and is turned, ends so
ends_turned : (file : List ℕ) (form : Form) (end size : ℕ) (last : Spelling) (base : List ℕ) (records : List (List ℕ)) → IsFormOf form file → EndsAs form file end base records → GoesOnIn file last → size ≡ end_turned last end → IsEnd file size
ends_turned file form end size last base records is ends on same =
    let one = one_reading file on.0 base on.1 records on.2 (ends_hold form file end base records ends) in
    let here : last ≡ spelling_after (spelling_behind base) records = on.3 ∙ ap (λ (b : List ℕ). spelling_after (spelling_behind b) on.1) one.0 ∙ ap (λ (rs : List (List ℕ)). spelling_after (spelling_behind base) rs) one.1 in
    record { form = form; has_form = is; end = end; base = base; records = records; ends = ends; turned = same ∙ ap (λ (s : Spelling). end_turned s end) here }

-- with its own history, where nothing is to be folded
pub opens_plainly : (o : Option disks.History) (h : History) (form : Form) (end size : ℕ) (last : Spelling) → HasForm o form → EndsAt o form end → FindsSpelling o last → size ≡ end_turned last end
    → (IsSlots form → MayBeFolded h → fold_end form end (length (fold_bytes h)) ≤ limit → ⊥) → OpensOn o h h size
opens_plainly None h form end size last is ends on same none = inl refl
opens_plainly (Some disk) h form end size last is ends on same none = inl (
  (λ (t : IsToFold disk.content h). let so = folds_as disk.content form end ends.0 ends.1 h ends.2 t in none so.0 t.may so.1),
  refl,
  ends_turned disk.content form end size last ends.0 ends.1 is ends.2 on same,
)

-- with the fold
pub opens_folded : (o : Option disks.History) (h : History) (form : Form) (end size : ℕ) → EndsAt o form end → ContentStandsFor o h → IsSlots form → MayBeFolded h
    → fold_end form end (length (fold_bytes h)) ≤ limit → size ≡ fold_end form end (length (fold_bytes h)) → OpensOn o h (folded h) size
opens_folded None h form end size ends stands slots may fits same = inr (may.at_rest, refl)
opens_folded (Some disk) h form end size ends stands slots may fits same =
    let t = is_to_fold disk.content form end ends.0 ends.1 h ends.2 slots stands may fits in inr (t.0, refl, same ∙ t.1)

-- what a fold leaves, done or in part, is what may be left at an opening
pub folding_opened : (o after : Option disks.History) (h : History) (form : Form) (end : ℕ) → EndsAt o form end → ContentStandsFor o h → IsSlots form → MayBeFolded h
    → fold_end form end (length (fold_bytes h)) ≤ limit → LeavesOnly o after (λ image. StandsFor image h ⊎ StandsFor image (folded h)) → LeavesOpenedAs o after h
folding_opened None after h form end ends stands slots may fits leaves = leaves
folding_opened (Some disk) after h form end ends stands slots may fits leaves =
    let t = is_to_fold disk.content form end ends.0 ends.1 h ends.2 slots stands may fits in
    leaves_more (Some disk) after (λ image. StandsFor image h ⊎ StandsFor image (folded h)) (StandsForOpened disk.content h)
    (λ image. ⊎_elim (λ was. inl was) (λ next. inr (t.0, next))) leaves

-- and so is what a house leaves that opened as it should
pub opened_as : (o after : Option disks.History) (first h : History) (size : ℕ) → OpensOn o first h size → LeavesOnly o after (StandsForOne h first) → LeavesOpenedAs o after first
opened_as None after first h size opens leaves = leaves
opened_as (Some disk) after first h size (inl same) leaves =
    leaves_more (Some disk) after (StandsForOne h first) (StandsForOpened disk.content first)
    (λ image. ⊎_elim (λ own. inl (subst (StandsFor image) same.1 own)) (λ was. inl was)) leaves
opened_as (Some disk) after first h size (inr (t, is, place)) leaves =
    leaves_more (Some disk) after (StandsForOne h first) (StandsForOpened disk.content first)
    (λ image. ⊎_elim (λ own. inr (t, subst (StandsFor image) is own)) (λ was. inl was)) leaves

-- ---- staging and switching

module _ (old mid : Option disks.History) (form : Form) (end : ℕ) (last : Spelling) (h : History) (staging : IsStaging old mid form end) (written : AreWrittenAs old form end last h) where
  -- the base was staged, or in part
  pub staged_only : LeavesOnly old mid (λ image. StandsFor image h ⊎ StandsFor image (folded h))
  staged_only = leaves_more old mid (λ image. StandsFor image h) (λ image. StandsFor image h ⊎ StandsFor image (folded h)) (λ image stands. inl stands) (staging_leaves old mid form end last h staging written)

  module _ (beside : IsStagedBeside old mid form end) (new : Option disks.History) (bytes : List ℕ) (fold : IsFoldOf h bytes) where
    base : StandsForBase (fold_bytes h) (folded h).base
    base = subst (λ (b : List ℕ). StandsForBase b (folded h).base) fold.0 fold.1

    there : AreWrittenAs mid form end last h
    there = staging_writes old mid form end last h staging beside written

    one_only : (s : Staged) → IsStaged mid s bytes → IsSwitching mid new form end s → LeavesOnly old new (λ image. StandsFor image h ⊎ StandsFor image (folded h))
    one_only s is switching =
        leaves_both old mid new (λ image. StandsFor image h ⊎ StandsFor image (folded h)) staged_only
        (switch_leaves mid new form end last s h base switching (subst (IsStaged mid s) fold.0 is) there)

    one_stores : (s : Staged) (next : Form) (size : ℕ) → IsStaged mid s bytes → IsSwitching mid new form end s → IsSwitched mid new s next size → AreStoredAs new next size (folded h)
    one_stores s next size is switching switched = switch_stores mid new form next end size last s h base switching switched (subst (IsStaged mid s) fold.0 is) there

    -- and switched to, or in part
    pub folds_only : (o : Option Staged) → IsReadyToSwitch mid form o → IfSome o (λ s. IsStaged mid s bytes) → IfSome o (λ s. IsSwitching mid new form end s)
        → LeavesOnly old new (λ image. StandsFor image h ⊎ StandsFor image (folded h))
    folds_only None never is switching = absurd never
    folds_only (Some s) ready is switching = one_only s is switching

    pub folds_store : (o : Option Staged) (next : Form) (size : ℕ) → IsReadyToSwitch mid form o → IfSome o (λ s. IsStaged mid s bytes) → IfSome o (λ s. IsSwitching mid new form end s)
        → IfSome o (λ s. IsSwitched mid new s next size) → AreStoredAs new next size (folded h)
    folds_store None next size never is switching switched = absurd never
    folds_store (Some s) next size ready is switching switched = one_stores s next size is switching switched
