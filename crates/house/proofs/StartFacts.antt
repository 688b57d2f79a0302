-- A journal that is started, and folded where that is due.
use Rattle.std.proofs.Common.{◌≡◌, ◌⊎◌, inl, inr, ⊎_elim, ℕ, ◌≤◌, length, Option, Result, Ok, Err, IfOk, IfErr, refl, sym, ◌∙◌, subst, ap, arith}
use Rattle.command_types.specs.declared.spelling.Spelling.{Spelling}
use Rattle.command_types.specs.Folds.{folded}
use Rattle.command_types.specs.History.{History}
use Rattle.outside.specs.Disk as disks
use Rattle.journal_core.specs.Calls.{IsStarting, IsStarted}
use Rattle.journal_core.specs.Form.{IsSlots, begun_form, fold_end}
use Rattle.journal_core.specs.Holds.{limit}
use Rattle.journal_core.specs.Journal.{EndsAt, HasForm}
use Rattle.journal_core.specs.Moments.{LeavesOnly}
use Rattle.journal_core.specs.declared.form.Form.{Form}
use Rattle.journal_core.specs.declared.form.Form.TheVariants.{Short, Plain, SlotsShort, Slots}
use Rattle.journal_core.proofs.MomentFacts.{leaves_more, leaves_both}
use Rattle.recovery.specs.StandsFor.{StandsFor}
use Rattle.recovery.specs.Reading.{FindsSpelling}
use Rattle.house.specs.Folding.{MayBeFolded, fold_bytes, OpensOn, StandsForOne, LeavesOpenedAs}
use Rattle.house.specs.Storing.{AreWrittenAs, ContentStandsFor, end_turned}
use Rattle.house.proofs.JournalFacts.{start_leaves, start_writes}
use Rattle.house.proofs.FoldFacts.{opens_folded, opens_plainly, folding_opened}

-- ---- results

pub ok_with : {A E : Type 0} (r : Result A E) (P Q R : A → Type 0) → ((x : A) → P x → Q x → R x) → IfOk r P → IfOk r Q → IfOk r R
ok_with (Ok x) P Q R f p q = f x p q
ok_with (Err e) P Q R f p q = tt

pub err_with : {A E : Type 0} (r : Result A E) (P Q : E → Type 0) → ((e : E) → P e → Q e) → IfErr r P → IfErr r Q
err_with (Ok x) P Q f p = tt
err_with (Err e) P Q f p = f e p

-- ---- how a journal is started

-- a base that fits is no longer than a journal
pub small_base : (form : Form) (end size : ℕ) → fold_end form end size ≤ limit → size ≤ limit
small_base form end size fits = omega (arith, fits)

-- a journal that is not folded is turned
pub plain_opens : (o : Option disks.History) (h : History) (form : Form) (end : ℕ) (last : Spelling) → HasForm o form → EndsAt o form end → FindsSpelling o last → (size : ℕ) → size ≡ end → (next : ℕ) → next ≡ end_turned last size
    → (IsSlots form → MayBeFolded h → fold_end form end (length (fold_bytes h)) ≤ limit → ⊥) → OpensOn o h h next
plain_opens o h form end last has ends on size same next is never = opens_plainly o h form end next last has ends on (is ∙ ap (end_turned last) same) never

-- a form with slots stays as it is
begun_slots : (form : Form) → IsSlots form → begun_form form ≡ form
begun_slots Short slots = absurd slots
begun_slots Plain slots = absurd slots
begun_slots SlotsShort slots = absurd slots
begun_slots (Slots which offset) slots = refl

module _ (o mid : Option disks.History) (h : History) (starting : IsStarting o mid) (stands : ContentStandsFor o h) where
  -- a crash leaves the history
  pub start_one : LeavesOnly o mid (λ image. StandsFor image h)
  start_one = start_leaves o mid h starting stands

  module _ (form : Form) (end : ℕ) (last : Spelling) (started : IsStarted o mid form) (ends : EndsAt o form end) (on : FindsSpelling o last) where
    -- which is written
    pub start_written : (now : Form) (size : ℕ) → now ≡ begun_form form → size ≡ end → AreWrittenAs mid now size last h
    start_written now size same_form same_size =
        subst (λ (f : Form). AreWrittenAs mid f size last h) (sym same_form)
        (subst (λ (n : ℕ). AreWrittenAs mid (begun_form form) n last h) (sym same_size) (start_writes o mid form end last h starting started ends on stands))

    -- The journal is turned.
    module _ (size : ℕ) (same_size : size ≡ end) (new : Option disks.History) (leaves : LeavesOnly mid new (λ image. StandsFor image h)) where
      pub turned_only : LeavesOnly o new (λ image. StandsFor image h)
      turned_only = leaves_both o mid new (λ image. StandsFor image h) start_one leaves

      pub turned_one : LeavesOnly o new (StandsForOne h h)
      turned_one = leaves_more o new (λ image. StandsFor image h) (StandsForOne h h) (λ image own. inl own) turned_only

    -- A fold is due in a file with slots.
    module _ (slots : IsSlots form) (may : MayBeFolded h) (now : Form) (size length_now : ℕ) (same_form : now ≡ begun_form form) (same_size : size ≡ end) (same_length : length_now ≡ length (fold_bytes h)) where
      place : fold_end now size length_now ≡ fold_end form end (length (fold_bytes h))
      place =
          ap (λ (f : Form). fold_end f size length_now) (same_form ∙ begun_slots form slots) ∙ ap (λ (n : ℕ). fold_end form n length_now) same_size ∙ ap (λ (n : ℕ). fold_end form end n) same_length

      pub start_slots : IsSlots now
      start_slots = subst IsSlots (sym (same_form ∙ begun_slots form slots)) slots

      -- and does not fit
      pub start_never : (fold_end now size length_now ≤ limit → ⊥) → IsSlots form → MayBeFolded h → fold_end form end (length (fold_bytes h)) ≤ limit → ⊥
      start_never never slots_there may_there fits = never (subst (λ (n : ℕ). n ≤ limit) (sym place) fits)

      module _ (fits : fold_end now size length_now ≤ limit) where
        there : fold_end form end (length (fold_bytes h)) ≤ limit
        there = subst (λ (n : ℕ). n ≤ limit) place fits

        -- or was made
        pub start_opens : (next : ℕ) → next ≡ fold_end now size length_now → OpensOn o h (folded h) next
        start_opens next is = opens_folded o h form end next ends stands slots may there (is ∙ place)

        module _ (new : Option disks.History) (leaves : LeavesOnly mid new (λ image. StandsFor image h ⊎ StandsFor image (folded h))) where
          pub start_folding : LeavesOnly o new (λ image. StandsFor image h ⊎ StandsFor image (folded h))
          start_folding = leaves_both o mid new (λ image. StandsFor image h ⊎ StandsFor image (folded h)) start_one_of leaves
            where
              start_one_of : LeavesOnly o mid (λ image. StandsFor image h ⊎ StandsFor image (folded h))
              start_one_of = leaves_more o mid (λ image. StandsFor image h) (λ image. StandsFor image h ⊎ StandsFor image (folded h)) (λ image own. inl own) start_one

          pub start_folded : LeavesOnly o new (StandsForOne (folded h) h)
          start_folded = leaves_more o new (λ image. StandsFor image h ⊎ StandsFor image (folded h)) (StandsForOne (folded h) h) (λ image. ⊎_elim (λ was. inr was) (λ next. inl next)) start_folding

          -- or failed
          pub start_failed : LeavesOpenedAs o new h
          start_failed = folding_opened o new h form end ends stands slots may there start_folding
