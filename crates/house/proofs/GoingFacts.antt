-- Crashes never go back.
use Rattle.std.proofs.Common.{◌≡◌, ◌⊎◌, inl, inr, ⊎_elim, ℕ, ◌+◌, ◌≤◌, ◌<◌, cond, nat_lt, List, [], ◌∷◌, ◌++◌, length, Option, Some, None, refl, sym, ◌∙◌, subst, ap, arith, append_assoc, length-append}
use Rattle.std.proofs.lemmas.Bool.{cases_lt, lt-ltb, le-ltb}
use Rattle.std.proofs.lemmas.List.{append-nil}
use Rattle.command_types.specs.declared.ask.Entry.{Entry}
use Rattle.command_types.specs.History.{History, longer}
use Rattle.outside.specs.Disk.{moment}
use Rattle.outside.specs.Disk as disks
use Rattle.journal_core.specs.Moments.{left_at, EachMoment, LeavesOnly, MayLeaveYet}
use Rattle.journal_core.proofs.MomentFacts.{since_at, some_at}
use Rattle.recovery.specs.StandsFor.{StandsFor}
use Rattle.house.specs.Folding.{StandsForOne}
use Rattle.house.specs.Storing.{most_together, StandsForAllOrNone, StandsForLong, NeverGoesBack, NeverGoBack, moment_of, LeavesKept, LeavesHistory}

-- ---- fronts

module _ (opening : ℕ) (first : History) where
  -- the whole history
  long_all : (long : ℕ) (h : History) (image : List ℕ) → length h.entries ≡ long → StandsFor image h → StandsForLong opening long first h image
  long_all long h image has stands = record { front = h.entries; back = []; split = sym (append-nil h.entries); has = has; stands = inl stands }

  -- the history without the changes that came behind it
  long_front : (h : History) (more : List Entry) (image : List ℕ) → StandsFor image h → StandsForLong opening (length h.entries) first (longer h more) image
  long_front h more image stands = record { front = h.entries; back = more; split = refl; has = refl; stands = inl stands }

  -- a front stays one
  long_longer : (long : ℕ) (h : History) (more : List Entry) (image : List ℕ) → StandsForLong opening long first h image → StandsForLong opening long first (longer h more) image
  long_longer long h more image b = record {
    front = b.front;
    back = b.back ++ more;
    split = ap (λ (es : List Entry). es ++ more) b.split ∙ append_assoc b.front b.back more;
    has = b.has;
    stands = b.stands;
  }

-- ---- at the opening

-- the whole history, or the first one, of which it may be the fold
long_one : (first h : History) (image : List ℕ) → StandsForOne h first image → StandsForLong (length h.entries) (length h.entries) first h image
long_one first h image stands = record {
  front = h.entries;
  back = [];
  split = sym (append-nil h.entries);
  has = refl;
  stands = ⊎_elim (λ own. inl own) (λ was. inr (refl, was)) stands;
}

first_back : (o after : disks.History) (first h : History) → EachMoment o after (StandsForOne h first) → NeverGoesBack (moment o) (length h.entries) (length h.entries) after first h
first_back o after first h leaves = record {
  lengths = λ number. length h.entries;
  together = λ number. 0;
  few = λ number. omega arith;
  rising = λ m n le. omega arith;
  first = omega arith;
  last = λ number. omega arith;
  each = λ number image from left. inl (long_one first h image (leaves.each image (since_at after (moment o) number image from left)));
  some = λ number from to.
      let there = some_at after number (omega (arith, to)) in
      (there.0, there.1, long_one first h there.0 (leaves.each there.0 (since_at after (moment o) number there.0 from there.1)));
}

pub back_first : (o after : Option disks.History) (first h : History) → LeavesOnly o after (StandsForOne h first) → NeverGoBack (moment_of o) (length h.entries) first after h []
back_first None after first h leaves = subst (λ (a : Option disks.History). NeverGoBack 0 (length h.entries) first a h []) (sym leaves) tt
back_first (Some disk) None first h leaves = absurd leaves
back_first (Some disk) (Some after) first h leaves = first_back disk after first h leaves

-- ---- changes, made or kept

module _ (since opening : ℕ) (old new : disks.History) (first h : History) (more : List Entry) (few : length more ≤ most_together) (within : opening ≤ length h.entries) (from : since ≤ moment old)
    (back : NeverGoesBack since opening (length h.entries) old first h) (leaves : EachMoment old new (StandsForAllOrNone h more)) (yet : MayLeaveYet (Some old) (Some new) (λ image. StandsFor image h)) where
  -- the moments of the changes have the length from before them, and all of them are being put on the disk
  abbrev lengths : ℕ → ℕ
  lengths number = cond (nat_lt number (moment old)) (back.lengths number) (length h.entries)

  abbrev together : ℕ → ℕ
  together number = cond (nat_lt number (moment old)) (back.together number) (length more)

  early : (number : ℕ) → number < moment old → (lengths number ≡ back.lengths number) × (together number ≡ back.together number)
  early number lt = (
    ap (λ t. cond t (back.lengths number) (length h.entries)) (lt-ltb number (moment old) lt),
    ap (λ t. cond t (back.together number) (length more)) (lt-ltb number (moment old) lt),
  )

  late : (number : ℕ) → moment old ≤ number → (lengths number ≡ length h.entries) × (together number ≡ length more)
  late number le = (
    ap (λ t. cond t (back.lengths number) (length h.entries)) (le-ltb number (moment old) le),
    ap (λ t. cond t (back.together number) (length more)) (le-ltb number (moment old) le),
  )

  at_most : (number : ℕ) → lengths number ≤ length h.entries
  at_most number = elim (cases_lt number (moment old)) [
    | inl lt ↦ omega (arith, (early number lt).0, back.last number)
    | inr le ↦ omega (arith, (late number le).0)
  ]

  are_few : (number : ℕ) → together number ≤ most_together
  are_few number = elim (cases_lt number (moment old)) [
    | inl lt ↦ omega (arith, (early number lt).1, back.few number)
    | inr le ↦ omega (arith, (late number le).1, few)
  ]

  rises : (m n : ℕ) → m ≤ n → lengths m ≤ lengths n
  rises m n le = elim (cases_lt n (moment old)) [
    | inl lt ↦ omega (arith, (early n lt).0, (early m (omega (arith, le, lt))).0, back.rising m n le)
    | inr past ↦ omega (arith, (late n past).0, at_most m)
  ]

  begins : opening ≤ lengths since
  begins = elim (cases_lt since (moment old)) [
    | inl lt ↦ omega (arith, (early since lt).0, back.first)
    | inr past ↦ omega (arith, (late since past).0, within)
  ]

  abbrev all : History
  all = longer h more

  abbrev Left : ℕ → ℕ → List ℕ → Type 0
  Left long few image = StandsForLong opening long first all image ⊎ StandsForLong opening (long + few) first all image

  -- what was left before them is left still
  left_before : (number : ℕ) (image : List ℕ) → since ≤ number → number < moment old → left_at new number image → Left (back.lengths number) (back.together number) image
  left_before number image later lt left =
      ⊎_elim (λ without. inl (long_longer opening first (back.lengths number) h more image without))
      (λ with_them. inr (long_longer opening first (back.lengths number + back.together number) h more image with_them))
      (back.each number image later ((leaves.same number image (omega (arith, lt))).0 left))

  -- and what they leave
  left_within : (image : List ℕ) → StandsForAllOrNone h more image → Left (length h.entries) (length more) image
  left_within image =
      ⊎_elim (λ without. inl (long_front opening first h more image without))
      (λ with_them. inr (long_all opening first (length h.entries + length more) all image (length-append h.entries more) with_them))

  each : (number : ℕ) (image : List ℕ) → since ≤ number → left_at new number image → Left (lengths number) (together number) image
  each number image later left = elim (cases_lt number (moment old)) [
    | inl lt ↦ subst (λ (n : ℕ). Left n (together number) image) (sym (early number lt).0) (subst (λ (n : ℕ). Left (back.lengths number) n image) (sym (early number lt).1) (left_before number image later lt left))
    | inr past ↦ subst (λ (n : ℕ). Left n (together number) image) (sym (late number past).0)
        (subst (λ (n : ℕ). Left (length h.entries) n image) (sym (late number past).1) (left_within image (leaves.each image (since_at new (moment old) number image past left))))
  ]

  some : (number : ℕ) → since ≤ number → number < moment new → (image : List ℕ) × left_at new number image × StandsForLong opening (lengths number) first all image
  some number later to = elim (cases_lt number (moment old)) [
    | inl lt ↦ (let there = back.some number later lt in (
      there.0,
      (leaves.same number there.0 (omega (arith, lt))).1 there.1,
      subst (λ (n : ℕ). StandsForLong opening n first all there.0) (sym (early number lt).0) (long_longer opening first (back.lengths number) h more there.0 there.2),
    ))
    | inr past ↦ (let there = yet number past to in (
      there.0,
      there.1,
      subst (λ (n : ℕ). StandsForLong opening n first all there.0) (sym (late number past).0) (long_front opening first h more there.0 there.2),
    ))
  ]

  pub goes_on : (made : ℕ) → length h.entries ≤ made → NeverGoesBack since opening made new first all
  goes_on made more_made = record {
    lengths = lengths;
    together = together;
    few = are_few;
    rising = rises;
    first = begins;
    last = λ number. omega (arith, at_most number, more_made);
    each = each;
    some = some;
  }

module _ (since opening : ℕ) (first h : History) (within : opening ≤ length h.entries) where
  -- after changes that were made
  pub back_more : (o after : Option disks.History) (more : List Entry) → length more ≤ most_together → since ≤ moment_of o → NeverGoBack since opening first o h [] → LeavesOnly o after (StandsForAllOrNone h more)
      → MayLeaveYet o after (λ image. StandsFor image h) → NeverGoBack since opening first after (longer h more) []
  back_more None after more few from back leaves yet = subst (λ (a : Option disks.History). NeverGoBack since opening first a (longer h more) []) (sym leaves) tt
  back_more (Some disk) None more few from back leaves yet = absurd leaves
  back_more (Some disk) (Some later) more few from back leaves yet =
      goes_on since opening disk later first h more few within from back leaves yet (length (h.entries ++ more)) (omega (arith, length-append h.entries more))

  -- after those on which the disk failed
  pub back_kept : (o after : Option disks.History) (entry : Entry) (others : List Entry) → length (entry ∷ others) ≤ most_together → since ≤ moment_of o → NeverGoBack since opening first o h []
      → LeavesOnly o after (StandsForAllOrNone h (entry ∷ others)) → MayLeaveYet o after (λ image. StandsFor image h) → NeverGoBack since opening first after h (entry ∷ others)
  back_kept None after entry others few from back leaves yet = subst (λ (a : Option disks.History). NeverGoBack since opening first a h (entry ∷ others)) (sym leaves) tt
  back_kept (Some disk) None entry others few from back leaves yet = absurd leaves
  back_kept (Some disk) (Some later) entry others few from back leaves yet =
      goes_on since opening disk later first h (entry ∷ others) few within from back leaves yet (length h.entries) (omega arith)

-- ---- what a crash now leaves

-- the last moment is one of those of the changes
pub kept_now : (o after : Option disks.History) (h : History) (entry : Entry) (others : List Entry) → LeavesOnly o after (StandsForAllOrNone h (entry ∷ others)) → LeavesKept after h (entry ∷ others)
kept_now None after h entry others leaves = subst (λ (d : Option disks.History). LeavesKept d h (entry ∷ others)) (sym leaves) tt
kept_now (Some disk) None h entry others leaves = absurd leaves
kept_now (Some disk) (Some later) h entry others leaves = λ image left. leaves.each image (inl (leaves.later, left))

pub none_kept : (o : Option disks.History) (h : History) → LeavesHistory o h → LeavesKept o h []
none_kept None h leaves = tt
none_kept (Some disk) h leaves = λ image left. inl (leaves image left)
