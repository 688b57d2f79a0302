-- How the moments of a disk's calls follow each other.
use Rattle.std.proofs.Common.{◌≡◌, inl, inr, ⊎_elim, ℕ, ◌+◌, ◌-◌, ◌≤◌, ◌<◌, max, List, [], ◌∷◌, ◌++◌, length, take, drop, Option, Some, None, refl, sym, ◌∙◌, subst, ap, arith, append_assoc, length-append}
use Rattle.std.proofs.lemmas.Bool.{cases_eq, cases_lt}
use Rattle.std.proofs.lemmas.List.{take_at, take_all, drop_at, length-take-le, length-drop}
use Rattle.outside.specs.Disk.{Change, LeftOf, Moment, History, settled_moment, IsPlace, moment, LeftAt, left_since, may_leave, IsTorn, IsSettled, Steps, Breaks, changed, overwritten, after_write, after_sync}
use Rattle.journal_core.specs.Moments.{LeftByNumber, left_at, EachMoment, LeavesOnly, TornOf, Puts, MayLeaveYet, IsContent}

-- no moment has a number as large as their count
none_left : (ms : List Moment) (since : ℕ) (image : List ℕ) → LeftAt ms since image → since < length ms
none_left [] since image left = absurd left
none_left (m ∷ ms) since image (inl here) = omega (arith, here.0)
none_left (m ∷ ms) since image (inr there) = omega (arith, none_left ms since image there)

only_now : (h : History) (image : List ℕ) → left_since h (moment h) image → may_leave h.now image
only_now h image (inl here) = here.1
only_now h image (inr there) = absurd (omega (arith, none_left h.earlier (length h.earlier) image there))

-- what one moment left, those since an earlier one did
left_by_number : (ms : List Moment) (since number : ℕ) (image : List ℕ) → since ≤ number → LeftByNumber ms number image → LeftAt ms since image
left_by_number [] since number image le left = absurd left
left_by_number (m ∷ ms) since number image le (inl here) = inl (omega (arith, le, here.0), here.1)
left_by_number (m ∷ ms) since number image le (inr there) = inr (left_by_number ms since number image le there)

pub since_at : (h : History) (since number : ℕ) (image : List ℕ) → since ≤ number → left_at h number image → left_since h since image
since_at h since number image le left = left_by_number (h.now ∷ h.earlier) since number image le left

-- before a call
pub started : (h : History) (P : List ℕ → Type 0) → ((image : List ℕ) → may_leave h.now image → P image) → EachMoment h h P
started h P here = record { later = omega arith; each = λ image left. here image (only_now h image left); before = λ since image le left. inl left; same = λ number image le. (λ left. left, λ left. left) }

-- one change more, after which a crash leaves what has P
pub goes_on : (old mid : History) (now : Moment) (content : List ℕ) (P : List ℕ → Type 0) → EachMoment old mid P → ((image : List ℕ) → may_leave now image → P image)
    → EachMoment old (record { content = content; now = now; earlier = mid.now ∷ mid.earlier }) P
goes_on old mid now content P so_far here = record {
  later = omega (arith, so_far.later);
  each = λ image left. ⊎_elim (λ new. here image new.1) (so_far.each image) left;
  before = λ since image le left. ⊎_elim (λ new. inr (here image new.1)) (so_far.before since image le) left;
  same = λ number image le. (
    λ left. ⊎_elim (λ new. absurd (omega (arith, le, so_far.later, new.0))) (λ was. (so_far.same number image le).0 was) left,
    λ left. inr ((so_far.same number image le).1 left),
  );
}

-- a weaker fact
pub leaves_more : (old new : Option History) (P Q : List ℕ → Type 0) → ((image : List ℕ) → P image → Q image) → LeavesOnly old new P → LeavesOnly old new Q
leaves_more None new P Q weaker leaves = leaves
leaves_more (Some old) None P Q weaker leaves = absurd leaves
leaves_more (Some old) (Some new) P Q weaker leaves = record {
  later = leaves.later;
  each = λ image left. weaker image (leaves.each image left);
  before = λ since image le left. ⊎_elim (λ was. inl was) (λ p. inr (weaker image p)) (leaves.before since image le left);
  same = leaves.same;
}

-- one call after another
pub leaves_both : (a b c : Option History) (P : List ℕ → Type 0) → LeavesOnly a b P → LeavesOnly b c P → LeavesOnly a c P
leaves_both None b c P first second = subst (λ (o : Option History). LeavesOnly o c P) first second
leaves_both (Some a) None c P first second = absurd first
leaves_both (Some a) (Some b) None P first second = absurd second
leaves_both (Some a) (Some b) (Some c) P first second = record {
  later = omega (arith, first.later, second.later);
  each = λ image left. ⊎_elim (first.each image) (λ p. p) (second.before (moment a) image first.later left);
  before = λ since image le left. ⊎_elim (first.before since image le) (λ p. inr p) (second.before since image (omega (arith, le, first.later)) left);
  same = λ number image le. (
    λ left. (first.same number image le).0 ((second.same number image (omega (arith, le, first.later))).0 left),
    λ left. (second.same number image (omega (arith, le, first.later))).1 ((first.same number image le).1 left),
  );
}

same_torn : (place count : ℕ) (bytes : List ℕ) → IsTorn place count bytes bytes
same_torn place count bytes = record { before = refl; behind = refl; no_shorter = omega arith; no_longer = omega arith }

module _ (h : History) (settled : IsSettled (Some h)) (place count : ℕ) where
  abbrev Torn : List ℕ → Type 0
  Torn image = IsTorn place count h.content image

  at_first : EachMoment h h Torn
  at_first = started h Torn (λ image now. subst Torn (sym (settled image now)) (same_torn place count h.content))

  -- in a write
  torn_now : (image : List ℕ) → LeftOf h.now.synced (Change.Write place count ∷ h.now.changes) image → Torn image
  torn_now image left = subst (λ (f : List ℕ). IsTorn place count f image) (settled left.0 left.1) left.2

  pub after_change : (content : List ℕ) → EachMoment h (changed (Change.Write place count) content h) Torn
  after_change content = goes_on h h (record { synced = h.now.synced; changes = Change.Write place count ∷ h.now.changes }) content Torn at_first torn_now

  pub in_broken : (after : Option History) → Breaks (Change.Write place count) (Some h) after → LeavesOnly (Some h) after Torn
  in_broken after (inl nothing) = subst (λ (o : Option History). LeavesOnly (Some h) o Torn) (sym nothing) at_first
  in_broken after (inr part) = subst (λ (o : Option History). LeavesOnly (Some h) o Torn) (sym part.2) (after_change part.0)

-- a write that failed
pub write_broken : (a b : Option History) (place count : ℕ) → IsSettled a → Breaks (Change.Write place count) a b → LeavesOnly a b (TornOf a place count)
write_broken None b place count settled breaks = breaks
write_broken (Some h) b place count settled breaks = in_broken h settled place count b breaks

-- a write, after which the sync failed
pub sync_failed : (a b c : Option History) (place : ℕ) (bytes : List ℕ) → IsSettled a → Steps (after_write place bytes) a b → c ≡ b → LeavesOnly a c (TornOf a place (length bytes))
sync_failed None b c place bytes settled wrote same = same ∙ wrote
sync_failed (Some h) b c place bytes settled wrote same =
    subst (λ (o : Option History). LeavesOnly (Some h) o (IsTorn place (length bytes) h.content)) (sym (same ∙ wrote)) (after_change h settled place (length bytes) (overwritten place bytes h.content))

-- a write that was done is one that was not broken off
pub torn_done : (place : ℕ) (bytes old : List ℕ) → place ≤ length old → IsTorn place (length bytes) old (overwritten place bytes old)
torn_done place bytes old le =
    let rest = drop (place + length bytes) old in
    let size : length (take place old) ≡ place = length-take-le place old le in
    let both : length (take place old ++ bytes) ≡ place + length bytes = omega (arith, size, length-append (take place old) bytes) in
    let all : length (take place old ++ bytes ++ rest) ≡ place + length bytes + length rest = omega (arith, both, length-append (take place old ++ bytes) rest) in
    let left : length rest ≡ length old - (place + length bytes) = length-drop (place + length bytes) old in
    let long : length old ≤ length (take place old ++ bytes ++ rest) = omega (arith, all, left) in
    let short : length (take place old ++ bytes ++ rest) ≤ max (length old) (place + length bytes) = omega (arith, all, left) in
    record {
      before = ap (λ (l : List ℕ). take place l) (append_assoc (take place old) bytes rest) ∙ take_at (take place old) (bytes ++ rest) place size;
      behind = drop_at (take place old ++ bytes) rest (place + length bytes) both;
      no_shorter = long;
      no_longer = short;
    }

-- a write and a sync
pub put_done : (a b c : Option History) (place : ℕ) (bytes : List ℕ) → Steps (after_write place bytes) a b → Steps after_sync b c → Puts a place bytes c
put_done None b c place bytes wrote synced = subst (λ (o : Option History). Steps after_sync o c) wrote synced
put_done (Some h) b c place bytes wrote synced =
    let same : c ≡ Some (after_sync (after_write place bytes h)) = subst (λ (o : Option History). Steps after_sync o c) wrote synced in
    (after_sync (after_write place bytes h), same, refl, λ image is. is)

pub put_moments : (a b c : Option History) (place : ℕ) (bytes : List ℕ) → IsPlace a place → IsSettled a → Steps (after_write place bytes) a b → Steps after_sync b c
    → LeavesOnly a c (TornOf a place (length bytes))
put_moments None b c place bytes within settled wrote synced = subst (λ (o : Option History). Steps after_sync o c) wrote synced
put_moments (Some h) b c place bytes within settled wrote synced =
    let written = overwritten place bytes h.content in
    let same : c ≡ Some (after_sync (after_write place bytes h)) = subst (λ (o : Option History). Steps after_sync o c) wrote synced in
    let whole = torn_done place bytes h.content within in
    subst (λ (o : Option History). LeavesOnly (Some h) o (IsTorn place (length bytes) h.content)) (sym same)
    (goes_on h (after_write place bytes h) (settled_moment written) written (IsTorn place (length bytes) h.content) (after_change h settled place (length bytes) written)
    (λ image is. subst (IsTorn place (length bytes) h.content) (sym is) whole))

-- ---- what a crash may leave yet

-- a crash may leave what was synced last
synced_left : (bytes : List ℕ) (changes : List Change) → LeftOf bytes changes bytes
synced_left bytes [] = refl
synced_left bytes (Change.Write place count ∷ changes) = (bytes, synced_left bytes changes, same_torn place count bytes)
synced_left bytes (Change.Cut size ∷ changes) = (bytes, synced_left bytes changes, record { front = sym (take_all (length bytes) bytes (omega arith)); no_shorter = omega arith })

-- at each moment there is something that a crash may leave
some_by_number : (ms : List Moment) (number : ℕ) → number < length ms → (image : List ℕ) × LeftByNumber ms number image
some_by_number [] number lt = absurd (omega (arith, lt))
some_by_number (m ∷ ms) number lt = elim (cases_eq number (length ms)) [
  | inl here ↦ (m.synced, inl (here, synced_left m.synced m.changes))
  | inr other ↦ (let rest = some_by_number ms number (omega (arith, lt, other)) in (rest.0, inr rest.1))
]

pub some_at : (h : History) (number : ℕ) → number ≤ moment h → (image : List ℕ) × left_at h number image
some_at h number le = some_by_number (h.now ∷ h.earlier) number (omega (arith, le))

content_left : (h : History) → IsSettled (Some h) → may_leave h.now h.content
content_left h settled =
    let left = synced_left h.now.synced h.now.changes in
    subst (λ (image : List ℕ). may_leave h.now image) (settled h.now.synced left) left

-- where nothing was done
pub yet_none : (o : Option History) (P : List ℕ → Type 0) → MayLeaveYet o o P
yet_none None P = tt
yet_none (Some h) P = λ number from to. absurd (omega (arith, from, to))

-- a weaker fact
pub yet_more : (o after : Option History) (P Q : List ℕ → Type 0) → ((image : List ℕ) → P image → Q image) → MayLeaveYet o after P → MayLeaveYet o after Q
yet_more None after P Q weaker yet = tt
yet_more (Some h) None P Q weaker yet = tt
yet_more (Some h) (Some k) P Q weaker yet = λ number from to. let some = yet number from to in (some.0, some.1, weaker some.0 some.2)

-- one call after another
pub yet_both : (a b c : Option History) (P Q : List ℕ → Type 0) → MayLeaveYet a b P → LeavesOnly b c Q → MayLeaveYet b c P → MayLeaveYet a c P
yet_both None b c P Q first leaves second = tt
yet_both (Some a) None c P Q first leaves second = subst (λ (o : Option History). MayLeaveYet (Some a) o P) (sym leaves) tt
yet_both (Some a) (Some b) None P Q first leaves second = tt
yet_both (Some a) (Some b) (Some c) P Q first leaves second = λ number from to. elim (cases_lt number (moment b)) [
  | inl early ↦ (let some = first number from early in (some.0, (leaves.same number some.0 (omega (arith, early))).1 some.1, some.2))
  | inr late ↦ second number (omega (arith, late)) to
]

module _ (h : History) (settled : IsSettled (Some h)) (place count : ℕ) (content : List ℕ) where
  -- a write began
  yet_written : MayLeaveYet (Some h) (Some (changed (Change.Write place count) content h)) (IsContent (Some h))
  yet_written = λ number from to. (h.content, inr (inl (omega (arith, from, to), content_left h settled)), refl)

  -- and what came behind it
  yet_behind : (now : Moment) (next : List ℕ) → MayLeaveYet (Some h)
      (Some (record { content = next; now = now; earlier = (changed (Change.Write place count) content h).now ∷ (changed (Change.Write place count) content h).earlier })) (IsContent (Some h))
  yet_behind now next = λ number from to. elim (cases_eq number (moment h)) [
    | inl first ↦ (h.content, inr (inr (inl (first, content_left h settled))), refl)
    | inr second ↦ (h.content, inr (inl (omega (arith, from, to, second), (h.content, content_left h settled, same_torn place count h.content))), refl)
  ]

pub yet_broken : (a b : Option History) (place count : ℕ) → IsSettled a → Breaks (Change.Write place count) a b → MayLeaveYet a b (IsContent a)
yet_broken None b place count settled breaks = tt
yet_broken (Some h) b place count settled (inl nothing) = subst (λ (o : Option History). MayLeaveYet (Some h) o (IsContent (Some h))) (sym nothing) (yet_none (Some h) (IsContent (Some h)))
yet_broken (Some h) b place count settled (inr part) = subst (λ (o : Option History). MayLeaveYet (Some h) o (IsContent (Some h))) (sym part.2) (yet_written h settled place count part.0)

pub yet_unsynced : (a b c : Option History) (place : ℕ) (bytes : List ℕ) → IsSettled a → Steps (after_write place bytes) a b → c ≡ b → MayLeaveYet a c (IsContent a)
yet_unsynced None b c place bytes settled wrote same = tt
yet_unsynced (Some h) b c place bytes settled wrote same =
    subst (λ (o : Option History). MayLeaveYet (Some h) o (IsContent (Some h))) (sym (same ∙ wrote)) (yet_written h settled place (length bytes) (overwritten place bytes h.content))

pub yet_put : (a b c : Option History) (place : ℕ) (bytes : List ℕ) → IsSettled a → Steps (after_write place bytes) a b → Steps after_sync b c → MayLeaveYet a c (IsContent a)
yet_put None b c place bytes settled wrote synced = tt
yet_put (Some h) b c place bytes settled wrote synced =
    let written = overwritten place bytes h.content in
    let same : c ≡ Some (after_sync (after_write place bytes h)) = subst (λ (o : Option History). Steps after_sync o c) wrote synced in
    subst (λ (o : Option History). MayLeaveYet (Some h) o (IsContent (Some h))) (sym same) (yet_behind h settled place (length bytes) written (settled_moment written) written)
