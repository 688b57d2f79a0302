-- How a journal begins.
use Rattle.std.proofs.Common.{◌≡◌, inl, inr, ℕ, ◌<◌, List, [], ◌∷◌, ◌++◌, length, take, drop, codes, Option, Some, None, refl, sym, ◌∙◌, subst, ap, arith}
use Rattle.std.proofs.lemmas.List.{drop_all, length-take}
use Rattle.outside.specs.Disk.{History, IsTorn, IsSettled, IsPlace, overwritten}
use Rattle.journal_core.specs.Holds.{slots_header, IsJournal, end_in, IsShort, Holds}
use Rattle.journal_core.specs.Moments.{LeavesOnly, TornOf, Puts}
use Rattle.journal_core.specs.Form.{begun_form}
use Rattle.journal_core.specs.Journal.{IsTiny, IsBare, IsShortAs, DiskHolds, EndsAt, IsAtRest, IsReady}
use Rattle.journal_core.specs.Calls.{IsStarting, IsStarted}
use Rattle.journal_core.proofs.MomentFacts.{leaves_more, leaves_both}
use Rattle.journal_core.proofs.JournalFacts.{holds_now}
use Rattle.journal_core.specs.declared.form.Form.{Form}
use Rattle.journal_core.specs.declared.form.Form.TheVariants.{Short, Plain, SlotsShort, Slots}

-- the header of a file with slots, and a selector
abbrev pub first_bytes : List ℕ
first_bytes = codes "OTCJRNLC" ++ 0 ∷ []

-- a selector, the slots, an empty base and a closed gate
abbrev pub slots_bytes : List ℕ
slots_bytes = 0 ∷ 25 ∷ 0 ∷ 0 ∷ 0 ∷ 0 ∷ 0 ∷ 0 ∷ 0 ∷ 0 ∷ 0 ∷ 0 ∷ 0 ∷ 0 ∷ 0 ∷ 0 ∷ 0 ∷ 0 ∷ 0 ∷ 0 ∷ 0 ∷ 0 ∷ []

holds_nothing : (file base : List ℕ) (records : List (List ℕ)) → IsShort file → Holds file base records → (base ≡ []) × (records ≡ [])
holds_nothing file base records short (inl none) = (none.1, none.2)
holds_nothing file base records short (inr long) = absurd (long.0 short)

short_holds : (file base : List ℕ) (records : List (List ℕ)) → IsShort file → (base ≡ []) × (records ≡ []) → Holds file base records
short_holds file base records short none = inl (short, none.0, none.1)

-- the header is written over fewer than ten bytes
torn_header : (file image : List ℕ) → length file < 10 → IsTorn 0 9 file image → IsShort image
torn_header file image short torn = inl (omega (arith, short, torn.no_longer))

header_done : (file : List ℕ) → length file < 10 → overwritten 0 first_bytes file ≡ first_bytes
header_done file short = ap (λ (l : List ℕ). first_bytes ++ l) (drop_all 9 file (omega (arith, short)))

-- and the slots behind it
torn_slots : (file image : List ℕ) → length file < 31 → take 8 file ≡ slots_header → IsTorn 8 22 file image → IsShort image
torn_slots file image short header torn = inr (omega (arith, short, torn.no_longer), torn.before ∙ header)

abbrev pub empty_journal : List ℕ
empty_journal = slots_header ++ slots_bytes

slots_done : (file : List ℕ) → length file < 31 → take 8 file ≡ slots_header → overwritten 8 slots_bytes file ≡ empty_journal
slots_done file short header =
    ap (λ (l : List ℕ). l ++ slots_bytes ++ drop 30 file) header ∙ ap (λ (l : List ℕ). empty_journal ++ l) (drop_all 30 file (omega (arith, short)))

empty_is : (j : IsJournal (Slots 0 25) empty_journal [] []) × (30 ≡ end_in j)
empty_is = (
  record {
    place = 29;
    leads = record {
      selector = 0;
      header = refl;
      selector_is = refl;
      selects = inr (omega arith, refl);
      slot = refl;
      low = omega arith;
      based = refl;
      place_is = refl;
    };
    gate = 0;
    rest = [];
    split = refl;
    closed = omega arith;
    within = omega arith;
  },
  refl,
)

-- a disk is as short as the form says that it ends as
pub short_as : (o : Option History) (form : Form) (end : ℕ) → EndsAt o form end → IsShortAs form o
short_as None Short end ends = tt
short_as (Some h) Short end ends = ends.2.0
short_as None SlotsShort end ends = tt
short_as (Some h) SlotsShort end ends = (ends.2.0, ends.2.1)
short_as o Plain end ends = tt
short_as o (Slots which offset) end ends = tt

pub header_starting : (o mid : Option History) → IsTiny o → LeavesOnly o mid (TornOf o 0 9) → IsStarting o mid
header_starting None mid tiny leaves = λ base records holds. leaves
header_starting (Some h) mid tiny leaves = λ base records holds.
    let none = holds_nothing h.content base records (inl tiny) holds in
    leaves_more (Some h) mid (IsTorn 0 9 h.content) (λ image. Holds image base records) (λ image torn. short_holds image base records (torn_header h.content image tiny torn) none) leaves

pub bare_place : (o : Option History) → IsBare o → IsPlace o 8
bare_place None bare = tt
bare_place (Some h) bare = omega (arith, length-take 8 h.content, ap length bare.1)

pub slots_starting : (o mid : Option History) → IsBare o → LeavesOnly o mid (TornOf o 8 22) → IsStarting o mid
slots_starting None mid bare leaves = λ base records holds. leaves
slots_starting (Some h) mid bare leaves = λ base records holds.
    let none = holds_nothing h.content base records (inr bare) holds in
    leaves_more (Some h) mid (IsTorn 8 22 h.content) (λ image. Holds image base records) (λ image torn. short_holds image base records (torn_slots h.content image bare.0 bare.1 torn) none) leaves

pub slots_begun : (o after : Option History) → IsBare o → Puts o 8 slots_bytes after → IsAtRest after (Slots 0 25) 30 [] []
slots_begun None after bare puts = subst (λ (a : Option History). IsAtRest a (Slots 0 25) 30 [] []) (sym puts) tt
slots_begun (Some h) after bare puts =
    let is : puts.0.content ≡ empty_journal = puts.2 ∙ slots_done h.content bare.0 bare.1 in
    subst (λ (a : Option History). IsAtRest a (Slots 0 25) 30 [] []) (sym puts.1)
    (puts.3, subst (λ (f : List ℕ). (j : IsJournal (Slots 0 25) f [] []) × (30 ≡ end_in j)) (sym is) empty_is)

-- what was held before stays held where the header was put before the slots
pub both_starting : (o mid after : Option History) → IsTiny o → Puts o 0 first_bytes mid → IsStarting o mid → IsStarting mid after → IsStarting o after
both_starting None mid after tiny puts first second = λ base records holds.
    leaves_both None mid after (λ image. Holds image base records) (first base records holds) (second base records (subst (λ (m : Option History). DiskHolds m base records) (sym puts) tt))
both_starting (Some h) mid after tiny puts first second = λ base records holds.
    let none = holds_nothing h.content base records (inl tiny) holds in
    let is : puts.0.content ≡ first_bytes = puts.2 ∙ header_done h.content tiny in
    let now : Holds puts.0.content base records = subst (λ (f : List ℕ). Holds f base records) (sym is) (short_holds first_bytes base records (inl (omega arith)) none) in
    leaves_both (Some h) mid after (λ image. Holds image base records) (first base records holds) (second base records (subst (λ (m : Option History). DiskHolds m base records) (sym puts.1) now))

-- where it was begun
pub started_tiny : (o after : Option History) → IsStarting o after → IsAtRest after (Slots 0 25) 30 [] [] → IsStarted o after Short
started_tiny None after starting rest = λ end base records ends.
    let none : after ≡ None = starting [] [] tt in
    subst (λ (a : Option History). IsAtRest a (Slots 0 25) end base records) (sym none) tt
started_tiny (Some h) after starting rest = λ end base records ends.
    subst (λ (n : ℕ). IsAtRest after (Slots 0 25) n base records) (sym ends.3)
    (subst (λ (b : List ℕ). IsAtRest after (Slots 0 25) 30 b records) (sym ends.1) (subst (λ (r : List (List ℕ)). IsAtRest after (Slots 0 25) 30 [] r) (sym ends.2) rest))

pub started_bare : (o after : Option History) → IsStarting o after → IsAtRest after (Slots 0 25) 30 [] [] → IsStarted o after SlotsShort
started_bare None after starting rest = λ end base records ends.
    let none : after ≡ None = starting [] [] tt in
    subst (λ (a : Option History). IsAtRest a (Slots 0 25) end base records) (sym none) tt
started_bare (Some h) after starting rest = λ end base records ends.
    subst (λ (n : ℕ). IsAtRest after (Slots 0 25) n base records) (sym ends.4)
    (subst (λ (b : List ℕ). IsAtRest after (Slots 0 25) 30 b records) (sym ends.2) (subst (λ (r : List (List ℕ)). IsAtRest after (Slots 0 25) 30 [] r) (sym ends.3) rest))

-- a longer file stays as it is
pub started_plain : (o : Option History) → IsSettled o → IsStarted o o Plain
started_plain None settled = λ end base records ends. tt
started_plain (Some h) settled = λ end base records ends. (settled, (ends.0, ends.1))

pub started_slots : (o : Option History) (which offset : ℕ) → IsSettled o → IsStarted o o (Slots which offset)
started_slots None which offset settled = λ end base records ends. tt
started_slots (Some h) which offset settled = λ end base records ends. (settled, (ends.0, ends.1))

pub nothing_starting : (o : Option History) → IsSettled o → IsStarting o o
nothing_starting o settled = λ base records holds. holds_now o base records settled holds

-- and then it is ready
pub ready_started : (o after : Option History) (form : Form) (end : ℕ) → EndsAt o form end → IsStarted o after form → IsReady after (begun_form form) end
ready_started None None form end ends started = tt
ready_started None (Some k) form end ends started = ([], [], started end [] [] tt)
ready_started (Some h) None form end ends started = tt
ready_started (Some h) (Some k) form end ends started = (ends.0, ends.1, started end ends.0 ends.1 ends.2)
