-- How many of a history's first changes are a seat's.
use Rattle.std.proofs.Common.{◌≡◌, ℕ, zero, suc, ◌+◌, ◌-◌, ◌<◌, ◌≤◌, ◌==◌, Bool, true, false, cond, List, [], ◌∷◌, ◌++◌, length, filter, drop, refl, sym, ap, ◌∙◌, append_assoc, arith}
use Rattle.std.proofs.lemmas.Bool.{eq-eqb}
use Rattle.std.proofs.lemmas.List.{length-append}
use Rattle.command_types.specs.declared.ask.Ask.{Ask}
use Rattle.command_types.specs.declared.ask.Entry.{Entry}
use Rattle.command_types.specs.History.{History, entries_of_seat}
use Rattle.proposal_laws.specs.Laws.{HasOther}

abbrev pub is_own : ℕ → Entry → Bool
is_own seat entry = entry.seat == seat

-- how many of the first n are the seat's
abbrev pub own_in : ℕ → ℕ → List Entry → ℕ
own_in seat zero es = 0
own_in seat (suc n) [] = 0
own_in seat (suc n) (e ∷ es) = cond (is_own seat e) 1 0 + own_in seat n es

pub own_grows : (seat m n : ℕ) (es : List Entry) → m ≤ n → own_in seat m es ≤ own_in seat n es
own_grows seat zero n es le = omega arith
own_grows seat (suc m) zero es le = absurd (omega (arith, le))
own_grows seat (suc m) (suc n) [] le = omega arith
own_grows seat (suc m) (suc n) (e ∷ es) le = let rest = own_grows seat m n es (omega (arith, le)) in omega (arith, rest)

own_all : (seat n : ℕ) (es : List Entry) → own_in seat n es ≤ length (filter (λ entry. entry.seat == seat) es)
own_all seat zero es = omega arith
own_all seat (suc n) [] = omega arith
own_all seat (suc n) (e ∷ es) = by (is_own seat e) (own_all seat n es)
  where
    by : (t : Bool) → own_in seat n es ≤ length (filter (λ entry. entry.seat == seat) es) →
        cond t 1 0 + own_in seat n es ≤ length (cond t (e ∷ filter (λ entry. entry.seat == seat) es) (filter (λ entry. entry.seat == seat) es))
    by true rest = omega (arith, rest)
    by false rest = omega (arith, rest)

own_parts : (seat n : ℕ) (es : List Entry) → length (filter (λ entry. entry.seat == seat) es) ≡ own_in seat n es + length (filter (λ entry. entry.seat == seat) (drop n es))
own_parts seat zero es = omega arith
own_parts seat (suc n) [] = refl
own_parts seat (suc n) (e ∷ es) = by (is_own seat e) (own_parts seat n es)
  where
    by : (t : Bool) → length (filter (λ entry. entry.seat == seat) es) ≡ own_in seat n es + length (filter (λ entry. entry.seat == seat) (drop n es)) →
        length (cond t (e ∷ filter (λ entry. entry.seat == seat) es) (filter (λ entry. entry.seat == seat) es)) ≡ cond t 1 0 + own_in seat n es + length (filter (λ entry. entry.seat == seat) (drop n es))
    by true rest = omega (arith, rest)
    by false rest = omega (arith, rest)

-- one of the seat's more, at its place
own_here : (seat : ℕ) (before : List Entry) (e : Entry) (behind : List Entry) → is_own seat e ≡ true → own_in seat (suc (length before)) (before ++ e ∷ behind) ≡ 1 + own_in seat (length before) (before ++ e ∷ behind)
own_here seat [] e behind own = ap (λ t. cond t 1 0 + 0) own
own_here seat (b ∷ before) e behind own = let rest = own_here seat before e behind own in omega (arith, rest)

-- how many of the changes up to this position are the seat's
abbrev pub own_at : History → ℕ → ℕ → ℕ
own_at h seat n = own_in seat (n - h.base.position) h.entries

pub own_at_grows : (h : History) (seat m n : ℕ) → m ≤ n → own_at h seat m ≤ own_at h seat n
own_at_grows h seat m n le = own_grows seat (m - h.base.position) (n - h.base.position) h.entries (omega (arith, le))

-- no more than those up to an earlier position and those behind it
pub own_at_most : (h : History) (seat m n : ℕ) → own_at h seat n ≤ own_at h seat m + length (entries_of_seat h seat m)
own_at_most h seat m n =
    let all = own_all seat (n - h.base.position) h.entries in
    let parts = own_parts seat (m - h.base.position) h.entries in
    omega (arith, all, parts)

-- a change of the seat counts at its position
pub own_at_change : (h : History) (seat : ℕ) (ask : Ask) (before back : List Entry) (m n : ℕ) → h.entries ≡ (before ++ record { seat = seat; ask = ask } ∷ []) ++ back → n ≡ h.base.position + (1 + length before) → 1 + m ≤ n →
    1 + own_at h seat m ≤ own_at h seat n
own_at_change h seat ask before back m n split place le =
    let e : Entry = record { seat = seat; ask = ask } in
    let is : h.entries ≡ before ++ e ∷ back = split ∙ append_assoc before (e ∷ []) back in
    let here = own_here seat before e back (eq-eqb seat seat refl) in
    let less = own_grows seat (m - h.base.position) (length before) h.entries (omega (arith, le, place)) in
    let at : n - h.base.position ≡ suc (length before) = omega (arith, place) in
    let now : own_at h seat n ≡ own_in seat (suc (length before)) (before ++ e ∷ back) = λ i. own_in seat (at i) (is i) in
    let then : own_in seat (length before) h.entries ≡ own_in seat (length before) (before ++ e ∷ back) = ap (own_in seat (length before)) is in
    omega (arith, here, less, now, then)

-- where the seat's do not grow, a change of another stands
record Other (seat m n : ℕ) (es : List Entry) : Type 0 where
  before : List Entry
  other : Entry
  behind : List Entry
  split : es ≡ before ++ other ∷ behind
  above : m ≤ length before
  within : length before < n
  of_other : is_own seat other ≡ false

other_in : (seat m n : ℕ) (es : List Entry) → own_in seat n es ≤ own_in seat m es → m < n → n ≤ length es → Other seat m n es
other_in seat m zero es same lt le = absurd (omega (arith, lt))
other_in seat m (suc n) [] same lt le = absurd (omega (arith, le))
other_in seat zero (suc n) (e ∷ es) same lt le = by (is_own seat e) refl same
  where
    by : (t : Bool) → is_own seat e ≡ t → cond t 1 0 + own_in seat n es ≤ 0 → Other seat 0 (suc n) (e ∷ es)
    by true is none = absurd (omega (arith, none))
    by false is none = record { before = []; other = e; behind = es; split = refl; above = omega arith; within = omega arith; of_other = is }
other_in seat (suc m) (suc n) (e ∷ es) same lt le =
    let o = other_in seat m n es (omega (arith, same)) (omega (arith, lt)) (omega (arith, le)) in
    record {
      before = e ∷ o.before;
      other = o.other;
      behind = o.behind;
      split = λ i. e ∷ o.split i;
      above = omega (arith, o.above);
      within = omega (arith, o.within);
      of_other = o.of_other;
    }

pub other_between : (h : History) (seat m n : ℕ) → own_at h seat n ≤ own_at h seat m → h.base.position ≤ m → m < n → n ≤ h.base.position + length h.entries → HasOther h seat m n
other_between h seat m n same base lt le =
    let o = other_in seat (m - h.base.position) (n - h.base.position) h.entries same (omega (arith, base, lt)) (omega (arith, le)) in
    let size : length (o.before ++ o.other ∷ []) ≡ length o.before + 1 = length-append o.before (o.other ∷ []) in
    record {
      before = o.before;
      other = o.other;
      behind = o.behind;
      split = o.split;
      above = omega (arith, o.above, base, size);
      within = omega (arith, o.within, base, size);
      of_other = λ is. (let bad : true ≡ false = sym (eq-eqb o.other.seat seat is) ∙ o.of_other in cc);
    }
