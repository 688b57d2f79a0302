-- What came to a history after a house was opened: where no seat but 0 has made any of it, and of seat 0 a session has seen all, it is what the session did.
use Rattle.std.proofs.Common.{◌≡◌, ℕ, ◌-◌, ◌≤◌, ◌==◌, Bool, true, false, List, [], ◌∷◌, ◌++◌, drop, length, filter, cond, arith, refl, sym, subst, ap, ◌∙◌, append_assoc}
use Rattle.std.proofs.Math.Seq.{drop-append_seam}
use Rattle.std.proofs.lemmas.Bool.Decides.{nat_tests}
use Rattle.std.proofs.lemmas.List.{append-nil}
use Rattle.std.proofs.lemmas.List.Elements.{filter-append}
use Rattle.command_types.specs.declared.ask.Entry.{Entry}
use Rattle.command_types.specs.History.{History, end_of, longer, entries_of_seat}

abbrev pub of_seat : ℕ → List Entry → List Entry
of_seat n entries = filter (λ entry. entry.seat == n) entries

same_number : (n : ℕ) → (n == n) ≡ true
same_number n = grind (arith, nat_tests)

not_zero : (n : ℕ) → (n == 0) ≡ false → 1 ≤ n
not_zero n e = grind (arith, nat_tests)

-- what has none with a change before it has none without it
none_behind : (b : Bool) (entry : Entry) (rest : List Entry) → cond {A = List Entry} b (entry ∷ rest) rest ≡ [] → rest ≡ []
none_behind true entry rest e = cc
none_behind false entry rest e = e

own_or_not : (b : Bool) (entry : Entry) (rest : List Entry) → (entry.seat == 0) ≡ b → (1 ≤ entry.seat → cond {A = List Entry} (entry.seat == entry.seat) (entry ∷ of_seat entry.seat rest) (of_seat entry.seat rest) ≡ []) → of_seat 0 rest ≡ rest →
    cond {A = List Entry} b (entry ∷ of_seat 0 rest) (of_seat 0 rest) ≡ entry ∷ rest
own_or_not true entry rest is none own = ap (λ es. entry ∷ es) own
own_or_not false entry rest is none own =
    let here = subst (λ b. cond {A = List Entry} b (entry ∷ of_seat entry.seat rest) (of_seat entry.seat rest) ≡ []) (same_number entry.seat) (none (not_zero entry.seat is)) in
    absurd (cc)

-- changes of which no other seat has one are seat 0's
own_alone : (entries : List Entry) → ((n : ℕ) → 1 ≤ n → of_seat n entries ≡ []) → of_seat 0 entries ≡ entries
own_alone [] none = refl
own_alone (entry ∷ rest) none =
    own_or_not (entry.seat == 0) entry rest refl (none entry.seat) (own_alone rest (λ n up. none_behind (entry.seat == n) entry (of_seat n rest) (none n up)))

empty_front : (xs ys : List Entry) → xs ++ ys ≡ [] → xs ≡ []
empty_front [] ys e = refl
empty_front (x ∷ xs) ys e = cc

empty_back : (xs ys : List Entry) → xs ++ ys ≡ [] → ys ≡ []
empty_back [] ys e = e
empty_back (x ∷ xs) ys e = cc

-- what adds nothing is nothing
adds_none : (xs ys : List Entry) → xs ++ ys ≡ xs → ys ≡ []
adds_none [] ys e = e
adds_none (x ∷ xs) ys e = adds_none xs ys (cc)

-- what a seat did after the end of a history
pub since : (begun h : History) (more : List Entry) (n : ℕ) → h ≡ longer begun more → entries_of_seat h n (end_of begun) ≡ of_seat n more
since begun h more n grown =
    let k : end_of begun - begun.base.position ≡ length begun.entries = omega arith in
    let all : drop (end_of begun - begun.base.position) (begun.entries ++ more) ≡ more = ap (λ i. drop i (begun.entries ++ more)) k ∙ drop-append_seam begun.entries more in
    ap (λ (v : History). entries_of_seat v n (end_of begun)) grown ∙ ap (of_seat n) all

further : (begun now h : History) (more rest : List Entry) → now ≡ longer begun more → h ≡ longer now rest → h ≡ longer begun (more ++ rest)
further begun now h more rest grown goes_on =
    goes_on ∙ ap (λ (v : History). longer v rest) grown ∙ ap (λ es. record begun { entries = es }) (append_assoc begun.entries more rest)

module _ (begun now h : History) (more rest : List Entry) (grown : now ≡ longer begun more) (goes_on : h ≡ longer now rest)
    (none : (n : ℕ) → 1 ≤ n → entries_of_seat h n (end_of begun) ≡ []) (own : entries_of_seat h 0 (end_of begun) ≡ entries_of_seat now 0 (end_of begun)) where
  none_of : (n : ℕ) → 1 ≤ n → of_seat n more ++ of_seat n rest ≡ []
  none_of n up =
      sym (filter-append (λ entry. entry.seat == n) more rest) ∙ sym (since begun h (more ++ rest) n (further begun now h more rest grown goes_on)) ∙ none n up

  -- seat 0 has done nothing more
  no_more : of_seat 0 rest ≡ []
  no_more =
      adds_none (of_seat 0 more) (of_seat 0 rest)
      (sym (filter-append (λ entry. entry.seat == 0) more rest) ∙ sym (since begun h (more ++ rest) 0 (further begun now h more rest grown goes_on)) ∙ own ∙ since begun now more 0 grown)

  nothing_more : rest ≡ []
  nothing_more = sym (own_alone rest (λ n up. empty_back (of_seat n more) (of_seat n rest) (none_of n up))) ∙ no_more

  -- the session has seen the whole history
  pub seen_all : h ≡ now
  seen_all = goes_on ∙ ap (λ es. longer now es) nothing_more ∙ ap (λ es. record now { entries = es }) (append-nil now.entries)

  -- and did all of it since the opening
  pub own_all : of_seat 0 more ≡ more
  own_all = own_alone more (λ n up. empty_front (of_seat n more) (of_seat n rest) (none_of n up))
