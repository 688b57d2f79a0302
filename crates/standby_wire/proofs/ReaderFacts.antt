-- Readers: what they read, and what they refuse, stays so as the input goes on.
use Rattle.std.proofs.Common.{◌≡◌, ℕ, ◌-◌, ◌≤◌, ◌==◌, Bool, true, false, cond, nat_lt, List, [], ◌∷◌, ◌++◌, length, take, drop, Option, Some, None, Ok, Err, refl, sym, ap, subst, ◌∙◌, arith, append_assoc, length-append}
use Rattle.std.proofs.lemmas.Bool.{ltb-false}
use Rattle.std.proofs.lemmas.List.{take-append-drop, take-append-le, drop-append-le}
use Rattle.units_core.specs.Name.{is_name_byte}
use Rattle.units_core.specs.Number.{is_digit, digit_on}
use Rattle.units_core.specs.Day.{DayParts, day_of}
use Rattle.standby_wire.specs.Seen.{Seen, ◌>>=◌, chosen}
use Rattle.standby_wire.specs.declared.stop.Stop.TheVariants.{More, Bad}
use Rattle.standby_wire.specs.Words.{word, if_word, digits, number, name_bytes, name, day_or_bad, day}
use Rattle.standby_wire.proofs.WordFacts.{is_not_below}

-- the rest is behind a front of the input
abbrev pub IsBehind : List ℕ → List ℕ → Type 0
IsBehind input rest = (text : List ℕ) × (input ≡ text ++ rest)

-- of what is read of an input, this is read of it with more behind
abbrev pub Goes : {A : Type 0} → Seen A → List ℕ → List ℕ → Seen A → Type 0
Goes (Ok x) input more after = IsBehind input x.1 × (after ≡ Ok (x.0, x.1 ++ more))
Goes (Err More) input more after = Unit {0}
Goes (Err Bad) input more after = after ≡ Err Bad

-- a reader, of which that is so
pub record IsReader {A : Type 0} (read : List ℕ → Seen A) : Type 0 where
  pub goes : (input more : List ℕ) → Goes (read input) input more (read (input ++ more))

-- ---- one after another

behind_twice : (input mid rest : List ℕ) → IsBehind input mid → IsBehind mid rest → IsBehind input rest
behind_twice input mid rest (front, is) (text, is_mid) =
    (front ++ text, is ∙ ap (λ v. front ++ v) is_mid ∙ sym (append_assoc front text rest))

wider : {A : Type 0} (r after : Seen A) (input mid more : List ℕ) → IsBehind input mid → Goes r mid more after → Goes r input more after
wider (Ok x) after input mid more behind goes = (behind_twice input mid x.1 behind goes.0, goes.1)
wider (Err More) after input mid more behind goes = tt
wider (Err Bad) after input mid more behind goes = goes

-- a first reader, and then one that may know what the first one read
module _ {A B : Type 0} (k : A → List ℕ → Seen B) (rk : (a : A) → IsReader (k a)) where
  one_on : (r after : Seen A) (input more : List ℕ) → Goes r input more after → Goes (r >>= λ x. k x.0 x.1) input more (after >>= λ x. k x.0 x.1)
  one_on (Ok x) after input more goes =
      subst (λ (v : Seen A). Goes (k x.0 x.1) input more (v >>= λ y. k y.0 y.1)) (sym goes.1)
      (wider (k x.0 x.1) (k x.0 (x.1 ++ more)) input x.1 more goes.0 ((rk x.0).goes x.1 more))
  one_on (Err More) after input more goes = tt
  one_on (Err Bad) after input more goes = ap (λ (v : Seen A). v >>= λ y. k y.0 y.1) goes

pub then_reads : {A B : Type 0} {f : List ℕ → Seen A} {k : A → List ℕ → Seen B} → IsReader f → ((a : A) → IsReader (k a)) → IsReader (λ input. f input >>= λ x. k x.0 x.1)
then_reads {f = f} {k = k} rf rk = record { goes = λ input more. one_on k rk (f input) (f (input ++ more)) input more (rf.goes input more) }

-- nothing is read, and a value stands
pub done_reads : {A : Type 0} (a : A) → IsReader (λ input. Ok (a, input))
done_reads a = record { goes = λ input more. (([], refl), refl) }

-- nothing of the form comes
pub never_reads : {A : Type 0} → IsReader {A = A} (λ input. Err Bad)
never_reads = record { goes = λ input more. refl }

module _ {A : Type 0} (behind other : List ℕ → Seen A) (rb : IsReader behind) (ro : IsReader other) where
  -- one of two forms, by the word in front
  choose : (r after : Seen (Unit {0})) (input more : List ℕ) → Goes r input more after
      → Goes (chosen r behind (other input)) input more (chosen after behind (other (input ++ more)))
  choose (Ok x) after input more goes =
      subst (λ (v : Seen (Unit {0})). Goes (behind x.1) input more (chosen v behind (other (input ++ more)))) (sym goes.1)
      (wider (behind x.1) (behind (x.1 ++ more)) input x.1 more goes.0 (rb.goes x.1 more))
  choose (Err More) after input more goes = tt
  choose (Err Bad) after input more goes =
      subst (λ (v : Seen (Unit {0})). Goes (other input) input more (chosen v behind (other (input ++ more)))) (sym goes) (ro.goes input more)

-- a test that the rest of the input does not change
pub test_goes : {A : Type 0} (b : Bool) (here other after_here after_other : Seen A) (input more : List ℕ)
    → Goes here input more after_here → Goes other input more after_other → Goes (cond b here other) input more (cond b after_here after_other)
test_goes true here other after_here after_other input more goes _ = goes
test_goes false here other after_here after_other input more _ goes = goes

one_behind : (x : ℕ) (xs : List ℕ) → IsBehind (x ∷ xs) xs
one_behind x xs = (x ∷ [], refl)

-- ---- words, numbers, names and days

word_goes : (text input more : List ℕ) → Goes (word text input) input more (word text (input ++ more))
unfolding word
word_goes [] input more = (([], refl), refl)
word_goes (t ∷ ts) [] more = tt
word_goes (t ∷ ts) (x ∷ xs) more =
    test_goes (x == t) (word ts xs) (Err Bad) (word ts (xs ++ more)) (Err Bad) (x ∷ xs) more
    (wider (word ts xs) (word ts (xs ++ more)) (x ∷ xs) xs more (one_behind x xs) (word_goes ts xs more)) refl

pub word_reads : (text : List ℕ) → IsReader (word text)
word_reads text = record { goes = word_goes text }

-- a word in front of one form; else another
pub if_reads : {A : Type 0} (text : List ℕ) {behind other : List ℕ → Seen A} → IsReader behind → IsReader other → IsReader (if_word text behind other)
if_reads text {behind = behind} {other = other} rb ro =
    record { goes = λ input more. choose behind other rb ro (word text input) (word text (input ++ more)) input more (word_goes text input more) }

-- behind a first byte
abbrev digit_step : ℕ → ℕ → ℕ → List ℕ → Seen ℕ
digit_step most value x rest =
    cond (value == 0) (Err Bad) (cond (nat_lt most (digit_on value x)) (Err Bad) (digits most (digit_on value x) rest))

digits_go : (most value : ℕ) (input more : List ℕ) → Goes (digits most value input) input more (digits most value (input ++ more))
unfolding digits
digits_go most value [] more = tt
digits_go most value (x ∷ xs) more =
    let next : ℕ = digit_on value x in
    test_goes (is_digit x) (digit_step most value x xs) (Ok (value, x ∷ xs)) (digit_step most value x (xs ++ more)) (Ok (value, x ∷ (xs ++ more))) (x ∷ xs) more
    (test_goes (value == 0) (Err Bad) (cond (nat_lt most next) (Err Bad) (digits most next xs)) (Err Bad) (cond (nat_lt most next) (Err Bad) (digits most next (xs ++ more))) (x ∷ xs) more refl
    (test_goes (nat_lt most next) (Err Bad) (digits most next xs) (Err Bad) (digits most next (xs ++ more)) (x ∷ xs) more refl
    (wider (digits most next xs) (digits most next (xs ++ more)) (x ∷ xs) xs more (one_behind x xs) (digits_go most next xs more))))
    (([], refl), refl)

pub digits_read : (most value : ℕ) → IsReader (digits most value)
digits_read most value = record { goes = digits_go most value }

number_goes : (most : ℕ) (input more : List ℕ) → Goes (number most input) input more (number most (input ++ more))
unfolding number
number_goes most [] more = tt
number_goes most (x ∷ xs) more =
    let first : ℕ = x - 48 in
    test_goes (is_digit x) (cond (nat_lt most first) (Err Bad) (digits most first xs)) (Err Bad) (cond (nat_lt most first) (Err Bad) (digits most first (xs ++ more))) (Err Bad) (x ∷ xs) more
    (test_goes (nat_lt most first) (Err Bad) (digits most first xs) (Err Bad) (digits most first (xs ++ more)) (x ∷ xs) more refl
    (wider (digits most first xs) (digits most first (xs ++ more)) (x ∷ xs) xs more (one_behind x xs) (digits_go most first xs more)))
    refl

pub number_reads : (most : ℕ) → IsReader (number most)
number_reads most = record { goes = number_goes most }

name_bytes_go : (room : ℕ) (input more : List ℕ) → Goes (name_bytes room input) input more (name_bytes room (input ++ more))
unfolding name_bytes
name_bytes_go room [] more = tt
name_bytes_go room (x ∷ xs) more =
    test_goes (is_name_byte x) (cond (room == 0) (Err Bad) (name_bytes (room - 1) xs)) (Ok (tt, x ∷ xs)) (cond (room == 0) (Err Bad) (name_bytes (room - 1) (xs ++ more))) (Ok (tt, x ∷ (xs ++ more)))
    (x ∷ xs) more
    (test_goes (room == 0) (Err Bad) (name_bytes (room - 1) xs) (Err Bad) (name_bytes (room - 1) (xs ++ more)) (x ∷ xs) more refl
    (wider (name_bytes (room - 1) xs) (name_bytes (room - 1) (xs ++ more)) (x ∷ xs) xs more (one_behind x xs) (name_bytes_go (room - 1) xs more)))
    (([], refl), refl)

name_goes : (input more : List ℕ) → Goes (name input) input more (name (input ++ more))
unfolding name
name_goes [] more = tt
name_goes (x ∷ xs) more =
    test_goes (is_name_byte x) (name_bytes 15 xs) (Err Bad) (name_bytes 15 (xs ++ more)) (Err Bad) (x ∷ xs) more
    (wider (name_bytes 15 xs) (name_bytes 15 (xs ++ more)) (x ∷ xs) xs more (one_behind x xs) (name_bytes_go 15 xs more)) refl

pub name_reads : IsReader name
name_reads = record { goes = name_goes }

-- So many bytes, which are judged when they are there.
module _ {A : Type 0} (size : ℕ) (judge : List ℕ → List ℕ → Seen A) (sound : (text rest more : List ℕ) → Goes (judge text rest) (text ++ rest) more (judge text (rest ++ more))) where
  abbrev judged : List ℕ → Seen A
  judged input = cond (nat_lt (length input) size) (Err More) (judge (take size input) (drop size input))

  long : (input more : List ℕ) → size ≤ length input → judged (input ++ more) ≡ judge (take size input) (drop size input ++ more)
  long input more enough =
      ap (λ b. cond b (Err More) (judge (take size (input ++ more)) (drop size (input ++ more))))
      (is_not_below (length (input ++ more)) size (let l = length-append input more in omega arith))
      ∙ ap (λ v. judge v (drop size (input ++ more))) (take-append-le size input more enough)
      ∙ ap (λ v. judge (take size input) v) (drop-append-le size input more enough)

  by_length : (b : Bool) (input more : List ℕ) → nat_lt (length input) size ≡ b
      → Goes (cond b (Err More) (judge (take size input) (drop size input))) input more (judged (input ++ more))
  by_length true input more short = tt
  by_length false input more enough =
      let le : size ≤ length input = ltb-false (length input) size enough in
      subst (λ (v : Seen A). Goes (judge (take size input) (drop size input)) input more v) (sym (long input more le))
      (subst (λ (v : List ℕ). Goes (judge (take size input) (drop size input)) v more (judge (take size input) (drop size input ++ more)))
      (take-append-drop size input) (sound (take size input) (drop size input) more))

  pub judged_reads : IsReader judged
  judged_reads = record { goes = λ input more. by_length (nat_lt (length input) size) input more refl }

day_judged : (o : Option DayParts) (text rest more : List ℕ) → Goes (day_or_bad o rest) (text ++ rest) more (day_or_bad o (rest ++ more))
day_judged None text rest more = refl
day_judged (Some d) text rest more = ((text, refl), refl)

pub day_reads : IsReader day
unfolding day
day_reads = judged_reads 10 (λ text rest. day_or_bad (day_of text) rest) (λ text rest more. day_judged (day_of text) text rest more)
