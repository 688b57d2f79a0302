-- Words, numbers, names and days, one byte on.
use Rattle.std.proofs.Common.{◌≡◌, ℕ, suc, zero, ◌+◌, ◌-◌, ◌*◌, ◌<◌, ◌≤◌, ◌==◌, true, false, cond, nat_lt, List, [], ◌∷◌, length, take, drop, slice_range, get_or, Some, None, Ok, Err, refl, sym, ap, ◌∙◌, arith}
use Rattle.std.proofs.lemmas.Bool.Decides.{nat_tests}
use Rattle.std.proofs.lemmas.List.{drop_more, drop-drop, length-drop}
use Rattle.units_core.specs.Name.{is_name_byte}
use Rattle.units_core.specs.Number.{is_digit, digit_on}
use Rattle.units_core.specs.Day.{DayParts, day_of}
use Rattle.standby_wire.specs.declared.stop.Stop.TheVariants.{More, Bad}
use Rattle.standby_wire.specs.Words.{word, digits, number, name_bytes, name, day, day_or_bad}

-- ---- tests

pub is_same : (a b : ℕ) → a ≡ b → (a == b) ≡ true
is_same a b e = grind (arith, nat_tests)

pub is_other : (a b : ℕ) → (a ≡ b → ⊥) → (a == b) ≡ false
is_other a b ne = grind (arith, nat_tests)

pub is_below : (a b : ℕ) → a < b → nat_lt a b ≡ true
is_below a b lt = grind (arith, nat_tests)

pub is_not_below : (a b : ℕ) → b ≤ a → nat_lt a b ≡ false
is_not_below a b le = grind (arith, nat_tests)

-- nothing is behind the end
pub drop_end : (xs : List ℕ) (i : ℕ) → length xs ≤ i → drop i xs ≡ []
drop_end [] zero le = refl
drop_end [] (suc i) le = refl
drop_end (x ∷ xs) zero le = absurd (omega arith)
drop_end (x ∷ xs) (suc i) le = drop_end xs i (omega arith)

-- ---- words

pub word_done : (text rest : List ℕ) (i : ℕ) → length text ≤ i → word (drop i text) rest ≡ Ok (tt, rest)
unfolding word
word_done text rest i le = ap (λ t. word t rest) (drop_end text i le)

one_on : (t x : ℕ) (ts xs : List ℕ) → (x == t) ≡ true → word (t ∷ ts) (x ∷ xs) ≡ word ts xs
unfolding word
one_on t x ts xs e = ap (λ b. cond b (word ts xs) (Err Bad)) e

one_off : (t x : ℕ) (ts xs : List ℕ) → (x == t) ≡ false → word (t ∷ ts) (x ∷ xs) ≡ Err Bad
unfolding word
one_off t x ts xs e = ap (λ b. cond b (word ts xs) (Err Bad)) e

both_more : (text input : List ℕ) (i e : ℕ) → i < length text → e < length input
    → word (drop i text) (drop e input) ≡ word (get_or text i 0 ∷ drop (i + 1) text) (get_or input e 0 ∷ drop (e + 1) input)
both_more text input i e within there =
    ap (λ t. word t (drop e input)) (drop_more text i 0 within) ∙ ap (λ s. word (get_or text i 0 ∷ drop (i + 1) text) s) (drop_more input e 0 there)

pub word_on : (text input : List ℕ) (i e : ℕ) → i < length text → e < length input → get_or input e 0 ≡ get_or text i 0
    → word (drop i text) (drop e input) ≡ word (drop (i + 1) text) (drop (e + 1) input)
word_on text input i e within there same = both_more text input i e within there ∙ one_on (get_or text i 0) (get_or input e 0) (drop (i + 1) text) (drop (e + 1) input) (is_same _ _ same)

pub word_off : (text input : List ℕ) (i e : ℕ) → i < length text → e < length input → (get_or input e 0 ≡ get_or text i 0 → ⊥)
    → word (drop i text) (drop e input) ≡ Err Bad
word_off text input i e within there other = both_more text input i e within there ∙ one_off (get_or text i 0) (get_or input e 0) (drop (i + 1) text) (drop (e + 1) input) (is_other _ _ other)

pub word_more : (text input : List ℕ) (i e : ℕ) → i < length text → length input ≤ e → word (drop i text) (drop e input) ≡ Err More
unfolding word
word_more text input i e within past =
    ap (λ t. word t (drop e input)) (drop_more text i 0 within) ∙ ap (λ s. word (get_or text i 0 ∷ drop (i + 1) text) s) (drop_end input e past)

-- ---- numbers

pub digits_more : (most value : ℕ) (input : List ℕ) (e : ℕ) → length input ≤ e → digits most value (drop e input) ≡ Err More
unfolding digits
digits_more most value input e past = ap (digits most value) (drop_end input e past)

module _ (most value : ℕ) (input : List ℕ) (e : ℕ) (there : e < length input) where
  on_digit : is_digit (get_or input e 0) ≡ true → digits most value (drop e input) ≡ cond (value == 0) (Err Bad)
      (cond (nat_lt most (digit_on value (get_or input e 0))) (Err Bad) (digits most (digit_on value (get_or input e 0)) (drop (e + 1) input)))
  unfolding digits
  on_digit is =
      ap (digits most value) (drop_more input e 0 there)
      ∙ ap (λ b. cond b (cond (value == 0) (Err Bad) (cond (nat_lt most (digit_on value (get_or input e 0))) (Err Bad) (digits most (digit_on value (get_or input e 0)) (drop (e + 1) input))))
      (Ok (value, get_or input e 0 ∷ drop (e + 1) input))) is

  on_value : is_digit (get_or input e 0) ≡ true → (value ≡ 0 → ⊥) → digits most value (drop e input) ≡ cond (nat_lt most (digit_on value (get_or input e 0)))
      (Err Bad) (digits most (digit_on value (get_or input e 0)) (drop (e + 1) input))
  on_value is some =
      on_digit is ∙ ap (λ b. cond b (Err Bad) (cond (nat_lt most (digit_on value (get_or input e 0))) (Err Bad) (digits most (digit_on value (get_or input e 0)) (drop (e + 1) input))))
      (is_other value 0 some)

  pub digits_done : is_digit (get_or input e 0) ≡ false → digits most value (drop e input) ≡ Ok (value, drop e input)
  unfolding digits
  digits_done off =
      let at : drop e input ≡ get_or input e 0 ∷ drop (e + 1) input = drop_more input e 0 there in
      ap (digits most value) at
      ∙ ap (λ b. cond b (cond (value == 0) (Err Bad) (cond (nat_lt most (digit_on value (get_or input e 0))) (Err Bad) (digits most (digit_on value (get_or input e 0)) (drop (e + 1) input))))
      (Ok (value, get_or input e 0 ∷ drop (e + 1) input))) off
      ∙ ap (λ r. Ok (value, r)) (sym at)

  pub digits_zero : is_digit (get_or input e 0) ≡ true → value ≡ 0 → digits most value (drop e input) ≡ Err Bad
  digits_zero is none =
      on_digit is ∙ ap (λ b. cond b (Err Bad) (cond (nat_lt most (digit_on value (get_or input e 0))) (Err Bad) (digits most (digit_on value (get_or input e 0)) (drop (e + 1) input))))
      (is_same value 0 none)

  pub digits_over : is_digit (get_or input e 0) ≡ true → (value ≡ 0 → ⊥) → most < 10 * value + (get_or input e 0 - 48)
      → digits most value (drop e input) ≡ Err Bad
  digits_over is some over =
      on_value is some ∙ ap (λ b. cond b (Err Bad) (digits most (digit_on value (get_or input e 0)) (drop (e + 1) input))) (is_below _ _ over)

  pub digits_on : is_digit (get_or input e 0) ≡ true → (value ≡ 0 → ⊥) → 10 * value + (get_or input e 0 - 48) ≤ most
      → digits most value (drop e input) ≡ digits most (10 * value + (get_or input e 0 - 48)) (drop (e + 1) input)
  digits_on is some within =
      on_value is some ∙ ap (λ b. cond b (Err Bad) (digits most (digit_on value (get_or input e 0)) (drop (e + 1) input))) (is_not_below _ _ within)

pub number_more : (most : ℕ) (input : List ℕ) (e : ℕ) → length input ≤ e → number most (drop e input) ≡ Err More
unfolding number
number_more most input e past = ap (number most) (drop_end input e past)

module _ (most : ℕ) (input : List ℕ) (e : ℕ) (there : e < length input) where
  begun : number most (drop e input) ≡ cond (is_digit (get_or input e 0)) (cond (nat_lt most (get_or input e 0 - 48)) (Err Bad)
      (digits most (get_or input e 0 - 48) (drop (e + 1) input))) (Err Bad)
  unfolding number
  begun = ap (number most) (drop_more input e 0 there)

  pub number_off : is_digit (get_or input e 0) ≡ false → number most (drop e input) ≡ Err Bad
  number_off off = begun ∙ ap (λ b. cond b (cond (nat_lt most (get_or input e 0 - 48)) (Err Bad) (digits most (get_or input e 0 - 48) (drop (e + 1) input))) (Err Bad)) off

  first_digit : is_digit (get_or input e 0) ≡ true → number most (drop e input) ≡ cond (nat_lt most (get_or input e 0 - 48)) (Err Bad)
      (digits most (get_or input e 0 - 48) (drop (e + 1) input))
  first_digit is = begun ∙ ap (λ b. cond b (cond (nat_lt most (get_or input e 0 - 48)) (Err Bad) (digits most (get_or input e 0 - 48) (drop (e + 1) input))) (Err Bad)) is

  pub number_over : is_digit (get_or input e 0) ≡ true → most < get_or input e 0 - 48 → number most (drop e input) ≡ Err Bad
  number_over is over = first_digit is ∙ ap (λ b. cond b (Err Bad) (digits most (get_or input e 0 - 48) (drop (e + 1) input))) (is_below _ _ over)

  pub number_on : is_digit (get_or input e 0) ≡ true → get_or input e 0 - 48 ≤ most
      → number most (drop e input) ≡ digits most (get_or input e 0 - 48) (drop (e + 1) input)
  number_on is within = first_digit is ∙ ap (λ b. cond b (Err Bad) (digits most (get_or input e 0 - 48) (drop (e + 1) input))) (is_not_below _ _ within)

-- ---- names

pub name_more : (room : ℕ) (input : List ℕ) (e : ℕ) → length input ≤ e → name_bytes room (drop e input) ≡ Err More
unfolding name_bytes
name_more room input e past = ap (name_bytes room) (drop_end input e past)

module _ (room : ℕ) (input : List ℕ) (e : ℕ) (there : e < length input) where
  pub name_done : is_name_byte (get_or input e 0) ≡ false → name_bytes room (drop e input) ≡ Ok (tt, drop e input)
  unfolding name_bytes
  name_done off =
      let at : drop e input ≡ get_or input e 0 ∷ drop (e + 1) input = drop_more input e 0 there in
      ap (name_bytes room) at
      ∙ ap (λ b. cond b (cond (room == 0) (Err Bad) (name_bytes (room - 1) (drop (e + 1) input))) (Ok (tt, get_or input e 0 ∷ drop (e + 1) input))) off
      ∙ ap (λ r. Ok (tt, r)) (sym at)

  name_goes : is_name_byte (get_or input e 0) ≡ true → name_bytes room (drop e input) ≡ cond (room == 0) (Err Bad) (name_bytes (room - 1) (drop (e + 1) input))
  unfolding name_bytes
  name_goes is =
      ap (name_bytes room) (drop_more input e 0 there)
      ∙ ap (λ b. cond b (cond (room == 0) (Err Bad) (name_bytes (room - 1) (drop (e + 1) input))) (Ok (tt, get_or input e 0 ∷ drop (e + 1) input))) is

  pub name_over : is_name_byte (get_or input e 0) ≡ true → room ≡ 0 → name_bytes room (drop e input) ≡ Err Bad
  name_over is none = name_goes is ∙ ap (λ b. cond b (Err Bad) (name_bytes (room - 1) (drop (e + 1) input))) (is_same room 0 none)

  pub name_on : is_name_byte (get_or input e 0) ≡ true → (room ≡ 0 → ⊥) → name_bytes room (drop e input) ≡ name_bytes (room - 1) (drop (e + 1) input)
  name_on is some = name_goes is ∙ ap (λ b. cond b (Err Bad) (name_bytes (room - 1) (drop (e + 1) input))) (is_other room 0 some)

pub name_none : (input : List ℕ) (e : ℕ) → length input ≤ e → name (drop e input) ≡ Err More
unfolding name
name_none input e past = ap name (drop_end input e past)

pub name_off : (input : List ℕ) (e : ℕ) → e < length input → is_name_byte (get_or input e 0) ≡ false → name (drop e input) ≡ Err Bad
unfolding name
name_off input e there off = ap name (drop_more input e 0 there) ∙ ap (λ b. cond b (name_bytes 15 (drop (e + 1) input)) (Err Bad)) off

pub name_begun : (input : List ℕ) (e : ℕ) → e < length input → is_name_byte (get_or input e 0) ≡ true → name (drop e input) ≡ name_bytes 15 (drop (e + 1) input)
unfolding name
name_begun input e there is = ap name (drop_more input e 0 there) ∙ ap (λ b. cond b (name_bytes 15 (drop (e + 1) input)) (Err Bad)) is

-- ---- days

pub day_short : (input : List ℕ) (e : ℕ) → length input < e + 10 → day (drop e input) ≡ Err More
unfolding day
day_short input e short =
    ap (λ b. cond b (Err More) (day_or_bad (day_of (take 10 (drop e input))) (drop 10 (drop e input)))) (is_below _ _ (omega (arith, length-drop e input)))

-- the ten bytes from a place on
ten_at : (input : List ℕ) (e : ℕ) → slice_range input e (e + 10) ≡ take 10 (drop e input)
ten_at input e = let count : e + 10 - e ≡ 10 = omega arith in ap (λ n. take n (drop e input)) count

judged : (input : List ℕ) (e : ℕ) → e + 10 ≤ length input → day (drop e input) ≡ day_or_bad (day_of (slice_range input e (e + 10))) (drop (e + 10) input)
unfolding day
judged input e long =
    ap (λ b. cond b (Err More) (day_or_bad (day_of (take 10 (drop e input))) (drop 10 (drop e input)))) (is_not_below _ _ (omega (arith, length-drop e input)))
    ∙ ap (day_or_bad (day_of (take 10 (drop e input)))) (drop-drop 10 e input)
    ∙ ap (λ text. day_or_bad (day_of text) (drop (e + 10) input)) (sym (ten_at input e))

module _ (input : List ℕ) (e : ℕ) (long : e + 10 ≤ length input) where
  pub day_off : day_of (slice_range input e (e + 10)) ≡ None → day (drop e input) ≡ Err Bad
  day_off none = judged input e long ∙ ap (λ d. day_or_bad d (drop (e + 10) input)) none

  pub day_on : (found : DayParts) → day_of (slice_range input e (e + 10)) ≡ Some found → day (drop e input) ≡ Ok (tt, drop (e + 10) input)
  day_on found some = judged input e long ∙ ap (λ d. day_or_bad d (drop (e + 10) input)) some
