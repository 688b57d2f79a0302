-- A potential that the grammar reads is one.
use Rattle.std.proofs.Common.{◌≡◌, ℕ, ◌≤◌, ℤ, pos, neg_ℤ, Bool, true, false, ◌==◌, ◌&&◌, not, nat_lt, List, [], ◌∷◌, length, ◌+◌, drop, slice_index, position, Option, Some, None, Result, Ok, Err, refl, subst, cond, codes, arith}
use Rattle.std.proofs.lemmas.Bool.Decides.{nat_tests}
use Rattle.std.proofs.lemmas.Int.{ints}
use Rattle.std.specs.Str.{bytes_eq}
use Rattle.network_laws.specs.Solutions.{IsPotential}
use Rattle.units_core.specs.declared.number.NumberFault.{NumberFault}
use Rattle.units_core.specs.declared.number.NumberFault.TheVariants.{NotDigit, LeadingZero, Zero, TooLarge, Empty}
use Rattle.units_core.specs.Number.{is_digit, value_of, of_first, number_of}
use Rattle.units_core.specs.Signed.{has_minus, plus_of, minus_of}
use Rattle.command_types.specs.declared.cycle.Mode.{Mode}
use Rattle.command_types.specs.declared.line.Line.{Line}
use Rattle.command_types.specs.declared.line.Line.TheVariants.{Hello, Trade, Affirm, End, Hold, Free, Tol, Nets, Statement, Freeze, Begin, Limits, Row, Post, Propose, Next, Plan, Proof, Accept, Decline, Cancel, Bye, Pot}
use Rattle.command_types.specs.Lines.{line_limit}
use Rattle.command_types.specs.Grammar.{Cursor, Taken, value_or_none, name_word, number_word, amount_word, day_word, signed_word, mode_word, side_word, ceiling_word, taken_word, next_of, next, and_then, ended_at, ended, hello_line, trade_line, numbered_line, version_line, mode_line, product_line, tolerance_line, freeze_line, row_line, potential_line, line_by, line_of_words, words_of, line_of, line_within}
use Rattle.session.specs.KeptDraft.{HasPotential}

-- what is read is not above its most
below_most : (t : Bool) (most n value : ℕ) → nat_lt most value ≡ t → cond {A = Result ℕ NumberFault} t (Err TooLarge) (Ok value) ≡ Ok n → n ≤ most
below_most true most n value is e = cc e
below_most false most n value is e = let same : value ≡ n = cc e in grind (arith, nat_tests)

by_digits : (t : Bool) (most n value : ℕ) → cond {A = Result ℕ NumberFault} t (Err LeadingZero) (cond {A = Result ℕ NumberFault} (nat_lt most value) (Err TooLarge) (Ok value)) ≡ Ok n → n ≤ most
by_digits true most n value e = cc e
by_digits false most n value e = below_most (nat_lt most value) most n value refl e

by_first : (first : Option ℕ) (text : List ℕ) (most n : ℕ) → of_first first text most ≡ Ok n → n ≤ most
by_first (Some at) text most n e = cc e
by_first None text most n e = by_digits (nat_lt 1 (length text) && (slice_index text 0 == 48)) most n (value_of text) e

number_within : (text : List ℕ) (most n : ℕ) → number_of text most ≡ Ok n → n ≤ most
number_within text most n e = by (length text == 0) e
  where
    by : (t : Bool) → cond {A = Result ℕ NumberFault} t (Err Empty) (of_first (position (λ c. not (is_digit c)) text) text most) ≡ Ok n → n ≤ most
    by true e = cc e
    by false e = by_first (position (λ c. not (is_digit c)) text) text most n e

positive_one : (n : ℕ) → n ≤ 1000000 → IsPotential (pos n)
positive_one n le = record { least = omega (arith, ints); most = omega (arith, ints) }

negative_one : (n : ℕ) → n ≤ 1000000 → IsPotential (neg_ℤ (pos n))
negative_one n le = record { least = omega (arith, ints); most = omega (arith, ints) }

by_plus : (read : Result ℕ NumberFault) (value : ℤ) → ((n : ℕ) → read ≡ Ok n → n ≤ 1000000) → value_or_none (plus_of read) ≡ Some value → IsPotential value
by_plus (Ok n) value most e = let same : pos n ≡ value = cc e in subst IsPotential same (positive_one n (most n refl))
by_plus (Err fault) value most e = cc e

by_sign : (zero_read : Bool) (n : ℕ) (value : ℤ) → n ≤ 1000000 → value_or_none (cond {A = Result ℤ NumberFault} zero_read (Err Zero) (Ok (neg_ℤ (pos n)))) ≡ Some value → IsPotential value
by_sign true n value le e = cc e
by_sign false n value le e = let same : neg_ℤ (pos n) ≡ value = cc e in subst IsPotential same (negative_one n le)

by_minus : (read : Result ℕ NumberFault) (value : ℤ) → ((n : ℕ) → read ≡ Ok n → n ≤ 1000000) → value_or_none (minus_of read) ≡ Some value → IsPotential value
by_minus (Ok n) value most e = by_sign (n == 0) n value (most n refl) e
by_minus (Err (NotDigit at)) value most e = cc e
by_minus (Err fault) value most e = cc e

signed_within : (word : List ℕ) (value : ℤ) → signed_word word ≡ Some value → IsPotential value
signed_within word value e = by (has_minus word) e
  where
    by : (t : Bool) → value_or_none (cond {A = Result ℤ NumberFault} t (minus_of (number_of (drop 1 word) 1000000)) (plus_of (number_of word 1000000))) ≡ Some value → IsPotential value
    by true e = by_minus (number_of (drop 1 word) 1000000) value (number_within (drop 1 word) 1000000) e
    by false e = by_plus (number_of word 1000000) value (number_within word 1000000) e

at_end : (line : Line) (words : List (List ℕ)) (place : ℕ) → HasPotential (Ok line) → HasPotential (ended_at line words place)
at_end line [] place h = h
at_end line (word ∷ words) place h = tt

plain_end : (line : Line) (c : Cursor) → HasPotential (Ok line) → HasPotential (ended line c)
plain_end line c h = at_end line c.words c.place h

after : {A : Type 0} (taken : Result (Taken A) ℕ) (more : A → Cursor → Result Line ℕ) → ((value : A) (c : Cursor) → HasPotential (more value c)) → HasPotential (and_then taken more)
after (Ok taken) more h = h taken.value taken.rest
after (Err at) more h = tt

after_word : (read : Option ℤ) (word : List ℕ) (words : List (List ℕ)) (place size : ℕ) (more : ℤ → Cursor → Result Line ℕ) → ((value : ℤ) (c : Cursor) → read ≡ Some value → HasPotential (more value c)) →
    HasPotential (and_then (taken_word read word words place size) more)
after_word None word words place size more h = tt
after_word (Some value) word words place size more h = h value _ refl

after_signed : (words : List (List ℕ)) (place size : ℕ) (more : ℤ → Cursor → Result Line ℕ) → ((value : ℤ) (c : Cursor) → IsPotential value → HasPotential (more value c)) →
    HasPotential (and_then (next_of signed_word words place size) more)
after_signed [] place size more h = tt
after_signed (word ∷ words) place size more h = after_word (signed_word word) word words place size more (λ value c e. h value c (signed_within word value e))

in_potential : (c : Cursor) → HasPotential (potential_line c)
in_potential c =
    after (next name_word c) _ (λ product c. after (next name_word c) _ (λ member c. after_signed c.words c.place c.size _ (λ value c within. plain_end (Pot product member value) c within)))

numbered : (make : ℕ → Line) → ((n : ℕ) → HasPotential (Ok (make n))) → (c : Cursor) → HasPotential (numbered_line make c)
numbered make h c = after (next number_word c) _ (λ n c. plain_end (make n) c (h n))

versioned : (make : ℕ → ℕ → Line) → ((m n : ℕ) → HasPotential (Ok (make m n))) → (c : Cursor) → HasPotential (version_line make c)
versioned make h c = after (next number_word c) _ (λ m c. after (next number_word c) _ (λ n c. plain_end (make m n) c (h m n)))

with_mode : (make : ℕ → Mode → Line) → ((n : ℕ) (mode : Mode) → HasPotential (Ok (make n mode))) → (c : Cursor) → HasPotential (mode_line make c)
with_mode make h c = after (next number_word c) _ (λ n c. after (next mode_word c) _ (λ mode c. plain_end (make n mode) c (h n mode)))

with_product : (make : List ℕ → Line) → ((name : List ℕ) → HasPotential (Ok (make name))) → (c : Cursor) → HasPotential (product_line make c)
with_product make h c = after (next name_word c) _ (λ name c. plain_end (make name) c (h name))

either : (t : Bool) (a b : Result Line ℕ) → HasPotential a → HasPotential b → HasPotential (cond {A = Result Line ℕ} t a b)
either true a b x y = x
either false a b x y = y

-- the first choice whose test holds
abbrev chosen : List (Bool × Result Line ℕ) → Result Line ℕ → Result Line ℕ
chosen [] last = last
chosen (choice ∷ choices) last = cond {A = Result Line ℕ} choice.0 choice.1 (chosen choices last)

abbrev AllHave : List (Bool × Result Line ℕ) → Type 0
AllHave [] = Unit {0}
AllHave (choice ∷ choices) = HasPotential choice.1 × AllHave choices

has_chosen : (choices : List (Bool × Result Line ℕ)) (last : Result Line ℕ) → AllHave choices → HasPotential last → HasPotential (chosen choices last)
has_chosen [] last all here = here
has_chosen (choice ∷ choices) last all here = either choice.0 choice.1 (chosen choices last) all.0 (has_chosen choices last all.1 here)

by_verb : (verb : List ℕ) (c : Cursor) → HasPotential (line_by verb c)
by_verb verb c =
    has_chosen (
    (bytes_eq verb (codes "HELLO"), hello_line c) ∷
    (bytes_eq verb (codes "TRADE"), trade_line c) ∷
    (bytes_eq verb (codes "AFFIRM"), numbered_line Affirm c) ∷
    (bytes_eq verb (codes "END"), numbered_line End c) ∷
    (bytes_eq verb (codes "HOLD"), numbered_line Hold c) ∷
    (bytes_eq verb (codes "FREE"), numbered_line Free c) ∷
    (bytes_eq verb (codes "TOL"), tolerance_line c) ∷
    (bytes_eq verb (codes "NETS"), product_line Nets c) ∷
    (bytes_eq verb (codes "STATEMENT"), ended Statement c) ∷
    (bytes_eq verb (codes "FREEZE"), freeze_line c) ∷
    (bytes_eq verb (codes "BEGIN"), mode_line Begin c) ∷
    (bytes_eq verb (codes "LIMITS"), product_line Limits c) ∷
    (bytes_eq verb (codes "ROW"), row_line c) ∷
    (bytes_eq verb (codes "POT"), potential_line c) ∷
    (bytes_eq verb (codes "POST"), version_line Post c) ∷
    (bytes_eq verb (codes "PROPOSE"), mode_line Propose c) ∷
    (bytes_eq verb (codes "NEXT"), numbered_line Next c) ∷
    (bytes_eq verb (codes "PLAN"), numbered_line Plan c) ∷
    (bytes_eq verb (codes "PROOF"), numbered_line Proof c) ∷
    (bytes_eq verb (codes "ACCEPT"), version_line Accept c) ∷
    (bytes_eq verb (codes "DECLINE"), version_line Decline c) ∷
    (bytes_eq verb (codes "CANCEL"), numbered_line Cancel c) ∷
    (bytes_eq verb (codes "BYE"), ended Bye c) ∷
    [])
    (Err 0)
    (after (next name_word c) _ (λ a c. after (next name_word c) _ (λ b c. plain_end (Hello a b) c tt)), (after (next name_word c) _ (λ a c. after (next name_word c) _ (λ b c. after (next name_word c) _ (λ p c. after (next amount_word c) _ (λ n c. after (next day_word c) _ (λ d c. plain_end (Trade a b p n d) c tt))))), (numbered Affirm (λ n. tt) c, (numbered End (λ n. tt) c, (numbered Hold (λ n. tt) c, (numbered Free (λ n. tt) c, (after (next name_word c) _ (λ a c. after (next name_word c) _ (λ p c. after (next side_word c) _ (λ s c. after (next number_word c) _ (λ f c. after (next ceiling_word c) _ (λ e c. plain_end (Tol a p s f e) c tt))))), (with_product Nets (λ n. tt) c, (plain_end Statement c tt, (after (next day_word c) _ (λ d c. plain_end (Freeze d) c tt), (with_mode Begin (λ n m. tt) c, (with_product Limits (λ n. tt) c, (after (next name_word c) _ (λ p c. after (next name_word c) _ (λ a c. after (next name_word c) _ (λ b c. after (next amount_word c) _ (λ n c. plain_end (Row p a b n) c tt)))), (in_potential c, (versioned Post (λ m n. tt) c, (with_mode Propose (λ n m. tt) c, (numbered Next (λ n. tt) c, (numbered Plan (λ n. tt) c, (numbered Proof (λ n. tt) c, (versioned Accept (λ m n. tt) c, (versioned Decline (λ m n. tt) c, (numbered Cancel (λ n. tt) c, (plain_end Bye c tt, tt)))))))))))))))))))))))
    tt

by_words : (size : ℕ) (words : List (List ℕ)) → HasPotential (line_of_words size words)
by_words size [] = tt
by_words size (verb ∷ words) = by_verb verb (record { words = words; place = length verb + 1; size = size })

-- a potential in a line of the grammar is one
pub line_potential : (line : List ℕ) → HasPotential (line_within line)
line_potential line = either (nat_lt line_limit (length line)) (Err line_limit) (line_of line) tt (by_words (length line) (words_of line))
