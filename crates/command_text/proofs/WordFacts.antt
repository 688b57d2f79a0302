-- The words of a text.
use Rattle.std.proofs.Common.{◌≡◌, ℕ, zero, suc, ◌+◌, ◌<◌, ◌≤◌, ◌==◌, true, false, List, [], ◌∷◌, length, take, drop, get_or, nat_lt, arith, ap, refl, sym, ◌∙◌, cond}
use Rattle.std.proofs.lemmas.Bool.Decides.{nat_tests}
use Rattle.std.proofs.Math.Seq.{take-length}
use Rattle.command_types.specs.Grammar.{Cursor, words_of, onto_word, line_by, line_of, line_of_words}
use Rattle.command_text.specs.Reading.{words_from, cursor_at, IsNext}

not_space : (c : ℕ) → (c ≡ 32 → ⊥) → (c == 32) ≡ false
not_space c ne = grind (arith, nat_tests)

is_space : (c : ℕ) → c ≡ 32 → (c == 32) ≡ true
is_space c e = grind (arith, nat_tests)

on_byte : (c : ℕ) (cs : List ℕ) → (c ≡ 32 → ⊥) → words_of (c ∷ cs) ≡ onto_word c (words_of cs)
on_byte c cs ne = ap (λ b. cond b ([] ∷ words_of cs) (onto_word c (words_of cs))) (not_space c ne)

on_space : (c : ℕ) (cs : List ℕ) → c ≡ 32 → words_of (c ∷ cs) ≡ [] ∷ words_of cs
on_space c cs e = ap (λ b. cond b ([] ∷ words_of cs) (onto_word c (words_of cs))) (is_space c e)

-- a text without a space is one word
words_none : (text : List ℕ) → ((k : ℕ) → k < length text → get_or text k 0 ≡ 32 → ⊥) → words_of text ≡ text ∷ []
words_none [] none = refl
words_none (c ∷ cs) none =
    on_byte c cs (none 0 (omega arith)) ∙ ap (onto_word c) (words_none cs (λ k lt. none (suc k) (omega arith)))

-- the first space ends the first word
words_at : (text : List ℕ) (i : ℕ) → i < length text → ((k : ℕ) → k < i → get_or text k 0 ≡ 32 → ⊥) → get_or text i 0 ≡ 32 →
    words_of text ≡ take i text ∷ words_of (drop (i + 1) text)
words_at [] i lt none space = absurd (omega arith)
words_at (c ∷ cs) zero lt none space = on_space c cs space
words_at (c ∷ cs) (suc i) lt none space =
    on_byte c cs (none 0 (omega arith)) ∙ ap (onto_word c) (words_at cs i (omega arith) (λ k below. none (suc k) (omega arith)) space)
    ∙ ap (λ n. (c ∷ take i cs) ∷ words_of (drop n (c ∷ cs))) (let e : suc (i + 1) ≡ suc i + 1 = omega arith in e)

below_not : (n m : ℕ) → m ≤ n → nat_lt n m ≡ false
below_not n m h = grind (arith, nat_tests)

below_is : (n m : ℕ) → n < m → nat_lt n m ≡ true
below_is n m h = grind (arith, nat_tests)

-- behind a line there is no word
pub from_none : (line : List ℕ) (at : ℕ) → length line < at → words_from line at ≡ []
from_none line at h = ap (λ t. cond t [] (words_of (drop at line))) (below_is (length line) at h)

-- within a line there are the words of its rest
pub from_some : (line : List ℕ) (at : ℕ) → at ≤ length line → words_from line at ≡ words_of (drop at line)
from_some line at h = ap (λ t. cond t [] (words_of (drop at line))) (below_not (length line) at h)

-- a text whose first space is here begins with a word that ends here
pub first_at : (text : List ℕ) (i : ℕ) → i < length text → ((k : ℕ) → k < i → get_or text k 0 ≡ 32 → ⊥) → get_or text i 0 ≡ 32 →
    words_of text ≡ take i text ∷ words_from text (i + 1)
first_at text i lt none space = words_at text i lt none space ∙ ap (λ ws. take i text ∷ ws) (sym (from_some text (i + 1) (omega arith)))

-- a text without a space is one word
pub first_whole : (text : List ℕ) → ((k : ℕ) → k < length text → get_or text k 0 ≡ 32 → ⊥) →
    words_of text ≡ take (length text) text ∷ words_from text (length text + 1)
first_whole text none =
    words_none text none ∙ ap (λ w. w ∷ []) (sym (take-length text)) ∙ ap (λ ws. take (length text) text ∷ ws) (sym (from_none text (length text + 1) (omega arith)))

-- the first word of a line, and what is left behind it
pub after_first : (line w : List ℕ) (old new : Cursor) → old ≡ cursor_at line 0 → IsNext old w new → line_of line ≡ line_by w new
after_first line w old new is step =
    let first : words_of line ≡ w ∷ new.words = sym (from_some line 0 (omega arith)) ∙ ap (λ (c : Cursor). c.words) (sym is) ∙ step.words in
    let begun : old.place ≡ 0 = ap (λ (c : Cursor). c.place) is in
    let whole : old.size ≡ length line = ap (λ (c : Cursor). c.size) is in
    let placed : length w + 1 ≡ new.place = omega (arith, step.place) in
    let sized : length line ≡ new.size = sym whole ∙ sym step.size in
    ap (line_of_words (length line)) first
    ∙ ap (λ p. line_by w (record { words = new.words; place = p; size = length line })) placed
    ∙ ap (λ n. line_by w (record { words = new.words; place = new.place; size = n })) sized
