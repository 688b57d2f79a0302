-- Words that are parted one after another.
use Rattle.std.proofs.Common.{◌≡◌, ◌∙◌, refl, sym, ap, ℕ, ◌<◌, suc, List, [], ◌∷◌, length, map, drop, fold, get_or, Some, None, drop-cons}
use Rattle.std.specs.Prelude.{option_and_then}
use Rattle.program_words.specs.Parting.{Parts, no_parts, with_word, parted_with, has_values, parts_of}

-- where one word can't stand, none are parted
none_stays : (words : List (List ℕ)) → fold parted_with None words ≡ None
none_stays [] = refl
none_stays (word ∷ words) = none_stays words

pub refused : (so_far : Parts) (all left rest : List (List ℕ)) (word : List ℕ) → fold parted_with (Some so_far) left ≡ fold parted_with (Some no_parts) all → left ≡ word ∷ rest → with_word so_far so_far.waiting word ≡ None → parts_of all ≡ None
refused so_far all left rest word same next out =
    ap (λ p. option_and_then has_values p) (sym same ∙ ap (λ ws. fold parted_with (Some so_far) ws) next ∙ ap (λ p. fold parted_with p rest) out ∙ none_stays rest)

-- the next word
pub next_word : {S : Type 0} (text : S → List ℕ) (words : List S) (i : ℕ) (word : S) → i < length words → word ≡ get_or words i word → map text (drop i words) ≡ text word ∷ map text (drop (suc i) words)
next_word text words i word lt is = ap (λ ws. map text ws) (drop-cons words i word lt) ∙ ap (λ w. text w ∷ map text (drop (suc i) words)) (sym is)
