-- Words with one space between them are the pieces of their text.
use Rattle.std.proofs.Common.{◌≡◌, ◌∙◌, ap, refl, subst, ℕ, suc, ◌<◌, ◌^◌, List, [], ◌∷◌, ◌++◌, get_or, true, false, not, eqb, ℤ, pos, negsuc, arith}
use Rattle.std.proofs.lemmas.Bool.{and_parts, both_ways, eqb-true, false_from_ne_true, ne_eqb, not-true, not_from_false}
use Rattle.std.proofs.lemmas.Bool.Decides.{Decides-by_and}
use Rattle.std.proofs.lemmas.Fmt.{digits_decimal}
use Rattle.std.proofs.lemmas.List.{get_or_default}
use Rattle.std.proofs.lemmas.List.Elements.{All-append, All-cons, All-weaker}
use Rattle.std.proofs.lemmas.List.Splits.{slice_split_at, slice_split_none}
use Rattle.std.proofs.lemmas.Str.Parse.{not_in_digits}
use Rattle.std.specs.Int.{IsInRange}
use Rattle.std.specs.Fmt.{decimal, signed_decimal}
use Rattle.std.specs.List.{list_all, All}
use Rattle.network_laws.specs.Solutions.{IsPotential}
use Rattle.units_core.specs.Name.{is_name, is_name_byte}
use Rattle.dual_certificate.specs.ProposalLine.{pieces}
use Rattle.dual_certificate.proofs.NumberTexts.{own, potential_small}

-- the word has no space and no line feed
pub record IsWord (word : List ℕ) : Type 0 where
  pub no_space : All (λ b. eqb b 32 ≡ false) word
  pub no_feed : All (λ b. eqb b 10 ≡ false) word

abbrev pub AreWords : List (List ℕ) → Type 0
AreWords [] = Unit {0}
AreWords (word ∷ more) = IsWord word × AreWords more

-- a word, and each of the others behind a space
abbrev pub spaced : List ℕ → List (List ℕ) → List ℕ
spaced word [] = word
spaced word (next ∷ more) = word ++ (32 ∷ spaced next more)

pub words_are : (word : List ℕ) (more : List (List ℕ)) → IsWord word → AreWords more → pieces 32 (spaced word more) ≡ word ∷ more
words_are word [] is are = slice_split_none (λ b. eqb b 32) word is.no_space
words_are word (next ∷ more) is are =
    slice_split_at (λ b. eqb b 32) word 32 (spaced next more) is.no_space refl ∙ ap (λ words. word ∷ words) (words_are next more are.0 are.1)

pub no_feed_in : (word : List ℕ) (more : List (List ℕ)) → IsWord word → AreWords more → All (λ b. eqb b 10 ≡ false) (spaced word more)
no_feed_in word [] is are = is.no_feed
no_feed_in word (next ∷ more) is are =
    All-append (λ b. eqb b 10 ≡ false) word (32 ∷ spaced next more) is.no_feed (All-cons (λ b. eqb b 10 ≡ false) 32 (spaced next more) refl (no_feed_in next more are.0 are.1))

free_by : (byte : ℕ) (text : List ℕ) → list_all (λ b. not (eqb b byte)) text ≡ true → All (λ b. eqb b byte ≡ false) text
free_by byte text h =
    (Decides-by_and (λ b. not (eqb b byte)) (λ b. eqb b byte ≡ false) (list_all (λ b. not (eqb b byte))) (λ b. (not-true (eqb b byte), not_from_false (eqb b byte))) refl (λ _ _. refl) text).0 h

-- a word whose bytes are written out
pub verb_is : (text : List ℕ) → list_all (λ b. not (eqb b 32)) text ≡ true → list_all (λ b. not (eqb b 10)) text ≡ true → IsWord text
verb_is text spaces feeds = record { no_space = free_by 32 text spaces; no_feed = free_by 10 text feeds }

free_name : (byte : ℕ) (name : List ℕ) → is_name_byte byte ≡ false → is_name name ≡ true → All (λ b. eqb b byte ≡ false) name
free_name byte name not_of h =
    let all = (Decides-by_and is_name_byte (λ b. is_name_byte b ≡ true) (list_all is_name_byte) (λ b. ((λ e. e), (λ e. e))) refl (λ _ _. refl) name).0 (and_parts _ (list_all is_name_byte name) h).1 in
    All-weaker (λ b. is_name_byte b ≡ true) (λ b. eqb b byte ≡ false)
    (λ b is. false_from_ne_true (eqb b byte) (λ e. both_ways (is_name_byte byte) not_of (subst (λ c. is_name_byte c ≡ true) (eqb-true b byte e) is)))
    name all

-- a name has neither
pub name_is : (name : List ℕ) → is_name name ≡ true → IsWord name
name_is name h = record { no_space = free_name 32 name refl h; no_feed = free_name 10 name refl h }

free_digits : (byte n : ℕ) → (IsInRange 48 57 byte → ⊥) → n < 2 ^ 64 → All (λ b. eqb b byte ≡ false) (decimal n)
free_digits byte n outside small =
    λ k d l. ne_eqb (get_or (decimal n) k d) byte (λ e. not_in_digits own (decimal n) byte (digits_decimal own n small) outside k l (get_or_default (decimal n) k 0 d l ∙ e))

-- nor has a number
pub number_is : (n : ℕ) → n < 2 ^ 64 → IsWord (decimal n)
number_is n small = record { no_space = free_digits 32 n (λ r. omega arith) small; no_feed = free_digits 10 n (λ r. omega arith) small }

pub signed_is : (z : ℤ) → IsPotential z → IsWord (signed_decimal z)
signed_is (pos n) h = number_is n (omega (arith, potential_small (pos n) h))
signed_is (negsuc n) h =
    let digits = number_is (suc n) (omega (arith, potential_small (negsuc n) h)) in
    record {
      no_space = All-cons (λ b. eqb b 32 ≡ false) 45 (decimal (suc n)) refl digits.no_space;
      no_feed = All-cons (λ b. eqb b 10 ≡ false) 45 (decimal (suc n)) refl digits.no_feed;
    }
