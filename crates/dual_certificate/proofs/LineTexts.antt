-- What the lines of a proposal say, as they are written.
use Rattle.std.proofs.Common.{◌≡◌, ap, refl, ℕ, ◌≤◌, ◌^◌, List, [], ◌∷◌, ◌++◌, true, ℤ, Some, None, append_assoc, codes, decimal, arith}
use Rattle.std.proofs.lemmas.Bool.{cond-true}
use Rattle.std.specs.Fmt.{signed_decimal}
use Rattle.network_laws.specs.Solutions.{IsPotential}
use Rattle.units_core.specs.Name.{is_name}
use Rattle.command_types.specs.Grammar.{value_or_none, name_word, amount_word, number_word, signed_word}
use Rattle.dual_certificate.specs.declared.proposal_line.ProposalLine.TheVariants.{Product, Row, Pot, Bound, End}
use Rattle.dual_certificate.specs.ProposalLine.{figures_of, line_of_words}
use Rattle.dual_certificate.proofs.NumberTexts.{number_back, amount_back, signed_back}
use Rattle.dual_certificate.proofs.SpacedWords.{spaced}

name_back : (name : List ℕ) → is_name name ≡ true → name_word name ≡ Some name
name_back name h = cond-true (is_name name) (Some name) None h

figure_back : (n : ℕ) → n ≤ 10 ^ 18 → number_word (decimal n) ≡ Some n
figure_back n within = ap value_or_none (number_back n 1000000000000000000 (omega arith) (omega arith))

pub product_said : (name : List ℕ) (gross least floor_m bilateral : ℕ) → is_name name ≡ true → gross ≤ 10 ^ 18 → least ≤ 10 ^ 18 → floor_m ≤ 10 ^ 18 → bilateral ≤ 10 ^ 18
    → line_of_words (codes "product" ∷ name ∷ decimal gross ∷ decimal least ∷ decimal floor_m ∷ decimal bilateral ∷ []) ≡ Some (Product name (figures_of gross least floor_m bilateral))
product_said name gross least floor_m bilateral is g l f b =
    rw (name_back name is, figure_back gross g, figure_back least l, figure_back floor_m f, figure_back bilateral b) refl

pub row_said : (seller buyer : List ℕ) (amount : ℕ) → is_name seller ≡ true → is_name buyer ≡ true → 1 ≤ amount → amount ≤ 10 ^ 18
    → line_of_words (codes "row" ∷ seller ∷ buyer ∷ decimal amount ∷ []) ≡ Some (Row seller buyer amount)
row_said seller buyer amount s b least most =
    let back : amount_word (decimal amount) ≡ Some amount = ap value_or_none (amount_back amount least most) in
    rw (name_back seller s, name_back buyer b, back) refl

pub pot_said : (member : List ℕ) (value : ℤ) → is_name member ≡ true → IsPotential value → line_of_words (codes "pot" ∷ member ∷ signed_decimal value ∷ []) ≡ Some (Pot member value)
pot_said member value is h =
    let back : signed_word (signed_decimal value) ≡ Some value = ap value_or_none (signed_back value h) in
    rw (name_back member is, back) refl

pub bound_said : (value : ℕ) → value ≤ 10 ^ 18 → line_of_words (codes "bound" ∷ decimal value ∷ []) ≡ Some (Bound value)
bound_said value h = rw (figure_back value h) refl

pub end_said : (count : ℕ) → count ≤ 10 ^ 18 → line_of_words (codes "end" ∷ decimal count ∷ []) ≡ Some (End count)
end_said count h = rw (figure_back count h) refl

-- the words of each line
pub product_words : (a b c d e : List ℕ) → codes "product " ++ a ++ codes " " ++ b ++ codes " " ++ c ++ codes " " ++ d ++ codes " " ++ e ≡ spaced (codes "product") (a ∷ b ∷ c ∷ d ∷ e ∷ [])
product_words a b c d e = simp append_assoc

pub row_words : (a b c : List ℕ) → codes "row " ++ a ++ codes " " ++ b ++ codes " " ++ c ≡ spaced (codes "row") (a ∷ b ∷ c ∷ [])
row_words a b c = simp append_assoc

pub pot_words : (a b : List ℕ) → codes "pot " ++ a ++ codes " " ++ b ≡ spaced (codes "pot") (a ∷ b ∷ [])
pot_words a b = simp append_assoc
