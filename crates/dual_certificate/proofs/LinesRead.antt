-- A line of a proposal that is read is what it says, word by word.
use Rattle.std.proofs.Common.{◌≡◌, ◌∙◌, sym, ap, refl, ℕ, List, [], ◌∷◌, Bool, true, false, cond, ℤ, Option, Some, None, codes}
use Rattle.std.proofs.lemmas.List.Splits.{join_with_byte-slice_split}
use Rattle.std.proofs.lemmas.Slice.Eq.{bytes_eq-Decides}
use Rattle.std.specs.Fmt.{decimal, signed_decimal}
use Rattle.std.specs.List.{join_with_byte}
use Rattle.std.specs.Str.{bytes_eq}
use Rattle.command_types.specs.Grammar.{name_word, amount_word, number_word, signed_word}
use Rattle.dual_certificate.specs.declared.proposal_line.ProposalLine.{ProposalLine}
use Rattle.dual_certificate.specs.declared.proposal_line.ProposalLine.TheVariants.{Product, Row, Pot, Bound, End}
use Rattle.dual_certificate.specs.ProposalLine.{pieces, taken_of, next, and_then, ended, figures_of, product_rest, product_figures, product_line, row_line, pot_line, bound_line, end_line, line_by, line_of_words, line_of}
use Rattle.dual_certificate.proofs.NumbersRead.{number_word_read, amount_word_read, signed_word_read, name_word_read}

-- the words of a line
abbrev pub words_of : ProposalLine → List (List ℕ)
words_of (Product name figures) = codes "product" ∷ name ∷ decimal figures.gross ∷ decimal figures.least ∷ decimal figures.floor_m ∷ decimal figures.bilateral ∷ []
words_of (Row seller buyer amount) = codes "row" ∷ seller ∷ buyer ∷ decimal amount ∷ []
words_of (Pot member value) = codes "pot" ∷ member ∷ signed_decimal value ∷ []
words_of (Bound value) = codes "bound" ∷ decimal value ∷ []
words_of (End count) = codes "end" ∷ decimal count ∷ []

-- the words begin with one that is read as a value, and the others say the rest
record Takes {A : Type 0} (show : A → List ℕ) (words : List (List ℕ)) (more : A → List (List ℕ) → Option ProposalLine) (said : ProposalLine) : Type 0 where
  value : A
  rest : List (List ℕ)
  are : words ≡ show value ∷ rest
  says : more value rest ≡ Some said

module _ {A : Type 0} (read : List ℕ → Option A) (show : A → List ℕ) (back : (word : List ℕ) (value : A) → read word ≡ Some value → word ≡ show value) where
  takes_by : (word : List ℕ) (words : List (List ℕ)) (more : A → List (List ℕ) → Option ProposalLine) (said : ProposalLine) (o : Option A) → read word ≡ o → and_then (taken_of o words) more ≡ Some said
      → Takes show (word ∷ words) more said
  takes_by word words more said None r e = absurd cc
  takes_by word words more said (Some value) r e = record { value = value; rest = words; are = ap (λ w. w ∷ words) (back word value r); says = e }

  takes : (words : List (List ℕ)) (more : A → List (List ℕ) → Option ProposalLine) (said : ProposalLine) → and_then (next read words) more ≡ Some said → Takes show words more said
  takes [] more said e = absurd cc
  takes (word ∷ words) more said e = takes_by word words more said (read word) refl e

-- a word of each kind
name_in : (words : List (List ℕ)) (more : List ℕ → List (List ℕ) → Option ProposalLine) (said : ProposalLine) → and_then (next name_word words) more ≡ Some said → Takes (λ name. name) words more said
name_in words more said e = takes name_word (λ name. name) name_word_read words more said e

number_in : (words : List (List ℕ)) (more : ℕ → List (List ℕ) → Option ProposalLine) (said : ProposalLine) → and_then (next number_word words) more ≡ Some said → Takes decimal words more said
number_in words more said e = takes number_word decimal number_word_read words more said e

-- no word is left
ended_is : (line said : ProposalLine) (words : List (List ℕ)) → ended line words ≡ Some said → (words ≡ []) × (line ≡ said)
ended_is line said [] e = (refl, cc)
ended_is line said (word ∷ words) e = absurd cc

-- the words of a line, one behind another
product_is : (words a b c d e : List (List ℕ)) (name : List ℕ) (gross least floor_m bilateral : ℕ) (said : ProposalLine) → words ≡ name ∷ a → a ≡ decimal gross ∷ b → b ≡ decimal least ∷ c → c ≡ decimal floor_m ∷ d
    → d ≡ decimal bilateral ∷ e → e ≡ [] → Product name (figures_of gross least floor_m bilateral) ≡ said → codes "product" ∷ words ≡ words_of said
product_is words a b c d e name gross least floor_m bilateral said is_name is_gross is_least is_floor is_bilateral is_end is_said =
    ap (λ w. codes "product" ∷ w) (is_name ∙ ap (λ w. name ∷ w) (is_gross ∙ ap (λ w. decimal gross ∷ w) (is_least ∙ ap (λ w. decimal least ∷ w) (is_floor ∙ ap (λ w. decimal floor_m ∷ w) (is_bilateral ∙ ap (λ w. decimal bilateral ∷ w) is_end)))))
    ∙ ap words_of is_said

row_is : (words a b c : List (List ℕ)) (seller buyer : List ℕ) (amount : ℕ) (said : ProposalLine) → words ≡ seller ∷ a → a ≡ buyer ∷ b → b ≡ decimal amount ∷ c → c ≡ [] → Row seller buyer amount ≡ said
    → codes "row" ∷ words ≡ words_of said
row_is words a b c seller buyer amount said is_seller is_buyer is_amount is_end is_said =
    ap (λ w. codes "row" ∷ w) (is_seller ∙ ap (λ w. seller ∷ w) (is_buyer ∙ ap (λ w. buyer ∷ w) (is_amount ∙ ap (λ w. decimal amount ∷ w) is_end))) ∙ ap words_of is_said

pot_is : (words a b : List (List ℕ)) (member : List ℕ) (value : ℤ) (said : ProposalLine) → words ≡ member ∷ a → a ≡ signed_decimal value ∷ b → b ≡ [] → Pot member value ≡ said → codes "pot" ∷ words ≡ words_of said
pot_is words a b member value said is_member is_value is_end is_said =
    ap (λ w. codes "pot" ∷ w) (is_member ∙ ap (λ w. member ∷ w) (is_value ∙ ap (λ w. signed_decimal value ∷ w) is_end)) ∙ ap words_of is_said

number_is : (verb : List ℕ) (words a : List (List ℕ)) (value : ℕ) (line said : ProposalLine) → words ≡ decimal value ∷ a → a ≡ [] → words_of line ≡ verb ∷ decimal value ∷ [] → line ≡ said → verb ∷ words ≡ words_of said
number_is verb words a value line said is_value is_end written is_said = ap (λ w. verb ∷ w) (is_value ∙ ap (λ w. decimal value ∷ w) is_end) ∙ sym written ∙ ap words_of is_said

-- a line of each kind
product_read : (words : List (List ℕ)) (said : ProposalLine) → product_line words ≡ Some said → codes "product" ∷ words ≡ words_of said
product_read words said e =
    let n = name_in words (λ name w. product_figures name w) said e in
    let g = number_in n.rest (λ gross w. and_then (next number_word w) (λ least w. product_rest n.value gross least w)) said n.says in
    let l = number_in g.rest (λ least w. product_rest n.value g.value least w) said g.says in
    let m = number_in l.rest (λ floor_m w. and_then (next number_word w) (λ bilateral w. ended (Product n.value (figures_of g.value l.value floor_m bilateral)) w)) said l.says in
    let b = number_in m.rest (λ bilateral w. ended (Product n.value (figures_of g.value l.value m.value bilateral)) w) said m.says in
    let end = ended_is (Product n.value (figures_of g.value l.value m.value b.value)) said b.rest b.says in
    product_is words n.rest g.rest l.rest m.rest b.rest n.value g.value l.value m.value b.value said n.are g.are l.are m.are b.are end.0 end.1

row_read : (words : List (List ℕ)) (said : ProposalLine) → row_line words ≡ Some said → codes "row" ∷ words ≡ words_of said
row_read words said e =
    let s = name_in words (λ seller w. and_then (next name_word w) (λ buyer w. and_then (next amount_word w) (λ amount w. ended (Row seller buyer amount) w))) said e in
    let b = name_in s.rest (λ buyer w. and_then (next amount_word w) (λ amount w. ended (Row s.value buyer amount) w)) said s.says in
    let a = takes amount_word decimal amount_word_read b.rest (λ amount w. ended (Row s.value b.value amount) w) said b.says in
    let end = ended_is (Row s.value b.value a.value) said a.rest a.says in
    row_is words s.rest b.rest a.rest s.value b.value a.value said s.are b.are a.are end.0 end.1

pot_read : (words : List (List ℕ)) (said : ProposalLine) → pot_line words ≡ Some said → codes "pot" ∷ words ≡ words_of said
pot_read words said e =
    let m = name_in words (λ member w. and_then (next signed_word w) (λ value w. ended (Pot member value) w)) said e in
    let v = takes signed_word signed_decimal signed_word_read m.rest (λ value w. ended (Pot m.value value) w) said m.says in
    let end = ended_is (Pot m.value v.value) said v.rest v.says in
    pot_is words m.rest v.rest m.value v.value said m.are v.are end.0 end.1

bound_read : (words : List (List ℕ)) (said : ProposalLine) → bound_line words ≡ Some said → codes "bound" ∷ words ≡ words_of said
bound_read words said e =
    let v = number_in words (λ value w. ended (Bound value) w) said e in
    let end = ended_is (Bound v.value) said v.rest v.says in
    number_is (codes "bound") words v.rest v.value (Bound v.value) said v.are end.0 refl end.1

end_read : (words : List (List ℕ)) (said : ProposalLine) → end_line words ≡ Some said → codes "end" ∷ words ≡ words_of said
end_read words said e =
    let c = number_in words (λ count w. ended (End count) w) said e in
    let end = ended_is (End c.value) said c.rest c.says in
    number_is (codes "end") words c.rest c.value (End c.value) said c.are end.0 refl end.1

-- the first word is this one, or one of the others
module _ (verb : List ℕ) (words : List (List ℕ)) (said : ProposalLine) where
  by_verb : (word : List ℕ) (here other : Option ProposalLine) → (here ≡ Some said → word ∷ words ≡ words_of said) → (other ≡ Some said → verb ∷ words ≡ words_of said)
      → (b : Bool) → bytes_eq verb word ≡ b → cond b here other ≡ Some said → verb ∷ words ≡ words_of said
  by_verb word here other is not true e h = ap (λ v. v ∷ words) ((bytes_eq-Decides verb word).0 e) ∙ is h
  by_verb word here other is not false e h = not h

  none_of_all : (let none : Option ProposalLine = None in none) ≡ Some said → verb ∷ words ≡ words_of said
  none_of_all e = absurd cc

  abbrev from_end : Option ProposalLine
  from_end = cond (bytes_eq verb (codes "end")) (end_line words) None

  abbrev from_bound : Option ProposalLine
  from_bound = cond (bytes_eq verb (codes "bound")) (bound_line words) from_end

  abbrev from_pot : Option ProposalLine
  from_pot = cond (bytes_eq verb (codes "pot")) (pot_line words) from_bound

  abbrev from_row : Option ProposalLine
  from_row = cond (bytes_eq verb (codes "row")) (row_line words) from_pot

  end_verb : from_end ≡ Some said → verb ∷ words ≡ words_of said
  end_verb e = by_verb (codes "end") (end_line words) None (end_read words said) none_of_all (bytes_eq verb (codes "end")) refl e

  bound_verb : from_bound ≡ Some said → verb ∷ words ≡ words_of said
  bound_verb e = by_verb (codes "bound") (bound_line words) from_end (bound_read words said) end_verb (bytes_eq verb (codes "bound")) refl e

  pot_verb : from_pot ≡ Some said → verb ∷ words ≡ words_of said
  pot_verb e = by_verb (codes "pot") (pot_line words) from_bound (pot_read words said) bound_verb (bytes_eq verb (codes "pot")) refl e

  row_verb : from_row ≡ Some said → verb ∷ words ≡ words_of said
  row_verb e = by_verb (codes "row") (row_line words) from_pot (row_read words said) pot_verb (bytes_eq verb (codes "row")) refl e

  verb_read : line_by verb words ≡ Some said → verb ∷ words ≡ words_of said
  verb_read e = by_verb (codes "product") (product_line words) from_row (product_read words said) row_verb (bytes_eq verb (codes "product")) refl e

words_read : (words : List (List ℕ)) (said : ProposalLine) → line_of_words words ≡ Some said → words ≡ words_of said
words_read [] said e = absurd cc
words_read (verb ∷ words) said e = verb_read verb words said e

-- a line is its words, with one space between them
pub line_read : (line : List ℕ) (said : ProposalLine) → line_of line ≡ Some said → line ≡ join_with_byte 32 (words_of said)
line_read line said e = sym (join_with_byte-slice_split 32 line) ∙ ap (join_with_byte 32) (words_read (pieces 32 line) said e)
