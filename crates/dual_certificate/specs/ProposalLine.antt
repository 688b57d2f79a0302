-- The lines of a proposal's text, each by itself.
use Rattle.std.specs.Prelude.{ℕ, ◌==◌, List, [], ◌∷◌, Option, Some, None, codes, if◌then◌else◌}
use Rattle.std.specs.List.{slice_split}
use Rattle.std.specs.Str.{bytes_eq}
use Rattle.command_types.specs.Grammar.{name_word, amount_word, number_word, signed_word}
use Rattle.dual_certificate.specs.declared.proposal_line.Figures.{Figures}
use Rattle.dual_certificate.specs.declared.proposal_line.ProposalLine.{ProposalLine}
use Rattle.dual_certificate.specs.declared.proposal_line.ProposalLine.TheVariants.{Product, Row, Pot, Bound, End}

-- the pieces of a text between one such byte and the next: lines between line feeds, words between spaces
abbrev pub pieces : ℕ → List ℕ → List (List ℕ)
pieces byte text = slice_split (λ b. b == byte) text

-- the words of the rest of a line, if there is a rest
abbrev pub words_left : Option (List ℕ) → List (List ℕ)
words_left None = []
words_left (Some text) = pieces 32 text

-- a value, and the words behind it
pub record Taken (A : Type 0) : Type 0 where
  pub value : A
  pub rest : List (List ℕ)

-- a word that was read gives its value and the words behind it
abbrev pub taken_of : {A : Type 0} → Option A → List (List ℕ) → Option (Taken A)
taken_of None words = None
taken_of (Some value) words = Some (record { value = value; rest = words })

-- the next word, of a kind
abbrev pub next : {A : Type 0} → (List ℕ → Option A) → List (List ℕ) → Option (Taken A)
next read [] = None
next read (word ∷ words) = taken_of (read word) words

-- what is read goes on behind a value that was taken
abbrev pub and_then : {A B : Type 0} → Option (Taken A) → (A → List (List ℕ) → Option B) → Option B
and_then None more = None
and_then (Some taken) more = more taken.value taken.rest

-- no further word
abbrev pub ended : ProposalLine → List (List ℕ) → Option ProposalLine
ended line [] = Some line
ended line (word ∷ words) = None

-- a product's figures, as its line tells them
abbrev pub figures_of : ℕ → ℕ → ℕ → ℕ → Figures
figures_of gross least floor_m bilateral = record { gross = gross; least = least; floor_m = floor_m; bilateral = bilateral }

-- M BILATERAL
abbrev pub product_rest : List ℕ → ℕ → ℕ → List (List ℕ) → Option ProposalLine
product_rest name gross least w =
    and_then (next number_word w) (λ floor_m w. and_then (next number_word w) (λ bilateral w. ended (Product name (figures_of gross least floor_m bilateral)) w))

-- GROSS LEAST M BILATERAL
abbrev pub product_figures : List ℕ → List (List ℕ) → Option ProposalLine
product_figures name w =
    and_then (next number_word w) (λ gross w. and_then (next number_word w) (λ least w. product_rest name gross least w))

-- NAME GROSS LEAST M BILATERAL
abbrev pub product_line : List (List ℕ) → Option ProposalLine
product_line w = and_then (next name_word w) (λ name w. product_figures name w)

-- SELLER BUYER AMOUNT
abbrev pub row_line : List (List ℕ) → Option ProposalLine
row_line w =
    and_then (next name_word w) (λ seller w. and_then (next name_word w) (λ buyer w. and_then (next amount_word w) (λ amount w. ended (Row seller buyer amount) w)))

-- MEMBER VALUE
abbrev pub pot_line : List (List ℕ) → Option ProposalLine
pot_line w = and_then (next name_word w) (λ member w. and_then (next signed_word w) (λ value w. ended (Pot member value) w))

-- VALUE
abbrev pub bound_line : List (List ℕ) → Option ProposalLine
bound_line w = and_then (next number_word w) (λ value w. ended (Bound value) w)

-- COUNT
abbrev pub end_line : List (List ℕ) → Option ProposalLine
end_line w = and_then (next number_word w) (λ count w. ended (End count) w)

-- what the words behind the first one say
abbrev pub line_by : List ℕ → List (List ℕ) → Option ProposalLine
line_by verb w =
    if bytes_eq verb (codes "product") then product_line w
    else (if bytes_eq verb (codes "row") then row_line w
    else (if bytes_eq verb (codes "pot") then pot_line w
    else (if bytes_eq verb (codes "bound") then bound_line w
    else (if bytes_eq verb (codes "end") then end_line w
    else None))))

-- the first word tells the line's kind, and the others are read behind it
abbrev pub line_of_words : List (List ℕ) → Option ProposalLine
line_of_words [] = None
line_of_words (verb ∷ w) = line_by verb w

-- what a line says, by its words with one space between them
abbrev pub line_of : List ℕ → Option ProposalLine
line_of line = line_of_words (pieces 32 line)
