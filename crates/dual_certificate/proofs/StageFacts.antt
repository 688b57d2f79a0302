-- What was read of a proposal, with the text that says it: one more line says one more line of the text.
use Rattle.std.proofs.Common.{◌≡◌, ◌∙◌, sym, ap, refl, ℕ, ◌+◌, List, [], ◌∷◌, ◌++◌, length, get_or, Bool, true, false, ◌&&◌, eqb, ℤ, Option, Some, None, codes, decimal, arith, append_assoc}
use Rattle.std.proofs.lemmas.Bool.{and_parts, eqb-true}
use Rattle.std.proofs.lemmas.List.{append-nil}
use Rattle.std.proofs.lemmas.List.Sums.{passes_at_first}
use Rattle.std.proofs.lemmas.Option.{cond_some, slice_get-get_or}
use Rattle.std.proofs.lemmas.Slice.Eq.{bytes_eq-Decides}
use Rattle.std.specs.Fmt.{signed_decimal}
use Rattle.std.specs.List.{slice_get, join_with_byte}
use Rattle.std.specs.Str.{bytes_eq}
use Rattle.network_laws.specs.declared.rows.Row.{Row as NetworkRow}
use Rattle.command_types.specs.declared.roster.MemberRow.{MemberRow}
use Rattle.command_types.specs.declared.roster.ProductRow.{ProductRow}
use Rattle.command_types.specs.Roster.{Rows, member_place, is_member_row, is_member_at}
use Rattle.command_types.specs.Text.{member_name, member_row_name, product_name, product_row_name}
use Rattle.dual_certificate.specs.declared.proposal_part.ProposalPart.{ProposalPart}
use Rattle.dual_certificate.specs.declared.proposal_line.Figures.{Figures}
use Rattle.dual_certificate.specs.declared.proposal_line.ProposalLine.{ProposalLine}
use Rattle.dual_certificate.specs.declared.proposal_line.ProposalLine.TheVariants.{Product, Row, Pot, Bound, End}
use Rattle.dual_certificate.specs.ProposalText.{row_text, rows_text, pot_text, pots_text}
use Rattle.dual_certificate.specs.Proposal.{Reading, is_product_row, fits, finished, with_row, with_said}
use Rattle.dual_certificate.specs.PartsText.{head_text, lines_of_part, lines_from, text_of_parts}
use Rattle.dual_certificate.proofs.LineTexts.{product_words, row_words, pot_words}
use Rattle.dual_certificate.proofs.LinesRead.{words_of}
use Rattle.dual_certificate.proofs.PieceFacts.{placed}
use Rattle.dual_certificate.proofs.TextFacts.{rows_push, pots_push}
use Rattle.dual_certificate.proofs.WrittenLines.{in_part, between}

-- between two parts, in a part, or behind the last line
pub data Stage : Type 0 where
  Between : (parts : List ProposalPart) → Stage
  InPart : (parts : List ProposalPart) (figures : Figures) (rows : List NetworkRow) (potentials : List ℤ) → Stage
  Ended : (parts : List ProposalPart) → Stage

abbrev pub reading_at : Stage → Reading
reading_at (Between parts) = between parts
reading_at (InPart parts figures rows potentials) = in_part parts figures rows potentials
reading_at (Ended parts) = record (between parts) { has_ended = true }

-- the text of what was read
abbrev pub text_at : Rows → Stage → List ℕ
text_at roster (Between parts) = lines_from roster 0 parts
text_at roster (InPart parts figures rows potentials) =
    lines_from roster 0 parts ++ (head_text roster (length parts) figures ++ rows_text roster rows ++ pots_text roster 0 potentials)
text_at roster (Ended parts) = text_of_parts roster parts

-- a line leads to what is read with it, and is the text that comes with it
pub record Goes (roster : Rows) (stage : Stage) (line : List ℕ) (next : Reading) : Type 0 where
  pub to : Stage
  pub is : reading_at to ≡ next
  pub text : text_at roster to ≡ text_at roster stage ++ (line ++ codes "\n")

abbrev pub line_text : ProposalLine → List ℕ
line_text said = join_with_byte 32 (words_of said)

-- ---- names

member_named : (o : Option MemberRow) (name : List ℕ) → is_member_row o name ≡ true → member_row_name o ≡ name
member_named None name h = absurd cc
member_named (Some row) name h = (bytes_eq-Decides row.name name).0 h

product_named : (o : Option ProductRow) (name : List ℕ) → is_product_row o name ≡ true → product_row_name o ≡ name
product_named None name h = absurd cc
product_named (Some row) name h = (bytes_eq-Decides row.name name).0 h

-- the member that is found by its name has this name
found_by : (roster : Rows) (name : List ℕ) (place : ℕ) (rows : List MemberRow) → rows ≡ roster.members → member_place roster name ≡ Some place → member_name roster place ≡ name
found_by roster name place [] is h = absurd (omega (arith, (placed (λ (row : MemberRow). bytes_eq row.name name) roster.members place h).1, ap length is))
found_by roster name place (first ∷ rows) is h =
    let test = λ (row : MemberRow). bytes_eq row.name name in
    let at = placed test roster.members place h in
    let found : test (get_or roster.members place first) ≡ true = ap (λ k. test (get_or roster.members k first)) (sym at.0) ∙ passes_at_first test roster.members first (omega (arith, at.0, at.1)) in
    ap member_row_name (slice_get-get_or roster.members place first at.1) ∙ (bytes_eq-Decides (get_or roster.members place first).name name).0 found

named : (roster : Rows) (name : List ℕ) (place : ℕ) → member_place roster name ≡ Some place → member_name roster place ≡ name
named roster name place h = found_by roster name place roster.members refl h

-- ---- one more line

pub lines_push : (roster : Rows) (product place : ℕ) (parts : List ProposalPart) (part : ProposalPart) → place ≡ product + length parts
    → lines_from roster product (parts ++ (part ∷ [])) ≡ lines_from roster product parts ++ lines_of_part roster place part
lines_push roster product place [] part e =
    let same : place ≡ product = omega arith in
    append-nil (lines_of_part roster product part) ∙ ap (λ k. lines_of_part roster k part) (sym same)
lines_push roster product place (first ∷ parts) part e =
    let further : place ≡ (product + 1) + length parts = omega arith in
    ap (λ t. lines_of_part roster product first ++ t) (lines_push roster (product + 1) place parts part further)
    ∙ sym (append_assoc (lines_of_part roster product first) (lines_from roster (product + 1) parts) (lines_of_part roster place part))

-- a row's line, and a potential's, behind those of the part that is begun
in_rows : (l h r x : List ℕ) → l ++ (h ++ (r ++ x) ++ []) ≡ (l ++ (h ++ r ++ [])) ++ x
in_rows l h r x =
    ap (λ t. l ++ t) (append-nil (h ++ (r ++ x)) ∙ sym (append_assoc h r x)) ∙ sym (append_assoc l (h ++ r) x) ∙ ap (λ t. (l ++ t) ++ x) (sym (append-nil (h ++ r)))

in_potentials : (l h r p x : List ℕ) → l ++ (h ++ r ++ (p ++ x)) ≡ (l ++ (h ++ r ++ p)) ++ x
in_potentials l h r p x = ap (λ t. l ++ t) (sym (append_assoc (h ++ r) p x)) ∙ sym (append_assoc l (h ++ r ++ p) x)

-- no part is begun
abbrev idle : List ProposalPart → Bool → Reading
idle parts ended = record (between parts) { has_ended = ended }

no_row : (parts : List ProposalPart) (ended : Bool) (seller buyer : Option ℕ) (amount : ℕ) (next : Reading) → with_row (idle parts ended) seller buyer amount ≡ Some next → ⊥
no_row parts ended None buyer amount next e = cc
no_row parts ended (Some seller) None amount next e = cc
no_row parts ended (Some seller) (Some buyer) amount next e = cc

module _ (roster : Rows) (parts : List ProposalPart) (next : Reading) where
  product_goes : (name : List ℕ) (figures : Figures) → with_said roster (between parts) (Some (Product name figures)) ≡ Some next → Goes roster (Between parts) (line_text (Product name figures)) next
  product_goes name figures e =
      let c = cond_some (is_product_row (slice_get roster.products (length parts)) name) (in_part parts figures [] []) next e in
      let named : product_name roster (length parts) ≡ name = product_named (slice_get roster.products (length parts)) name c.0 in
      let head = head_text roster (length parts) figures in
      let line : head ≡ line_text (Product name figures) ++ codes "\n" =
      ap (λ (n : List ℕ). codes "product " ++ n ++ codes " " ++ decimal figures.gross ++ codes " " ++ decimal figures.least ++ codes " " ++ decimal figures.floor_m ++ codes " " ++ decimal figures.bilateral ++ codes "\n") named
      ∙ ap (λ t. t ++ codes "\n") (product_words name (decimal figures.gross) (decimal figures.least) (decimal figures.floor_m) (decimal figures.bilateral)) in
      record { to = InPart parts figures [] []; is = c.1; text = ap (λ t. lines_from roster 0 parts ++ t) (append-nil (head ++ []) ∙ append-nil head ∙ line) }

  row_goes : (figures : Figures) (rows : List NetworkRow) (sold bought : List ℕ) (amount : ℕ) (seller buyer : Option ℕ) (potentials : List ℤ) → member_place roster sold ≡ seller → member_place roster bought ≡ buyer
      → with_row (in_part parts figures rows potentials) seller buyer amount ≡ Some next → Goes roster (InPart parts figures rows potentials) (line_text (Row sold bought amount)) next
  row_goes figures rows sold bought amount None buyer potentials s b e = absurd cc
  row_goes figures rows sold bought amount (Some seller) None potentials s b e = absurd cc
  row_goes figures rows sold bought amount (Some seller) (Some buyer) (value ∷ values) s b e =
      let row : NetworkRow = record { seller = seller; buyer = buyer; amount = amount } in
      let none = eqb (length (value ∷ values)) 0 in
      let c = cond_some (none && fits rows row) (in_part parts figures (rows ++ (row ∷ [])) (value ∷ values)) next e in
      absurd (omega (arith, eqb-true (length (value ∷ values)) 0 (and_parts none (fits rows row) c.0).0))
  row_goes figures rows sold bought amount (Some seller) (Some buyer) [] s b e =
      let row : NetworkRow = record { seller = seller; buyer = buyer; amount = amount } in
      let c = cond_some (fits rows row) (in_part parts figures (rows ++ (row ∷ [])) []) next e in
      let line : row_text roster row ≡ line_text (Row sold bought amount) ++ codes "\n" =
      ap (λ (n : List ℕ). codes "row " ++ n ++ codes " " ++ member_name roster buyer ++ codes " " ++ decimal amount ++ codes "\n") (named roster sold seller s)
      ∙ ap (λ (n : List ℕ). codes "row " ++ sold ++ codes " " ++ n ++ codes " " ++ decimal amount ++ codes "\n") (named roster bought buyer b)
      ∙ ap (λ t. t ++ codes "\n") (row_words sold bought (decimal amount)) in
      let head = head_text roster (length parts) figures in
      let pushed = rows_push roster rows row ∙ ap (λ t. rows_text roster rows ++ t) line in
      record {
        to = InPart parts figures (rows ++ (row ∷ [])) [];
        is = c.1;
        text = ap (λ t. lines_from roster 0 parts ++ (head ++ t ++ [])) pushed ∙ in_rows (lines_from roster 0 parts) head (rows_text roster rows) (line_text (Row sold bought amount) ++ codes "\n");
      }

  pot_goes : (figures : Figures) (rows : List NetworkRow) (potentials : List ℤ) (member : List ℕ) (value : ℤ) → with_said roster (in_part parts figures rows potentials) (Some (Pot member value)) ≡ Some next
      → Goes roster (InPart parts figures rows potentials) (line_text (Pot member value)) next
  pot_goes figures rows potentials member value e =
      let place = length potentials in
      let c = cond_some (is_member_at roster place member) (in_part parts figures rows (potentials ++ (value ∷ []))) next e in
      let line : pot_text roster place value ≡ line_text (Pot member value) ++ codes "\n" =
      ap (λ (n : List ℕ). codes "pot " ++ n ++ codes " " ++ signed_decimal value ++ codes "\n") (member_named (slice_get roster.members place) member c.0)
      ∙ ap (λ t. t ++ codes "\n") (pot_words member (signed_decimal value)) in
      let head = head_text roster (length parts) figures in
      let pushed = pots_push roster 0 place potentials value (omega arith) ∙ ap (λ t. pots_text roster 0 potentials ++ t) line in
      record {
        to = InPart parts figures rows (potentials ++ (value ∷ []));
        is = c.1;
        text = ap (λ t. lines_from roster 0 parts ++ (head ++ rows_text roster rows ++ t)) pushed
            ∙ in_potentials (lines_from roster 0 parts) head (rows_text roster rows) (pots_text roster 0 potentials) (line_text (Pot member value) ++ codes "\n");
      }

  bound_goes : (figures : Figures) (rows : List NetworkRow) (potentials : List ℤ) (value : ℕ) → with_said roster (in_part parts figures rows potentials) (Some (Bound value)) ≡ Some next
      → Goes roster (InPart parts figures rows potentials) (line_text (Bound value)) next
  bound_goes figures rows potentials value e =
      let part = finished roster (in_part parts figures rows potentials) figures value in
      let c = cond_some (eqb (length potentials) (length roster.members)) (between (parts ++ (part ∷ []))) next e in
      let lines = head_text roster (length parts) figures ++ rows_text roster rows ++ pots_text roster 0 potentials in
      record {
        to = Between (parts ++ (part ∷ []));
        is = c.1;
        text = lines_push roster 0 (length parts) parts part (omega arith) ∙ sym (append_assoc (lines_from roster 0 parts) lines (line_text (Bound value) ++ codes "\n"));
      }

  end_goes : (count : ℕ) → with_said roster (between parts) (Some (End count)) ≡ Some next → Goes roster (Between parts) (line_text (End count)) next
  end_goes count e =
      let all = eqb (length parts) (length roster.products) in
      let told = eqb count (length roster.products) in
      let c = cond_some (all && told) (idle parts true) next e in
      let same : count ≡ length roster.products = eqb-true count (length roster.products) (and_parts all told c.0).1 in
      record { to = Ended parts; is = c.1; text = ap (λ n. lines_from roster 0 parts ++ (codes "end " ++ decimal n ++ codes "\n")) (sym same) }

-- a line that may stand at its place is one more line of the text
pub goes : (roster : Rows) (stage : Stage) (said : ProposalLine) (next : Reading) → with_said roster (reading_at stage) (Some said) ≡ Some next → Goes roster stage (line_text said) next
goes roster (Between parts) (Product name figures) next e = product_goes roster parts next name figures e
goes roster (Between parts) (Row seller buyer amount) next e = absurd (no_row parts false (member_place roster seller) (member_place roster buyer) amount next e)
goes roster (Between parts) (Pot member value) next e = absurd cc
goes roster (Between parts) (Bound value) next e = absurd cc
goes roster (Between parts) (End count) next e = end_goes roster parts next count e
goes roster (InPart parts figures rows potentials) (Product name figures') next e = absurd cc
goes roster (InPart parts figures rows potentials) (Row seller buyer amount) next e =
    row_goes roster parts next figures rows seller buyer amount (member_place roster seller) (member_place roster buyer) potentials refl refl e
goes roster (InPart parts figures rows potentials) (Pot member value) next e = pot_goes roster parts next figures rows potentials member value e
goes roster (InPart parts figures rows potentials) (Bound value) next e = bound_goes roster parts next figures rows potentials value e
goes roster (InPart parts figures rows potentials) (End count) next e = absurd cc
goes roster (Ended parts) (Product name figures) next e = absurd cc
goes roster (Ended parts) (Row seller buyer amount) next e = absurd (no_row parts true (member_place roster seller) (member_place roster buyer) amount next e)
goes roster (Ended parts) (Pot member value) next e = absurd cc
goes roster (Ended parts) (Bound value) next e = absurd cc
goes roster (Ended parts) (End count) next e = absurd cc
