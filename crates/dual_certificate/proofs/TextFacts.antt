-- One more line behind those that were written.
use Rattle.std.proofs.Common.{◌≡◌, ◌∙◌, sym, ap, refl, ℕ, ◌+◌, List, [], ◌∷◌, ◌++◌, length, get_or, ◌<◌, suc, Some, ℤ, append_assoc, add-one, arith, codes, decimal}
use Rattle.std.proofs.lemmas.List.{append-nil}
use Rattle.std.specs.List.{slice_get}
use Rattle.std.specs.declared.alloc.Global.{Global}
use Rattle.std.specs.declared.vec.Vec.{Vec}
use Rattle.std.proofs.lemmas.Option.{slice_get_read}
use Rattle.network_laws.specs.declared.rows.Row.{Row}
use Rattle.network_laws.specs.Networks.{NetworkData}
use Rattle.network_laws.specs.Solutions.{SolutionData}
use Rattle.command_types.specs.Roster.{Rows}
use Rattle.dual_certificate.specs.ProposalText.{product_text, row_text, rows_text, pot_text, pots_text, part_of, parts_below, proposal_text}
use Rattle.dual_certificate.specs.Joining.{ArePartTexts}
use Rattle.dual_certificate.specs.SummaryText.{summary_line, summary_below}

-- what was written behind what was written
pub behind : (a b c x y : List ℕ) → b ≡ a ++ x → c ≡ b ++ y → c ≡ a ++ (x ++ y)
behind a b c x y first second = second ∙ ap (λ t. t ++ y) first ∙ append_assoc a x y

pub rows_push : (roster : Rows) (rows : List Row) (row : Row) → rows_text roster (rows ++ (row ∷ [])) ≡ rows_text roster rows ++ row_text roster row
rows_push roster [] row = append-nil (row_text roster row)
rows_push roster (r ∷ rows) row =
    ap (λ t. row_text roster r ++ t) (rows_push roster rows row) ∙ sym (append_assoc (row_text roster r) (rows_text roster rows) (row_text roster row))

pub pots_push : (roster : Rows) (member place : ℕ) (values : List ℤ) (value : ℤ) → place ≡ member + length values → pots_text roster member (values ++ (value ∷ [])) ≡ pots_text roster member values ++ pot_text roster place value
pots_push roster member place [] value e =
    let same : place ≡ member = omega arith in
    append-nil (pot_text roster member value) ∙ ap (λ m. pot_text roster m value) (sym same)
pots_push roster member place (v ∷ values) value e =
    let further : place ≡ (member + 1) + length values = omega arith in
    ap (λ t. pot_text roster member v ++ t) (pots_push roster (member + 1) place values value further)
    ∙ sym (append_assoc (pot_text roster member v) (pots_text roster (member + 1) values) (pot_text roster place value))

-- the lines of one product more
pub part_joined : (roster : Rows) (olds : List NetworkData) (news : List SolutionData) (texts : List (Vec ℕ Global)) (n : ℕ) (before after : List ℕ) (text : Vec ℕ Global)
    → ArePartTexts roster olds news texts → before ≡ parts_below roster olds news n → n < length texts → text ≡ get_or texts n text → after ≡ before ++ text.items
    → after ≡ parts_below roster olds news (n + 1)
part_joined roster olds news texts n before after text are b within is more =
    let this : text.items ≡ part_of roster n (slice_get olds n) (slice_get news n) = ap (λ (v : Vec ℕ Global). v.items) is ∙ are.each n text within in
    let one : n + 1 ≡ suc n = add-one n in
    more ∙ ap (λ t. t ++ text.items) b ∙ ap (λ t. parts_below roster olds news n ++ t) this ∙ ap (parts_below roster olds news) (sym one)

-- the last line behind the lines of all products
pub all_joined : (roster : Rows) (olds : List NetworkData) (news : List SolutionData) (n : ℕ) (out end whole : List ℕ)
    → out ≡ parts_below roster olds news n → n ≡ length roster.products → end ≡ out ++ codes "end " ++ decimal n → whole ≡ end ++ codes "\n" → whole ≡ proposal_text roster olds news
all_joined roster olds news n out end whole o is e w =
    let below : List ℕ = parts_below roster olds news n in
    let last : List ℕ = codes "end " ++ decimal n in
    let told : end ≡ below ++ last = e ∙ append_assoc out (codes "end ") (decimal n) ∙ ap (λ t. t ++ last) o in
    behind below end whole last (codes "\n") told w ∙ ap (λ k. parts_below roster olds news k ++ (codes "end " ++ decimal k ++ codes "\n")) is

-- the summary's line of one product more
pub summary_more : (roster : Rows) (olds : List NetworkData) (news : List SolutionData) (n : ℕ) (before : List ℕ) (old : NetworkData) (new : SolutionData)
    → before ≡ summary_below roster olds news n → n < length olds → n < length news → old ≡ get_or olds n old → new ≡ get_or news n new
    → before ++ product_text roster n old new.network ≡ summary_below roster olds news (n + 1)
summary_more roster olds news n before old new b in_olds in_news is_old is_new =
    let first : slice_get olds n ≡ Some old = slice_get_read olds (length olds) n old refl in_olds is_old in
    let second : slice_get news n ≡ Some new = slice_get_read news (length news) n new refl in_news is_new in
    let one : n + 1 ≡ suc n = add-one n in
    ap (λ t. t ++ product_text roster n old new.network) b
    ∙ ap (λ o. summary_below roster olds news n ++ summary_line roster n o (Some new)) (sym first)
    ∙ ap (λ o. summary_below roster olds news n ++ summary_line roster n (slice_get olds n) o) (sym second)
    ∙ ap (summary_below roster olds news) (sym one)
