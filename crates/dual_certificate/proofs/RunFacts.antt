-- A part says the same whatever stands before it, if the next product has its name.
use Rattle.std.proofs.Common.{◌≡◌, ◌∙◌, sym, ap, subst, refl, arith, ℕ, zero, suc, ◌+◌, ◌<◌, List, [], ◌∷◌, ◌++◌, length, length-append, get_or, Bool, true, false, ◌&&◌, cond, eqb, is_some, ℤ, Option, Some, None}
use Rattle.std.specs.List.{slice_get, position}
use Rattle.std.specs.Prelude.{All, IfSome}
use Rattle.std.proofs.lemmas.List.Elements.{All-pop, All-push}
use Rattle.std.proofs.lemmas.List.Sums.{passes_at_first}
use Rattle.std.proofs.lemmas.Option.{slice_get-get_or}
use Rattle.std.specs.Str.{bytes_eq}
use Rattle.command_types.specs.Roster.{Rows, member_place, product_place, is_member_at}
use Rattle.command_types.specs.declared.roster.ProductRow.{ProductRow}
use Rattle.network_laws.specs.declared.rows.Row.{Row as NetworkRow}
use Rattle.network_laws.specs.Solutions.{IsSolution}
use Rattle.dual_certificate.specs.declared.proposal_part.ProposalPart.{ProposalPart}
use Rattle.dual_certificate.specs.declared.proposal_draft.ProposalDraft.{ProposalDraft}
use Rattle.dual_certificate.specs.declared.proposal_line.Figures.{Figures}
use Rattle.dual_certificate.specs.declared.proposal_line.ProposalLine.{ProposalLine}
use Rattle.dual_certificate.specs.declared.proposal_line.ProposalLine.TheVariants.{Product, Row, Pot, Bound, End}
use Rattle.dual_certificate.specs.declared.proposal_run.ReadPart.{ReadPart}
use Rattle.dual_certificate.specs.declared.run_joiner.Joined.{Joined}
use Rattle.dual_certificate.specs.ProposalLine.{pieces, line_of}
use Rattle.dual_certificate.specs.Proposal.{Reading, nothing_read, after_parts, is_product_row, fits, finished, with_network_row, with_row, with_pot, with_finished, with_bound, with_product, with_said, with_pieces}
use Rattle.dual_certificate.specs.ProposalDraft.{IsDraft, reading_of}
use Rattle.dual_certificate.specs.Runs.{inside, is_inner, BeginsPart, AddsLine, EndsPart, IsPart, IsJoined, ReadsParts, rest_behind}
use Rattle.dual_certificate.proofs.PartFacts.{chosen}
use Rattle.dual_certificate.proofs.PieceFacts.{placed}
use Rattle.dual_certificate.proofs.ReadFacts.{stands}

row_inside : (d new : ProposalDraft) (before : List ProposalPart) (row : NetworkRow) → with_network_row (reading_of d) row ≡ Some (reading_of new) → with_network_row (inside before d) row ≡ Some (inside before new)
row_inside d new before row e =
    let r = reading_of d in
    let c = chosen (is_some r.figures && eqb (length r.potentials) 0 && fits r.rows row) (record r { rows = r.rows ++ row ∷ [] }) (reading_of new) e in
    let there : Reading = record (inside before d) { rows = r.rows ++ row ∷ [] } in
    ap (λ b. cond b (Some there) None) c.0 ∙ ap (λ (r : Reading). let o : Option Reading = Some (record r { parts = before; has_ended = false }) in o) c.1

named_inside : (d new : ProposalDraft) (before : List ProposalPart) (seller buyer : Option ℕ) (amount : ℕ) → with_row (reading_of d) seller buyer amount ≡ Some (reading_of new)
    → with_row (inside before d) seller buyer amount ≡ Some (inside before new)
named_inside d new before None buyer amount e = absurd cc
named_inside d new before (Some seller) None amount e = absurd cc
named_inside d new before (Some seller) (Some buyer) amount e = row_inside d new before (record { seller = seller; buyer = buyer; amount = amount }) e

pot_inside : (roster : Rows) (d new : ProposalDraft) (before : List ProposalPart) (name : List ℕ) (value : ℤ) → with_pot roster (reading_of d) name value ≡ Some (reading_of new)
    → with_pot roster (inside before d) name value ≡ Some (inside before new)
pot_inside roster d new before name value e =
    let r = reading_of d in
    let c = chosen (is_some r.figures && is_member_at roster (length r.potentials) name) (record r { potentials = r.potentials ++ value ∷ [] }) (reading_of new) e in
    let there : Reading = record (inside before d) { potentials = r.potentials ++ value ∷ [] } in
    ap (λ b. cond b (Some there) None) c.0 ∙ ap (λ (r : Reading). let o : Option Reading = Some (record r { parts = before; has_ended = false }) in o) c.1

-- a row or a potential more
pub adds_line : (roster : Rows) (d new : ProposalDraft) (line : ProposalLine) → is_inner line ≡ true → IsDraft roster new → with_said roster (reading_of d) (Some line) ≡ Some (reading_of new) → AddsLine roster d line new
adds_line roster d new (Product name figures) inner draft says = absurd cc
adds_line roster d new (Row seller buyer amount) inner draft says =
    record { draft = draft; says = λ before. named_inside d new before (member_place roster seller) (member_place roster buyer) amount says }
adds_line roster d new (Pot member value) inner draft says = record { draft = draft; says = λ before. pot_inside roster d new before member value says }
adds_line roster d new (Bound value) inner draft says = absurd cc
adds_line roster d new (End count) inner draft says = absurd cc

last_place : {X : Type 0} (xs : List X) (x d : X) → get_or (xs ++ x ∷ []) (length xs) d ≡ x
last_place [] x d = refl
last_place (y ∷ xs) x d = last_place xs x d

same_last : {X : Type 0} (xs ys : List X) (x y : X) → xs ++ x ∷ [] ≡ ys ++ y ∷ [] → x ≡ y
same_last xs ys x y e =
    let size : length xs ≡ length ys = omega (arith, ap length e, length-append xs (x ∷ []), length-append ys (y ∷ [])) in
    sym (last_place xs x x) ∙ ap (λ zs. get_or zs (length xs) x) e ∙ ap (λ k. get_or (ys ++ y ∷ []) k x) size ∙ last_place ys y x

finished_inside : (roster : Rows) (d new : ProposalDraft) (before left : List ProposalPart) (part : ProposalPart) (figures : Option Figures) (value : ℕ) → with_finished roster (reading_of d) figures value ≡ Some (reading_of new)
    → new.parts.items ≡ left ++ part ∷ [] → with_finished roster (inside before d) figures value ≡ Some (after_parts (before ++ part ∷ []))
finished_inside roster d new before left part None value e last = absurd cc
finished_inside roster d new before left part (Some figures) value e last =
    let r = reading_of d in
    let made = finished roster r figures value in
    let c = chosen (eqb (length r.potentials) (length roster.members)) (record r { parts = r.parts ++ made ∷ []; figures = None; rows = []; potentials = [] }) (reading_of new) e in
    let pushed : r.parts ++ made ∷ [] ≡ left ++ part ∷ [] = ap (λ (r : Reading). r.parts) c.1 ∙ last in
    let same : made ≡ part = same_last r.parts left made part pushed in
    ap (λ b. cond b (Some (after_parts (before ++ made ∷ []))) None) c.0 ∙ ap (λ (p : ProposalPart). let o : Option Reading = Some (after_parts (before ++ p ∷ [])) in o) same

-- the last line of a part
pub ends_part : (roster : Rows) (d new : ProposalDraft) (value : ℕ) (left : List ProposalPart) (part : ProposalPart) → IsDraft roster new → with_bound roster (reading_of d) value ≡ Some (reading_of new)
    → new.parts.items ≡ left ++ part ∷ [] → EndsPart roster d value part
ends_part roster d new value left part draft says last = record {
  good = (All-pop (λ (part : ProposalPart). IsSolution part.solution) new.parts.items left (Some part) last draft.good).1;
  says = λ before. finished_inside roster d new before left part d.figures value says last;
}

product_here : (row : ProductRow) (rows : List ProductRow) (name : List ℕ) (place : ℕ) → slice_get rows place ≡ Some row → position (λ (row : ProductRow). bytes_eq row.name name) rows ≡ Some place
    → is_product_row (slice_get rows place) name ≡ true
product_here row rows name place got at =
    let p : ProductRow → Bool = λ row. bytes_eq row.name name in
    let first = placed p rows place at in
    let here : p (get_or rows place row) ≡ true = subst (λ k. p (get_or rows k row) ≡ true) first.0 (passes_at_first p rows row (omega (arith, first.0, first.1))) in
    ap (λ o. is_product_row o name) (slice_get-get_or rows place row first.1) ∙ here

some_there : (rows : List ProductRow) (place : ℕ) → place < length rows → (row : ProductRow) × (slice_get rows place ≡ Some row)
some_there [] place within = absurd (omega arith)
some_there (row ∷ rows) zero within = (row, refl)
some_there (row ∷ rows) (suc place) within = some_there rows place (omega arith)

-- the product that has a name
pub named_product : (roster : Rows) (name : List ℕ) (place : ℕ) → product_place roster name ≡ Some place → is_product_row (slice_get roster.products place) name ≡ true
named_product roster name place at =
    let there = some_there roster.products place (placed (λ (row : ProductRow). bytes_eq row.name name) roster.products place at).1 in
    product_here there.0 roster.products name place there.1 at

-- the first line of a part
pub begins_part : (roster : Rows) (name : List ℕ) (figures : Figures) (place : ℕ) (d : ProposalDraft) → product_place roster name ≡ Some place
    → reading_of d ≡ record nothing_read { figures = Some figures } → IsDraft roster d → BeginsPart roster (Product name figures) place d
begins_part roster name figures place d at is draft = record {
  draft = draft;
  says = λ before count.
      let begun : Reading = record (after_parts before) { figures = Some figures } in
      let named : is_product_row (slice_get roster.products (length before)) name ≡ true = subst (λ k. is_product_row (slice_get roster.products k) name ≡ true) (sym count) (named_product roster name place at) in
      let takes : with_product roster (after_parts before) name figures ≡ Some (inside before d) =
      ap (λ b. cond b (Some begun) None) named ∙ ap (λ (r : Reading). let o : Option Reading = Some (record r { parts = before; has_ended = false }) in o) (sym is) in
      takes;
}

-- the first line of a part, where its product was looked for
pub begins_named : {A : Type 0} (roster : Rows) (name : List ℕ) (figures : Figures) (line : ProposalLine) (place : A → ℕ) (draft : A → ProposalDraft) (found : Option A) → line ≡ Product name figures
    → IfSome found (λ a. product_place roster name ≡ Some (place a)) → IfSome found (λ a. reading_of (draft a) ≡ record nothing_read { figures = Some figures }) → IfSome found (λ a. IsDraft roster (draft a))
    → IfSome found (λ a. BeginsPart roster line (place a) (draft a))
begins_named roster name figures line place draft None is at read good = tt
begins_named roster name figures line place draft (Some a) is at read good =
    subst (λ (line : ProposalLine). BeginsPart roster line (place a) (draft a)) (sym is) (begins_part roster name figures (place a) (draft a) at read good)

-- a further line of a part
pub goes_further : (roster : Rows) (n lines : ℕ) (before : List ProposalPart) (d : ProposalDraft) (next : Reading) (text rest line more : List ℕ) (said : ProposalLine)
    → with_pieces roster n (after_parts before) (pieces 10 text) ≡ with_pieces roster (n + lines) (inside before d) (pieces 10 rest) → pieces 10 rest ≡ line ∷ pieces 10 more → line_of line ≡ Some said
    → with_said roster (inside before d) (Some said) ≡ Some next → with_pieces roster n (after_parts before) (pieces 10 text) ≡ with_pieces roster (n + (lines + 1)) next (pieces 10 more)
goes_further roster n lines before d next text rest line more said so_far cut is says =
    let at : n + lines + 1 ≡ n + (lines + 1) = omega arith in
    so_far ∙ stands roster (n + lines) (inside before d) next rest line more cut (ap (with_said roster (inside before d)) is ∙ says) ∙ ap (λ k. with_pieces roster k next (pieces 10 more)) at

-- a part in front of a text
pub part_joined : (roster : Rows) (bytes : List ℕ) (joined new : Joined) (read : ReadPart) → IsPart roster joined.rest.now read → IsJoined roster bytes joined → length joined.parts.items ≡ read.product
    → new.parts.items ≡ joined.parts.items ++ read.part ∷ [] → new.row ≡ joined.row + read.lines → new.rest.now ≡ read.rest.now → IsJoined roster bytes new
part_joined roster bytes joined new read part h next parts row rest = record {
  good = subst (λ (ps : List ProposalPart). All (λ part. IsSolution part.solution) ps) (sym parts) (All-push (λ (part : ProposalPart). IsSolution part.solution) joined.parts.items read.part h.good part.good);
  shorter = omega (arith, h.shorter, part.shorter, row, ap length rest);
  says = h.says ∙ part.says joined.row joined.parts.items next ∙ rw (parts, row, rest) refl;
}

pub no_parts : (roster : Rows) (text : List ℕ) → ReadsParts roster text [] × (rest_behind text [] ≡ text)
unfolding ReadsParts rest_behind
no_parts roster text = (tt, refl)

-- one part more
pub parts_more : (roster : Rows) (text : List ℕ) (parts : List ReadPart) (read : ReadPart) → ReadsParts roster text parts → IsPart roster (rest_behind text parts) read
    → ReadsParts roster text (parts ++ read ∷ []) × (rest_behind text (parts ++ read ∷ []) ≡ read.rest.now)
unfolding ReadsParts rest_behind
parts_more roster text [] read h is = ((is, tt), refl)
parts_more roster text (first ∷ parts) read h is = let more = parts_more roster first.rest.now parts read h.1 is in ((h.0, more.0), more.1)

-- the first of some parts
pub first_part : (roster : Rows) (text : List ℕ) (parts more : List ReadPart) (read : ReadPart) → parts ≡ read ∷ more → ReadsParts roster text parts → IsPart roster text read × ReadsParts roster read.rest.now more
unfolding ReadsParts
first_part roster text parts more read is h = subst (λ (ps : List ReadPart). ReadsParts roster text ps) is h
