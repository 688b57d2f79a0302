-- What is read of a proposal has one part for each product.
use Rattle.std.proofs.Common.{◌≡◌, ap, subst, refl, ℕ, ◌+◌, List, [], ◌∷◌, ◌++◌, length, All, Bool, true, false, not, ◌&&◌, cond, eqb, is_some, ℤ, rules, Option, Some, None, Result, Ok, Err}
use Rattle.std.specs.List.{slice_get}
use Rattle.std.specs.Result.{IfOk}
use Rattle.std.proofs.lemmas.Bool.{eqb-true}
use Rattle.std.proofs.lemmas.List.Elements.{All-push}
use Rattle.command_types.specs.Roster.{Rows, member_place, is_member_at}
use Rattle.command_types.specs.declared.file_fault.FileFault.{FileFault}
use Rattle.command_types.specs.declared.file_fault.FileFault.TheVariants.{BadLine}
use Rattle.dual_certificate.specs.declared.proposal_part.ProposalPart.{ProposalPart}
use Rattle.dual_certificate.specs.declared.proposal_line.Figures.{Figures}
use Rattle.dual_certificate.specs.declared.proposal_line.ProposalLine.{ProposalLine}
use Rattle.dual_certificate.specs.declared.proposal_line.ProposalLine.TheVariants.{Product, Row, Pot, Bound, End}
use Rattle.dual_certificate.specs.ProposalLine.{line_of}
use Rattle.dual_certificate.specs.Proposal.{Reading, nothing_read, is_between, is_product_row, fits, finished, with_product, with_network_row, with_row, with_pot, with_finished, with_end, with_said, with_line, go_on, at_end, with_pieces}
use Rattle.dual_certificate.specs.Writing.{HasMembers}
use Rattle.dual_certificate.specs.Parts.{AreParts}
use Rattle.network_laws.specs.declared.rows.Row.{Row as NetworkRow}
use Rattle.network_laws.specs.Solutions.{IsSolution}

-- each part is one of the roster's members, and once the last line came there is one for each product
record IsReading (roster : Rows) (r : Reading) : Type 0 where
  members : All (λ (part : ProposalPart). HasMembers roster part.solution.network) r.parts
  potentials : All (λ (part : ProposalPart). length part.solution.potentials ≡ length roster.members) r.parts
  ended : r.has_ended ≡ true → (r.figures ≡ None) × (length r.parts ≡ length roster.products)

both : (a b : Bool) → (a && b) ≡ true → (a ≡ true) × (b ≡ true)
both true true h = (refl, refl)
both true false h = absurd cc
both false b h = absurd cc

not_true : (b : Bool) → not b ≡ true → b ≡ false
not_true true h = absurd cc
not_true false h = refl

none_of : {A : Type 0} (o : Option A) → not (is_some o) ≡ true → o ≡ None
none_of None h = refl
none_of (Some x) h = absurd cc

some_is : {A : Type 0} (x y : A) → (let o : Option A = Some x in o) ≡ Some y → x ≡ y
some_is x y h = ap (λ o. elim o [ None ↦ x | Some z ↦ z ]) h

-- what a choice gave
pub chosen : {A : Type 0} (b : Bool) (x y : A) → cond b (Some x) None ≡ Some y → (b ≡ true) × (x ≡ y)
chosen true x y h = (refl, some_is x y h)
chosen false x y h = absurd cc

between : (r : Reading) → is_between r ≡ true → (r.has_ended ≡ false) × (r.figures ≡ None)
between r h =
    let p = both (not r.has_ended) (not (is_some r.figures)) h in
    (not_true r.has_ended p.0, none_of r.figures p.1)

product_kept : (roster : Rows) (r next : Reading) (name : List ℕ) (figures : Figures) → IsReading roster r → with_product roster r name figures ≡ Some next → IsReading roster next
product_kept roster r next name figures h e =
    let c = chosen (is_between r && is_product_row (slice_get roster.products (length r.parts)) name) (record r { figures = Some figures }) next e in
    let open_ = (between r (both (is_between r) _ c.0).0).0 in
    subst (IsReading roster) c.1 (record { members = h.members; potentials = h.potentials; ended = λ t. absurd cc })

row_kept : (roster : Rows) (r next : Reading) (row : NetworkRow) → IsReading roster r → with_network_row r row ≡ Some next → IsReading roster next
row_kept roster r next row h e =
    let c = chosen (is_some r.figures && eqb (length r.potentials) 0 && fits r.rows row) (record r { rows = r.rows ++ row ∷ [] }) next e in
    subst (IsReading roster) c.1 (record { members = h.members; potentials = h.potentials; ended = h.ended })

named_kept : (roster : Rows) (r next : Reading) (seller buyer : Option ℕ) (amount : ℕ) → IsReading roster r → with_row r seller buyer amount ≡ Some next → IsReading roster next
named_kept roster r next None buyer amount h e = absurd cc
named_kept roster r next (Some seller) None amount h e = absurd cc
named_kept roster r next (Some seller) (Some buyer) amount h e = row_kept roster r next (record { seller = seller; buyer = buyer; amount = amount }) h e

pot_kept : (roster : Rows) (r next : Reading) (name : List ℕ) (value : ℤ) → IsReading roster r → with_pot roster r name value ≡ Some next → IsReading roster next
pot_kept roster r next name value h e =
    let c = chosen (is_some r.figures && is_member_at roster (length r.potentials) name) (record r { potentials = r.potentials ++ value ∷ [] }) next e in
    subst (IsReading roster) c.1 (record { members = h.members; potentials = h.potentials; ended = h.ended })

finished_kept : (roster : Rows) (r next : Reading) (figures : Option Figures) (value : ℕ) → IsReading roster r → figures ≡ r.figures → with_finished roster r figures value ≡ Some next → IsReading roster next
finished_kept roster r next None value h is e = absurd cc
finished_kept roster r next (Some figures) value h is e =
    let part = finished roster r figures value in
    let c = chosen (eqb (length r.potentials) (length roster.members)) (record r { parts = r.parts ++ part ∷ []; figures = None; rows = []; potentials = [] }) next e in
    let each : length r.potentials ≡ length roster.members = eqb-true (length r.potentials) (length roster.members) c.0 in
    subst (IsReading roster) c.1 (record {
      members = All-push (λ (part : ProposalPart). HasMembers roster part.solution.network) r.parts part h.members refl;
      potentials = All-push (λ (part : ProposalPart). length part.solution.potentials ≡ length roster.members) r.parts part h.potentials each;
      ended = λ t. (let none = (h.ended t).0 in absurd cc);
    })

end_kept : (roster : Rows) (r next : Reading) (count : ℕ) → IsReading roster r → with_end roster r count ≡ Some next → IsReading roster next
end_kept roster r next count h e =
    let c = chosen (is_between r && eqb (length r.parts) (length roster.products) && eqb count (length roster.products)) (record r { has_ended = true }) next e in
    let p = both (is_between r && eqb (length r.parts) (length roster.products)) _ c.0 in
    let q = both (is_between r) (eqb (length r.parts) (length roster.products)) p.0 in
    let none = (between r q.0).1 in
    let all = eqb-true (length r.parts) (length roster.products) q.1 in
    subst (IsReading roster) c.1 (record { members = h.members; potentials = h.potentials; ended = λ t. (none, all) })

said_kept : (roster : Rows) (r next : Reading) (said : Option ProposalLine) → IsReading roster r → with_said roster r said ≡ Some next → IsReading roster next
said_kept roster r next None h e = absurd cc
said_kept roster r next (Some (Product name figures)) h e = product_kept roster r next name figures h e
said_kept roster r next (Some (Row seller buyer amount)) h e = named_kept roster r next (member_place roster seller) (member_place roster buyer) amount h e
said_kept roster r next (Some (Pot member value)) h e = pot_kept roster r next member value h e
said_kept roster r next (Some (Bound value)) h e = finished_kept roster r next r.figures value h refl e
said_kept roster r next (Some (End count)) h e = end_kept roster r next count h e

ok_is : (x y : List ProposalPart) → (let o : Result (List ProposalPart) FileFault = Ok x in o) ≡ Ok y → x ≡ y
ok_is x y h = ap (λ o. elim o [ Ok z ↦ z | Err f ↦ x ]) h

pub taken : (b : Bool) (x y : List ProposalPart) (fault : FileFault) → cond b (Ok x) (Err fault) ≡ Ok y → (b ≡ true) × (x ≡ y)
taken true x y fault h = (refl, ok_is x y h)
taken false x y fault h = absurd cc

-- the solution of each part is well-formed
abbrev AreGood : List ProposalPart → Type 0
AreGood parts = All (λ (part : ProposalPart). IsSolution part.solution) parts

done : (roster : Rows) (n : ℕ) (r : Reading) (rest : List ℕ) (parts : List ProposalPart) → AreGood parts → IsReading roster r → at_end n r rest ≡ Ok parts → AreParts roster parts
done roster n r rest parts good h e =
    let got = taken (eqb (length rest) 0 && r.has_ended) r.parts parts (BadLine n) e in
    let p = both (eqb (length rest) 0) r.has_ended got.0 in
    let all : AreGood r.parts = rw got.1 good in
    subst (AreParts roster) got.1 (record { count = (h.ended p.1).1; members = h.members; potentials = h.potentials; good = all })

further : (roster : Rows) (n : ℕ) (r : Reading) (piece : List ℕ) (more : List (List ℕ)) (parts : List ProposalPart) → IsReading roster r
    → ((next : Reading) → IsReading roster next → with_pieces roster (n + 1) next more ≡ Ok parts → AreParts roster parts)
    → (o : Option Reading) → with_line roster r piece ≡ o → go_on n (λ next. with_pieces roster (n + 1) next more) o ≡ Ok parts → AreParts roster parts
further roster n r piece more parts h rest None w e = absurd cc
further roster n r piece more parts h rest (Some next) w e = rest next (said_kept roster r next (line_of piece) h w) e

behind : (roster : Rows) (n : ℕ) (r : Reading) (piece : List ℕ) (more : List (List ℕ)) (parts : List ProposalPart) → AreGood parts → IsReading roster r
    → ((next : Reading) → IsReading roster next → with_pieces roster (n + 1) next more ≡ Ok parts → AreParts roster parts)
    → (t : Bool) → cond t (at_end n r piece) (go_on n (λ next. with_pieces roster (n + 1) next more) (with_line roster r piece)) ≡ Ok parts → AreParts roster parts
behind roster n r piece more parts good h rest true e = done roster n r piece parts good h e
behind roster n r piece more parts good h rest false e = further roster n r piece more parts h rest (with_line roster r piece) refl e

parts_of_pieces : (roster : Rows) (n : ℕ) (r : Reading) (texts : List (List ℕ)) (parts : List ProposalPart) → AreGood parts → IsReading roster r → with_pieces roster n r texts ≡ Ok parts → AreParts roster parts
unfolding with_pieces
parts_of_pieces roster n r [] parts good h e = absurd cc
parts_of_pieces roster n r (piece ∷ more) parts good h e =
    behind roster n r piece more parts good h (λ next h' e'. parts_of_pieces roster (n + 1) next more parts good h' e') (eqb (length more) 0) e

-- the parts that the lines say are those of the roster
pub parts_within : {A : Type 0} (roster : Rows) (texts : List (List ℕ)) (items : A → List ProposalPart) (result : Result A FileFault)
    → IfOk result (λ v. All (λ (part : ProposalPart). IsSolution part.solution) (items v)) → IfOk result (λ v. with_pieces roster 1 nothing_read texts ≡ Ok (items v)) → IfOk result (λ v. AreParts roster (items v))
parts_within roster texts items (Ok v) good h =
    parts_of_pieces roster 1 nothing_read texts (items v) good (record { members = search rules; potentials = search rules; ended = λ t. absurd cc }) h
parts_within roster texts items (Err fault) good h = tt

-- the parts that were handed out are those of the draft
pub solutions_within : {A : Type 0} (items : A → List ProposalPart) (parts : List ProposalPart) (result : Result A FileFault) → All (λ (part : ProposalPart). IsSolution part.solution) parts
    → IfOk result (λ v. items v ≡ parts) → IfOk result (λ v. All (λ (part : ProposalPart). IsSolution part.solution) (items v))
solutions_within items parts (Ok v) good e = rw e good
solutions_within items parts (Err fault) good e = tt
