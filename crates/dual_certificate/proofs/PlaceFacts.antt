-- Where names differ, a member is found by its name at its own place.
use Rattle.std.proofs.Common.{◌≡◌, ◌∙◌, sym, ap, refl, ℕ, zero, suc, ◌+◌, ◌<◌, List, [], ◌∷◌, ◌++◌, length, map, true, false, not, cond, ltb, Some, None, arith, append_assoc}
use Rattle.std.proofs.lemmas.Bool.{and_parts, not-true, or_parts, cond-true, lt-ltb}
use Rattle.std.proofs.lemmas.List.Elements.{All-head, All-tail}
use Rattle.std.proofs.lemmas.Option.{same_Some, slice_get_within}
use Rattle.std.proofs.lemmas.Slice.Eq.{bytes_eq-Decides}
use Rattle.std.specs.List.{All, list_any, slice_get, position_or_len}
use Rattle.std.specs.Str.{bytes_eq}
use Rattle.command_types.specs.declared.roster.MemberRow.{MemberRow}
use Rattle.command_types.specs.declared.roster.ProductRow.{ProductRow}
use Rattle.command_types.specs.Roster.{Rows, IsRoster, member_place, is_member_at, is_member_row, are_different, operator_names}
use Rattle.dual_certificate.specs.Proposal.{is_product_row}

-- the element at a place, with what all have
pub record IsAt {X : Type 0} (P : X → Type 0) (xs : List X) (place : ℕ) : Type 0 where
  pub row : X
  pub there : slice_get xs place ≡ Some row
  pub has : P row

pub at_place : {X : Type 0} (P : X → Type 0) (xs : List X) (place : ℕ) → All P xs → place < length xs → IsAt P xs place
at_place P [] place all l = absurd (omega arith)
at_place P (x ∷ xs) zero all l = record { row = x; there = refl; has = All-head P x xs all }
at_place P (x ∷ xs) (suc place) all l =
    let rest = at_place P xs place (All-tail P x xs all) (omega arith) in
    record { row = rest.row; there = rest.there; has = rest.has }

pub same_bytes : (name : List ℕ) → bytes_eq name name ≡ true
same_bytes name = (bytes_eq-Decides name name).1 refl

-- a name that no name behind it is
none_there : (name : List ℕ) (rows : List MemberRow) (others : List (List ℕ)) (place : ℕ) (row : MemberRow) → list_any (bytes_eq name) (map (λ (row : MemberRow). row.name) rows ++ others) ≡ false
    → slice_get rows place ≡ Some row → bytes_eq name row.name ≡ false
none_there name [] others place row h e = absurd cc
none_there name (first ∷ rows) others zero row h e =
    let p = or_parts (bytes_eq name first.name) (list_any (bytes_eq name) (map (λ (row : MemberRow). row.name) rows ++ others)) h in
    ap (λ (r : MemberRow). bytes_eq name r.name) (sym (same_Some first row e)) ∙ p.0
none_there name (first ∷ rows) others (suc place) row h e =
    let p = or_parts (bytes_eq name first.name) (list_any (bytes_eq name) (map (λ (row : MemberRow). row.name) rows ++ others)) h in
    none_there name rows others place row p.1 e

first_at : (rows : List MemberRow) (others : List (List ℕ)) (place : ℕ) (row : MemberRow) → are_different (map (λ (row : MemberRow). row.name) rows ++ others) ≡ true → slice_get rows place ≡ Some row
    → position_or_len (λ (r : MemberRow). bytes_eq r.name row.name) rows ≡ place
first_at [] others place row h e = absurd cc
first_at (first ∷ rows) others zero row h e =
    let same : bytes_eq first.name row.name ≡ true = ap (λ (r : MemberRow). bytes_eq first.name r.name) (sym (same_Some first row e)) ∙ same_bytes first.name in
    ap (λ b. cond (not b) (1 + position_or_len (λ (r : MemberRow). bytes_eq r.name row.name) rows) 0) same
first_at (first ∷ rows) others (suc place) row h e =
    let names = map (λ (row : MemberRow). row.name) rows ++ others in
    let p = and_parts (not (list_any (bytes_eq first.name) names)) (are_different names) h in
    let other : bytes_eq first.name row.name ≡ false = none_there first.name rows others place row (not-true (list_any (bytes_eq first.name) names) p.0) e in
    ap (λ b. cond (not b) (1 + position_or_len (λ (r : MemberRow). bytes_eq r.name row.name) rows) 0) other
    ∙ omega (arith, first_at rows others place row p.1 e)

-- the member at a place is found there
pub place_back : (roster : Rows) (place : ℕ) (row : MemberRow) → IsRoster roster → slice_get roster.members place ≡ Some row → member_place roster row.name ≡ Some place
place_back roster place row is e =
    let members = map (λ (row : MemberRow). row.name) roster.members in
    let products = map (λ (row : ProductRow). row.name) roster.products in
    let operator = operator_names roster.operator in
    let apart : are_different (members ++ (products ++ operator)) ≡ true = ap are_different (sym (append_assoc members products operator)) ∙ is.different in
    let first : position_or_len (λ (r : MemberRow). bytes_eq r.name row.name) roster.members ≡ place = first_at roster.members (products ++ operator) place row apart e in
    ap (λ k. cond (ltb k (length roster.members)) (Some k) None) first ∙ cond-true (ltb place (length roster.members)) (Some place) None (lt-ltb place (length roster.members) (slice_get_within roster.members place row e))

pub member_is : (roster : Rows) (place : ℕ) (row : MemberRow) → slice_get roster.members place ≡ Some row → is_member_at roster place row.name ≡ true
member_is roster place row e = ap (λ o. is_member_row o row.name) e ∙ same_bytes row.name

pub product_is : (roster : Rows) (place : ℕ) (row : ProductRow) → slice_get roster.products place ≡ Some row → is_product_row (slice_get roster.products place) row.name ≡ true
product_is roster place row e = ap (λ o. is_product_row o row.name) e ∙ same_bytes row.name
