-- The rows of a roster file have names.
use Rattle.std.proofs.Common.{◌≡◌, ap, refl, subst, ℕ, ◌+◌, List, [], ◌∷◌, length, Bool, true, false, cond, eqb, ltb, Option, Some, None, Result, Ok, Err}
use Rattle.std.proofs.lemmas.List.Elements.{All-nil, All-push}
use Rattle.units_core.specs.Day.{DayParts, day_of}
use Rattle.units_core.specs.Name.{is_name}
use Rattle.command_types.specs.declared.file_fault.FileFault.{FileFault}
use Rattle.command_types.specs.declared.file_fault.FileFault.TheVariants.{TooLong, Columns, BadName, Twice, RowLimit}
use Rattle.command_types.specs.declared.roster.MemberRow.{MemberRow}
use Rattle.command_types.specs.declared.roster.ProductRow.{ProductRow}
use Rattle.command_types.specs.Roster.{Rows}
use Rattle.command_types.specs.Names.{HasNames}
use Rattle.trade_file.specs.declared.roster_row.Kind.{Kind}
use Rattle.trade_file.specs.declared.roster_row.Kind.TheVariants as kind
use Rattle.trade_file.specs.declared.roster_row.RosterRow.{RosterRow}
use Rattle.trade_file.specs.declared.roster_row.RosterRow.TheVariants.{Member, Product, Operator}
use Rattle.trade_file.specs.RosterRow.{is_header, kind_of, product_row, row_of_kind, row_of}
use Rattle.trade_file.specs.RosterFile.{no_rows, comes_twice, is_one_too_many, with_row, with_read, with_record, go_on, with_records, roster_of, records_of}
use Rattle.trade_file.specs.Laws.{RosterFileHasNames}

-- a member or a product with a name
abbrev IsNamed : RosterRow → Type 0
IsNamed (Member row) = is_name row.name ≡ true
IsNamed (Product row) = is_name row.name ≡ true
IsNamed (Operator row) = Unit {0}

ok_is : {A : Type 0} (x y : A) → (let o : Result A FileFault = Ok x in o) ≡ Ok y → x ≡ y
ok_is x y h = ap (λ o. elim o [ Ok z ↦ z | Err f ↦ x ]) h

-- what passed a test that else gives a fault
past : {A : Type 0} (b : Bool) (r : Result A FileFault) (fault : FileFault) (x : A) → cond b r (Err fault) ≡ Ok x → (b ≡ true) × (r ≡ Ok x)
past true r fault x h = (refl, h)
past false r fault x h = absurd cc

-- or first gives one
beyond : {A : Type 0} (b : Bool) (r : Result A FileFault) (fault : FileFault) (x : A) → cond b (Err fault) r ≡ Ok x → r ≡ Ok x
beyond true r fault x h = absurd cc
beyond false r fault x h = h

product_named : (n : ℕ) (name : List ℕ) (day : Option DayParts) (row : RosterRow) → is_name name ≡ true → product_row n name day ≡ Ok row → IsNamed row
product_named n name None row is h = absurd cc
product_named n name (Some day) row is h = subst IsNamed (ok_is (Product (record { name = name; maturity = day })) row h) is

kind_named : (n : ℕ) (of : Option Kind) (name last : List ℕ) (row : RosterRow) → is_name name ≡ true → row_of_kind n of name last ≡ Ok row → IsNamed row
kind_named n None name last row is h = absurd cc
kind_named n (Some kind.Product) name last row is h = product_named n name (day_of last) row is h
kind_named n (Some (kind.Member role)) name last row is h =
    let member : RosterRow = Member (record { name = name; role = role; key = last }) in
    subst IsNamed (ok_is member row (past (is_name last) (Ok member) (BadName n) row h).1) is
kind_named n (Some kind.Operator) name last row is h =
    let operator : RosterRow = Operator (record { name = name; key = last }) in
    subst IsNamed (ok_is operator row (past (is_name last) (Ok operator) (BadName n) row h).1) tt

row_named : (n : ℕ) (fields : List (List ℕ)) (row : RosterRow) → row_of n fields ≡ Ok row → IsNamed row
row_named n [] row h = absurd cc
row_named n (name ∷ []) row h = absurd cc
row_named n (name ∷ word ∷ []) row h = absurd cc
row_named n (name ∷ word ∷ last ∷ []) row h =
    let p = past (is_name name) (row_of_kind n (kind_of word) name last) (BadName n) row h in
    kind_named n (kind_of word) name last row p.0 p.1
row_named n (name ∷ word ∷ last ∷ more ∷ fields) row h = absurd cc

with_names : (rows : Rows) (row : RosterRow) → HasNames rows → IsNamed row → HasNames (with_row rows row)
with_names rows (Member row) names is = record { members = All-push (λ (r : MemberRow). is_name r.name ≡ true) rows.members row names.members is; products = names.products }
with_names rows (Product row) names is = record { members = names.members; products = All-push (λ (r : ProductRow). is_name r.name ≡ true) rows.products row names.products is }
with_names rows (Operator row) names is = record { members = names.members; products = names.products }

read_names : (n : ℕ) (rows next : Rows) (r : Result RosterRow FileFault) → HasNames rows → ((row : RosterRow) → r ≡ Ok row → IsNamed row) → with_read n rows r ≡ Ok next → HasNames next
read_names n rows next (Err fault) names named h = absurd cc
read_names n rows next (Ok row) names named h =
    let rest = beyond (comes_twice rows row) (cond (is_one_too_many rows row) (Err (RowLimit n)) (Ok (with_row rows row))) (Twice n) next h in
    subst HasNames (ok_is (with_row rows row) next (beyond (is_one_too_many rows row) (Ok (with_row rows row)) (RowLimit n) next rest)) (with_names rows row names (named row refl))

record_names : (n : ℕ) (rows next : Rows) (fields : List (List ℕ)) (b : Bool) → HasNames rows
    → cond b (cond (is_header fields) (Ok rows) (Err (Columns 1))) (with_read n rows (row_of n fields)) ≡ Ok next → HasNames next
record_names n rows next fields true names h = subst HasNames (ok_is rows next (past (is_header fields) (Ok rows) (Columns 1) next h).1) names
record_names n rows next fields false names h = read_names n rows next (row_of n fields) names (row_named n fields) h

further : (n : ℕ) (more : List (List (List ℕ))) (rows : Rows) (r : Result Rows FileFault) → ((next : Rows) → r ≡ Ok next → HasNames next)
    → ((next : Rows) → HasNames next → with_records (n + 1) next more ≡ Ok rows → HasNames rows) → go_on (λ next. with_records (n + 1) next more) r ≡ Ok rows → HasNames rows
further n more rows (Err fault) here rest h = absurd cc
further n more rows (Ok next) here rest h = rest next (here next refl) h

records_names : (n : ℕ) (before rows : Rows) (records : List (List (List ℕ))) → HasNames before → with_records n before records ≡ Ok rows → HasNames rows
unfolding with_records
records_names n before rows [] names h = subst HasNames (ok_is before rows h) names
records_names n before rows (fields ∷ more) names h =
    further n more rows (with_record n before fields) (λ next e. record_names n before next fields (eqb n 1) names e) (λ next names' e. records_names (n + 1) next rows more names' e) h

roster_names : (records : List (List (List ℕ))) (rows : Rows) → roster_of records ≡ Ok rows → HasNames rows
roster_names [] rows h = absurd cc
roster_names (fields ∷ more) rows h =
    records_names 1 no_rows rows (fields ∷ more) (record { members = All-nil (λ (r : MemberRow). is_name r.name ≡ true); products = All-nil (λ (r : ProductRow). is_name r.name ≡ true) }) h

pub roster_file_has_names : RosterFileHasNames
roster_file_has_names bytes rows h = roster_names (records_of bytes) rows (beyond (ltb 67108864 (length bytes)) (roster_of (records_of bytes)) TooLong rows h)
