-- One more name among different ones.
use Rattle.std.proofs.Common.{◌≡◌, ◌∙◌, sym, ap, refl, ℕ, ◌+◌, ◌≤◌, List, [], ◌∷◌, ◌++◌, length, map, filter, Bool, true, false, not, ◌&&◌, ◌||◌, is_some, Option, Some, None, IsTrue, Ok, Err, append_assoc, length-append, arith, nat_le, subst, Result, is_ok, OnOk}
use Rattle.std.proofs.lemmas.List.{map-append}
use Rattle.std.proofs.lemmas.List.Elements.{filter-append}
use Rattle.std.proofs.lemmas.Bool.{and_parts}
use Rattle.std.proofs.lemmas.Slice.Eq.{bytes_eq-Decides}
use Rattle.std.proofs.lemmas.Bool.Decides.{nat_tests}
use Rattle.std.specs.List.{list_any}
use Rattle.std.specs.Str.{bytes_eq}
use Rattle.command_types.specs.Roster.{Rows, IsRoster, names_of, operator_names, are_different, is_dealer}
use Rattle.command_types.specs.declared.roster.MemberRow.{MemberRow}
use Rattle.command_types.specs.declared.roster.ProductRow.{ProductRow}
use Rattle.command_types.specs.declared.roster.OperatorRow.{OperatorRow}
use Rattle.command_types.specs.declared.file_fault.FileFault.{FileFault}
use Rattle.trade_file.specs.declared.roster_row.RosterRow.{RosterRow}
use Rattle.trade_file.specs.declared.roster_row.RosterRow.TheVariants.{Member, Product, Operator}
use Rattle.trade_file.specs.RosterFile.{is_taken, comes_twice, is_one_too_many, with_row, with_read, row_name}
use Rattle.trade_file.specs.declared.draft.Draft.{Draft}
use Rattle.trade_file.specs.Draft.{IsDraft, rows_of}

or_swap : (a b : Bool) → (a || b) ≡ (b || a)
or_swap true true = refl
or_swap true false = refl
or_swap false true = refl
or_swap false false = refl

or_group : (a b c : Bool) → (a || (b || c)) ≡ ((a || b) || c)
or_group true b c = refl
or_group false b c = refl

or_false : (a b : Bool) → (a || b) ≡ false → (a ≡ false) × (b ≡ false)
or_false true b h = absurd cc
or_false false b h = (refl, h)

not_true : (a : Bool) → not a ≡ true → a ≡ false
not_true true h = absurd cc
not_true false h = refl

-- a name in the midst of others
any_insert : (p : List ℕ → Bool) (xs ys : List (List ℕ)) (n : List ℕ) → list_any p (xs ++ (n ∷ ys)) ≡ (list_any p (xs ++ ys) || p n)
any_insert p [] ys n = or_swap (p n) (list_any p ys)
any_insert p (x ∷ xs) ys n = ap (λ t. p x || t) (any_insert p xs ys n) ∙ or_group (p x) (list_any p (xs ++ ys)) (p n)

turned : (a b : List ℕ) → bytes_eq a b ≡ false → bytes_eq b a ≡ false
turned a b h = by (bytes_eq b a) refl
  where
    by : (t : Bool) → bytes_eq b a ≡ t → t ≡ false
    by false e = refl
    by true e = let same = (bytes_eq-Decides b a).0 e in let again = (bytes_eq-Decides a b).1 (sym same) in absurd (let no = sym again ∙ h in cc)

different_insert : (xs ys : List (List ℕ)) (n : List ℕ)
    → list_any (bytes_eq n) (xs ++ ys) ≡ false → IsTrue (are_different (xs ++ ys)) → IsTrue (are_different (xs ++ (n ∷ ys)))
different_insert [] ys n h d = rw (h, d) refl
different_insert (x ∷ xs) ys n h d =
    let apart = or_false (bytes_eq n x) _ h in
    let both = and_parts (not (list_any (bytes_eq x) (xs ++ ys))) _ d in
    let rest : are_different (xs ++ (n ∷ ys)) ≡ true = different_insert xs ys n apart.1 both.1 in
    let none : list_any (bytes_eq x) (xs ++ (n ∷ ys)) ≡ false =
    any_insert (bytes_eq x) xs ys n ∙ rw (not_true _ both.0, turned n x apart.0) refl in
    rw (none, rest) refl

-- the names before a row's, and those behind it
front_of : Rows → RosterRow → List (List ℕ)
front_of rows (Member row) = map (λ r. r.name) rows.members
front_of rows (Product row) = map (λ r. r.name) rows.members ++ map (λ r. r.name) rows.products
front_of rows (Operator row) = map (λ r. r.name) rows.members ++ map (λ r. r.name) rows.products

back_of : Rows → RosterRow → List (List ℕ)
back_of rows (Member row) = map (λ r. r.name) rows.products ++ operator_names rows.operator
back_of rows (Product row) = operator_names rows.operator
back_of rows (Operator row) = operator_names rows.operator

old_names : (rows : Rows) (row : RosterRow) → names_of rows ≡ front_of rows row ++ back_of rows row
unfolding front_of back_of
old_names rows (Member row) = append_assoc (map (λ (r : MemberRow). r.name) rows.members) (map (λ (r : ProductRow). r.name) rows.products) (operator_names rows.operator)
old_names rows (Product row) = refl
old_names rows (Operator row) = refl

taken_operator : (o : Option OperatorRow) → is_some o ≡ false → operator_names o ≡ []
taken_operator None h = refl
taken_operator (Some row) h = absurd cc

or_right : (a b : Bool) → (a || b) ≡ false → b ≡ false
or_right a b h = (or_false a b h).1

new_names : (rows : Rows) (row : RosterRow) → comes_twice rows row ≡ false
    → names_of (with_row rows row) ≡ front_of rows row ++ (row_name row ∷ back_of rows row)
unfolding front_of back_of
new_names rows (Member row) h =
    let m = map (λ (r : MemberRow). r.name) rows.members in
    let p = map (λ (r : ProductRow). r.name) rows.products in
    let o = operator_names rows.operator in
    let one : List (List ℕ) = row.name ∷ [] in
    ap (λ (t : List (List ℕ)). (t ++ p) ++ o) (map-append (λ (r : MemberRow). r.name) rows.members (row ∷ []))
    ∙ append_assoc (m ++ one) p o ∙ append_assoc m one (p ++ o)
new_names rows (Product row) h =
    let m = map (λ (r : MemberRow). r.name) rows.members in
    let p = map (λ (r : ProductRow). r.name) rows.products in
    let o = operator_names rows.operator in
    let one : List (List ℕ) = row.name ∷ [] in
    ap (λ (t : List (List ℕ)). (m ++ t) ++ o) (map-append (λ (r : ProductRow). r.name) rows.products (row ∷ []))
    ∙ ap (λ (t : List (List ℕ)). t ++ o) (sym (append_assoc m p one)) ∙ append_assoc (m ++ p) one o
new_names rows (Operator row) h =
    let none = taken_operator rows.operator (or_right _ _ h) in
    ap (λ (t : List (List ℕ)). (map (λ (r : MemberRow). r.name) rows.members ++ map (λ (r : ProductRow). r.name) rows.products) ++ (row.name ∷ t)) (sym none)

free_name : (rows : Rows) (row : RosterRow) → comes_twice rows row ≡ false → is_taken rows (row_name row) ≡ false
free_name rows (Member row) h = h
free_name rows (Product row) h = h
free_name rows (Operator row) h = (or_false _ _ h).0

-- the names of the rows with one more are different
still_different : (rows : Rows) (row : RosterRow) → comes_twice rows row ≡ false
    → IsTrue (are_different (names_of rows)) → IsTrue (are_different (names_of (with_row rows row)))
still_different rows row h d =
    let free : list_any (bytes_eq (row_name row)) (front_of rows row ++ back_of rows row) ≡ false =
    ap (list_any (bytes_eq (row_name row))) (sym (old_names rows row)) ∙ free_name rows row h in
    let before : IsTrue (are_different (front_of rows row ++ back_of rows row)) = ap are_different (sym (old_names rows row)) ∙ d in
    ap are_different (new_names rows row h) ∙ different_insert (front_of rows row) (back_of rows row) (row_name row) free before

any_last : (p : List ℕ → Bool) (names : List (List ℕ)) (n : List ℕ) → list_any p (names ++ n ∷ []) ≡ (list_any p names || p n)
any_last p names n = any_insert p names [] n ∙ ap (λ t. list_any p t || p n) (end names)
  where
    end : (xs : List (List ℕ)) → xs ++ [] ≡ xs
    end [] = refl
    end (x ∷ xs) = ap (λ t. x ∷ t) (end xs)

-- and those that were seen are theirs
still_seen : (seen : List (List ℕ)) (rows : Rows) (row : RosterRow) → comes_twice rows row ≡ false
    → ((name : List ℕ) → list_any (bytes_eq name) seen ≡ is_taken rows name)
    → (name : List ℕ) → list_any (bytes_eq name) (seen ++ row_name row ∷ []) ≡ is_taken (with_row rows row) name
still_seen seen rows row h s name =
    any_last (bytes_eq name) seen (row_name row)
    ∙ ap (λ t. t || bytes_eq name (row_name row)) (s name ∙ ap (list_any (bytes_eq name)) (old_names rows row))
    ∙ sym (any_insert (bytes_eq name) (front_of rows row) (back_of rows row) (row_name row))
    ∙ ap (list_any (bytes_eq name)) (sym (new_names rows row h))

small : (m n : ℕ) → nat_le m n ≡ false → n + 1 ≤ m
small m n h = grind (arith, nat_tests)

dealers_more : (ms : List MemberRow) (row : MemberRow) (d : Bool) → is_dealer row.role ≡ d
    → length (filter (λ r. is_dealer r.role) ms) ≤ 64 → (d && nat_le 64 (length (filter (λ r. is_dealer r.role) ms))) ≡ false
    → length (filter (λ r. is_dealer r.role) (ms ++ row ∷ [])) ≤ 64
dealers_more ms row true e few h =
    let more = small 64 _ h in
    rw (filter-append (λ (r : MemberRow). is_dealer r.role) ms (row ∷ []), e) (omega (arith, more, length-append (filter (λ (r : MemberRow). is_dealer r.role) ms) (row ∷ [])))
dealers_more ms row false e few h =
    rw (filter-append (λ (r : MemberRow). is_dealer r.role) ms (row ∷ []), e) (omega (arith, few, length-append (filter (λ (r : MemberRow). is_dealer r.role) ms) []))

-- the rows with one more are a roster's
still_roster : (rows : Rows) (row : RosterRow) → comes_twice rows row ≡ false → is_one_too_many rows row ≡ false
    → IsRoster rows → IsRoster (with_row rows row)
still_roster rows (Member row) h few r = record {
  few_members = omega (arith, small 256 (length rows.members) (or_false _ _ few).0, length-append rows.members (row ∷ []));
  few_dealers = dealers_more rows.members row (is_dealer row.role) refl r.few_dealers (or_false _ _ few).1;
  few_products = r.few_products;
  different = still_different rows (Member row) h r.different;
}
still_roster rows (Product row) h few r = record {
  few_members = r.few_members;
  few_dealers = r.few_dealers;
  few_products = omega (arith, small 64 (length rows.products) few, length-append rows.products (row ∷ []));
  different = still_different rows (Product row) h r.different;
}
still_roster rows (Operator row) h few r = record {
  few_members = r.few_members;
  few_dealers = r.few_dealers;
  few_products = r.few_products;
  different = still_different rows (Operator row) h r.different;
}

-- a draft with one more row
pub added : (d new : Draft) (n : ℕ) (row : RosterRow) → IsDraft d → comes_twice (rows_of d) row ≡ false → is_one_too_many (rows_of d) row ≡ false
    → rows_of new ≡ with_row (rows_of d) row → new.names ≡ d.names ++ (row_name row ∷ []) → IsDraft new × (with_read n (rows_of d) (Ok row) ≡ Ok (rows_of new))
added d new n row draft h few e names =
    let placed : with_read n (rows_of d) (Ok row) ≡ Ok (with_row (rows_of d) row) = rw (h, few) refl in (
      record {
        roster = subst IsRoster (sym e) (still_roster (rows_of d) row h few draft.roster);
        names = λ name. ap (list_any (bytes_eq name)) names ∙ still_seen d.names (rows_of d) row h draft.names name ∙ ap (λ rows. is_taken rows name) (sym e);
      },
      placed ∙ ap (λ (rows : Rows). let r : Result Rows FileFault = Ok rows in r) (sym e),
    )

-- what a call ensures where it gave something
pub taken : {A E : Type 0} (r : Result A E) (p : Type 0) → is_ok r ≡ true → OnOk r p → p
taken (Ok a) p h q = q
taken (Err e) p h q = absurd cc
