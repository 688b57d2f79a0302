-- A name that the roster has is one member's or the operator's, and no other's.
use Rattle.std.proofs.Common.{◌≡◌, ◌∙◌, ℕ, zero, suc, ◌==◌, ◌||◌, not, Bool, true, false, List, [], ◌∷◌, ◌++◌, map, get_or, Option, Some, None, is_some, unwrap_or, refl, ap, sym, subst, append_assoc}
use Rattle.std.proofs.lemmas.Bool.{and_parts, eq-eqb, false≢true, ne_eqb, not-true, or_parts}
use Rattle.std.proofs.lemmas.List.Quantifiers.{position-Some}
use Rattle.std.proofs.lemmas.Option.{get_or_from_slice_get, none-some, same_Some, slice_get-get_or, slice_get_within}
use Rattle.std.proofs.lemmas.Slice.Eq.{bytes_eq-Decides}
use Rattle.std.specs.List.{list_any, slice_get}
use Rattle.std.specs.Str.{bytes_eq}
use Rattle.command_types.specs.declared.ask.What.{What}
use Rattle.command_types.specs.declared.ask.What.TheVariants.{Hello, Bye, Unreadable}
use Rattle.command_types.specs.declared.figures.State.{State}
use Rattle.command_types.specs.declared.refusal.Refusal.TheVariants.{NotGreeted}
use Rattle.command_types.specs.declared.roster.MemberRow.{MemberRow}
use Rattle.command_types.specs.declared.roster.OperatorRow.{OperatorRow}
use Rattle.command_types.specs.declared.roster.ProductRow.{ProductRow}
use Rattle.command_types.specs.Machine.{changes, command_refusals, first_of, refusals}
use Rattle.command_types.specs.Roster.{Rows, IsRoster, are_different, is_member_at, is_member_row, is_operator, is_operator_row, is_party, member_place, operator_names}
use Rattle.command_types.proofs.RosterFacts.{first_place, members_different}
use Rattle.cycle_states.specs.declared.machine.party.Caller.{Caller}
use Rattle.cycle_states.specs.declared.machine.party.Party.{Party}
use Rattle.cycle_states.specs.declared.machine.party.Party.TheVariants.{Operator, Member}
use Rattle.cycle_states.specs.Party.{IsCaller, IsCallerOf, is_the_operator, place_of}
use Rattle.cycle_states.proofs.MachineFacts.{none_of, not_false, some_member}

-- the member at a place is found there by its name
named_there : (rows : Rows) (name : List ℕ) (place : ℕ) → IsRoster rows → is_member_at rows place name ≡ true → member_place rows name ≡ Some place
named_there rows name place roster here = at_row (slice_get rows.members place) refl here
  where
    at_row : (o : Option MemberRow) → slice_get rows.members place ≡ o → is_member_row o name ≡ true → member_place rows name ≡ Some place
    at_row None is h = absurd (false≢true h)
    at_row (Some row) is h =
        sym (first_place (λ (r : MemberRow). r.name) rows.members place row name (slice_get_within rows.members place row is) (members_different rows roster)
        (ap (λ (r : MemberRow). bytes_eq r.name name) (get_or_from_slice_get rows.members place row row is) ∙ h))

-- where a name is found stands a member of this name
found_there : (rows : Rows) (name : List ℕ) (member : ℕ) → member_place rows name ≡ Some member → is_member_at rows member name ≡ true
found_there rows name member is =
    let found = position-Some (λ row. bytes_eq row.name name) rows.members member some_member is in
    ap (λ (o : Option MemberRow). is_member_row o name) (slice_get-get_or rows.members member some_member found.0) ∙ found.1

-- so a name that is found stands there and nowhere else,
at_its_place : (rows : Rows) (name : List ℕ) (member : ℕ) → IsRoster rows → member_place rows name ≡ Some member → (place : ℕ) → is_member_at rows place name ≡ (place == member)
at_its_place rows name member roster found place = either (is_member_at rows place name) refl
  where
    either : (b : Bool) → is_member_at rows place name ≡ b → b ≡ (place == member)
    either true is = sym (eq-eqb place member (same_Some place member (sym (named_there rows name place roster is) ∙ found)))
    either false is =
        sym (ne_eqb place member (λ same. false≢true (sym is ∙ subst (λ n. is_member_at rows n name ≡ true) (sym same) (found_there rows name member found))))

-- and one that is not found stands nowhere
at_no_place : (rows : Rows) (name : List ℕ) → IsRoster rows → member_place rows name ≡ None → (place : ℕ) → is_member_at rows place name ≡ false
at_no_place rows name roster none place = either (is_member_at rows place name) refl
  where
    either : (b : Bool) → is_member_at rows place name ≡ b → b ≡ false
    either true is = absurd (none-some place (sym none ∙ named_there rows name place roster is))
    either false is = refl

any_last : (test : List ℕ → Bool) (xs ys : List (List ℕ)) → list_any test (xs ++ ys) ≡ false → list_any test ys ≡ false
any_last test [] ys none = none
any_last test (x ∷ xs) ys none = any_last test xs ys (or_parts (test x) (list_any test (xs ++ ys)) none).1

-- a member's name is none of the others
none_other : (rows : List MemberRow) (others : List (List ℕ)) (place : ℕ) (row : MemberRow) → are_different (map (λ (r : MemberRow). r.name) rows ++ others) ≡ true → slice_get rows place ≡ Some row
    → list_any (bytes_eq row.name) others ≡ false
none_other [] others place row h e = absurd (none-some row e)
none_other (first ∷ rows) others zero row h e =
    let names = map (λ (r : MemberRow). r.name) rows in
    let p = and_parts (not (list_any (bytes_eq first.name) (names ++ others))) (are_different (names ++ others)) h in
    subst (λ (r : MemberRow). list_any (bytes_eq r.name) others ≡ false) (same_Some first row e) (any_last (bytes_eq first.name) names others (not-true (list_any (bytes_eq first.name) (names ++ others)) p.0))
none_other (first ∷ rows) others (suc place) row h e =
    let names = map (λ (r : MemberRow). r.name) rows in
    none_other rows others place row (and_parts (not (list_any (bytes_eq first.name) (names ++ others))) (are_different (names ++ others)) h).1 e

not_its_name : (o : Option OperatorRow) (name : List ℕ) → list_any (bytes_eq name) (operator_names o) ≡ false → is_operator_row o name ≡ false
not_its_name None name none = refl
not_its_name (Some row) name none = either (bytes_eq row.name name) refl
  where
    either : (b : Bool) → bytes_eq row.name name ≡ b → bytes_eq row.name name ≡ false
    either false is = is
    either true is =
        let same : row.name ≡ name = (bytes_eq-Decides row.name name).0 is in
        let there : bytes_eq name row.name ≡ true = ap (bytes_eq name) same ∙ (bytes_eq-Decides name name).1 refl in
        absurd (false≢true (sym (or_parts (bytes_eq name row.name) false none).0 ∙ there))

-- a member's name is not the operator's
pub not_the_operators : (rows : Rows) (name : List ℕ) (member : ℕ) → IsRoster rows → member_place rows name ≡ Some member → is_operator rows name ≡ false
not_the_operators rows name member roster is =
    let found = position-Some (λ row. bytes_eq row.name name) rows.members member some_member is in
    let row = get_or rows.members member some_member in
    let members = map (λ (r : MemberRow). r.name) rows.members in
    let products = map (λ (r : ProductRow). r.name) rows.products in
    let operator = operator_names rows.operator in
    let apart : are_different (members ++ (products ++ operator)) ≡ true = ap are_different (sym (append_assoc members products operator)) ∙ roster.different in
    let other = any_last (bytes_eq row.name) products operator (none_other rows.members (products ++ operator) member row apart (slice_get-get_or rows.members member some_member found.0)) in
    ap (is_operator rows) (sym ((bytes_eq-Decides row.name name).0 found.1)) ∙ not_its_name rows.operator row.name other

-- who is found among the members is that member,
pub member_is_caller : (rows : Rows) (name : List ℕ) (member : ℕ) → IsRoster rows → member_place rows name ≡ Some member → IsCaller rows (record { name = name; party = Member member })
member_is_caller rows name member roster found = record {
  operator = not_the_operators rows name member roster found;
  member = found;
  at = at_its_place rows name member roster found;
}

-- and any other whose name is the operator's is the operator
pub operator_is_caller : (rows : Rows) (name : List ℕ) → IsRoster rows → member_place rows name ≡ None → is_operator rows name ≡ true → IsCaller rows (record { name = name; party = Operator })
operator_is_caller rows name roster none operator = record {
  operator = operator;
  member = none;
  at = at_no_place rows name roster none;
}

has_place : (party : Party) → (is_some (place_of party) || is_the_operator party) ≡ true
has_place Operator = refl
has_place (Member member) = refl

-- a caller is a party of the roster
pub caller_is_party : (rows : Rows) (by : Option (List ℕ)) (caller : Caller) → by ≡ Some caller.name → IsCaller rows caller → is_party rows by ≡ true
caller_is_party rows by caller named is =
    ap (is_party rows) named
    ∙ ap (λ (o : Option ℕ). is_some o || is_operator rows caller.name) is.member
    ∙ ap (λ (b : Bool). is_some (place_of caller.party) || b) is.operator
    ∙ has_place caller.party

-- a caller has the name that was looked up,
pub caller_named : (rows : Rows) (by : Option (List ℕ)) (asker : Option Caller) (caller : Caller) → IsCallerOf rows by asker → asker ≡ Some caller → by ≡ Some caller.name
caller_named rows by asker caller is found = (subst (IsCallerOf rows by) found is).0

-- is what the roster says of it,
pub caller_known : (rows : Rows) (by : Option (List ℕ)) (asker : Option Caller) (caller : Caller) → IsCallerOf rows by asker → asker ≡ Some caller → IsCaller rows caller
caller_known rows by asker caller is found = (subst (IsCallerOf rows by) found is).1

-- and nobody is found by a name that it does not have
pub nobody_asks : (rows : Rows) (by : Option (List ℕ)) (asker : Option Caller) → IsCallerOf rows by asker → asker ≡ None → is_party rows by ≡ false
nobody_asks rows by asker is none = subst (IsCallerOf rows by) none is

-- a command that wants a party has these refusals,
pub party_refusals : (s : State) (by : Option (List ℕ)) (what : What) → ((name key : List ℕ) → what ≡ Hello name key → ⊥) → (what ≡ Bye → ⊥) → ((at : ℕ) → what ≡ Unreadable at → ⊥)
    → (not (is_party s.roster by), NotGreeted) ∷ command_refusals s (unwrap_or by []) what ≡ refusals s by what
party_refusals s by (Hello name key) no_hello no_bye readable = absurd (no_hello name key refl)
party_refusals s by Bye no_hello no_bye readable = absurd (no_bye refl)
party_refusals s by (Unreadable at) no_hello no_bye readable = absurd (readable at refl)
party_refusals s by what no_hello no_bye readable = refl

-- so somebody asks it where it is not refused,
pub accepted_asked : (s : State) (by : Option (List ℕ)) (what : What) (asker : Option Caller) → IsCallerOf s.roster by asker → asker ≡ None → first_of (refusals s by what) ≡ None → ((name key : List ℕ) → what ≡ Hello name key → ⊥) → (what ≡ Bye → ⊥)
    → ((at : ℕ) → what ≡ Unreadable at → ⊥) → ⊥
accepted_asked s by what asker is nobody none no_hello no_bye readable =
    let stands = none_of (not (is_party s.roster by)) NotGreeted (command_refusals s (unwrap_or by []) what) (ap first_of (party_refusals s by what no_hello no_bye readable) ∙ none) in
    false≢true (sym (nobody_asks s.roster by asker is nobody) ∙ not_false (is_party s.roster by) stands.0)

no_caller : (asker : Option Caller) → ((caller : Caller) → asker ≡ Some caller → ⊥) → asker ≡ None
no_caller None other = refl
no_caller (Some caller) other = absurd (other caller refl)

-- and so every change
pub change_asked : (s : State) (by : Option (List ℕ)) (what : What) (asker : Option Caller) → IsCallerOf s.roster by asker → ((caller : Caller) → asker ≡ Some caller → ⊥) → first_of (refusals s by what) ≡ None → changes what ≡ true → ⊥
change_asked s by what asker is other none change =
    accepted_asked s by what asker is (no_caller asker other) none
    (λ name key same. false≢true (sym (ap changes same) ∙ change)) (λ same. false≢true (sym (ap changes same) ∙ change)) (λ at same. false≢true (sym (ap changes same) ∙ change))
