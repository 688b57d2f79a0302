-- The place of a member is that of the one who has the name.
use Rattle.std.proofs.Common.{◌≡◌, ℕ, ◌<◌, Bool, true, false, List, [], length, Option, Some, None, refl, sym, ap, subst, ◌∙◌}
use Rattle.std.proofs.lemmas.Bool.{eq-eqb, ne_eqb}
use Rattle.std.proofs.lemmas.List.Quantifiers.{position-Some}
use Rattle.std.proofs.lemmas.Slice.Eq.{bytes_eq-Decides}
use Rattle.std.specs.Option.{unwrap_or}
use Rattle.std.specs.Str.{bytes_eq}
use Rattle.command_types.proofs.RosterFacts.{members_different, first_place}
use Rattle.command_types.specs.declared.roster.MemberRow.{MemberRow}
use Rattle.command_types.specs.declared.roster.Role.TheVariants.{Dealer}
use Rattle.command_types.specs.Roster.{Rows, IsRoster, member_place}
use Rattle.session.specs.Places.{is_there, name_at, IsPlaceOf}

pub nobody : MemberRow
nobody = record { name = []; role = Dealer; key = [] }

turned : (a b : List ℕ) → bytes_eq a b ≡ true → bytes_eq b a ≡ true
turned a b e = (bytes_eq-Decides b a).1 (sym ((bytes_eq-Decides a b).0 e))

module _ (rows : Rows) (name : List ℕ) (roster : IsRoster rows) where
  found : (i : ℕ) (other : MemberRow) → i < length rows.members → bytes_eq name (name_at rows.members i other) ≡ true → Some i ≡ member_place rows name
  found i other lt here = first_place (λ row. row.name) rows.members i other name lt (members_different rows roster) (turned name (name_at rows.members i other) here)

  there : (place : Option ℕ) → member_place rows name ≡ place → (i : ℕ) (other : MemberRow) → i < length rows.members → (t : Bool) → bytes_eq name (name_at rows.members i other) ≡ t → is_there place i ≡ t
  there None at i other lt true here = absurd (cc (found i other lt here ∙ at))
  there None at i other lt false here = refl
  there (Some p) at i other lt true here = eq-eqb p i (ap (λ (o : Option ℕ). unwrap_or o 0) (sym (found i other lt here ∙ at)))
  there (Some p) at i other lt false here =
      let named = (position-Some (λ (row : MemberRow). bytes_eq row.name name) rows.members p other at).1 in
      ne_eqb p i (λ e. absurd (cc (sym here ∙ turned (name_at rows.members i other) name (subst (λ n. bytes_eq (name_at rows.members n other) name ≡ true) e named))))

  of_place : (place : Option ℕ) → member_place rows name ≡ place → IsPlaceOf rows.members name place
  of_place None at = record { within = tt; is = λ i other lt. there None at i other lt (bytes_eq name (name_at rows.members i other)) refl }
  of_place (Some p) at = record {
    within = (position-Some (λ (row : MemberRow). bytes_eq row.name name) rows.members p nobody at).0;
    is = λ i other lt. there (Some p) at i other lt (bytes_eq name (name_at rows.members i other)) refl;
  }

  -- the place of a name in a roster
  pub place_of_name : IsPlaceOf rows.members name (member_place rows name)
  place_of_name = of_place (member_place rows name) refl
