-- In a roster a member's or product's name is found at its place.
use Rattle.std.proofs.Common.{◌≡◌, ℕ, zero, suc, ◌<◌, Bool, true, false, not, ◌&&◌, ◌||◌, List, [], ◌∷◌, ◌++◌, map, length, get_or, position, Some, refl, sym, subst, arith}
use Rattle.std.proofs.lemmas.Bool.{and_parts}
use Rattle.std.proofs.lemmas.Grind.{common_steps}
use Rattle.std.proofs.lemmas.List.Sums.{position_or_len_is}
use Rattle.std.proofs.lemmas.Slice.Eq.{bytes_eq-Decides}
use Rattle.std.specs.List.{list_any, position_or_len}
use Rattle.std.specs.Str.{bytes_eq}
use Rattle.command_types.specs.Roster.{Rows, IsRoster, names_of, are_different, operator_names}

any_front : (name : List ℕ) (first second : List (List ℕ)) → list_any (bytes_eq name) (first ++ second) ≡ false → list_any (bytes_eq name) first ≡ false
any_front name [] second e = refl
any_front name (other ∷ first) second e = by (bytes_eq name other) (any_front name first second) e
  where
    by : (t : Bool) → (list_any (bytes_eq name) (first ++ second) ≡ false → list_any (bytes_eq name) first ≡ false) → (t || list_any (bytes_eq name) (first ++ second)) ≡ false → (t || list_any (bytes_eq name) first) ≡ false
    by true rest e = e
    by false rest e = rest e

not_false : (t : Bool) → not t ≡ true → t ≡ false
not_false true h = sym h
not_false false h = refl

false_not : (t : Bool) → t ≡ false → not t ≡ true
false_not true h = sym h
false_not false h = refl

and_both : (x y : Bool) → x ≡ true → y ≡ true → (x && y) ≡ true
and_both true y a b = b
and_both false y a b = a

different_front : (first second : List (List ℕ)) → are_different (first ++ second) ≡ true → are_different first ≡ true
different_front [] second e = refl
different_front (name ∷ first) second e =
    let parts = and_parts (not (list_any (bytes_eq name) (first ++ second))) (are_different (first ++ second)) e in
    and_both (not (list_any (bytes_eq name) first)) (are_different first) (false_not _ (any_front name first second (not_false _ parts.0))) (different_front first second parts.1)

different_back : (first second : List (List ℕ)) → are_different (first ++ second) ≡ true → are_different second ≡ true
different_back [] second e = e
different_back (name ∷ first) second e = different_back first second (and_parts (not (list_any (bytes_eq name) (first ++ second))) (are_different (first ++ second)) e).1

-- the members and products of a roster have different names
both_different : (rows : Rows) → IsRoster rows → are_different (map (λ row. row.name) rows.members ++ map (λ row. row.name) rows.products) ≡ true
both_different rows roster =
    let all : are_different (names_of rows) ≡ true = roster.different in
    different_front (map (λ row. row.name) rows.members ++ map (λ row. row.name) rows.products) (operator_names rows.operator) all

pub members_different : (rows : Rows) → IsRoster rows → are_different (map (λ row. row.name) rows.members) ≡ true
members_different rows roster = different_front (map (λ row. row.name) rows.members) (map (λ row. row.name) rows.products) (both_different rows roster)

pub products_different : (rows : Rows) → IsRoster rows → are_different (map (λ row. row.name) rows.products) ≡ true
products_different rows roster = different_back (map (λ row. row.name) rows.members) (map (λ row. row.name) rows.products) (both_different rows roster)

either_false : (x y : Bool) → (x || y) ≡ false → (x ≡ false) × (y ≡ false)
either_false true y e = absurd (cc e)
either_false false y e = (refl, e)

module _ {X : Type 0} (name_of : X → List ℕ) where
  -- a name that none of the rows has
  none_named : (name : List ℕ) (rows : List X) (k : ℕ) (d : X) → k < length rows → list_any (bytes_eq name) (map name_of rows) ≡ false → bytes_eq name (name_of (get_or rows k d)) ≡ false
  none_named name [] k d lt absent = absurd (omega (arith, lt))
  none_named name (row ∷ rows) zero d lt absent = (either_false (bytes_eq name (name_of row)) (list_any (bytes_eq name) (map name_of rows)) absent).0
  none_named name (row ∷ rows) (suc k) d lt absent =
      none_named name rows k d (omega (arith, lt)) (either_false (bytes_eq name (name_of row)) (list_any (bytes_eq name) (map name_of rows)) absent).1

  -- two rows have different names
  two_differ : (rows : List X) (i k : ℕ) (d : X) → i < k → k < length rows → are_different (map name_of rows) ≡ true → bytes_eq (name_of (get_or rows i d)) (name_of (get_or rows k d)) ≡ false
  two_differ [] i k d lt within different = absurd (omega (arith, within))
  two_differ (row ∷ rows) i zero d lt within different = absurd (omega (arith, lt))
  two_differ (row ∷ rows) zero (suc k) d lt within different =
      let parts = and_parts (not (list_any (bytes_eq (name_of row)) (map name_of rows))) (are_different (map name_of rows)) different in
      none_named (name_of row) rows k d (omega (arith, within)) (not_false _ parts.0)
  two_differ (row ∷ rows) (suc i) (suc k) d lt within different =
      let parts = and_parts (not (list_any (bytes_eq (name_of row)) (map name_of rows))) (are_different (map name_of rows)) different in
      two_differ rows i k d (omega (arith, lt)) (omega (arith, within)) parts.1

  -- where a row with this name stands, the name is found
  pub first_place : (rows : List X) (k : ℕ) (d : X) (name : List ℕ) → k < length rows → are_different (map name_of rows) ≡ true →
      bytes_eq (name_of (get_or rows k d)) name ≡ true → Some k ≡ position (λ row. bytes_eq (name_of row) name) rows
  first_place rows k d name lt different here =
      let same : name_of (get_or rows k d) ≡ name = (bytes_eq-Decides (name_of (get_or rows k d)) name).0 here in
      let at : position_or_len (λ row. bytes_eq (name_of row) name) rows ≡ k = position_or_len_is (λ (row : X). bytes_eq (name_of row) name) rows k d (omega (arith, lt))
      (λ j low. subst (λ n. bytes_eq (name_of (get_or rows j d)) n ≡ false) same (two_differ rows j k d low lt different)) (λ _. here) in
      grind (arith, common_steps)
