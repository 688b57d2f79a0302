-- Stamps tell short texts apart, and what a table of them finds is a row's place.
use Rattle.std.proofs.Common.{◌≡◌, ◌≢◌, ◌∙◌, sym, ap, refl, ℕ, ◌+◌, ◌*◌, ◌<◌, ◌≤◌, ◌^◌, suc, zero, nat_le, nat_lt, eqb, Bool, true, false, ◌&&◌, List, [], ◌∷◌, length, get_or, map, fold, position, Option, Some, None, IsTrue, cond, subst, replicate, arith}
use Rattle.std.proofs.lemmas.Bool.Decides.{nat_tests, Decides-eqb}
use Rattle.std.proofs.lemmas.Bool.{and_parts}
use Rattle.std.proofs.lemmas.List.{get_or-map}
use Rattle.std.proofs.lemmas.Slice.Eq.{bytes_eq-Decides}
use Rattle.std.proofs.Math.Nat.{pow-le-pow_right}
use Rattle.std.specs.List.{list_all}
use Rattle.std.specs.Str.{bytes_eq}
use Rattle.units_core.specs.declared.limits.TheConstants.{MOST_NAME}
use Rattle.units_core.specs.Name.{is_name, is_name_byte}
use Rattle.command_types.specs.Roster.{are_different}
use Rattle.command_types.specs.Stamps.{key_on, key_number, stamp, kept_stamp, AreStamps, IsPut}
use Rattle.command_types.proofs.RosterFacts.{first_place}

-- a number below a power of the base up to the sixth is below 2^61
pub few_small : (key n : ℕ) → n ≤ 6 → key < 1034 ^ n → key < 2 ^ 61
few_small key n few below =
    let more : 1034 ^ n ≤ 1034 ^ 6 = pow-le-pow_right (omega arith) few in
    let low : 1034 ^ 6 ≤ 2 ^ 61 = omega arith in
    omega arith

same_on : (p q : ℕ) (a b : List ℕ) → length a ≡ length b → ((i : ℕ) → get_or a i 0 < 256) → ((i : ℕ) → get_or b i 0 < 256)
    → fold key_on p a ≡ fold key_on q b → (p ≡ q) × (a ≡ b)
same_on p q [] [] l fa fb e = (e, refl)
same_on p q [] (y ∷ ys) l fa fb e = absurd (omega arith)
same_on p q (x ∷ xs) [] l fa fb e = absurd (omega arith)
same_on p q (x ∷ xs) (y ∷ ys) l fa fb e =
    let rest = same_on (key_on p x) (key_on q y) xs ys (omega arith) (λ i. fa (suc i)) (λ i. fb (suc i)) e in
    let here : p * 1034 + x ≡ q * 1034 + y = rest.0 in
    let first : x < 256 = fa 0 in
    let other : y < 256 = fb 0 in
    let front : p ≡ q = omega arith in
    let same : x ≡ y = omega arith in
    (front, rw (same, rest.1) refl)

-- short texts that have the same stamp are the same
same_stamp : (a b : List ℕ) → length a ≤ 6 → length b ≤ 6 → ((i : ℕ) → get_or a i 0 < 256) → ((i : ℕ) → get_or b i 0 < 256) → stamp a ≡ stamp b → a ≡ b
same_stamp a b short_a short_b fa fb e =
    let same : key_number a * 8 + length a + 1 ≡ key_number b * 8 + length b + 1 = e in
    let size : length a ≡ length b = omega arith in
    let key : key_number a ≡ key_number b = omega arith in
    (same_on 0 0 a b size fa fb key).1

name_byte : (c : ℕ) → is_name_byte c ≡ true → c < 256
name_byte c is = grind (arith, nat_tests)

name_bytes : (text : List ℕ) → list_all is_name_byte text ≡ true → (i : ℕ) → get_or text i 0 < 256
name_bytes [] all i = omega arith
name_bytes (byte ∷ bytes) all zero = name_byte byte (and_parts (is_name_byte byte) (list_all is_name_byte bytes) all).0
name_bytes (byte ∷ bytes) all (suc i) = name_bytes bytes (and_parts (is_name_byte byte) (list_all is_name_byte bytes) all).1 i

bytes_of_name : (name : List ℕ) → IsTrue (is_name name) → (i : ℕ) → get_or name i 0 < 256
bytes_of_name name is = name_bytes name (and_parts (nat_le 1 (length name) && nat_le (length name) MOST_NAME) (list_all is_name_byte name) is).1

-- where a short text has what is kept of a name, it is the name
kept_is : (name text : List ℕ) (short : Bool) → nat_le (length name) 6 ≡ short → IsTrue (is_name name) → length text ≤ 6 → ((i : ℕ) → get_or text i 0 < 256) →
    cond {A = ℕ} short (stamp name) 0 ≡ stamp text → name ≡ text
kept_is name text true e named few bytes is = same_stamp name text (grind (arith, nat_tests)) few (bytes_of_name name named) bytes is
kept_is name text false e named few bytes is = let s : 0 ≡ key_number text * 8 + length text + 1 = is in absurd (omega arith)

-- the place of a stamp is one of a name
within : (names : List (List ℕ)) (stamps text : List ℕ) (place : ℕ) → AreStamps names stamps → get_or stamps place 0 ≡ stamp text → (t : Bool) → nat_lt place (length names) ≡ t → place < length names
within names stamps text place are is true e = grind (arith, nat_tests)
within names stamps text place are is false e =
    let far : length names ≤ place = grind (arith, nat_tests) in
    let s : 0 ≡ key_number text * 8 + length text + 1 = sym (are.beyond place far) ∙ is in
    absurd (omega arith)

-- where a short text has the stamp that stands at a place, the name there is the text
pub stamped : (names : List (List ℕ)) (stamps text : List ℕ) (place : ℕ) → AreStamps names stamps → length text ≤ 6 → ((i : ℕ) → get_or text i 0 < 256) →
    get_or stamps place 0 ≡ stamp text → (place < length names) × (get_or names place [] ≡ text)
stamped names stamps text place are few bytes is =
    let lt : place < length names = within names stamps text place are is (nat_lt place (length names)) refl in
    (lt, kept_is (get_or names place []) text (nat_le (length (get_or names place [])) 6) refl (are.named place lt) few bytes (sym (are.here place lt) ∙ is))

-- the table has what is kept of the first names, so many of them, and 0 behind these
pub record StampedTo (n : ℕ) (names : List (List ℕ)) (stamps : List ℕ) : Type 0 where
  pub here : (place : ℕ) → place < n → get_or stamps place 0 ≡ kept_stamp (get_or names place [])
  pub beyond : (place : ℕ) → n ≤ place → get_or stamps place 0 ≡ 0
  pub named : (place : ℕ) → place < n → IsTrue (is_name (get_or names place []))

all_zero : (n k : ℕ) → ◌≡◌ {A = ℕ} (get_or (replicate {A = ℕ} n 0) k 0) 0
all_zero zero k = refl
all_zero (suc n) zero = refl
all_zero (suc n) (suc k) = all_zero n k

-- a table of zeros has nothing of a name
pub none_stamped : (names : List (List ℕ)) (stamps : List ℕ) → stamps ≡ replicate {A = ℕ} 256 0 → StampedTo 0 names stamps
none_stamped names stamps e = record {
  here = λ k lt. absurd (omega (arith, lt));
  beyond = λ k far. ap (λ (xs : List ℕ). get_or xs k 0) e ∙ all_zero 256 k;
  named = λ k lt. absurd (omega (arith, lt));
}

false_true : false ≡ true → ⊥
false_true e = absurd (cc)

at_or_not : (P : Type 0) (k place : ℕ) (t : Bool) → eqb k place ≡ t → (k ≡ place → P) → (k ≢ place → P) → P
at_or_not P k place true e same other = same ((Decides-eqb k place).0 e)
at_or_not P k place false e same other = other (λ is. false_true (sym e ∙ (Decides-eqb k place).1 is))

put_more : (names : List (List ℕ)) (before after : List ℕ) (place : ℕ) (name : List ℕ) → name ≡ get_or names place [] → IsTrue (is_name name) → IsPut before after place name →
    StampedTo place names before → StampedTo (place + 1) names after
put_more names before after place name there named put to = record {
  here = λ k lt. at_or_not (get_or after k 0 ≡ kept_stamp (get_or names k [])) k place (eqb k place) refl
      (λ is. subst (λ n. get_or after n 0 ≡ kept_stamp (get_or names n [])) (sym is) (put.here ∙ ap kept_stamp there))
      (λ other. put.others k other ∙ to.here k (omega (arith, lt, other)));
  beyond = λ k far. put.others k (λ is. omega (arith, far, is)) ∙ to.beyond k (omega (arith, far));
  named = λ k lt. at_or_not (IsTrue (is_name (get_or names k []))) k place (eqb k place) refl
      (λ is. subst (λ n. IsTrue (is_name (get_or names n []))) (sym is) (subst (λ n. IsTrue (is_name n)) there named))
      (λ other. to.named k (omega (arith, lt, other)));
}

module _ {X : Type 0} (name_of : X → List ℕ) where
  length_names : (rows : List X) → length (map name_of rows) ≡ length rows
  length_names [] = refl
  length_names (row ∷ rows) = ap suc (length_names rows)

  -- what is found so is the place of the row that has the text as its name
  pub found : (rows : List X) (stamps text : List ℕ) (place : ℕ) → are_different (map name_of rows) ≡ true → AreStamps (map name_of rows) stamps → length text ≤ 6 → ((i : ℕ) → get_or text i 0 < 256) →
      get_or stamps place 0 ≡ stamp text → (place < length rows) × (Some place ≡ cond {A = Option ℕ} (is_name text) (position (λ row. bytes_eq (name_of row) text) rows) None)
  found [] stamps text place different are few bytes is = absurd (omega (arith, (stamped [] stamps text place are few bytes is).0))
  found (row ∷ rows) stamps text place different are few bytes is =
      let at = stamped (map name_of (row ∷ rows)) stamps text place are few bytes is in
      let lt : place < length (row ∷ rows) = subst (λ n. place < n) (length_names (row ∷ rows)) at.0 in
      let here : name_of (get_or (row ∷ rows) place row) ≡ text = sym (get_or-map name_of (row ∷ rows) place row [] lt) ∙ at.1 in
      let named : is_name text ≡ true = subst (λ t. is_name t ≡ true) at.1 (are.named place at.0) in
      (lt, rw named (first_place name_of (row ∷ rows) place row text lt different ((bytes_eq-Decides _ _).1 here)))

  -- one more row's name is put
  pub row_put : (rows : List X) (before after : List ℕ) (place : ℕ) (row : X) → place < length rows → row ≡ get_or rows place row → IsTrue (is_name (name_of row)) → IsPut before after place (name_of row) →
      StampedTo place (map name_of rows) before → StampedTo (place + 1) (map name_of rows) after
  row_put rows before after place row lt is named put to =
      put_more (map name_of rows) before after place (name_of row) (ap name_of is ∙ sym (get_or-map name_of rows place row [] lt)) named put to

  -- all rows' names are put
  pub rows_put : (rows : List X) (stamps : List ℕ) (n : ℕ) → n ≤ length rows → length rows ≤ n → StampedTo n (map name_of rows) stamps → AreStamps (map name_of rows) stamps
  rows_put rows stamps n below above to =
      let all : n ≡ length (map name_of rows) = omega (arith, below, above, length_names rows) in
      let whole : StampedTo (length (map name_of rows)) (map name_of rows) stamps = subst (λ k. StampedTo k (map name_of rows) stamps) all to in
      record { here = whole.here; beyond = whole.beyond; named = whole.named }
