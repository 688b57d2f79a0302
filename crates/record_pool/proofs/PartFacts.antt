-- The parts of records, with one record more, and the change with a number.
use Rattle.std.proofs.Common.{◌≡◌, ℕ, ◌+◌, ◌-◌, ◌<◌, ◌≤◌, Bool, true, false, cond, List, [], ◌∷◌, ◌++◌, length, map, get_or, take, drop, refl, sym, ◌∙◌, ap, arith, append_assoc, length-append}
use Rattle.std.proofs.lemmas.List.{append-nil, map-append, length-map, length-drop, length-take-le, take_all, take_at, take-append-le, drop_all, drop-append-le, get_or-append_right, get_or-map, get_or-drop}
use Rattle.command_types.specs.declared.spelling.Spelling.{Spelling}
use Rattle.command_types.specs.declared.spelling.Spelling.TheVariants.{First, Second}
use Rattle.recovery.specs.Bodies.{Written, turns, spelling_after}
use Rattle.recovery.proofs.BodyFacts.{after_more, changes_more, changes_turned}
use Rattle.record_pool.specs.Parts.{in_first, in_second, parted, AreParts}
use Rattle.record_pool.specs.declared.parts.Parts.{Parts}

first_turns : (s : Spelling) (bytes : List ℕ) → turns s bytes ≡ true → s ≡ First
first_turns First bytes is = refl
first_turns Second bytes is = cc

not_first : {A : Type 0} → ◌≡◌ {A = Spelling} Second First → A
not_first is = absurd (cc)

-- where all are of the first spelling
parted_whole : (records : List (List ℕ)) (first skipped : ℕ) → length records ≤ first → parted records first skipped ≡ map in_first records
parted_whole records first skipped all =
    ap (λ (l : List (List ℕ)). map in_first l ++ map in_second (drop (first + skipped) records)) (take_all first records all)
    ∙ ap (λ (l : List (List ℕ)). map in_first records ++ map in_second l) (drop_all (first + skipped) records (omega (arith, all))) ∙ append-nil (map in_first records)

parted_turned : (records : List (List ℕ)) (bytes : List ℕ) (first : ℕ) → length records ≡ first → parted (records ++ bytes ∷ []) first 1 ≡ map in_first records
parted_turned records bytes first all =
    let more = records ++ bytes ∷ [] in
    ap (λ (l : List (List ℕ)). map in_first l ++ map in_second (drop (first + 1) more)) (take_at records (bytes ∷ []) first all)
    ∙ ap (λ (l : List (List ℕ)). map in_first records ++ map in_second l) (drop_all (first + 1) more (omega (arith, all, length-append records (bytes ∷ []))))
    ∙ append-nil (map in_first records)

pub none_parted : (start : Spelling) → AreParts start [] (record { spelling = start; first = 0; skipped = 0 })
none_parted start = record { changes = refl; spelling = refl; front = λ _. (refl, refl); within = omega arith }

pub turned_parted : (start : Spelling) (records : List (List ℕ)) (bytes : List ℕ) (parts : Parts) → AreParts start records parts → turns parts.spelling bytes ≡ true
    → AreParts start (records ++ bytes ∷ []) (record { spelling = Second; first = parts.first; skipped = 1 })
turned_parted start records bytes parts h is =
    let here : turns (spelling_after start records) bytes ≡ true = ap (λ (s : Spelling). turns s bytes) (sym h.spelling) ∙ is in
    let front = h.front (first_turns parts.spelling bytes is) in
    record {
      changes = changes_turned start records bytes here ∙ h.changes ∙ parted_whole records parts.first parts.skipped (omega (arith, front.0)) ∙ sym (parted_turned records bytes parts.first (sym front.0));
      spelling = sym (after_more start records bytes ∙ ap (λ (b : Bool). cond {A = Spelling} b Second (spelling_after start records)) here);
      front = λ no. not_first no;
      within = omega (arith, front.0, length-append records (bytes ∷ []));
    }

pub first_parted : (start : Spelling) (records : List (List ℕ)) (bytes : List ℕ) (parts : Parts) → AreParts start records parts → turns parts.spelling bytes ≡ false → parts.spelling ≡ First
    → AreParts start (records ++ bytes ∷ []) (record { spelling = First; first = parts.first + 1; skipped = parts.skipped })
first_parted start records bytes parts h is first =
    let here : turns (spelling_after start records) bytes ≡ false = ap (λ (s : Spelling). turns s bytes) (sym h.spelling) ∙ is in
    let after : spelling_after start records ≡ First = sym h.spelling ∙ first in
    let front = h.front first in
    let more = records ++ bytes ∷ [] in
    record {
      changes = changes_more start records bytes here ∙ ap (λ (l : List Written). l ++ (spelling_after start records, bytes) ∷ []) (h.changes ∙ parted_whole records parts.first parts.skipped (omega (arith, front.0)))
          ∙ ap (λ (s : Spelling). map in_first records ++ (s, bytes) ∷ []) after ∙ sym (map-append in_first records (bytes ∷ []))
          ∙ sym (parted_whole more (parts.first + 1) parts.skipped (omega (arith, front.0, length-append records (bytes ∷ []))));
      spelling = sym (after_more start records bytes ∙ ap (λ (b : Bool). cond {A = Spelling} b Second (spelling_after start records)) here ∙ after);
      front = λ _. (omega (arith, front.0, length-append records (bytes ∷ [])), front.1);
      within = omega (arith, front.0, front.1, length-append records (bytes ∷ []));
    }

pub second_parted : (start : Spelling) (records : List (List ℕ)) (bytes : List ℕ) (parts : Parts) → AreParts start records parts → turns parts.spelling bytes ≡ false → parts.spelling ≡ Second
    → AreParts start (records ++ bytes ∷ []) parts
second_parted start records bytes parts h is second =
    let here : turns (spelling_after start records) bytes ≡ false = ap (λ (s : Spelling). turns s bytes) (sym h.spelling) ∙ is in
    let after : spelling_after start records ≡ Second = sym h.spelling ∙ second in
    let f = parts.first in
    let k = parts.first + parts.skipped in
    let more = records ++ bytes ∷ [] in
    let behind : map in_second (drop k more) ≡ map in_second (drop k records) ++ (Second, bytes) ∷ [] =
    ap (λ (l : List (List ℕ)). map in_second l) (drop-append-le k records (bytes ∷ []) h.within) ∙ map-append in_second (drop k records) (bytes ∷ []) in
    record {
      changes = changes_more start records bytes here ∙ ap (λ (l : List Written). l ++ (spelling_after start records, bytes) ∷ []) h.changes
          ∙ ap (λ (s : Spelling). parted records f parts.skipped ++ (s, bytes) ∷ []) after
          ∙ append_assoc (map in_first (take f records)) (map in_second (drop k records)) ((Second, bytes) ∷ [])
          ∙ ap (λ (l : List Written). map in_first (take f records) ++ l) (sym behind)
          ∙ ap (λ (l : List (List ℕ)). map in_first l ++ map in_second (drop k more)) (sym (take-append-le f records (bytes ∷ []) (omega (arith, h.within))));
      spelling = second ∙ sym (after_more start records bytes ∙ ap (λ (b : Bool). cond {A = Spelling} b Second (spelling_after start records)) here ∙ after);
      front = λ no. not_first (sym second ∙ no);
      within = omega (arith, h.within, length-append records (bytes ∷ []));
    }

pub parted_length : (records : List (List ℕ)) (first skipped : ℕ) → first + skipped ≤ length records → length (parted records first skipped) + skipped ≡ length records
parted_length records first skipped within =
    let a = take first records in
    let b = drop (first + skipped) records in
    omega (arith, within, length-append (map in_first a) (map in_second b), length-map a in_first, length-map b in_second, length-take-le first records (omega (arith, within)), length-drop (first + skipped) records)

pub second_at : (records : List (List ℕ)) (first skipped n : ℕ) → first + skipped ≤ length records → first ≤ n → n + skipped < length records
    → get_or (parted records first skipped) n (Second, []) ≡ (Second, get_or records (n + skipped) [])
second_at records first skipped n within far inside =
    let a = take first records in
    let b = drop (first + skipped) records in
    let long : length (map in_first a) ≡ first = length-map a in_first ∙ length-take-le first records (omega (arith, within)) in
    let there : (first + skipped) + (n - first) ≡ n + skipped = omega (arith, far) in
    get_or-append_right (map in_first a) (map in_second b) first n (Second, []) long far
    ∙ get_or-map in_second b (n - first) [] (Second, []) (omega (arith, inside, far, length-drop (first + skipped) records))
    ∙ ap in_second (get_or-drop (first + skipped) records (n - first) [] ∙ ap (λ (k : ℕ). get_or records k []) there)
