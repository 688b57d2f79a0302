-- How long spellings are, and that posts stay within a journal's numbers.
use Rattle.std.proofs.Common.{◌≡◌, ℕ, ◌+◌, ◌*◌, ◌≤◌, true, List, [], ◌∷◌, ◌++◌, length, flat_map, sum_by, Option, Some, None, unwrap_or, refl, ap, ◌∙◌, arith}
use Rattle.std.specs.Int.{w16, w32, to_le_bytes}
use Rattle.std.proofs.lemmas.List.{length-append}
use Rattle.std.proofs.lemmas.List.Sums.{sum_by-cons}
use Rattle.std.proofs.lemmas.List.Concat.{flat_map-cons}
use Rattle.network_laws.specs.Solutions.{SolutionData, IsSolution}
use Rattle.command_types.specs.declared.ask.Entry.{Entry}
use Rattle.command_types.specs.declared.ask.What.{What}
use Rattle.command_types.specs.declared.ask.What.TheVariants.{Hello, Trade, Affirm, End, Hold, Free, Tol, Nets, Statement, Freeze, Begin, Limits, Row, Pot, Post, Fetch, Next, Plan, Proof, Accept, Decline, Cancel, Bye, Unreadable}
use Rattle.command_types.specs.declared.spelling.Spelling.TheVariants.{Second}
use Rattle.command_types.specs.Machine.{changes}
use Rattle.command_types.specs.Sizes.{ceiling_size, solution_size, fields_size, record_size}
use Rattle.command_types.specs.Spelling.{number_spelling, name_spelling, day_spelling, side_byte, ceiling_spelling, row_spelling, potential_spelling, solution_spelling, fields_spelling, spelling}
use Rattle.record_codec.proofs.RowReading.{rows_few}

length_3 : (a b c : List ℕ) → length (a ++ b ++ c) ≡ length a + length b + length c
length_3 a b c = omega (arith, length-append (a ++ b) c, length-append a b)

length_4 : (a b c d : List ℕ) → length (a ++ b ++ c ++ d) ≡ length a + length b + length c + length d
length_4 a b c d = omega (arith, length-append (a ++ b ++ c) d, length_3 a b c)

length_5 : (a b c d e : List ℕ) → length (a ++ b ++ c ++ d ++ e) ≡ length a + length b + length c + length d + length e
length_5 a b c d e = omega (arith, length-append (a ++ b ++ c ++ d) e, length_4 a b c d)

-- pieces of one length
length_each : {A : Type 0} (spell : A → List ℕ) (k : ℕ) → ((x : A) → length (spell x) ≡ k) → (xs : List A) → length (flat_map spell xs) ≡ k * length xs
length_each spell k each [] = omega arith
length_each spell k each (x ∷ xs) =
    let more : length (flat_map spell (x ∷ xs)) ≡ length (spell x) + length (flat_map spell xs) = ap length (flat_map-cons spell x xs) ∙ length-append (spell x) (flat_map spell xs) in
    let step : k * length (x ∷ xs) ≡ k + k * length xs = grind arith in
    omega (arith, more, step, each x, length_each spell k each xs)

-- pieces by their sizes
length_sum : {A : Type 0} (spell : A → List ℕ) (size : A → ℕ) → ((x : A) → length (spell x) ≡ size x) → (xs : List A) → length (flat_map spell xs) ≡ sum_by size xs
length_sum spell size each [] = refl
length_sum spell size each (x ∷ xs) =
    let more : length (flat_map spell (x ∷ xs)) ≡ length (spell x) + length (flat_map spell xs) = ap length (flat_map-cons spell x xs) ∙ length-append (spell x) (flat_map spell xs) in
    omega (arith, more, each x, length_sum spell size each xs, sum_by-cons size x xs)

solution_length : (s : SolutionData) → length (solution_spelling s) ≡ solution_size s
solution_length s =
    let rows = flat_map row_spelling s.network.rows in
    let potentials = flat_map potential_spelling s.potentials in
    let all = length_4 (to_le_bytes w16 s.network.members) (to_le_bytes w32 (length s.network.rows)) rows potentials in
    let by_rows : length rows ≡ 12 * length s.network.rows = length_each row_spelling 12 (λ row. refl) s.network.rows in
    let by_potentials : length potentials ≡ 4 * length s.potentials = length_each potential_spelling 4 (λ p. refl) s.potentials in
    omega (arith, all, by_rows, by_potentials)

ceiling_length : (ceiling : Option ℕ) → length (ceiling_spelling ceiling) ≡ ceiling_size ceiling
ceiling_length None = refl
ceiling_length (Some n) = refl

fields_length : (what : What) → changes what ≡ true → length (fields_spelling what) ≡ 1 + fields_size what
fields_length (Trade seller buyer product amount day) is =
    let all = length_5 (1 ∷ name_spelling seller) (name_spelling buyer) (name_spelling product) (number_spelling amount) (day_spelling day) in
    omega (arith, all)
fields_length (Affirm trade) is = refl
fields_length (End trade) is = refl
fields_length (Hold trade) is = refl
fields_length (Free trade) is = refl
fields_length (Tol other product side floor ceiling) is =
    let all = length_4 (6 ∷ name_spelling other) (name_spelling product) (side_byte side ∷ number_spelling floor) (ceiling_spelling ceiling) in
    omega (arith, all, ceiling_length ceiling)
fields_length (Freeze day) is = refl
fields_length (Begin cycle mode) is = refl
fields_length (Post cycle version solutions) is =
    let list : length (flat_map solution_spelling solutions) ≡ sum_by solution_size solutions = length_sum solution_spelling solution_size solution_length solutions in
    let all = length_4 (9 ∷ number_spelling cycle) (number_spelling version) (to_le_bytes w16 (length solutions)) (flat_map solution_spelling solutions) in
    omega (arith, all, list)
fields_length (Accept cycle version) is = refl
fields_length (Decline cycle version) is = refl
fields_length (Cancel cycle) is = refl
fields_length (Hello name key) is = absurd cc
fields_length (Nets product) is = absurd cc
fields_length Statement is = absurd cc
fields_length (Limits product) is = absurd cc
fields_length (Row product seller buyer amount size sum) is = absurd cc
fields_length (Pot product member value size) is = absurd cc
fields_length (Fetch cycle version) is = absurd cc
fields_length (Next position) is = absurd cc
fields_length (Plan cycle) is = absurd cc
fields_length (Proof cycle) is = absurd cc
fields_length Bye is = absurd cc
fields_length (Unreadable at) is = absurd cc

-- a record is as long as its size says
pub spelling_length : (e : Entry) → changes e.ask.what ≡ true → length (spelling Second e) ≡ record_size e.ask
spelling_length e is =
    let party : List ℕ = unwrap_or e.ask.by [] in
    let all = length_4 (number_spelling e.ask.moment) (to_le_bytes w32 e.seat) (name_spelling party) (fields_spelling e.ask.what) in
    omega (arith, all, fields_length e.ask.what is)

-- a solution's rows are few enough for their number's four bytes
pub solution_small : (s : SolutionData) → IsSolution s → (length s.network.rows ≤ 16777216) × (length s.potentials ≤ 256) × (solution_size s ≤ 268435456)
solution_small s h =
    let rows = rows_few s.network.members s.network.rows h.network.few h.network.rows in
    let potentials : length s.potentials ≤ 256 = omega (arith, h.one_each, h.network.few) in
    (rows, potentials, omega (arith, rows, potentials))
