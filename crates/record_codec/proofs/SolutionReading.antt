-- Solutions: what is read is spelled so, and what is spelled so is read.
use Rattle.std.proofs.Common.{◌≡◌, ℕ, zero, suc, ◌^◌, ◌<◌, Bool, true, false, List, [], ◌∷◌, ◌++◌, length, take, flat_map, Some, Ok, refl, sym, ap, subst, ◌∙◌, append_assoc, arith, ℤ, pos, negsuc, neg_ℤ, int_le, to_z-of_z, SFits}
use Rattle.std.specs.Int.{w16, w32, to_le_bytes, from_le_bytes, cast_signed, cast_unsigned}
use Rattle.std.specs.List.{AllByRecursion}
use Rattle.std.proofs.lemmas.Bool.{and_parts, and_from}
use Rattle.std.proofs.lemmas.Int.{of_z-to_z, ints}
use Rattle.std.proofs.lemmas.List.Elements.{All-from_recursion, recursion_from_All}
use Rattle.std.proofs.lemmas.List.Concat.{flat_map-cons}
use Rattle.std.proofs.lemmas.Nat.{le_bytes_4, from_le_bytes-to_le_bytes_4}
use Rattle.network_laws.specs.declared.rows.Row.{Row}
use Rattle.network_laws.specs.Solutions.{SolutionData, IsSolution, IsPotential}
use Rattle.command_types.specs.Spelling.{row_spelling, potential_spelling, solution_spelling}
use Rattle.record_codec.specs.Reading.{Read, ◌>>=◌, row_count_at, rows_at, is_potential, potential_if, potential_in, potential_at, potentials_at, solution_at, solutions_at}
use Rattle.record_codec.proofs.FieldFacts.{IsBytes, Takes, Takes-then, IsFormat, IsField, format_of, field_ok, bind_ok, ok_is, seq_takes, seq_again}
use Rattle.record_codec.proofs.KindFacts.{count_format, row_count_format}
use Rattle.record_codec.proofs.RowReading.{rows_take, rows_again, rows_are, rows_from, rows_few}

-- ---- potentials

pub potential_is : (p : ℤ) → is_potential p ≡ true → IsPotential p
potential_is p h =
    let both = and_parts (int_le (neg_ℤ (pos 1000000)) p) (int_le p (pos 1000000)) h in
    record { least = grind (arith, ints, both.0); most = grind (arith, ints, both.1) }

pub potential_passes : (p : ℤ) → IsPotential p → is_potential p ≡ true
potential_passes p h =
    let least : int_le (neg_ℤ (pos 1000000)) p ≡ true = grind (arith, ints, h.least) in
    let most : int_le p (pos 1000000) ≡ true = grind (arith, ints, h.most) in
    and_from _ _ least most

potential_chosen : (b : Bool) (p q : ℤ) → potential_if b p ≡ Some q → (b ≡ true) × (p ≡ q)
potential_chosen true p q e = (refl, cc)
potential_chosen false p q e = absurd cc

pub potential_fits : (p : ℤ) → IsPotential p → SFits w32 p
potential_fits (pos n) h = record { sfits = omega (arith, ints, h.most) }
potential_fits (negsuc n) h = record { sfits = omega (arith, ints, h.least) }

bits_fit : (p : ℤ) → IsPotential p → cast_unsigned w32 p < 2 ^ 32
bits_fit (pos n) h = omega (arith, ints, h.most)
bits_fit (negsuc n) h = omega (arith, ints, h.least)

potential_field : IsField 4 potential_in potential_spelling IsPotential
potential_field = record {
  back = λ text q len fits e.
      let n : ℕ = from_le_bytes w32 text in
      let c = potential_chosen (is_potential (cast_signed w32 n)) (cast_signed w32 n) q e in
      let small : n < 2 ^ 32 = omega (arith, fits 0, fits 1, fits 2, fits 3) in
      let bits : cast_unsigned w32 q ≡ n = ap (cast_unsigned w32) (sym c.1) ∙ of_z-to_z w32 n small in
      (sym (le_bytes_4 text (cast_unsigned w32 q) len fits bits), potential_is q (subst (λ (p : ℤ). is_potential p ≡ true) c.1 c.0));
  again = λ p is.
      let bits : from_le_bytes w32 (potential_spelling p) ≡ cast_unsigned w32 p = from_le_bytes-to_le_bytes_4 (cast_unsigned w32 p) (bits_fit p is) in
      let same : cast_signed w32 (from_le_bytes w32 (potential_spelling p)) ≡ p = ap (cast_signed w32) bits ∙ to_z-of_z (potential_fits p is) in
      subst (λ (q : ℤ). potential_if (is_potential q) q ≡ Some p) (sym same) (ap (λ (t : Bool). potential_if t p) (potential_passes p is));
  sized = λ p is. refl;
}

potential_format : IsFormat potential_at potential_spelling IsPotential
potential_format = format_of 4 potential_in potential_spelling IsPotential potential_field

-- ---- lists of a length that is known

-- a reader that goes over a count, one value after the other
pub record ReadsEach {A : Type 0} (read : List ℕ → Read A) (each : ℕ → List ℕ → Read (List A)) : Type 0 where
  pub none : (bytes : List ℕ) → each zero bytes ≡ Ok ([], bytes)
  pub one : (n : ℕ) (bytes : List ℕ) → each (suc n) bytes ≡ (read bytes >>= λ first. each n first.1 >>= λ others. Ok (first.0 ∷ others.0, others.1))

pub each_takes : {A : Type 0} {read : List ℕ → Read A} {spell : A → List ℕ} {Is : A → Type 0} (each : ℕ → List ℕ → Read (List A)) → IsFormat read spell Is → ReadsEach read each → (count : ℕ) (bytes : List ℕ) (x : List A × List ℕ) → IsBytes bytes → each count bytes ≡ Ok x
    → Takes bytes (flat_map spell x.0) x.1 × (length x.0 ≡ count) × AllByRecursion Is x.0
each_takes {A} {read} {spell} {Is} each format reads zero bytes x fits e =
    subst (λ (y : List A × List ℕ). Takes bytes (flat_map spell y.0) y.1 × (length y.0 ≡ 0) × AllByRecursion Is y.0) (ok_is ([], bytes) x (sym (reads.none bytes) ∙ e)) (record { parts = refl; rest_fits = fits }, refl, tt)
each_takes {A} {read} {spell} {Is} each format reads (suc n) bytes x fits e =
    let a = seq_takes format bytes (λ first. each n first.1 >>= λ others. Ok (first.0 ∷ others.0, others.1)) x fits (sym (reads.one n bytes) ∙ e) in
    let b = bind_ok (each n a.0.1) (λ others. Ok (a.0.0 ∷ others.0, others.1)) x a.3 in
    let second = each_takes each format reads n a.0.1 b.0 a.1.rest_fits b.1 in
    let both = Takes-then bytes (spell a.0.0) a.0.1 (flat_map spell b.0.0) b.0.1 a.1 second.0 in
    subst (λ (y : List A × List ℕ). Takes bytes (flat_map spell y.0) y.1 × (length y.0 ≡ suc n) × AllByRecursion Is y.0) (ok_is (a.0.0 ∷ b.0.0, b.0.1) x b.2) (rw flat_map-cons both, ap suc second.1, (a.2, second.2))

pub each_again : {A : Type 0} {read : List ℕ → Read A} {spell : A → List ℕ} {Is : A → Type 0} (each : ℕ → List ℕ → Read (List A)) → IsFormat read spell Is → ReadsEach read each → (xs : List A) (rest : List ℕ) → AllByRecursion Is xs → each (length xs) (flat_map spell xs ++ rest) ≡ Ok (xs, rest)
each_again each format reads [] rest h = reads.none rest
each_again {A} {read} {spell} each format reads (x ∷ xs) rest h =
    let regrouped : flat_map spell (x ∷ xs) ++ rest ≡ spell x ++ (flat_map spell xs ++ rest) = ap (λ (t : List ℕ). t ++ rest) (flat_map-cons spell x xs) ∙ append_assoc (spell x) (flat_map spell xs) rest in
    ap (each (suc (length xs))) regrouped
    ∙ reads.one (length xs) (spell x ++ (flat_map spell xs ++ rest))
    ∙ seq_again format x (flat_map spell xs ++ rest) (λ first. each (length xs) first.1 >>= λ others. Ok (first.0 ∷ others.0, others.1)) h.0
    ∙ ap (λ (r : Read (List A)). r >>= λ others. Ok (x ∷ others.0, others.1)) (each_again each format reads xs rest h.1)

pub potentials_each : ReadsEach potential_at potentials_at
unfolding potentials_at
potentials_each = record { none = λ bytes. refl; one = λ n bytes. refl }

pub potentials_take : (count : ℕ) (bytes : List ℕ) (x : List ℤ × List ℕ) → IsBytes bytes → potentials_at count bytes ≡ Ok x → Takes bytes (flat_map potential_spelling x.0) x.1 × (length x.0 ≡ count) × AllByRecursion IsPotential x.0
potentials_take count bytes x fits e = each_takes potentials_at potential_format potentials_each count bytes x fits e

-- a potential that was read keeps its rule
pub potential_allowed : (bytes : List ℕ) (x : ℤ × List ℕ) → potential_at bytes ≡ Ok x → IsPotential x.0
potential_allowed bytes x e =
    let f = field_ok 4 potential_in bytes x e in
    let p : ℤ = cast_signed w32 (from_le_bytes w32 (take 4 bytes)) in
    let c = potential_chosen (is_potential p) p x.0 f.1 in
    potential_is x.0 (subst (λ (q : ℤ). is_potential q ≡ true) c.1 c.0)

-- potentials that were read keep their rule
pub potentials_allowed : (count : ℕ) (bytes : List ℕ) (x : List ℤ × List ℕ) → potentials_at count bytes ≡ Ok x → (length x.0 ≡ count) × AllByRecursion IsPotential x.0
unfolding potentials_at
potentials_allowed zero bytes x e = subst (λ (y : List ℤ × List ℕ). (length y.0 ≡ 0) × AllByRecursion IsPotential y.0) (ok_is ([], bytes) x e) (refl, tt)
potentials_allowed (suc n) bytes x e =
    let a = bind_ok (potential_at bytes) (λ first. potentials_at n first.1 >>= λ others. Ok (first.0 ∷ others.0, others.1)) x e in
    let b = bind_ok (potentials_at n a.0.1) (λ others. Ok (a.0.0 ∷ others.0, others.1)) x a.2 in
    let first : IsPotential a.0.0 = potential_allowed bytes a.0 a.1 in
    let others = potentials_allowed n a.0.1 b.0 b.1 in
    subst (λ (y : List ℤ × List ℕ). (length y.0 ≡ suc n) × AllByRecursion IsPotential y.0) (ok_is (a.0.0 ∷ b.0.0, b.0.1) x b.2) (ap suc others.0, (first, others.1))

-- ---- one solution

abbrev most_gross : ℕ
most_gross = 1000000000000000000

abbrev after_potentials : ℕ → List Row → List ℤ × List ℕ → Read SolutionData
after_potentials members rows potentials = Ok (record { network = record { members = members; rows = rows }; potentials = potentials.0 }, potentials.1)

abbrev after_rows : ℕ → List Row × List ℕ → Read SolutionData
after_rows members rows = potentials_at members rows.1 >>= after_potentials members rows.0

abbrev after_count : ℕ → ℕ × List ℕ → Read SolutionData
after_count members count = rows_at count.0 members 0 most_gross count.1 >>= after_rows members

abbrev after_members : ℕ × List ℕ → Read SolutionData
after_members members = row_count_at members.1 >>= after_count members.0

solution_takes : (bytes : List ℕ) (x : SolutionData × List ℕ) → IsBytes bytes → solution_at bytes ≡ Ok x → Takes bytes (solution_spelling x.0) x.1 × IsSolution x.0
unfolding solution_at
solution_takes bytes x fits e =
    let m = seq_takes (count_format 256 (omega arith)) bytes after_members x fits e in
    let members = m.0.0 in
    let c = seq_takes row_count_format m.0.1 (after_count members) x m.1.rest_fits m.3 in
    let r = bind_ok (rows_at c.0.0 members 0 most_gross c.0.1) (after_rows members) x c.3 in
    let rows = rows_take c.0.0 members 0 most_gross c.0.1 r.0 m.2 (omega arith) c.1.rest_fits r.1 in
    let p = bind_ok (potentials_at members r.0.1) (after_potentials members r.0.0) x r.2 in
    let potentials = potentials_take members r.0.1 p.0 rows.0.rest_fits p.1 in
    let counted : Takes m.0.1 (to_le_bytes w32 (length r.0.0)) c.0.1 = subst (λ (k : ℕ). Takes m.0.1 (to_le_bytes w32 k) c.0.1) (sym rows.1) c.1 in
    let front = Takes-then bytes (to_le_bytes w16 members) m.0.1 (to_le_bytes w32 (length r.0.0)) c.0.1 m.1 counted in
    let middle = Takes-then bytes (to_le_bytes w16 members ++ to_le_bytes w32 (length r.0.0)) c.0.1 (flat_map row_spelling r.0.0) r.0.1 front rows.0 in
    let all = Takes-then bytes (to_le_bytes w16 members ++ to_le_bytes w32 (length r.0.0) ++ flat_map row_spelling r.0.0) r.0.1 (flat_map potential_spelling p.0.0) p.0.1 middle potentials.0 in
    let is : IsSolution (record { network = record { members = members; rows = r.0.0 }; potentials = p.0.0 }) = record {
      network = record { few = m.2; rows = rows_are members r.0.0 rows.2 };
      one_each = potentials.1;
      in_range = All-from_recursion IsPotential p.0.0 potentials.2;
    } in
    subst (λ (y : SolutionData × List ℕ). Takes bytes (solution_spelling y.0) y.1 × IsSolution y.0) (ok_is (record { network = record { members = members; rows = r.0.0 }; potentials = p.0.0 }, p.0.1) x p.2) (all, is)

regroup_4 : (a b c d rest : List ℕ) → a ++ b ++ c ++ d ++ rest ≡ a ++ (b ++ (c ++ (d ++ rest)))
regroup_4 a b c d rest = simp append_assoc

solution_again : (s : SolutionData) (rest : List ℕ) → IsSolution s → solution_at (solution_spelling s ++ rest) ≡ Ok (s, rest)
unfolding solution_at
solution_again s rest is =
    let members = s.network.members in
    let rows = s.network.rows in
    let p : List ℕ = flat_map potential_spelling s.potentials ++ rest in
    let r : List ℕ = flat_map row_spelling rows ++ p in
    let few = rows_few members rows is.network.few is.network.rows in
    let last : potentials_at members p ≡ Ok (s.potentials, rest) = ap (λ (k : ℕ). potentials_at k p) (sym is.one_each) ∙ each_again potentials_at potential_format potentials_each s.potentials rest (recursion_from_All IsPotential s.potentials is.in_range) in
    ap solution_at (regroup_4 (to_le_bytes w16 members) (to_le_bytes w32 (length rows)) (flat_map row_spelling rows) (flat_map potential_spelling s.potentials) rest)
    ∙ seq_again (count_format 256 (omega arith)) members (to_le_bytes w32 (length rows) ++ r) after_members is.network.few
    ∙ seq_again row_count_format (length rows) r (after_count members) (omega arith)
    ∙ ap (λ (x : Read (List Row)). x >>= after_rows members) (rows_again rows members 0 most_gross p is.network.few (omega arith) (rows_from members rows is.network.rows))
    ∙ ap (λ (x : Read (List ℤ)). x >>= after_potentials members rows) last

solution_format : IsFormat solution_at solution_spelling IsSolution
solution_format = record { takes = solution_takes; again = solution_again }

-- ---- all solutions

pub solutions_each : ReadsEach solution_at solutions_at
unfolding solutions_at
solutions_each = record { none = λ bytes. refl; one = λ n bytes. refl }

pub solutions_take : (count : ℕ) (bytes : List ℕ) (x : List SolutionData × List ℕ) → IsBytes bytes → solutions_at count bytes ≡ Ok x → Takes bytes (flat_map solution_spelling x.0) x.1 × (length x.0 ≡ count) × AllByRecursion IsSolution x.0
solutions_take count bytes x fits e = each_takes solutions_at solution_format solutions_each count bytes x fits e

pub solutions_again : (xs : List SolutionData) (rest : List ℕ) → AllByRecursion IsSolution xs → solutions_at (length xs) (flat_map solution_spelling xs ++ rest) ≡ Ok (xs, rest)
solutions_again xs rest h = each_again solutions_at solution_format solutions_each xs rest h
