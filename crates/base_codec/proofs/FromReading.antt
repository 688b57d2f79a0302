-- Lists whose items are read one after another, each from a number that the one before it left.
use Rattle.std.proofs.Common.{◌≡◌, ℕ, zero, suc, ◌-◌, ◌+◌, ◌≤◌, ◌<◌, List, [], ◌∷◌, ◌++◌, length, flat_map, Ok, Err, refl, sym, ap, subst, ◌∙◌, append_assoc, append-nil, arith}
use Rattle.std.proofs.lemmas.List.Concat.{flat_map-cons}
use Rattle.record_codec.specs.declared.fault.ReadFault.{ReadFault}
use Rattle.record_codec.specs.declared.fault.ReadFault.TheVariants as reads
use Rattle.record_codec.specs.Reading.{Read, ◌>>=◌}
use Rattle.record_codec.specs.Laws.{Fails}
use Rattle.record_codec.proofs.FieldFacts.{IsBytes, Takes, Takes-then, IsFormat, bind_ok, ok_is, seq_takes, seq_again}
use Rattle.record_codec.proofs.LoopFacts.{with_front, regroup}

-- a reader that goes over a count, and hands a number on
pub record ReadsFrom {A : Type 0} (read : ℕ → List ℕ → Read A) (next : ℕ → A → ℕ) (each : ℕ → ℕ → List ℕ → Read (List A)) : Type 0 where
  pub none : (n : ℕ) (bytes : List ℕ) → each zero n bytes ≡ Ok ([], bytes)
  pub one : (count n : ℕ) (bytes : List ℕ) → each (suc count) n bytes ≡ (read n bytes >>= λ first. each count (next n first.0) first.1 >>= λ others. Ok (first.0 ∷ others.0, others.1))

-- each item is one from the number that the ones before it left
abbrev pub AreFrom : {A : Type 0} → (ℕ → A → Type 0) → (ℕ → A → ℕ) → ℕ → List A → Type 0
AreFrom Is next n [] = Unit {0}
AreFrom Is next n (x ∷ xs) = Is n x × AreFrom Is next (next n x) xs

module _ {A : Type 0} {read : ℕ → List ℕ → Read A} {spell : A → List ℕ} {Is : ℕ → A → Type 0} (next : ℕ → A → ℕ) (each : ℕ → ℕ → List ℕ → Read (List A))
    (formats : (n : ℕ) → IsFormat (read n) spell (Is n)) (goes : ReadsFrom read next each) where
  pub from_takes : (count n : ℕ) (bytes : List ℕ) (x : List A × List ℕ) → IsBytes bytes → each count n bytes ≡ Ok x → Takes bytes (flat_map spell x.0) x.1 × (length x.0 ≡ count) × AreFrom Is next n x.0
  from_takes zero n bytes x fits e =
      subst (λ (y : List A × List ℕ). Takes bytes (flat_map spell y.0) y.1 × (length y.0 ≡ 0) × AreFrom Is next n y.0) (ok_is ([], bytes) x (sym (goes.none n bytes) ∙ e)) (record { parts = refl; rest_fits = fits }, refl, tt)
  from_takes (suc count) n bytes x fits e =
      let a = seq_takes (formats n) bytes (λ first. each count (next n first.0) first.1 >>= λ others. Ok (first.0 ∷ others.0, others.1)) x fits (sym (goes.one count n bytes) ∙ e) in
      let b = bind_ok (each count (next n a.0.0) a.0.1) (λ others. Ok (a.0.0 ∷ others.0, others.1)) x a.3 in
      let second = from_takes count (next n a.0.0) a.0.1 b.0 a.1.rest_fits b.1 in
      let both = Takes-then bytes (spell a.0.0) a.0.1 (flat_map spell b.0.0) b.0.1 a.1 second.0 in
      subst (λ (y : List A × List ℕ). Takes bytes (flat_map spell y.0) y.1 × (length y.0 ≡ suc count) × AreFrom Is next n y.0) (ok_is (a.0.0 ∷ b.0.0, b.0.1) x b.2) (rw flat_map-cons both, ap suc second.1, (a.2, second.2))

  pub from_again : (xs : List A) (n : ℕ) (rest : List ℕ) → AreFrom Is next n xs → each (length xs) n (flat_map spell xs ++ rest) ≡ Ok (xs, rest)
  from_again [] n rest h = goes.none n rest
  from_again (x ∷ xs) n rest h =
      let regrouped : flat_map spell (x ∷ xs) ++ rest ≡ spell x ++ (flat_map spell xs ++ rest) = ap (λ (t : List ℕ). t ++ rest) (flat_map-cons spell x xs) ∙ append_assoc (spell x) (flat_map spell xs) rest in
      ap (each (suc (length xs)) n) regrouped
      ∙ goes.one (length xs) n (spell x ++ (flat_map spell xs ++ rest))
      ∙ seq_again (formats n) x (flat_map spell xs ++ rest) (λ first. each (length xs) (next n first.0) first.1 >>= λ others. Ok (first.0 ∷ others.0, others.1)) h.0
      ∙ ap (λ (r : Read (List A)). r >>= λ others. Ok (x ∷ others.0, others.1)) (from_again xs (next n x) rest h.1)

-- ---- as a loop reads them

module _ {A : Type 0} {read : ℕ → List ℕ → Read A} (next : ℕ → A → ℕ) (each : ℕ → ℕ → List ℕ → Read (List A)) (goes : ReadsFrom read next each) where
  pub from_goes_on : (front : List A) (count i n : ℕ) (bytes : List ℕ) (x : A) (after : List ℕ) (total : Read (List A)) → i < count → read n bytes ≡ Ok (x, after)
      → with_front front (each (count - i) n bytes) ≡ total → with_front (front ++ x ∷ []) (each (count - (i + 1)) (next n x) after) ≡ total
  from_goes_on front count i n bytes x after total lt h so_far =
      let k : count - i ≡ suc (count - (i + 1)) = omega arith in
      let step : each (count - i) n bytes ≡ (each (count - (i + 1)) (next n x) after >>= λ others. Ok (x ∷ others.0, others.1)) =
      ap (λ (m : ℕ). each m n bytes) k ∙ goes.one (count - (i + 1)) n bytes
      ∙ ap (λ (r : Read A). r >>= λ first. each (count - (i + 1)) (next n first.0) first.1 >>= λ others. Ok (first.0 ∷ others.0, others.1)) h in
      sym (ap (with_front front) step ∙ regroup front x (each (count - (i + 1)) (next n x) after)) ∙ so_far

  pub from_ends : (fault : ReadFault) (front : List A) (count i n : ℕ) (bytes : List ℕ) (total : Read (List A)) → i < count → Fails fault (read n bytes)
      → with_front front (each (count - i) n bytes) ≡ total → Fails fault total
  from_ends reads.Memory front count i n bytes total lt h so_far = tt
  from_ends (reads.Bad left) front count i n bytes total lt h so_far =
      let k : count - i ≡ suc (count - (i + 1)) = omega arith in
      let step : each (count - i) n bytes ≡ Err left =
      ap (λ (m : ℕ). each m n bytes) k ∙ goes.one (count - (i + 1)) n bytes
      ∙ ap (λ (r : Read A). r >>= λ first. each (count - (i + 1)) (next n first.0) first.1 >>= λ others. Ok (first.0 ∷ others.0, others.1)) h in
      sym so_far ∙ ap (with_front front) step

  pub from_done : (front : List A) (count i n : ℕ) (bytes : List ℕ) (total : Read (List A)) → count ≤ i → with_front front (each (count - i) n bytes) ≡ total → total ≡ Ok (front, bytes)
  from_done front count i n bytes total le so_far =
      let k : count - i ≡ 0 = omega arith in
      sym so_far ∙ ap (with_front front) (ap (λ (m : ℕ). each m n bytes) k ∙ goes.none n bytes) ∙ ap (λ (ns : List A). Ok (ns, bytes)) (append-nil front)
