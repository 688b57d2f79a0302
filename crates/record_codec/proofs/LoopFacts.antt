-- Reading values one after the other, as a loop does.
use Rattle.std.proofs.Common.{◌≡◌, ℕ, suc, ◌-◌, ◌+◌, ◌≤◌, ◌<◌, List, [], ◌∷◌, ◌++◌, Result, Ok, Err, refl, sym, ap, ◌∙◌, append_assoc, append-nil, arith}
use Rattle.network_laws.specs.declared.rows.Row.{Row}
use Rattle.network_laws.specs.Networks.{place}
use Rattle.record_codec.specs.declared.fault.ReadFault.{ReadFault}
use Rattle.record_codec.specs.declared.fault.ReadFault.TheVariants as reads
use Rattle.record_codec.specs.Reading.{Read, ◌>>=◌, row_at, rows_at}
use Rattle.record_codec.specs.Laws.{Fails, IsBadField}
use Rattle.record_codec.proofs.SolutionReading.{ReadsEach}

-- a fault that takes no memory is one of a function that may take some
pub fails : {B : Type 0} (fault : ReadFault) (read : Result B ℕ) → IsBadField fault read → Fails fault read
fails reads.Memory read is = tt
fails (reads.Bad left) read is = is

-- what was read before, and what is still read
abbrev pub with_front : {A : Type 0} → List A → Read (List A) → Read (List A)
with_front front read = read >>= λ x. Ok (front ++ x.0, x.1)

pub regroup : {A : Type 0} (front : List A) (n : A) (read : Read (List A)) → with_front front (read >>= λ x. Ok (n ∷ x.0, x.1)) ≡ with_front (front ++ n ∷ []) read
regroup front n (Ok x) = ap (λ (ns : List _). Ok (ns, x.1)) (simp append_assoc)
regroup front n (Err left) = refl

module _ {A : Type 0} {read : List ℕ → Read A} (each : ℕ → List ℕ → Read (List A)) (reads_each : ReadsEach read each) where
  pub goes_on : (front : List A) (count i : ℕ) (bytes : List ℕ) (n : A) (after : List ℕ) (total : Read (List A)) → i < count → read bytes ≡ Ok (n, after)
      → with_front front (each (count - i) bytes) ≡ total → with_front (front ++ n ∷ []) (each (count - (i + 1)) after) ≡ total
  goes_on front count i bytes n after total lt h so_far =
      let k : count - i ≡ suc (count - (i + 1)) = omega arith in
      let step : each (count - i) bytes ≡ (each (count - (i + 1)) after >>= λ others. Ok (n ∷ others.0, others.1)) =
      ap (λ (m : ℕ). each m bytes) k ∙ reads_each.one (count - (i + 1)) bytes ∙ ap (λ (r : Read A). r >>= λ first. each (count - (i + 1)) first.1 >>= λ others. Ok (first.0 ∷ others.0, others.1)) h in
      sym (ap (with_front front) step ∙ regroup front n (each (count - (i + 1)) after)) ∙ so_far

  pub ends : (fault : ReadFault) (front : List A) (count i : ℕ) (bytes : List ℕ) (total : Read (List A)) → i < count → Fails fault (read bytes)
      → with_front front (each (count - i) bytes) ≡ total → Fails fault total
  ends reads.Memory front count i bytes total lt h so_far = tt
  ends (reads.Bad left) front count i bytes total lt h so_far =
      let k : count - i ≡ suc (count - (i + 1)) = omega arith in
      let step : each (count - i) bytes ≡ Err left =
      ap (λ (m : ℕ). each m bytes) k ∙ reads_each.one (count - (i + 1)) bytes ∙ ap (λ (r : Read A). r >>= λ first. each (count - (i + 1)) first.1 >>= λ others. Ok (first.0 ∷ others.0, others.1)) h in
      sym so_far ∙ ap (with_front front) step

  pub is_done : (front : List A) (count i : ℕ) (bytes : List ℕ) (total : Read (List A)) → count ≤ i → with_front front (each (count - i) bytes) ≡ total → total ≡ Ok (front, bytes)
  is_done front count i bytes total le so_far =
      let k : count - i ≡ 0 = omega arith in
      sym so_far ∙ ap (with_front front) (ap (λ (m : ℕ). each m bytes) k ∙ reads_each.none bytes) ∙ ap (λ (ns : List A). Ok (ns, bytes)) (append-nil front)

-- ---- the same of rows, where each one moves the next place and the room

pub rows_go_on : (front : List Row) (count i members next room : ℕ) (bytes : List ℕ) (row : Row) (after : List ℕ) (total : Read (List Row)) → i < count → row_at members next room bytes ≡ Ok (row, after)
    → with_front front (rows_at (count - i) members next room bytes) ≡ total → with_front (front ++ row ∷ []) (rows_at (count - (i + 1)) members (place row + 1) (room - row.amount) after) ≡ total
unfolding rows_at
rows_go_on front count i members next room bytes row after total lt h so_far =
    let k : count - i ≡ suc (count - (i + 1)) = omega arith in
    let step : rows_at (count - i) members next room bytes ≡ (rows_at (count - (i + 1)) members (place row + 1) (room - row.amount) after >>= λ others. Ok (row ∷ others.0, others.1)) =
    ap (λ (m : ℕ). rows_at m members next room bytes) k ∙ ap (λ (r : Read Row). r >>= λ first. rows_at (count - (i + 1)) members (place first.0 + 1) (room - first.0.amount) first.1 >>= λ others. Ok (first.0 ∷ others.0, others.1)) h in
    sym (ap (with_front front) step ∙ regroup front row (rows_at (count - (i + 1)) members (place row + 1) (room - row.amount) after)) ∙ so_far

pub rows_end : (fault : ReadFault) (front : List Row) (count i members next room : ℕ) (bytes : List ℕ) (total : Read (List Row)) → i < count → Fails fault (row_at members next room bytes)
    → with_front front (rows_at (count - i) members next room bytes) ≡ total → Fails fault total
unfolding rows_at
rows_end reads.Memory front count i members next room bytes total lt h so_far = tt
rows_end (reads.Bad left) front count i members next room bytes total lt h so_far =
    let k : count - i ≡ suc (count - (i + 1)) = omega arith in
    let step : rows_at (count - i) members next room bytes ≡ Err left =
    ap (λ (m : ℕ). rows_at m members next room bytes) k ∙ ap (λ (r : Read Row). r >>= λ first. rows_at (count - (i + 1)) members (place first.0 + 1) (room - first.0.amount) first.1 >>= λ others. Ok (first.0 ∷ others.0, others.1)) h in
    sym so_far ∙ ap (with_front front) step

pub rows_done : (front : List Row) (count i members next room : ℕ) (bytes : List ℕ) (total : Read (List Row)) → count ≤ i → with_front front (rows_at (count - i) members next room bytes) ≡ total → total ≡ Ok (front, bytes)
unfolding rows_at
rows_done front count i members next room bytes total le so_far =
    let k : count - i ≡ 0 = omega arith in
    sym so_far ∙ ap (λ (m : ℕ). with_front front (rows_at m members next room bytes)) k ∙ ap (λ (ns : List Row). Ok (ns, bytes)) (append-nil front)
