-- One more record behind those that were read.
use Rattle.std.proofs.Common.{◌≡◌, ◌∙◌, ap, refl, ℕ, ◌+◌, List, [], ◌∷◌, ◌++◌, length, Result, Ok, Err, ◌⊎◌, inl, inr, append_assoc, arith}
use Rattle.command_types.specs.Roster.{Rows}
use Rattle.command_types.specs.declared.file_fault.FileFault.{FileFault}
use Rattle.command_types.specs.declared.file_fault.FileFault.TheVariants.{Memory, Columns}
use Rattle.trade_file.specs.RosterFile.{no_rows, with_record, with_records, go_on, roster_of}

by_step : (o : Result Rows FileFault) (f g : Rows → Result Rows FileFault) (next : Rows) (end : Result Rows FileFault)
    → go_on f o ≡ Ok next → ((rows : Rows) → f rows ≡ Ok next → g rows ≡ end) → go_on g o ≡ end
by_step (Err fault) f g next end h more = absurd cc
by_step (Ok rows) f g next end h more = more rows h

same_ok : (a b : Rows) → (let r : Result Rows FileFault = Ok a in r) ≡ Ok b → a ≡ b
same_ok a b h = cc

-- records behind those that gave rows
pub with_records-more : (n : ℕ) (rows : Rows) (xs : List (List (List ℕ))) (r : List (List ℕ)) (ys : List (List (List ℕ))) (next : Rows)
    → with_records n rows xs ≡ Ok next
    → with_records n rows (xs ++ r ∷ ys) ≡ go_on (λ rows. with_records (n + length xs + 1) rows ys) (with_record (n + length xs) next r)
unfolding with_records
with_records-more n rows [] r ys next h =
    let e = same_ok rows next h in
    let z : n + 0 ≡ n = omega arith in
    rw (z, ← e) refl
with_records-more n rows (x ∷ xs) r ys next h =
    let z : n + 1 + length xs ≡ n + length (x ∷ xs) = omega arith in
    by_step (with_record n rows x) _ _ next _ h (λ m e. with_records-more (n + 1) m xs r ys next e ∙ rw z refl)

-- a record that gives rows
pub read_on : (front : List (List (List ℕ))) (r : List (List ℕ)) (rows next : Rows)
    → with_records 1 no_rows front ≡ Ok rows → with_record (length front + 1) rows r ≡ Ok next → with_records 1 no_rows (front ++ r ∷ []) ≡ Ok next
unfolding with_records
read_on front r rows next h e =
    let z : 1 + length front ≡ length front + 1 = omega arith in
    with_records-more 1 no_rows front r [] rows h ∙ rw (z, e) refl

front_first : (front : List (List (List ℕ))) (r : List (List ℕ)) (rest : List (List (List ℕ)))
    → roster_of (front ++ r ∷ rest) ≡ with_records 1 no_rows (front ++ r ∷ rest)
front_first [] r rest = refl
front_first (x ∷ front) r rest = refl

-- where a record ends the reading, the reading of all records ends so
pub ends : (all front rest : List (List (List ℕ))) (r : List (List ℕ)) (rows : Rows) (fault : FileFault) → all ≡ (front ++ (r ∷ [])) ++ rest
    → with_records 1 no_rows front ≡ Ok rows → (fault ≡ Memory) ⊎ (with_record (length front + 1) rows r ≡ Err fault) → (fault ≡ Memory) ⊎ (roster_of all ≡ Err fault)
ends all front rest r rows fault a h (inl m) = inl m
ends all front rest r rows fault a h (inr f) =
    let z : 1 + length front ≡ length front + 1 = omega arith in
    inr (ap roster_of (a ∙ append_assoc front (r ∷ []) rest) ∙ front_first front r rest ∙ with_records-more 1 no_rows front r rest rows h ∙ rw (z, f) refl)

-- all records were read
pub whole : (front : List (List (List ℕ))) (rows : Rows) (n : ℕ) → n ≡ length front → (n ≡ 0 → ⊥) → with_records 1 no_rows front ≡ Ok rows → roster_of front ≡ Ok rows
whole [] rows n e some h = absurd (some (omega arith))
whole (x ∷ front) rows n e some h = h

pub nothing : (front : List (List (List ℕ))) (n : ℕ) → n ≡ length front → n ≡ 0 → roster_of front ≡ Err (Columns 1)
nothing [] n e z = refl
nothing (x ∷ front) n e z = absurd (omega arith)
