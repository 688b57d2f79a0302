-- The records that were reached are the first of all the records, and no more than the bytes.
use Rattle.std.proofs.Common.{◌≡◌, ◌∙◌, refl, ap, ◌<◌, ◌≤◌, ◌+◌, ◌==◌, ℕ, zero, suc, List, ◌++◌, ◌∷◌, [], length, arith, Option, Some, None, Bool, true, false, ◌&&◌, if◌then◌else◌}
use Rattle.std.proofs.Common.{subst}
use Rattle.std.proofs.lemmas.List.{append-nil}
use Rattle.csv.specs.Machine.{Read, next_record, ends_at_end, is_end, step, in_field, start_field, start_record, after_end, ends_with, is_byte, fields_after, field_after, carriage_return, line_feed}
use Rattle.csv.specs.Reading.{Reached, records_from, records_next, records, default_config, strip_bom, is_bom}
use Rattle.csv.specs.declared.parser.Config.{Config}
use Rattle.csv.specs.declared.parser.Terminator.{Terminator}
use Rattle.csv.specs.declared.parser.Terminator.TheVariants as term
use Rattle.csv.specs.declared.parser.State.{State}
use Rattle.csv.specs.declared.parser.State.TheVariants as st
use Rattle.csv.specs.declared.parser.Action.{Action}

-- a step that ends a record leaves no record begun
abbrev pub EndsClean : State × Action → Type 0
EndsClean p = is_end p.1 ≡ true → ends_at_end p.0 ≡ false

after-clean : (t : Terminator) (c : ℕ) → ends_at_end (after_end t c) ≡ false
after-clean term.CRLF c = elim (c == carriage_return) as (λ b. ends_at_end (if b then st.AfterCr else st.StartRecord) ≡ false) [ true ↦ refl | false ↦ refl ]
after-clean (term.Any t) c = refl

choose : (b : Bool) (p q : State × Action) → EndsClean p → EndsClean q → EndsClean (if b then p else q)
choose true p q a h = a
choose false p q a h = h

in_field-clean : (cfg : Config) (c : ℕ) → EndsClean (in_field cfg c)
in_field-clean cfg c =
    choose (c == cfg.delimiter) _ _ (λ h. cc) (choose (ends_with cfg.terminator c) _ _ (λ h. after-clean cfg.terminator c) (λ h. cc))

start_field-clean : (cfg : Config) (c : ℕ) → EndsClean (start_field cfg c)
start_field-clean cfg c = choose (cfg.quoting && (c == cfg.quote)) _ _ (λ h. cc) (in_field-clean cfg c)

start_record-clean : (cfg : Config) (c : ℕ) → EndsClean (start_record cfg c)
start_record-clean cfg c =
    choose (ends_with cfg.terminator c) _ _ (λ h. cc) (choose (is_byte cfg.comment c) _ _ (λ h. cc) (start_field-clean cfg c))

step-clean : (cfg : Config) (s : State) (c : ℕ) → EndsClean (step cfg s c)
step-clean cfg st.StartRecord c = start_record-clean cfg c
step-clean cfg st.StartField c = start_field-clean cfg c
step-clean cfg st.InField c = in_field-clean cfg c
step-clean cfg st.InQuoted c = choose (cfg.quoting && (c == cfg.quote)) _ _ (λ h. cc) (choose (cfg.quoting && is_byte cfg.escape c) _ _ (λ h. cc) (λ h. cc))
step-clean cfg st.InEscape c = λ h. cc
step-clean cfg st.AfterQuote c = choose (cfg.quoting && cfg.double_quote && (c == cfg.quote)) _ _ (λ h. cc) (in_field-clean cfg c)
step-clean cfg st.InComment c = choose (c == line_feed) _ _ (λ h. cc) (λ h. cc)
step-clean cfg st.AfterCr c = choose (c == line_feed) _ _ (λ h. cc) (start_record-clean cfg c)

-- a record's read: what is left is no longer, and no record is begun
abbrev pub Leaves : ℕ → Option Read → Type 0
Leaves n None = Unit {0}
Leaves n (Some p) = (length p.2 ≤ n) × (ends_at_end p.1 ≡ false)

leaves-more : (n : ℕ) (o : Option Read) → Leaves n o → Leaves (suc n) o
leaves-more n None h = tt
leaves-more n (Some p) h = (omega arith, h.1)

next-leaves : (cfg : Config) (s : State) (fields : List (List ℕ)) (field xs : List ℕ) → Leaves (length xs) (next_record cfg s fields field xs)
unfolding next_record
next-leaves cfg s fields field [] =
    elim (ends_at_end s) as (λ b. Leaves 0 (if b then Some (fields ++ (field ∷ []), st.StartRecord, []) else None)) [ true ↦ (omega arith, refl) | false ↦ tt ]
next-leaves cfg s fields field (c ∷ rest) =
    let more = leaves-more (length rest) _ (next-leaves cfg (step cfg s c).0 (fields_after (step cfg s c).1 fields field) (field_after (step cfg s c).1 c field) rest) in
    let P : Bool → Type 0 = λ b. (is_end (step cfg s c).1 ≡ b) → Leaves (suc (length rest)) (if b then Some (fields_after (step cfg s c).1 fields field, (step cfg s c).0, rest)
    else next_record cfg (step cfg s c).0 (fields_after (step cfg s c).1 fields field) (field_after (step cfg s c).1 c field) rest) in
    (elim (is_end (step cfg s c).1) as P [ true ↦ (λ e. (omega arith, step-clean cfg s c e)) | false ↦ (λ e. more) ]) refl

next-leaves-cons : (cfg : Config) (s : State) (fields : List (List ℕ)) (field : List ℕ) (c : ℕ) (rest : List ℕ) → Leaves (length rest) (next_record cfg s fields field (c ∷ rest))
unfolding next_record
next-leaves-cons cfg s fields field c rest =
    let more = next-leaves cfg (step cfg s c).0 (fields_after (step cfg s c).1 fields field) (field_after (step cfg s c).1 c field) rest in
    let P : Bool → Type 0 = λ b. (is_end (step cfg s c).1 ≡ b) → Leaves (length rest) (if b then Some (fields_after (step cfg s c).1 fields field, (step cfg s c).0, rest)
    else next_record cfg (step cfg s c).0 (fields_after (step cfg s c).1 fields field) (field_after (step cfg s c).1 c field) rest) in
    (elim (is_end (step cfg s c).1) as P [ true ↦ (λ e. (omega arith, step-clean cfg s c e)) | false ↦ (λ e. more) ]) refl

none-at-end : (s : State) (p : Read) → ends_at_end s ≡ false → (if ends_at_end s then Some (([] ∷ []), st.StartRecord, []) else None) ≡ Some p → ⊥
none-at-end s p clean e = let f = rw clean at e in cc

-- a record that begins takes at least a byte
pub next-shorter : (cfg : Config) (s : State) (xs : List ℕ) (p : Read) → ends_at_end s ≡ false → next_record cfg s [] [] xs ≡ Some p → (length p.2 < length xs) × (ends_at_end p.1 ≡ false)
unfolding next_record
next-shorter cfg s [] p clean e = absurd (none-at-end s p clean e)
next-shorter cfg s (c ∷ rest) p clean e =
    let l : Leaves (length rest) (Some p) = subst (Leaves (length rest)) e (next-leaves-cons cfg s [] [] c rest) in
    (omega arith, l.1)

-- what is left of the records after those that were reached
pub reached-records : (cfg : Config) (s s2 : State) (xs ys : List ℕ) (rows : List (List (List ℕ))) (n : ℕ)
    → ends_at_end s ≡ false → length xs < n → Reached cfg s xs rows s2 ys
    → (k : ℕ) × (length ys < k) × (records_from cfg n s xs ≡ rows ++ records_from cfg k s2 ys)
unfolding Reached records_from
reached-records cfg s s2 xs ys [] n clean fuel h = (n, rw (← h.1) fuel, rw (h.0, h.1) refl)
reached-records cfg s s2 xs ys (r ∷ rs) zero clean fuel h = absurd (omega arith)
reached-records cfg s s2 xs ys (r ∷ rs) (suc n) clean fuel h =
    let p = h.0 in
    let short = next-shorter cfg s xs p clean h.1 in
    let more = reached-records cfg p.1 s2 p.2 ys rs n short.1 (omega arith) h.3 in
    (more.0, more.1, ap (records_next (records_from cfg n)) h.1 ∙ rw (h.2, more.2) refl)

no-more : (cfg : Config) (k : ℕ) (s : State) (ys : List ℕ) → next_record cfg s [] [] ys ≡ None → records_from cfg k s ys ≡ []
unfolding records_from
no-more cfg zero s ys e = refl
no-more cfg (suc k) s ys e = ap (records_next (records_from cfg k)) e

-- the records that were reached at the end of a text are its records
pub reached-all : (xs ys : List ℕ) (s2 : State) (rows : List (List (List ℕ)))
    → Reached default_config st.StartRecord xs rows s2 ys → next_record default_config s2 [] [] ys ≡ None → records default_config xs ≡ rows
reached-all xs ys s2 rows h e =
    let m = reached-records default_config st.StartRecord s2 xs ys rows (length xs + 1) refl (omega arith) h in
    m.2 ∙ ap (λ (t : List (List (List ℕ))). rows ++ t) (no-more default_config m.0 s2 ys e) ∙ append-nil rows

-- and before its end they are the first of them
pub reached-front : (xs ys : List ℕ) (s2 : State) (rows : List (List (List ℕ)))
    → Reached default_config st.StartRecord xs rows s2 ys → (rest : List (List (List ℕ))) × (records default_config xs ≡ rows ++ rest)
reached-front xs ys s2 rows h =
    let m = reached-records default_config st.StartRecord s2 xs ys rows (length xs + 1) refl (omega arith) h in
    (records_from default_config m.0 s2 ys, m.2)

-- each record that was reached took at least a byte
pub reached-size : (cfg : Config) (s s2 : State) (xs ys : List ℕ) (rows : List (List (List ℕ)))
    → ends_at_end s ≡ false → Reached cfg s xs rows s2 ys → length rows + length ys ≤ length xs
unfolding Reached
reached-size cfg s s2 xs ys [] clean h = rw h.1 (omega arith)
reached-size cfg s s2 xs ys (r ∷ rs) clean h =
    let p = h.0 in
    let short = next-shorter cfg s xs p clean h.1 in
    omega (arith, reached-size cfg p.1 s2 p.2 ys rs short.1 h.3)

pub strip_bom-size : (xs : List ℕ) → length (strip_bom xs) ≤ length xs
unfolding strip_bom
strip_bom-size [] = omega arith
strip_bom-size (a ∷ []) = omega arith
strip_bom-size (a ∷ b ∷ []) = omega arith
strip_bom-size (a ∷ b ∷ c ∷ rest) =
    elim (is_bom a b c) as (λ t. length (if t then rest else a ∷ b ∷ c ∷ rest) ≤ length (a ∷ b ∷ c ∷ rest)) [ true ↦ omega arith | false ↦ omega arith ]
