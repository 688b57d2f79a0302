-- The records that are ahead of bytes, and those ahead of a part of them.
use Rattle.std.proofs.Common.{◌≡◌, inl, inr, ℕ, ◌+◌, ◌<◌, ◌≤◌, List, [], ◌∷◌, ◌++◌, length, get_or, take, drop, refl, sym, ◌∙◌, ap, subst, arith, append_assoc, length-append}
use Rattle.std.proofs.lemmas.List.{append-nil, take-append-drop, take_all, drop_at, drop_more}
use Rattle.std.proofs.lemmas.List.Concat.{flat_map-append}
use Rattle.std.specs.List.{flat_map}
use Rattle.journal_core.specs.Frame.{frames_length}
use Rattle.journal_core.specs.Holds.{frame, Holds}
use Rattle.journal_core.specs.Records.{AreAhead, IsNext}
use Rattle.journal_core.specs.Walk.{IsWalked, bytes_of, base_of}
use Rattle.journal_core.specs.declared.walked.Walked.{Walked}
use Rattle.journal_core.proofs.LeadFacts.{ends_hold}
use Rattle.journal_core.proofs.PartFacts.{length-frame}
use Rattle.record_pool.specs.Marks.{place_at}
use Rattle.record_pool.proofs.PlaceFacts.{frames_more, place_most}

-- the next of some records is the first of them
pub next_is : (place : ℕ) (bytes found : List ℕ) (others : List (List ℕ)) (next : ℕ) (rest : List ℕ) → IsNext place (bytes ∷ others) found next rest → (found ≡ bytes) × AreAhead next rest others
next_is place bytes found others next rest n =
    (sym (ap (λ (l : List (List ℕ)). get_or l 0 []) n.split), subst (λ (l : List (List ℕ)). AreAhead next rest l) (sym (ap (λ (l : List (List ℕ)). drop 1 l) n.split)) n.ahead)

-- behind those before a record, it and the others are ahead
skipped_frames : (records : List (List ℕ)) (n : ℕ) (tail : List ℕ) → drop (place_at records n) (flat_map frame records ++ tail) ≡ flat_map frame (drop n records) ++ tail
skipped_frames records n tail =
    let front = flat_map frame (take n records) in
    let behind = flat_map frame (drop n records) in
    let whole : flat_map frame records ++ tail ≡ front ++ (behind ++ tail) =
    ap (λ (l : List (List ℕ)). flat_map frame l ++ tail) (sym (take-append-drop n records)) ∙ ap (λ (l : List ℕ). l ++ tail) (flat_map-append frame (take n records) (drop n records)) ∙ append_assoc front behind tail in
    ap (λ (l : List ℕ). drop (place_at records n) l) whole ∙ drop_at front (behind ++ tail) (place_at records n) refl

pub ahead_behind : (place : ℕ) (rest : List ℕ) (records : List (List ℕ)) (n : ℕ) → AreAhead place rest records → n < length records
    → (place_at records n ≤ length rest) × AreAhead 0 (drop (place_at records n) rest) (drop n records)
ahead_behind place rest records n (inl none) inside = absurd (omega (arith, inside, ap length none.1))
ahead_behind place rest records n (inr on) inside =
    let front = flat_map frame (take n records) in
    let behind = flat_map frame (drop n records) in
    let sum : length (flat_map frame records) ≡ length front + length behind =
    ap (λ (l : List (List ℕ)). length (flat_map frame l)) (sym (take-append-drop n records)) ∙ ap length (flat_map-append frame (take n records) (drop n records)) ∙ length-append front behind in (
      omega (arith, place_most records n, ap length on.split, length-append (flat_map frame records) (on.gate ∷ on.rest)),
      inr (record {
        gate = on.gate;
        rest = on.rest;
        split = ap (λ (l : List ℕ). drop (place_at records n) l) on.split ∙ skipped_frames records n (on.gate ∷ on.rest);
        closed = on.closed;
        within = omega (arith, on.within, sum);
      }),
    )

-- behind one of them, the others are
pub ahead_more : (place : ℕ) (rest : List ℕ) (records : List (List ℕ)) (n : ℕ) → n < length records → AreAhead place rest (drop n records) → AreAhead place rest (get_or records n [] ∷ drop (n + 1) records)
ahead_more place rest records n inside ahead = subst (λ (l : List (List ℕ)). AreAhead place rest l) (drop_more records n [] inside) ahead

-- ---- the records that a walk found

pub walked_these : (w : Walked) (walked : IsWalked w) → Holds (bytes_of w) (base_of w) walked.1.0
walked_these w walked = ends_hold w.form (bytes_of w) w.end (base_of w) walked.1.0 walked.1.1

-- these records were marked, and the others that the file holds are ahead
abbrev pub HasMarked : List ℕ → List (List ℕ) → ℕ → List ℕ → Type 0
HasMarked file records at rest = (base : List ℕ) × (others : List (List ℕ)) × Holds file base (records ++ others) × AreAhead at rest others

pub marked_more : (file : List ℕ) (records : List (List ℕ)) (at : ℕ) (rest : List ℕ) (m : HasMarked file records at rest) (bytes : List ℕ) (next : ℕ) (behind : List ℕ) → IsNext at m.1 bytes next behind
    → HasMarked file (records ++ bytes ∷ []) next behind × (next ≡ at + (5 + length bytes))
marked_more file records at rest m bytes next behind n =
    let same : records ++ m.1 ≡ (records ++ bytes ∷ []) ++ n.others =
    ap (λ (l : List (List ℕ)). records ++ l) n.split ∙ sym (append_assoc records (bytes ∷ []) n.others) in
    ((m.0, n.others, subst (λ (l : List (List ℕ)). Holds file m.0 l) same m.2, n.ahead), n.behind)

pub marked_all : (file : List ℕ) (records : List (List ℕ)) (at : ℕ) (rest : List ℕ) (m : HasMarked file records at rest) → m.1 ≡ [] → (base : List ℕ) × Holds file base records
marked_all file records at rest m none =
    (m.0, subst (λ (l : List (List ℕ)). Holds file m.0 l) (ap (λ (l : List (List ℕ)). records ++ l) none ∙ append-nil records) m.2)

pub frames_longer : (records : List (List ℕ)) (bytes : List ℕ) → frames_length (records ++ bytes ∷ []) ≡ frames_length records + (5 + length bytes)
frames_longer records bytes = omega (arith, ap length (frames_more records bytes), length-append (flat_map frame records) (frame bytes), length-frame bytes)

pub place_end : (records : List (List ℕ)) → place_at records (length records) ≡ frames_length records
place_end records = ap (λ (l : List (List ℕ)). frames_length l) (take_all (length records) records (omega arith))
