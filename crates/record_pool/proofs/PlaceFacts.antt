-- The places of records whose frames stand one behind another.
use Rattle.std.proofs.Common.{◌≡◌, ℕ, zero, suc, ◌+◌, ◌*◌, ◌<◌, ◌≤◌, ◌^◌, List, [], ◌∷◌, ◌++◌, length, get_or, take, drop, refl, sym, ◌∙◌, ap, arith, append_assoc, length-append}
use Rattle.std.proofs.lemmas.List.{append-nil, drop-drop, take_at, take_more, take-append-le, take-append-drop}
use Rattle.std.proofs.lemmas.List.Concat.{flat_map-append}
use Rattle.std.specs.Int.{w32, to_le_bytes}
use Rattle.std.specs.List.{flat_map}
use Rattle.journal_core.specs.Holds.{frame}
use Rattle.journal_core.proofs.PartFacts.{length-frame}
use Rattle.journal_core.proofs.OneReading.{same_size}
use Rattle.record_pool.specs.Marks.{place_at}
use Rattle.record_pool.specs.Appended.{AreShort}
use Rattle.record_pool.proofs.PageFacts.{drop_past}

pub frames_more : (records : List (List ℕ)) (bytes : List ℕ) → flat_map frame (records ++ bytes ∷ []) ≡ flat_map frame records ++ frame bytes
frames_more records bytes = flat_map-append frame records (bytes ∷ []) ∙ ap (λ (l : List ℕ). flat_map frame records ++ l) (append-nil (frame bytes))

-- each frame has five bytes at least
pub frames_least : (records : List (List ℕ)) → 5 * length records ≤ length (flat_map frame records)
frames_least [] = omega arith
frames_least (r ∷ rs) = omega (arith, frames_least rs, length-frame r, length-append (frame r) (flat_map frame rs))

pub place_next : (records : List (List ℕ)) (n : ℕ) → n < length records → place_at records (n + 1) ≡ place_at records n + (5 + length (get_or records n []))
place_next records n inside =
    let bytes = get_or records n [] in
    ap (λ (l : List (List ℕ)). length (flat_map frame l)) (take_more records n [] inside) ∙ ap length (frames_more (take n records) bytes)
    ∙ omega (arith, length-append (flat_map frame (take n records)) (frame bytes), length-frame bytes)

pub place_same : (records more : List (List ℕ)) (n : ℕ) → n ≤ length records → place_at (records ++ more) n ≡ place_at records n
place_same records more n inside = ap (λ (l : List (List ℕ)). length (flat_map frame l)) (take-append-le n records more inside)

pub place_most : (records : List (List ℕ)) (n : ℕ) → place_at records n ≤ length (flat_map frame records)
place_most records n =
    omega (arith, ap (λ (l : List (List ℕ)). length (flat_map frame l)) (take-append-drop n records), ap length (flat_map-append frame (take n records) (drop n records)), length-append (flat_map frame (take n records)) (flat_map frame (drop n records)))

-- what stands at a record's place
pub frame_at : (records : List (List ℕ)) (n : ℕ) (tail : List ℕ) → n < length records
    → drop (place_at records n) (flat_map frame records ++ tail) ≡ frame (get_or records n []) ++ (flat_map frame (drop (suc n) records) ++ tail)
frame_at [] n tail inside = absurd (omega (arith, inside))
frame_at (r ∷ rs) zero tail inside = append_assoc (frame r) (flat_map frame rs) tail
frame_at (r ∷ rs) (suc n) tail inside =
    let sum : place_at (r ∷ rs) (suc n) ≡ length (frame r) + place_at rs n = length-append (frame r) (flat_map frame (take n rs)) in
    ap (λ (l : List ℕ). drop (place_at (r ∷ rs) (suc n)) l) (append_assoc (frame r) (flat_map frame rs) tail)
    ∙ drop_past (frame r) (flat_map frame rs ++ tail) (place_at rs n) (place_at (r ∷ rs) (suc n)) sum ∙ frame_at rs n tail (omega (arith, inside))

-- a record's length, and its bytes
module _ (records : List (List ℕ)) (n : ℕ) (inside : n < length records) where
  abbrev here : List ℕ
  here = get_or records n []

  abbrev behind : List ℕ
  behind = flat_map frame (drop (suc n) records) ++ []

  whole : (k : ℕ) → drop (place_at records n + k) (flat_map frame records) ≡ drop k (frame here ++ behind)
  whole k =
      sym (drop-drop k (place_at records n) (flat_map frame records)) ∙ ap (λ (l : List ℕ). drop k (drop (place_at records n) l)) (sym (append-nil (flat_map frame records))) ∙ ap (λ (l : List ℕ). drop k l) (frame_at records n [] inside)

  pub place_room : place_at records n + (5 + length here) ≤ length (flat_map frame records)
  place_room =
      omega (arith, place_next records n inside, place_most records (n + 1))

  pub size_at : (size : ℕ) → size < 2 ^ 32 → length here < 2 ^ 32 → to_le_bytes w32 size ≡ take 4 (drop (place_at records n + 1) (flat_map frame records)) → size ≡ length here
  size_at size small short is =
      same_size size (length here) small short (is ∙ ap (λ (l : List ℕ). take 4 l) (whole 1))

  pub bytes_at : take (length here) (drop (place_at records n + 5) (flat_map frame records)) ≡ here
  bytes_at = ap (λ (l : List ℕ). take (length here) l) (whole 5) ∙ take_at here behind (length here) refl

pub short_more : (records : List (List ℕ)) (bytes : List ℕ) → AreShort records → length bytes < 2 ^ 32 → AreShort (records ++ bytes ∷ [])
short_more [] bytes short small = (small, tt)
short_more (r ∷ rs) bytes short small = (short.0, short_more rs bytes short.1 small)

pub short_at : (records : List (List ℕ)) (n : ℕ) → AreShort records → n < length records → length (get_or records n []) < 2 ^ 32
short_at [] n short inside = absurd (omega (arith, inside))
short_at (r ∷ rs) zero short inside = short.0
short_at (r ∷ rs) (suc n) short inside = short_at rs n short.1 (omega (arith, inside))

-- ---- the number behind a gate, and the record behind that

pub sized : (records : List (List ℕ)) (bytes : List ℕ) (n at size : ℕ) → bytes ≡ flat_map frame records → AreShort records → n < length records → at ≡ place_at records n
    → size < 2 ^ 32 → to_le_bytes w32 size ≡ take 4 (drop (at + 1) bytes) → (size ≡ length (get_or records n [])) × (at + (5 + size) ≤ length bytes)
sized records bytes n at size is short inside here small told =
    let there : to_le_bytes w32 size ≡ take 4 (drop (place_at records n + 1) (flat_map frame records)) =
    told ∙ ap (λ (k : ℕ). take 4 (drop (k + 1) bytes)) here ∙ ap (λ (l : List ℕ). take 4 (drop (place_at records n + 1) l)) is in
    let same = size_at records n inside size small (short_at records n short inside) there in
    (same, omega (arith, same, here, place_room records n inside, ap length is))

pub taken : (records : List (List ℕ)) (bytes : List ℕ) (n at size : ℕ) → bytes ≡ flat_map frame records → n < length records → at ≡ place_at records n
    → size ≡ length (get_or records n []) → take size (drop (at + 5) bytes) ≡ get_or records n []
taken records bytes n at size is inside here same =
    ap (λ (l : List ℕ). take size (drop (at + 5) l)) is ∙ ap (λ (k : ℕ). take size (drop (k + 5) (flat_map frame records))) here
    ∙ ap (λ (k : ℕ). take k (drop (place_at records n + 5) (flat_map frame records))) same ∙ bytes_at records n inside

-- a frame's parts, put behind those before one after another
pub framed_more : (records : List (List ℕ)) (bytes before : List ℕ) → before ≡ flat_map frame records
    → ((before ++ 1 ∷ []) ++ to_le_bytes w32 (length bytes)) ++ bytes ≡ flat_map frame (records ++ bytes ∷ [])
framed_more records bytes before is =
    let size = to_le_bytes w32 (length bytes) in
    append_assoc (before ++ 1 ∷ []) size bytes ∙ append_assoc before (1 ∷ []) (size ++ bytes) ∙ ap (λ (l : List ℕ). l ++ frame bytes) is ∙ sym (frames_more records bytes)
