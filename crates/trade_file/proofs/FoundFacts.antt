-- What is found among the names that came is what they stand for.
use Rattle.std.specs.Prelude.{◌⊎◌}
use Rattle.std.proofs.Common.{◌≡◌, ◌≢◌, ◌∙◌, sym, ap, subst, refl, inl, inr, ℕ, suc, zero, ◌+◌, ◌*◌, ◌^◌, ◌%◌, ◌<◌, ◌≤◌, List, [], ◌∷◌, length, take, get_or, fold, replicate, Bool, true, false, eqb, Option, Some, arith}
use Rattle.std.proofs.Math.ListN.{set}
use Rattle.std.proofs.Math.Nat.{mod-lt, pow-le-pow_right}
use Rattle.std.proofs.lemmas.Grind.{pow_more}
use Rattle.std.proofs.lemmas.Bool.Decides.{Decides-eqb}
use Rattle.std.proofs.lemmas.List.{get_or-set_other, get_or-set_same, length-take-le}
use Rattle.command_types.specs.Stamps.{key_on, key_number, stamp}
use Rattle.trade_file.specs.declared.found_names.FoundNames.{FoundNames}
use Rattle.trade_file.specs.FoundNames.{Knows, StandsFor, IsShortText, IsShort}

same_on : (p q : ℕ) (a b : List ℕ) → length a ≡ length b → ((i : ℕ) → get_or a i 0 < 256) → ((i : ℕ) → get_or b i 0 < 256)
    → fold key_on p a ≡ fold key_on q b → (p ≡ q) × (a ≡ b)
same_on p q [] [] l fa fb e = (e, refl)
same_on p q [] (y ∷ ys) l fa fb e = absurd (omega arith)
same_on p q (x ∷ xs) [] l fa fb e = absurd (omega arith)
same_on p q (x ∷ xs) (y ∷ ys) l fa fb e =
    let rest = same_on (key_on p x) (key_on q y) xs ys (omega arith) (λ i. fa (suc i)) (λ i. fb (suc i)) e in
    let here : p * 1034 + x ≡ q * 1034 + y = rest.0 in
    let first : x < 256 = fa 0 in
    let other : y < 256 = fb 0 in
    let front : p ≡ q = omega arith in
    let same : x ≡ y = omega arith in
    (front, rw (same, rest.1) refl)

-- short texts that have the same stamp are the same
same_stamp : (a b : List ℕ) → IsShortText a → IsShortText b → stamp a ≡ stamp b → a ≡ b
same_stamp a b short_a short_b e =
    let same : key_number a * 8 + length a + 1 ≡ key_number b * 8 + length b + 1 = e in
    let size : length a ≡ length b = omega (arith, short_a.few, short_b.few) in
    let key : key_number a ≡ key_number b = omega arith in
    (same_on 0 0 a b size short_a.bytes short_b.bytes key).1

marked : (name : List ℕ) (key size : ℕ) → IsShort name key size → key * 8 + size + 1 ≡ stamp name
marked name key size short = rw (short.keyed, ← short.sized) refl

false_true : false ≡ true → ⊥
false_true e = absurd (cc)

pub slot_below : (key : ℕ) → key % 1024 < 1024
slot_below key = mod-lt key (omega arith)

-- a slot that has a name's stamp has what the name stands for
pub known : (read : List ℕ → Option ℕ) (found : FoundNames) (name : List ℕ) (key size slot : ℕ) → slot < 1024 → Knows read found → IsShort name key size
    → get_or found.stamps slot 0 ≡ key * 8 + size + 1 → read name ≡ Some (get_or found.places slot 0)
known read found name key size slot below knows short is = by (knows slot below)
  where
    by : (get_or found.stamps slot 0 ≡ 0) ⊎ StandsFor read (get_or found.stamps slot 0) (get_or found.places slot 0) → read name ≡ Some (get_or found.places slot 0)
    by (inl none) = absurd (omega (arith, none, is))
    by (inr has) =
        let same : stamp has.name ≡ stamp name = sym has.mark_is ∙ is ∙ marked name key size short in
        subst (λ t. read t ≡ Some (get_or found.places slot 0)) (same_stamp has.name name has.short short.short same) has.place_is

all_zero : (n k : ℕ) → ◌≡◌ {A = ℕ} (get_or (replicate {A = ℕ} n 0) k 0) 0
all_zero zero k = refl
all_zero (suc n) zero = refl
all_zero (suc n) (suc k) = all_zero n k

-- without stamps there are no names
pub none_known : (read : List ℕ → Option ℕ) (found : FoundNames) → found.stamps ≡ replicate {A = ℕ} 1024 0 → Knows read found
none_known read found e = λ slot below. inl (ap (λ (xs : List ℕ). get_or xs slot 0) e ∙ all_zero 1024 slot)

-- what each slot has after a name was kept in one
pub kept : (read : List ℕ → Option ℕ) (found : FoundNames) (name : List ℕ) (key size place here : ℕ) → length found.stamps ≡ 1024 → length found.places ≡ 1024
    → Knows read found → IsShort name key size → read name ≡ Some place → here < 1024 → (slot : ℕ) → slot < 1024
    → (get_or (set found.stamps here (key * 8 + size + 1)) slot 0 ≡ 0) ⊎ StandsFor read (get_or (set found.stamps here (key * 8 + size + 1)) slot 0) (get_or (set found.places here place) slot 0)
kept read found name key size place here stamps places knows short is within slot below = by (eqb slot here) refl
  where
    mark : ℕ
    mark = key * 8 + size + 1

    by : (t : Bool) → eqb slot here ≡ t → (get_or (set found.stamps here mark) slot 0 ≡ 0) ⊎ StandsFor read (get_or (set found.stamps here mark) slot 0) (get_or (set found.places here place) slot 0)
    by true e =
        let same : slot ≡ here = (Decides-eqb slot here).0 e in
        let stamp_is : get_or (set found.stamps here mark) slot 0 ≡ mark = ap (λ k. get_or (set found.stamps here mark) k 0) same ∙ get_or-set_same found.stamps here mark 0 (omega (arith, stamps, within)) in
        let place_is : get_or (set found.places here place) slot 0 ≡ place = ap (λ k. get_or (set found.places here place) k 0) same ∙ get_or-set_same found.places here place 0 (omega (arith, places, within)) in
        inr (rw (stamp_is, place_is) (record { name = name; short = short.short; mark_is = marked name key size short; place_is = is }))
    by false e =
        let other : slot ≢ here = λ same. false_true (sym e ∙ (Decides-eqb slot here).1 same) in
        let stamp_is : get_or (set found.stamps here mark) slot 0 ≡ get_or found.stamps slot 0 = get_or-set_other found.stamps here slot mark 0 other in
        let place_is : get_or (set found.places here place) slot 0 ≡ get_or found.places slot 0 = get_or-set_other found.places here slot place 0 other in
        rw (stamp_is, place_is) (knows slot below)

-- a key of a few bytes has room for one more
pub key_room : (key at most : ℕ) → at < most → most ≤ 6 → key < 1034 ^ at → key * 1034 + 1034 ≤ 2 ^ 61
key_room key at most inside few small =
    let more : 1034 ^ (at + 1) ≤ 1034 ^ 6 = pow-le-pow_right (omega arith) {j = 6} (omega (arith, inside, few)) in
    let next : 1034 ^ (at + 1) ≡ 1034 ^ at * 1034 = pow_more 1034 at in
    let low : 1034 ^ 6 ≤ 2 ^ 61 = omega arith in
    omega (arith, small, more, next, low)

-- a short front of a text whose bytes are bytes
pub front_short : (text : List ℕ) (key size : ℕ) → ((i : ℕ) → get_or text i 0 < 256) → size ≤ length text → size ≤ 6 → key ≡ key_number (take size text) → IsShort (take size text) key size
front_short text key size bytes within few is =
    let sized : length (take size text) ≡ size = length-take-le size text within in
    record { short = record { few = omega (arith, sized, few); bytes = front_bytes size text bytes }; sized = sized; keyed = is }
  where
    front_bytes : (n : ℕ) (t : List ℕ) → ((i : ℕ) → get_or t i 0 < 256) → (i : ℕ) → get_or (take n t) i 0 < 256
    front_bytes zero t all i = omega arith
    front_bytes (suc n) [] all i = omega arith
    front_bytes (suc n) (b ∷ t) all zero = all zero
    front_bytes (suc n) (b ∷ t) all (suc i) = front_bytes n t (λ k. all (suc k)) i
