-- Bytes in pages, read and written within one page.
use Rattle.std.proofs.Common.{◌≡◌, ℕ, zero, suc, ◌+◌, ◌-◌, ◌*◌, ◌<◌, ◌≤◌, List, [], ◌∷◌, ◌++◌, length, get_or, set, take, drop, refl, sym, ◌∙◌, ap, arith, append_assoc, length-append}
use Rattle.std.proofs.lemmas.List.{append-nil, length-drop, length-take-le, take_at, take-take, take-append-le, take-append-drop, drop_at, drop-append-le, drop-drop, drop-take, drop_more}
use Rattle.std.specs.List.{concat}
use Rattle.journal_core.proofs.PartFacts.{bytes_before}
use Rattle.record_pool.specs.Pages.{AreFull}

-- ---- parts of two lists behind one another

pub drop_past : (xs ys : List ℕ) (m n : ℕ) → n ≡ length xs + m → drop n (xs ++ ys) ≡ drop m ys
drop_past xs ys m n is =
    ap (λ (k : ℕ). drop k (xs ++ ys)) is ∙ sym (drop-drop m (length xs) (xs ++ ys)) ∙ ap (λ (l : List ℕ). drop m l) (drop_at xs ys (length xs) refl)

pub take_past : (xs ys : List ℕ) (m n : ℕ) → n ≡ length xs + m → take n (xs ++ ys) ≡ xs ++ take m ys
take_past [] ys m n is = ap (λ (k : ℕ). take k ys) (omega (arith, is))
take_past (x ∷ xs) ys m zero is = absurd (omega (arith, is))
take_past (x ∷ xs) ys m (suc n) is = ap (λ (l : List ℕ). x ∷ l) (take_past xs ys m n (omega (arith, is)))

-- ---- full pages

pub full_length : (pages : List (List ℕ)) → AreFull pages → length (concat pages) ≡ 65536 * length pages
full_length [] full = refl
full_length (q ∷ qs) full = omega (arith, full.0, full_length qs full.1, length-append q (concat qs))

pub full_at : (pages : List (List ℕ)) (p : ℕ) → AreFull pages → p < length pages → length (get_or pages p []) ≡ 65536
full_at [] p full inside = absurd (omega (arith, inside))
full_at (q ∷ qs) zero full inside = full.0
full_at (q ∷ qs) (suc p) full inside = full_at qs p full.1 (omega (arith, inside))

pub full_set : (pages : List (List ℕ)) (p : ℕ) (page : List ℕ) → AreFull pages → length page ≡ 65536 → AreFull (set pages p page)
full_set [] p page full size = full
full_set (q ∷ qs) zero page full size = (size, full.1)
full_set (q ∷ qs) (suc p) page full size = (full.0, full_set qs p page full.1 size)

pub full_more : (pages : List (List ℕ)) (page : List ℕ) → AreFull pages → length page ≡ 65536 → AreFull (pages ++ page ∷ [])
full_more [] page full size = (size, tt)
full_more (q ∷ qs) page full size = (full.0, full_more qs page full.1 size)

-- ---- a part of one page is one of all bytes

pub read_page : (pages : List (List ℕ)) (p o n at : ℕ) → AreFull pages → p < length pages → at ≡ 65536 * p + o → o + n ≤ 65536
    → take n (drop at (concat pages)) ≡ take n (drop o (get_or pages p []))
read_page [] p o n at full inside is small = absurd (omega (arith, inside))
read_page (q ∷ qs) zero o n at full inside is small =
    let here : at ≡ o = omega (arith, is) in
    let first : o ≤ length q = omega (arith, full.0, small) in
    let room : n ≤ length (drop o q) = omega (arith, full.0, small, length-drop o q) in
    ap (λ (k : ℕ). take n (drop k (q ++ concat qs))) here ∙ ap (λ (l : List ℕ). take n l) (drop-append-le o q (concat qs) first) ∙ take-append-le n (drop o q) (concat qs) room
read_page (q ∷ qs) (suc p) o n at full inside is small =
    let behind : at ≡ length q + (at - 65536) = omega (arith, is, full.0) in
    let there : at - 65536 ≡ 65536 * p + o = omega (arith, is) in
    ap (λ (l : List ℕ). take n l) (drop_past q (concat qs) (at - 65536) at behind) ∙ read_page qs p o n (at - 65536) full.1 (omega (arith, inside)) there small

-- ---- a piece put into one page

-- the page at o with the piece over its bytes
abbrev pub with_piece : List ℕ → ℕ → List ℕ → List ℕ
with_piece page o piece = take o page ++ (piece ++ drop (o + length piece) page)

pub piece_size : (page : List ℕ) (o : ℕ) (piece : List ℕ) → length page ≡ 65536 → o + length piece ≤ 65536 → length (with_piece page o piece) ≡ 65536
piece_size page o piece size small =
    omega (arith, size, small, length-append (take o page) (piece ++ drop (o + length piece) page), length-append piece (drop (o + length piece) page), length-take-le o page (omega (arith, size, small)), length-drop (o + length piece) page)

-- what is before the piece's end
piece_front : (page rest : List ℕ) (o : ℕ) (piece : List ℕ) → length page ≡ 65536 → o + length piece ≤ 65536 → take (o + length piece) (with_piece page o piece ++ rest) ≡ take o page ++ piece
piece_front page rest o piece size small =
    let behind = drop (o + length piece) page in
    let regrouped : with_piece page o piece ++ rest ≡ (take o page ++ piece) ++ (behind ++ rest) =
    append_assoc (take o page) (piece ++ behind) rest ∙ ap (λ (l : List ℕ). take o page ++ l) (append_assoc piece behind rest) ∙ sym (append_assoc (take o page) piece (behind ++ rest)) in
    let long : length (take o page ++ piece) ≡ o + length piece = omega (arith, length-append (take o page) piece, length-take-le o page (omega (arith, size, small))) in
    ap (λ (l : List ℕ). take (o + length piece) l) regrouped ∙ take_at (take o page ++ piece) (behind ++ rest) (o + length piece) long

pub write_page : (pages : List (List ℕ)) (p o at : ℕ) (piece : List ℕ) → AreFull pages → p < length pages → at ≡ 65536 * p + o → o + length piece ≤ 65536
    → take (at + length piece) (concat (set pages p (with_piece (get_or pages p []) o piece))) ≡ take at (concat pages) ++ piece
write_page [] p o at piece full inside is small = absurd (omega (arith, inside))
write_page (q ∷ qs) zero o at piece full inside is small =
    let here : at ≡ o = omega (arith, is) in
    let first : o ≤ length q = omega (arith, full.0, small) in
    ap (λ (k : ℕ). take (k + length piece) (with_piece q o piece ++ concat qs)) here ∙ piece_front q (concat qs) o piece full.0 small
    ∙ ap (λ (l : List ℕ). l ++ piece) (sym (take-append-le o q (concat qs) first) ∙ ap (λ (k : ℕ). take k (q ++ concat qs)) (sym here))
write_page (q ∷ qs) (suc p) o at piece full inside is small =
    let left = at - 65536 in
    let there : left ≡ 65536 * p + o = omega (arith, is) in
    let behind : at ≡ length q + left = omega (arith, is, full.0) in
    let sum : at + length piece ≡ length q + (left + length piece) = omega (arith, behind) in
    let after = set qs p (with_piece (get_or qs p []) o piece) in
    take_past q (concat after) (left + length piece) (at + length piece) sum
    ∙ ap (λ (l : List ℕ). q ++ l) (write_page qs p o left piece full.1 (omega (arith, inside)) there small)
    ∙ sym (append_assoc q (take left (concat qs)) piece) ∙ ap (λ (l : List ℕ). l ++ piece) (sym (take_past q (concat qs) left at behind))

-- ---- parts in two steps

pub take_two : (xs : List ℕ) (k m n : ℕ) → n ≡ k + m → take k xs ++ take m (drop k xs) ≡ take n xs
take_two xs k m n is =
    let all = take (k + m) xs in
    ap (λ (l : List ℕ). l ++ take m (drop k xs)) (sym (take-take k (k + m) xs (omega arith))) ∙ ap (λ (l : List ℕ). take k all ++ l) (sym (drop-take k m xs))
    ∙ take-append-drop k all ∙ ap (λ (i : ℕ). take i xs) (sym is)

-- a piece of what is left has been put behind the others
pub copied : (all into piece : List ℕ) (at left : ℕ) → piece ≡ take (length piece) (drop at all) → length piece ≤ left
    → (into ++ piece) ++ take (left - length piece) (drop (at + length piece) all) ≡ into ++ take left (drop at all)
copied all into piece at left is small =
    let k = length piece in
    let rest = left - k in
    append_assoc into piece (take rest (drop (at + k) all))
    ∙ ap (λ (l : List ℕ). into ++ l) (ap (λ (l : List ℕ). l ++ take rest (drop (at + k) all)) is ∙ ap (λ (l : List ℕ). take k (drop at all) ++ take rest l) (sym (drop-drop k at all)) ∙ take_two (drop at all) k rest left (omega (arith, small)))

-- ---- one page more

concat_more : (pages : List (List ℕ)) (page : List ℕ) → concat (pages ++ page ∷ []) ≡ concat pages ++ page
concat_more [] page = append-nil page
concat_more (q ∷ qs) page = ap (λ (l : List ℕ). q ++ l) (concat_more qs page) ∙ sym (append_assoc q (concat qs) page)

pub same_before : (pages : List (List ℕ)) (page : List ℕ) (used : ℕ) → AreFull pages → used ≤ 65536 * length pages → take used (concat (pages ++ page ∷ [])) ≡ take used (concat pages)
same_before pages page used full inside =
    ap (λ (l : List ℕ). take used l) (concat_more pages page) ∙ take-append-le used (concat pages) page (omega (arith, inside, full_length pages full))

-- so many of the bytes of full pages
pub used_length : (pages : List (List ℕ)) (used : ℕ) → AreFull pages → used ≤ 65536 * length pages → length (take used (concat pages)) ≡ used
used_length pages used full inside = length-take-le used (concat pages) (omega (arith, inside, full_length pages full))

-- four bytes from a place on
pub four : (all : List ℕ) (at : ℕ) → at + 4 ≤ length all → take 4 (drop at all) ≡ get_or all at 0 ∷ get_or all (at + 1) 0 ∷ get_or all (at + 2) 0 ∷ get_or all (at + 3) 0 ∷ []
four all at inside =
    let next : (n m : ℕ) → m ≡ n + 1 → n < length all → drop n all ≡ get_or all n 0 ∷ drop m all =
    λ n m is h. drop_more all n 0 h ∙ ap (λ (k : ℕ). get_or all n 0 ∷ drop k all) (sym is) in
    ap (λ (l : List ℕ). take 4 l) (next at (at + 1) refl (omega (arith, inside)) ∙ ap (λ (l : List ℕ). get_or all at 0 ∷ l) (
    next (at + 1) (at + 2) (omega arith) (omega (arith, inside)) ∙ ap (λ (l : List ℕ). get_or all (at + 1) 0 ∷ l) (
    next (at + 2) (at + 3) (omega arith) (omega (arith, inside)) ∙ ap (λ (l : List ℕ). get_or all (at + 2) 0 ∷ l) (
    next (at + 3) (at + 4) (omega arith) (omega (arith, inside))))))

-- the bytes of a part of the first ones
pub part_used : (all : List ℕ) (used at n : ℕ) → at + n ≤ used → take n (drop at (take used all)) ≡ take n (drop at all)
part_used all used at n inside = bytes_before at n used (take used all) all inside (take-take used used all (omega arith))
