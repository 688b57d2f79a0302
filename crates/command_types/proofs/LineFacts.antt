-- Lines, byte by byte.
use Rattle.std.proofs.Common.{◌≡◌, ℕ, zero, suc, ◌≤◌, ◌<◌, ◌==◌, nat_lt, Bool, true, false, List, [], ◌∷◌, ◌++◌, length, take, fold, Result, Err, arith, refl, sym, ap, ◌∙◌, append_assoc, cond}
use Rattle.std.proofs.lemmas.Bool.Decides.{nat_tests}
use Rattle.std.proofs.lemmas.List.{append-nil, take_all, length-take}
use Rattle.std.proofs.lemmas.List.Sums.{fold-append}
use Rattle.command_types.specs.declared.line.Line.{Line}
use Rattle.command_types.specs.Lines.{Cut, cut_on, cut_of, empty_cut, ended_line, without_return, last_line}
use Rattle.command_types.specs.Grammar.{line_of, line_within}

cut_more : (bytes : List ℕ) (b : ℕ) → cut_of (bytes ++ b ∷ []) ≡ cut_on (cut_of bytes) b
cut_more bytes b = fold-append cut_on empty_cut bytes (b ∷ [])

-- a byte that ends no line
pub cut_byte : (bytes : List ℕ) (b : ℕ) → (b == 10) ≡ false → cut_of (bytes ++ b ∷ []) ≡ record { whole = (cut_of bytes).whole; rest = (cut_of bytes).rest ++ b ∷ [] }
cut_byte bytes b e = cut_more bytes b ∙ ap (λ t. cond t (record { whole = (cut_of bytes).whole ++ ended_line (cut_of bytes).rest ∷ []; rest = [] }) (record { whole = (cut_of bytes).whole; rest = (cut_of bytes).rest ++ b ∷ [] })) e

-- a line feed
pub cut_line : (bytes : List ℕ) (b : ℕ) → (b == 10) ≡ true → cut_of (bytes ++ b ∷ []) ≡ record { whole = (cut_of bytes).whole ++ ended_line (cut_of bytes).rest ∷ []; rest = [] }
cut_line bytes b e = cut_more bytes b ∙ ap (λ t. cond t (record { whole = (cut_of bytes).whole ++ ended_line (cut_of bytes).rest ∷ []; rest = [] }) (record { whole = (cut_of bytes).whole; rest = (cut_of bytes).rest ++ b ∷ [] })) e

whole_on : (cut : Cut) (b : ℕ) (t : Bool) → (others : List (List ℕ)) × ((cond {A = Cut} t (record { whole = cut.whole ++ ended_line cut.rest ∷ []; rest = [] }) (record { whole = cut.whole; rest = cut.rest ++ b ∷ [] })).whole ≡ cut.whole ++ others)
whole_on cut b true = (ended_line cut.rest ∷ [], refl)
whole_on cut b false = ([], sym (append-nil cut.whole))

fold_grows : (cut : Cut) (bytes : List ℕ) → (others : List (List ℕ)) × ((fold cut_on cut bytes).whole ≡ cut.whole ++ others)
fold_grows cut [] = ([], sym (append-nil cut.whole))
fold_grows cut (b ∷ bytes) =
    let first = whole_on cut b (b == 10) in
    let rest = fold_grows (cut_on cut b) bytes in
    (first.0 ++ rest.0, rest.1 ∙ ap (λ w. w ++ rest.0) first.1 ∙ append_assoc cut.whole first.0 rest.0)

-- more bytes bring more lines
pub whole_grows : (xs ys : List ℕ) → (others : List (List ℕ)) × ((cut_of (xs ++ ys)).whole ≡ (cut_of xs).whole ++ others)
whole_grows xs ys =
    let more = fold_grows (cut_of xs) ys in
    (more.0, ap (λ c. c.whole) (fold-append cut_on empty_cut xs ys) ∙ more.1)

lt_true : (n m : ℕ) → n < m → nat_lt n m ≡ true
lt_true n m h = grind (arith, nat_tests)

lt_from : (n m : ℕ) → nat_lt n m ≡ true → n < m
lt_from n m e = grind (arith, nat_tests)

le_from : (n m : ℕ) → nat_lt n m ≡ false → m ≤ n
le_from n m e = grind (arith, nat_tests)

-- a line that is too long can't be read
pub line_long : (line : List ℕ) → 4096 < length line → line_within line ≡ Err 4096
line_long line long = ap (λ t. cond {A = Result Line ℕ} t (Err 4096) (line_of line)) (lt_true 4096 (length line) long)

-- and stays as it is where a line feed ends it
pub ended_long : (line : List ℕ) → 4096 < length line → ended_line line ≡ line
ended_long line long = ap (λ t. cond {A = List ℕ} t line (without_return line)) (lt_true 4096 (length line) long)

long_front : (line : List ℕ) → 4096 < length line → 4096 < length (take 4097 line)
long_front line long = omega (arith, length-take 4097 line)

ended_front_by : (line : List ℕ) (t : Bool) → nat_lt 4096 (length line) ≡ t → line_within (ended_line (take 4097 line)) ≡ line_within (ended_line line)
ended_front_by line true e =
    let long : 4096 < length line = lt_from 4096 (length line) e in
    let front : 4096 < length (take 4097 line) = long_front line long in
    ap line_within (ended_long (take 4097 line) front) ∙ line_long (take 4097 line) front ∙ sym (ap line_within (ended_long line long) ∙ line_long line long)
ended_front_by line false e =
    let short : length line ≤ 4096 = le_from 4096 (length line) e in
    ap (λ l. line_within (ended_line l)) (take_all 4097 line (omega arith))

-- a line that was ended is read by its first 4,097 bytes
pub read_of_ended_front : (line : List ℕ) → line_within (ended_line (take 4097 line)) ≡ line_within (ended_line line)
read_of_ended_front line = ended_front_by line (nat_lt 4096 (length line)) refl

front_by : (line : List ℕ) (t : Bool) → nat_lt 4096 (length line) ≡ t → line_within (take 4097 line) ≡ line_within line
front_by line true e =
    let long : 4096 < length line = lt_from 4096 (length line) e in
    line_long (take 4097 line) (long_front line long) ∙ sym (line_long line long)
front_by line false e =
    let short : length line ≤ 4096 = le_from 4096 (length line) e in
    ap line_within (take_all 4097 line (omega arith))

-- and so is a last line
pub read_of_front : (line : List ℕ) → line_within (take 4097 line) ≡ line_within line
read_of_front line = front_by line (nat_lt 4096 (length line)) refl

-- one more byte behind what is kept of a line
pub take_push : (n : ℕ) (rest : List ℕ) (b : ℕ) → take n (take n rest ++ b ∷ []) ≡ take n (rest ++ b ∷ [])
take_push zero rest b = refl
take_push (suc n) [] b = refl
take_push (suc n) (c ∷ cs) b = ap (λ v. c ∷ v) (take_push n cs b)

-- a last line of which nothing has come
pub none_last : (rest : List ℕ) → take 4097 rest ≡ [] → last_line rest ≡ []
none_last [] e = refl
none_last (c ∷ cs) e = absurd (let no_line : ⊥ = omega (arith, length-take 4097 (c ∷ cs), ap length e) in no_line)

pub some_last : (rest : List ℕ) → (take 4097 rest ≡ [] → ⊥) → last_line rest ≡ rest ∷ []
some_last [] e = absurd (e refl)
some_last (c ∷ cs) e = refl
