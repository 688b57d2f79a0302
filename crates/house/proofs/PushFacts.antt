-- Changes that are put behind a history, one after another.
use Rattle.std.proofs.Common.{◌≡◌, ℕ, zero, suc, ◌+◌, ◌≤◌, ◌<◌, List, [], ◌∷◌, ◌++◌, length, get_or, take, drop, map, refl, sym, ◌∙◌, subst, ap, arith, append_assoc, add-one, length-append}
use Rattle.std.proofs.Math.Seq.{drop-cons}
use Rattle.std.proofs.lemmas.List.{append-nil, get_or-map, take_more, take_all}
use Rattle.command_types.specs.declared.ask.Entry.{Entry}
use Rattle.command_types.specs.History.{History, longer}
use Rattle.journal_core.specs.Frame.{frames_length}
use Rattle.journal_core.specs.Holds.{frame}
use Rattle.journal_core.proofs.PartFacts.{length-frame}
use Rattle.std.specs.List.{AllZip, flat_map}
use Rattle.command_types.specs.Spelling.{Spells}
use Rattle.command_types.specs.declared.spelling.Spelling.TheVariants.{Second}
use Rattle.house.specs.Chronicle.{HasVoteRoom}
use Rattle.house.specs.declared.chronicle.TheConstants.{VOTES_ROOM}

-- the frames of records begin with that of the first
frames_first : (r : List ℕ) (rs : List (List ℕ)) → frames_length (r ∷ rs) ≡ 5 + length r + frames_length rs
frames_first r rs =
    let split : length (frame r ++ flat_map frame rs) ≡ length (frame r) + length (flat_map frame rs) = length-append (frame r) (flat_map frame rs) in
    omega (arith, split, length-frame r)

-- what is left behind a record has its frame less
pub frame_at : (rs : List (List ℕ)) (n : ℕ) (r : List ℕ) → n < length rs → r ≡ get_or rs n r → frames_length (drop n rs) ≡ 5 + length r + frames_length (drop (n + 1) rs)
frame_at rs n r within is =
    let here : drop n rs ≡ get_or rs n r ∷ drop (n + 1) rs = rw add-one (drop-cons rs n r within) in
    ap frames_length here ∙ ap (λ (x : List ℕ). frames_length (x ∷ drop (n + 1) rs)) (sym is) ∙ frames_first r (drop (n + 1) rs)

-- there is room for all votes, whatever is proposed
pub votes_there : (h : History) (room : ℕ) → VOTES_ROOM ≤ room → HasVoteRoom h room
votes_there h room all = λ on. omega (arith, all)

-- one change more
pub longer_at : (h : History) (es : List Entry) (n : ℕ) (e : Entry) → n < length es → e ≡ get_or es n e → longer (longer h (take n es)) (e ∷ []) ≡ longer h (take (n + 1) es)
longer_at h es n e within is =
    let more : take (n + 1) es ≡ take n es ++ e ∷ [] = take_more es n e within ∙ ap (λ (x : Entry). take n es ++ x ∷ []) (sym is) in
    ap (λ (xs : List Entry). record h { entries = xs }) (append_assoc h.entries (take n es) (e ∷ [])) ∙ ap (longer h) (sym more)

pub longer_none : (h : History) → h ≡ longer h []
longer_none h = ap (λ (xs : List Entry). record h { entries = xs }) (sym (append-nil h.entries))

pub longer_whole : (h now : History) (es : List Entry) (n : ℕ) → length es ≤ n → now ≡ longer h (take n es) → now ≡ longer h es
longer_whole h now es n over is = is ∙ ap (longer h) (take_all n es over)

-- ---- records, place by place

-- there is a record for each change
pub as_many_spelled : (records : List (List ℕ)) (entries : List Entry) → AllZip (Spells Second) records entries → length records ≡ length entries
as_many_spelled [] [] all = refl
as_many_spelled [] (e ∷ entries) all = absurd all
as_many_spelled (r ∷ records) [] all = absurd all
as_many_spelled (r ∷ records) (e ∷ entries) all = ap suc (as_many_spelled records entries all.1)

-- each spells the change at its place
pub spelled_at : (records : List (List ℕ)) (entries : List Entry) (n : ℕ) (r : List ℕ) (e : Entry) → AllZip (Spells Second) records entries → n < length entries → r ≡ get_or records n r → e ≡ get_or entries n e → Spells Second r e
spelled_at [] [] n r e all within at there = absurd (omega arith)
spelled_at [] (y ∷ entries) n r e all within at there = absurd all
spelled_at (x ∷ records) [] n r e all within at there = absurd all
spelled_at (x ∷ records) (y ∷ entries) zero r e all within at there = subst (λ (b : List ℕ). Spells Second b e) (sym at) (subst (λ (f : Entry). Spells Second x f) (sym there) all.0)
spelled_at (x ∷ records) (y ∷ entries) (suc n) r e all within at there = spelled_at records entries n r e all.1 (omega (arith, within)) at there

-- the bytes of what is at a place
pub bytes_at : {X : Type 0} (f : X → List ℕ) (xs : List X) (n : ℕ) (x : X) (bytes : List ℕ) → n < length xs → x ≡ get_or xs n x → bytes ≡ f x → bytes ≡ get_or (map f xs) n bytes
bytes_at f xs n x bytes within is same = same ∙ ap f is ∙ sym (get_or-map f xs n x bytes within)
