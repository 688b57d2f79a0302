-- A slice that was lent out from a place on.
use Rattle.std.proofs.Common.{◌≡◌, ℕ, ◌+◌, ◌-◌, ◌<◌, ◌≤◌, List, [], ◌++◌, length, take, drop, sym, subst, ap, ◌∙◌, arith}
use Rattle.std.proofs.lemmas.List.{append-nil, length-append, length-take, length-drop, take_all, drop_all, drop_at, drop-drop}
use Rattle.command_types.specs.declared.ask.Entry.{Entry}

-- what is behind those that were asked stays
pub put_back : (xs items new : List Entry) (at m n len : ℕ) → xs ≡ items → length xs ≡ len → at < length items → m ≡ n → n ≤ length new → length new ≡ length (take (length xs - at) (drop at xs)) →
    drop m new ≡ drop m (take (length xs - at) (drop at xs)) →
    drop (at + n) (take len ((take at xs ++ (new ++ drop (length xs - at) (drop at xs))) ++ drop (length (take at xs ++ (new ++ drop (length xs - at) (drop at xs)))) items)) ≡ drop (at + n) items
put_back xs items new at m n len same size within counts fits count rest =
    let front = take at xs in
    let post = drop (length xs - at) (drop at xs) in
    let w = front ++ (new ++ post) in
    let alike : length xs ≡ length items = ap length same in
    let none : post ≡ [] = drop_all (length xs - at) (drop at xs) (omega (arith, length-drop at xs)) in
    let whole : w ≡ front ++ new = ap (λ p. front ++ (new ++ p)) none ∙ ap (λ t. front ++ t) (append-nil new) in
    let part : take (length xs - at) (drop at xs) ≡ drop at xs = take_all (length xs - at) (drop at xs) (omega (arith, length-drop at xs)) in
    let part_size : length (take (length xs - at) (drop at xs)) ≡ length (drop at xs) = ap length part in
    let front_size : length front ≡ at = omega (arith, length-take at xs, alike, within) in
    let whole_size : length w ≡ length (front ++ new) = ap length whole in
    let all : length w ≡ len = omega (arith, whole_size, length-append front new, front_size, count, part_size, length-drop at xs, size, alike, within) in
    let back : drop (length w) items ≡ [] = drop_all (length w) items (omega (arith, all, size, alike)) in
    let inner : take len (w ++ drop (length w) items) ≡ front ++ new =
    ap (λ b. take len (w ++ b)) back ∙ ap (take len) (append-nil w) ∙ take_all len w (omega (arith, all)) ∙ whole in
    let others : drop n new ≡ drop n (take (length xs - at) (drop at xs)) = subst (λ k. drop k new ≡ drop k (take (length xs - at) (drop at xs))) counts rest in
    ap (drop (at + n)) inner
    ∙ sym (drop-drop n at (front ++ new)) ∙ ap (drop n) (drop_at front new at front_size)
    ∙ others ∙ ap (drop n) part ∙ drop-drop n at xs ∙ ap (drop (at + n)) same
