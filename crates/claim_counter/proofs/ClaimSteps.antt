-- Each step at the counter of claims keeps its rule.
use Rattle.std.proofs.Common.{◌≡◌, ◌≢◌, ◌⊎◌, ℕ, zero, suc, ◌+◌, ◌-◌, ◌^◌, ◌%◌, ◌==◌, ◌<◌, ◌≤◌, nat_lt, Bool, true, false, List, [], ◌∷◌, ◌++◌, length, set, get_or, sym, refl, ap, ◌∙◌, subst, inl, inr, ⊎_elim, arith, length-set, length-append}
use Rattle.std.proofs.lemmas.Bool.{ne_eqb, eq-eqb}
use Rattle.std.proofs.lemmas.Bool.Decides.{nat_tests}
use mathlib.Core.Option.{some, some-injective, some-ne-none}
use mathlib.Core.Logic.{dite}
use native.Mathlib.Decide.{ℕ_discrete}
use lib.ListN.{get_elem?}
use Rattle.atomic_table.proofs.Lists.{at_set, at_snoc}
use Rattle.atomic_table.specs.Table.{State, Me, Allows, Splits, Joins, keeps, stepped}
use Rattle.claim_counter.specs.declared.rule.Claims.{Claims}
use Rattle.claim_counter.specs.Claims.{one_if, times, total, room_of, parts_of, claims, count_of, Kept, nobody, room_after, with_claim, rest_of, worker, both, claimed, known}

pub times-append : (x : ℕ) (xs ys : List ℕ) → times x (xs ++ ys) ≡ times x xs + times x ys
times-append x [] ys = omega arith
times-append x (y ∷ xs) ys = let s = times-append x xs ys in omega arith

total_set : (f : Claims → ℕ) (vs : List Claims) (i : ℕ) (v w : Claims) → get_elem? vs i ≡ some v → total f (set vs i w) + f v ≡ total f vs + f w
total_set f [] i v w e = absurd (some-ne-none v (sym e))
total_set f (x ∷ xs) zero v w e = let s = ap f (some-injective x v e) in omega arith
total_set f (x ∷ xs) (suc i) v w e = let s = total_set f xs i v w e in omega arith

total_at : (f : Claims → ℕ) (vs : List Claims) (i : ℕ) (v : Claims) → get_elem? vs i ≡ some v → f v ≤ total f vs
total_at f [] i v e = absurd (some-ne-none v (sym e))
total_at f (x ∷ xs) zero v e = let s = ap f (some-injective x v e) in omega arith
total_at f (x ∷ xs) (suc i) v e = let s = total_at f xs i v e in omega arith

total_snoc : (f : Claims → ℕ) (vs : List Claims) (r : Claims) → total f (vs ++ r ∷ []) ≡ total f vs + f r
total_snoc f [] r = omega arith
total_snoc f (x ∷ xs) r = let s = total_snoc f xs r in omega arith

each_may : (P : Claims → Type 0) (vs : List Claims) (id : ℕ) (w : Claims) → P w → ((j : ℕ) (u : Claims) → get_elem? vs j ≡ some u → P u) → (j : ℕ) (u : Claims) → get_elem? (set vs id w) j ≡ some u → P u
each_may P vs id w mine others j u p = ⊎_elim (λ (x : (j ≡ id) × (w ≡ u)). subst P x.1 mine) (λ (x : (j ≢ id) × (get_elem? vs j ≡ some u)). others j u x.1) (at_set vs id j w u p)

each_new : (P : Claims → Type 0) (vs : List Claims) (r : Claims) → P r → ((j : ℕ) (u : Claims) → get_elem? vs j ≡ some u → P u) → (j : ℕ) (u : Claims) → get_elem? (vs ++ r ∷ []) j ≡ some u → P u
each_new P vs r mine others j u p = ⊎_elim (λ (x : get_elem? vs j ≡ some u). others j u x) (λ (x : r ≡ u). subst P x mine) (at_snoc vs r u j p)

set_else : (vs : List Claims) (i j : ℕ) (w : Claims) → (j ≡ i → ⊥) → get_elem? (set vs i w) j ≡ get_elem? vs j
set_else [] i j w ne = refl
set_else (x ∷ xs) zero zero w ne = absurd (ne refl)
set_else (x ∷ xs) zero (suc j) w ne = refl
set_else (x ∷ xs) (suc i) zero w ne = refl
set_else (x ∷ xs) (suc i) (suc j) w ne = set_else xs i j w (λ e. ne (ap suc e))

-- the numbers below the next word
next_below : (m n : ℕ) → one_if (nat_lt m n) + one_if (n == m) ≡ one_if (nat_lt m (n + 1))
next_below m n = dite (ℕ_discrete n m)
    (λ e. let same : (n == m) ≡ true = eq-eqb n m e in let no_less : nat_lt m n ≡ false = grind (arith, nat_tests) in let less : nat_lt m (n + 1) ≡ true = grind (arith, nat_tests) in rw (same, no_less, less) refl)
    (λ ne. let other : (n == m) ≡ false = ne_eqb n m ne in let as_before : nat_lt m (n + 1) ≡ nat_lt m n = by m n (nat_lt m n) refl ne in rw (other, as_before) (omega arith))
  where
    by : (m n : ℕ) (t : Bool) → nat_lt m n ≡ t → n ≢ m → nat_lt m (n + 1) ≡ nat_lt m n
    by m n true is ne = let more : nat_lt m (n + 1) ≡ true = grind (arith, nat_tests) in more ∙ sym is
    by m n false is ne = let lt : n < m = lesser m n is ne in let still : nat_lt m (n + 1) ≡ false = grind (arith, nat_tests) in still ∙ sym is
      where
        lesser : (m n : ℕ) → nat_lt m n ≡ false → n ≢ m → n < m
        lesser m n is ne = let le : n ≤ m = grind (arith, nat_tests) in omega arith

record Rooms (n pieces : ℕ) (t : Bool) (room rooms rooms' : ℕ) : Type 0 where
  most : rooms' ≤ 64
  few : n + 1 + rooms' ≤ pieces + 64

rooms_after : (n pieces : ℕ) (t : Bool) (room rooms rooms' : ℕ) → nat_lt n pieces ≡ t → 0 < room → rooms ≤ 64 → n + rooms ≤ pieces + 64 → rooms' + room ≡ rooms + room_after t room → Rooms n pieces t room rooms rooms'
rooms_after n pieces true room rooms rooms' is some_room most few e = let lt : n < pieces = grind (arith, nat_tests) in record { most = omega arith; few = omega arith }
rooms_after n pieces false room rooms rooms' is some_room most few e = record { most = omega arith; few = omega arith }

pub may_claim : (pieces slots id : ℕ) (me : Me ℕ Claims) → 0 < me.0.room → 0 < me.0.parts → pieces + 64 < 2 ^ 64 → Allows (Kept pieces) slots id me 0 (λ n. (n + 1) % 2 ^ 64) (λ n w. claimed me n w)
may_claim pieces slots id me some_room some_parts short s k long at small =
    let v : Claims = me.0 in
    let n : ℕ = get_or s.words 0 0 in
    let is : n ≡ k.word = ap (λ ws. get_or ws 0 0) k.words in
    let w : Claims = with_claim n v in
    let own = total_at room_of s.views id v at in
    let f = k.few in
    let up : (n + 1) % 2 ^ 64 ≡ n + 1 = omega arith in
    let mine : v.pieces ≡ pieces = k.same id v at some_parts in
    let sum = total_set room_of s.views id v w at in
    let after = rooms_after n pieces (nat_lt n v.pieces) v.room (total room_of s.views) (total room_of (set s.views id w)) (ap (nat_lt n) (sym mine)) some_room k.rooms (omega arith) sum in (
      w,
      keeps,
      tt,
      record {
        word = n + 1;
        words = ap (λ ws. set ws 0 ((n + 1) % 2 ^ 64)) k.words ∙ ap (λ x. x ∷ []) up;
        count = let o = k.count in let t = total_set count_of s.views id v w at in omega arith;
        once = λ m. let o = k.once m in let t = total_set (claims m) s.views id v w at in let b = next_below m n in let e = ap (λ x. one_if (nat_lt m x)) is in omega arith;
        rooms = after.most;
        few = after.few;
        parts = let p = k.parts in let t = total_set parts_of s.views id v w at in omega arith;
        idle = each_may (λ u. u.parts ≡ 0 → u.taken ≡ []) s.views id w (λ none. absurd (omega arith)) k.idle;
        same = each_may (λ u. 0 < u.parts → u.pieces ≡ pieces) s.views id w (λ some. mine) k.same;
      },
      (refl, refl, (let o = k.count in let t = total_at count_of s.views id v at in omega arith)),
    )

pub may_split : (pieces id : ℕ) (v : Claims) → 1 < v.parts → 0 < v.room → Splits (Kept pieces) id v (rest_of v) (worker v)
may_split pieces id v some_parts some_room s k at =
    let l : Claims = rest_of v in
    let r : Claims = worker v in
    let vs : List Claims = set s.views id l in
    let mine : v.pieces ≡ pieces = k.same id v at (omega arith) in
    record {
      word = k.word;
      words = k.words;
      count = let o = k.count in let t = total_set count_of s.views id v l at in let u = total_snoc count_of vs r in omega arith;
      once = λ m. let o = k.once m in let t = total_set (claims m) s.views id v l at in let u = total_snoc (claims m) vs r in omega arith;
      rooms = let o = k.rooms in let t = total_set room_of s.views id v l at in let u = total_snoc room_of vs r in omega arith;
      few = let o = k.few in let t = total_set room_of s.views id v l at in let u = total_snoc room_of vs r in omega arith;
      parts = let o = k.parts in let t = total_set parts_of s.views id v l at in let u = total_snoc parts_of vs r in omega arith;
      idle = each_new (λ u. u.parts ≡ 0 → u.taken ≡ []) vs r (λ none. refl) (each_may (λ u. u.parts ≡ 0 → u.taken ≡ []) s.views id l (λ none. absurd (omega arith)) k.idle);
      same = each_new (λ u. 0 < u.parts → u.pieces ≡ pieces) vs r (λ some. mine) (each_may (λ u. 0 < u.parts → u.pieces ≡ pieces) s.views id l (λ some. mine) k.same);
    }

pub may_join : (pieces id other : ℕ) (v w : Claims) → 0 < v.parts → Joins (Kept pieces) id v other w (both v w) nobody
may_join pieces id other v w some_parts s k at apart there' =
    let h : Claims = both v w in
    let vs : List Claims = set s.views id h in
    let there : get_elem? s.views other ≡ some w = sym (set_else s.views id other h apart) ∙ there' in
    let mine : v.pieces ≡ pieces = k.same id v at some_parts in
    record {
      word = k.word;
      words = k.words;
      count = let o = k.count in let t = total_set count_of s.views id v h at in let u = total_set count_of vs other w nobody there' in omega (arith, length-append v.taken w.taken);
      once = λ m. let o = k.once m in let t = total_set (claims m) s.views id v h at in let u = total_set (claims m) vs other w nobody there' in let a = times-append m v.taken w.taken in omega arith;
      rooms = let o = k.rooms in let t = total_set room_of s.views id v h at in let u = total_set room_of vs other w nobody there' in omega arith;
      few = let o = k.few in let t = total_set room_of s.views id v h at in let u = total_set room_of vs other w nobody there' in omega arith;
      parts = let o = k.parts in let t = total_set parts_of s.views id v h at in let u = total_set parts_of vs other w nobody there' in omega arith;
      idle = each_may (λ u. u.parts ≡ 0 → u.taken ≡ []) vs other nobody (λ none. refl) (each_may (λ u. u.parts ≡ 0 → u.taken ≡ []) s.views id h (λ none. absurd (omega arith)) k.idle);
      same = each_may (λ u. 0 < u.parts → u.pieces ≡ pieces) vs other nobody (λ some. absurd (omega arith)) (each_may (λ u. 0 < u.parts → u.pieces ≡ pieces) s.views id h (λ some. mine) k.same);
    }

-- where one view has every part, the others have claimed nothing
none_else : (f : Claims → ℕ) (vs : List Claims) → ((j : ℕ) (u : Claims) → get_elem? vs j ≡ some u → u.parts ≡ 0 → f u ≡ 0) → total parts_of vs ≡ 0 → total f vs ≡ 0
none_else f [] none e = refl
none_else f (x ∷ xs) none e = let first = none 0 x refl (omega arith) in let rest = none_else f xs (λ j u p. none (suc j) u p) (omega arith) in omega arith

alone : (f : Claims → ℕ) (vs : List Claims) (id : ℕ) (v : Claims) → get_elem? vs id ≡ some v → ((j : ℕ) (u : Claims) → get_elem? vs j ≡ some u → u.parts ≡ 0 → f u ≡ 0) → total parts_of vs ≡ v.parts → total f vs ≡ f v
alone f [] id v at none e = absurd (some-ne-none v (sym at))
alone f (x ∷ xs) zero v at none e = let same = some-injective x v at in let p = ap parts_of same in let q = ap f same in let rest = none_else f xs (λ j u h. none (suc j) u h) (omega arith) in omega arith
alone f (x ∷ xs) (suc id) v at none e =
    let own = total_at parts_of xs id v at in
    let first = none 0 x refl (omega arith) in
    let rest = alone f xs id v at (λ j u h. none (suc j) u h) (omega arith) in
    omega arith

pub may_know : (pieces slots id : ℕ) (me : Me ℕ Claims) → Allows (Kept pieces) slots id me 0 (λ n. n) (λ n w. known me n w)
may_know pieces slots id me s k long at small =
    let v : Claims = me.0 in
    let n : ℕ = get_or s.words 0 0 in
    let is : n ≡ k.word = ap (λ ws. get_or ws 0 0) k.words in (
      v,
      keeps,
      tt,
      record {
        word = k.word;
        words = ap (λ ws. set ws 0 n) k.words ∙ ap (λ x. x ∷ []) is;
        count = let o = k.count in let t = total_set count_of s.views id v v at in omega arith;
        once = λ m. let o = k.once m in let t = total_set (claims m) s.views id v v at in omega arith;
        rooms = let o = k.rooms in let t = total_set room_of s.views id v v at in omega arith;
        few = let o = k.few in let t = total_set room_of s.views id v v at in omega arith;
        parts = let o = k.parts in let t = total_set parts_of s.views id v v at in omega arith;
        idle = each_may (λ u. u.parts ≡ 0 → u.taken ≡ []) s.views id v (k.idle id v at) k.idle;
        same = each_may (λ u. 0 < u.parts → u.pieces ≡ pieces) s.views id v (k.same id v at) k.same;
      },
      (
        refl,
        λ all m.
            sym (alone (claims m) s.views id v at (λ j u p none. ap (times m) (k.idle j u p none)) (k.parts ∙ sym all)) ∙ (k.once m ∙ ap (λ x. one_if (nat_lt m x)) (sym is)),
      ),
    )
