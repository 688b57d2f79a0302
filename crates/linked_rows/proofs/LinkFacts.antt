-- What joining two places changes: what comes after the one, and what comes before the other.
use Rattle.std.proofs.Common.{◌≡◌, ◌≢◌, ℕ, ◌<◌, ◌≤◌, ◌++◌, List, [], ◌∷◌, length, get_or, set, refl, sym, ap, ◌∙◌, ⊎_elim, arith, length-set}
use Rattle.std.proofs.lemmas.Bool.{cases_eq, cases_lt}
use Rattle.std.proofs.lemmas.List.{get_or-set_same, get_or-set_other, set_past, get_or_append_left, get_or_read_under}
use Rattle.linked_rows.specs.declared.links.Link.{Link}
use Rattle.linked_rows.specs.Links.{no_link, after, before, with_after, with_before, joined}

pub length-joined : (links : List Link) (a b : ℕ) → length (joined links a b) ≡ length links
unfolding with_after with_before
length-joined links a b = length-set (with_after links a b) b _ ∙ length-set links a _

-- a part of a link that a write keeps
kept_at : (part : Link → ℕ) (links : List Link) (p q : ℕ) (l : Link) → part l ≡ part (get_or links q no_link) → part (get_or (set links q l) p no_link) ≡ part (get_or links p no_link)
kept_at part links p q l same =
    ⊎_elim (λ (e : p ≡ q).
    ⊎_elim (λ (low : q < length links). rw e (ap part (get_or-set_same links q l no_link low) ∙ same))
    (λ (high : length links ≤ q). ap (λ (xs : List Link). part (get_or xs p no_link)) (set_past links q l high))
    (cases_lt q (length links)))
    (λ ne. ap part (get_or-set_other links q p l no_link ne))
    (cases_eq p q)

after-with_before : (links : List Link) (p q x : ℕ) → after (with_before links q x) p ≡ after links p
unfolding after with_before
after-with_before links p q x = kept_at (λ l. l.after) links p q _ refl

before-with_after : (links : List Link) (p q x : ℕ) → before (with_after links q x) p ≡ before links p
unfolding before with_after
before-with_after links p q x = kept_at (λ l. l.before) links p q _ refl

after-with_after : (links : List Link) (p x : ℕ) → p < length links → after (with_after links p x) p ≡ x
unfolding after with_after
after-with_after links p x low = ap (λ (l : Link). l.after) (get_or-set_same links p _ no_link low)

after-with_after_other : (links : List Link) (p q x : ℕ) → p ≢ q → after (with_after links q x) p ≡ after links p
unfolding after with_after
after-with_after_other links p q x ne = ap (λ (l : Link). l.after) (get_or-set_other links q p _ no_link ne)

before-with_before : (links : List Link) (p x : ℕ) → p < length links → before (with_before links p x) p ≡ x
unfolding before with_before
before-with_before links p x low = ap (λ (l : Link). l.before) (get_or-set_same links p _ no_link low)

before-with_before_other : (links : List Link) (p q x : ℕ) → p ≢ q → before (with_before links q x) p ≡ before links p
unfolding before with_before
before-with_before_other links p q x ne = ap (λ (l : Link). l.before) (get_or-set_other links q p _ no_link ne)

length-with_after : (links : List Link) (q x : ℕ) → length (with_after links q x) ≡ length links
unfolding with_after
length-with_after links q x = length-set links q _

pub after-joined : (links : List Link) (a b : ℕ) → a < length links → after (joined links a b) a ≡ b
after-joined links a b low = after-with_before (with_after links a b) a b a ∙ after-with_after links a b low

pub after-joined_other : (links : List Link) (a b p : ℕ) → p ≢ a → after (joined links a b) p ≡ after links p
after-joined_other links a b p ne = after-with_before (with_after links a b) p b a ∙ after-with_after_other links p a b ne

pub before-joined : (links : List Link) (a b : ℕ) → b < length links → before (joined links a b) b ≡ a
before-joined links a b low = before-with_before (with_after links a b) b a (omega (arith, low, length-with_after links a b))

pub before-joined_other : (links : List Link) (a b p : ℕ) → p ≢ b → before (joined links a b) p ≡ before links p
before-joined_other links a b p ne = before-with_before_other (with_after links a b) p b a ne ∙ before-with_after links p a b

-- one more link behind the others
pub after-push : (links : List Link) (l : Link) (p : ℕ) → p < length links → after (links ++ l ∷ []) p ≡ after links p
unfolding after
after-push links l p low = ap (λ (k : Link). k.after) (get_or_append_left links (l ∷ []) no_link p low)

pub before-push : (links : List Link) (l : Link) (p : ℕ) → p < length links → before (links ++ l ∷ []) p ≡ before links p
unfolding before
before-push links l p low = ap (λ (k : Link). k.before) (get_or_append_left links (l ∷ []) no_link p low)

-- a link that was read
pub after_read : (links : List Link) (p n : ℕ) (l : Link) → l ≡ get_or links p l → p < n → n ≡ length links → l.after ≡ after links p
unfolding after
after_read links p n l e low many = ap (λ (k : Link). k.after) (get_or_read_under links p n l no_link e low many)

pub before_read : (links : List Link) (p n : ℕ) (l : Link) → l ≡ get_or links p l → p < n → n ≡ length links → l.before ≡ before links p
unfolding before
before_read links p n l e low many = ap (λ (k : Link). k.before) (get_or_read_under links p n l no_link e low many)

-- the two writes of a join
pub joined_by_writes : (links : List Link) (a b n : ℕ) (k l : Link) → a < n → b < n → n ≡ length links → k ≡ get_or links a k
    → l ≡ get_or (set links a (record { before = k.before; after = b })) b l
    → set (set links a (record { before = k.before; after = b })) b (record { before = a; after = l.after }) ≡ joined links a b
unfolding with_after with_before
joined_by_writes links a b n k l low_a low_b many is_k is_l =
    let one : k ≡ get_or links a no_link = get_or_read_under links a n k no_link is_k low_a many in
    let first : set links a (record { before = k.before; after = b }) ≡ with_after links a b = ap (λ (m : Link). set links a (record { before = m.before; after = b })) one in
    let two : l ≡ get_or (set links a (record { before = k.before; after = b })) b no_link =
    get_or_read_under (set links a (record { before = k.before; after = b })) b n l no_link is_l low_b (many ∙ sym (length-set links a (record { before = k.before; after = b }))) in
    ap (λ (m : Link). set (set links a (record { before = k.before; after = b })) b (record { before = a; after = m.after })) two
    ∙ ap (λ (xs : List Link). with_before xs b a) first
