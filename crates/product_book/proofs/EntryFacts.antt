-- Lists of numbers at their nodes: where one comes, and where one goes.
use Rattle.std.proofs.Common.{◌≡◌, ◌≢◌, subst, get_or, take, drop, take-append-drop, ℕ, zero, suc, ◌+◌, ◌-◌, ◌≤◌, ◌<◌, ◌==◌, not, cond, Bool, true, false, List, [], ◌∷◌, ◌++◌, length, filter, set, replicate, Option, Some, None, if◌then◌else◌, arith, refl, ap, sym, ◌∙◌, ⊎_elim, length-set}
use Rattle.std.proofs.lemmas.Bool.{cases_eq, cases_lt, eq-eqb, ne_eqb}
use Rattle.std.proofs.lemmas.List.{drop_more, drop_all, length-take-le, map_push, get_or_past, get_or_push, get_or_append_left, get_or-set_same, get_or-set_other, length_push, length-map, length-replicate}
use Rattle.linked_rows.specs.declared.node.Node.{Node}
use Rattle.linked_rows.specs.Rows.{value_in, value_of, either, with_last, without}
use Rattle.product_book.specs.OpenLists.{numbers_in, numbers_of, with_number, without_number, Entries, EachEntry, node_of, IsNoted, AreNoted}

-- facts of each entry
entries_weaker : (P Q : ℕ × ℕ → Type 0) (es : List (ℕ × ℕ)) → ((e : ℕ × ℕ) → P e → Q e) → Entries P es → Entries Q es
entries_weaker P Q [] f h = tt
entries_weaker P Q (e ∷ es) f (p, h) = (f e p, entries_weaker P Q es f h)

each_weaker : (P Q : ℕ × ℕ → Type 0) (lists : List (List (ℕ × ℕ))) → ((e : ℕ × ℕ) → P e → Q e) → EachEntry P lists → EachEntry Q lists
each_weaker P Q [] f h = tt
each_weaker P Q (es ∷ lists) f (p, h) = (entries_weaker P Q es f p, each_weaker P Q lists f h)

entries_push : (P : ℕ × ℕ → Type 0) (es : List (ℕ × ℕ)) (e : ℕ × ℕ) → Entries P es → P e → Entries P (es ++ e ∷ [])
entries_push P [] e h p = (p, tt)
entries_push P (first ∷ es) e (q, h) p = (q, entries_push P es e h p)

each_push : (P : ℕ × ℕ → Type 0) (lists : List (List (ℕ × ℕ))) (list place number : ℕ) → EachEntry P lists → P (place, number) → EachEntry P (with_last lists list place number)
each_push P [] list place number h p = tt
each_push P (es ∷ lists) zero place number (q, h) p = (entries_push P es (place, number) q p, h)
each_push P (es ∷ lists) (suc list) place number (q, h) p = (q, each_push P lists list place number h p)

entries_without : (P Q : ℕ × ℕ → Type 0) (es : List (ℕ × ℕ)) (place : ℕ) → ((e : ℕ × ℕ) → P e → e.0 ≢ place → Q e) → Entries P es → Entries Q (filter (λ e. not (e.0 == place)) es)
entries_without P Q [] place f h = tt
entries_without P Q (e ∷ es) place f (p, h) =
    ⊎_elim (λ (same : e.0 ≡ place). rw (eq-eqb e.0 place same) (entries_without P Q es place f h))
    (λ (ne : e.0 ≢ place). rw (ne_eqb e.0 place ne) (f e p ne, entries_without P Q es place f h))
    (cases_eq e.0 place)

each_without : (P Q : ℕ × ℕ → Type 0) (lists : List (List (ℕ × ℕ))) (place : ℕ) → ((e : ℕ × ℕ) → P e → e.0 ≢ place → Q e) → EachEntry P lists → EachEntry Q (without lists place)
each_without P Q [] place f h = tt
each_without P Q (es ∷ lists) place f (p, h) = (entries_without P Q es place f p, each_without P Q lists place f h)

-- the value at a node, with one more and without another
in_push_other : (es : List (ℕ × ℕ)) (p v q : ℕ) → p ≢ q → value_in (es ++ (p, v) ∷ []) q ≡ value_in es q
in_push_other [] p v q ne = rw (ne_eqb p q ne) refl
in_push_other (e ∷ es) p v q ne = ap (λ (o : Option ℕ). if e.0 == q then Some e.1 else o) (in_push_other es p v q ne)

in_push_own : (es : List (ℕ × ℕ)) (p v : ℕ) → value_in es p ≡ None → value_in (es ++ (p, v) ∷ []) p ≡ Some v
in_push_own [] p v none = rw (eq-eqb p p refl) refl
in_push_own (e ∷ es) p v none =
    ⊎_elim (λ (same : e.0 ≡ p). let bad : Some e.1 ≡ None = rw (eq-eqb e.0 p same) at none in cc)
    (λ (ne : e.0 ≢ p). let later : value_in es p ≡ None = rw (ne_eqb e.0 p ne) at none in rw (ne_eqb e.0 p ne) (in_push_own es p v later))
    (cases_eq e.0 p)

both_none : (a b : Option ℕ) → either a b ≡ None → (a ≡ None) × (b ≡ None)
both_none None b e = (refl, e)
both_none (Some x) b e = cc

of_push_other : (lists : List (List (ℕ × ℕ))) (list p v q : ℕ) → p ≢ q → value_of (with_last lists list p v) q ≡ value_of lists q
of_push_other [] list p v q ne = refl
of_push_other (es ∷ lists) zero p v q ne = ap (λ (o : Option ℕ). either o (value_of lists q)) (in_push_other es p v q ne)
of_push_other (es ∷ lists) (suc list) p v q ne = ap (λ (o : Option ℕ). either (value_in es q) o) (of_push_other lists list p v q ne)

of_push_own : (lists : List (List (ℕ × ℕ))) (list p v : ℕ) → list < length lists → value_of lists p ≡ None → value_of (with_last lists list p v) p ≡ Some v
of_push_own [] list p v low none = absurd (omega (arith, low))
of_push_own (es ∷ lists) zero p v low none = ap (λ (o : Option ℕ). either o (value_of lists p)) (in_push_own es p v (both_none (value_in es p) (value_of lists p) none).0)
of_push_own (es ∷ lists) (suc list) p v low none =
    let parts = both_none (value_in es p) (value_of lists p) none in
    ap (λ (o : Option ℕ). either o (value_of (with_last lists list p v) p)) parts.0 ∙ of_push_own lists list p v (omega (arith, low)) parts.1

in_without : (es : List (ℕ × ℕ)) (p q : ℕ) → p ≢ q → value_in (filter (λ e. not (e.0 == p)) es) q ≡ value_in es q
in_without [] p q ne = refl
in_without (e ∷ es) p q ne =
    ⊎_elim (λ (same : e.0 ≡ p). rw (eq-eqb e.0 p same, ne_eqb e.0 q (λ is. ne (sym same ∙ is))) (in_without es p q ne))
    (λ (other : e.0 ≢ p). rw (ne_eqb e.0 p other) (ap (λ (o : Option ℕ). if e.0 == q then Some e.1 else o) (in_without es p q ne)))
    (cases_eq e.0 p)

of_without : (lists : List (List (ℕ × ℕ))) (p q : ℕ) → p ≢ q → value_of (without lists p) q ≡ value_of lists q
of_without [] p q ne = refl
of_without (es ∷ lists) p q ne = ap (λ (o : Option ℕ). either o (value_of (without lists p) q)) (in_without es p q ne) ∙ ap (λ (o : Option ℕ). either (value_in es q) o) (of_without lists p q ne)

-- the numbers
pub numbers_push : (lists : List (List (ℕ × ℕ))) (list place number : ℕ) → numbers_of (with_last lists list place number) ≡ with_number (numbers_of lists) list number
numbers_push [] list place number = refl
numbers_push (es ∷ lists) zero place number = ap (λ (ns : List ℕ). ns ∷ numbers_of lists) (map_push (λ (e : ℕ × ℕ). e.1) es (place, number))
numbers_push (es ∷ lists) (suc list) place number = ap (λ (ls : List (List ℕ)). numbers_in es ∷ ls) (numbers_push lists list place number)

kept_if : (b : Bool) (e : ℕ × ℕ) (es : List (ℕ × ℕ)) (ns : List ℕ) → numbers_in es ≡ ns → numbers_in (cond b (e ∷ es) es) ≡ cond b (e.1 ∷ ns) ns
kept_if true e es ns same = ap (λ (xs : List ℕ). e.1 ∷ xs) same
kept_if false e es ns same = same

in_numbers_without : (es : List (ℕ × ℕ)) (place number : ℕ) → Entries (λ e. (e.0 == place) ≡ (e.1 == number)) es → numbers_in (filter (λ e. not (e.0 == place)) es) ≡ filter (λ n. not (n == number)) (numbers_in es)
in_numbers_without [] place number h = refl
in_numbers_without (e ∷ es) place number (q, h) = rw q (kept_if (not (e.1 == number)) e (filter (λ e. not (e.0 == place)) es) (filter (λ n. not (n == number)) (numbers_in es)) (in_numbers_without es place number h))

numbers_without : (lists : List (List (ℕ × ℕ))) (place number : ℕ) → EachEntry (λ e. (e.0 == place) ≡ (e.1 == number)) lists → numbers_of (without lists place) ≡ without_number (numbers_of lists) number
numbers_without [] place number h = refl
numbers_without (es ∷ lists) place number (q, h) =
    ap (λ (ns : List ℕ). ns ∷ numbers_of (without lists place)) (in_numbers_without es place number q)
    ∙ ap (λ (ls : List (List ℕ)). filter (λ n. not (n == number)) (numbers_in es) ∷ ls) (numbers_without lists place number h)

in_numbers_none : (es : List (ℕ × ℕ)) (number : ℕ) → Entries (λ e. e.1 ≢ number) es → numbers_in es ≡ filter (λ n. not (n == number)) (numbers_in es)
in_numbers_none [] number h = refl
in_numbers_none (e ∷ es) number (ne, h) = rw (ne_eqb e.1 number ne) (ap (λ (ns : List ℕ). e.1 ∷ ns) (in_numbers_none es number h))

numbers_none : (lists : List (List (ℕ × ℕ))) (number : ℕ) → EachEntry (λ e. e.1 ≢ number) lists → numbers_of lists ≡ without_number (numbers_of lists) number
numbers_none [] number h = refl
numbers_none (es ∷ lists) number (q, h) =
    ap (λ (ns : List ℕ). ns ∷ numbers_of lists) (in_numbers_none es number q)
    ∙ ap (λ (ls : List (List ℕ)). filter (λ n. not (n == number)) (numbers_in es) ∷ ls) (numbers_none lists number h)

abbrev at_place : ℕ → Node
at_place place = record { place = place }

-- lists of no trades
each_none : (nodes : List (Option Node)) (n : ℕ) → EachEntry (IsNoted nodes) (replicate n [])
each_none nodes zero = tt
each_none nodes (suc n) = (tt, each_none nodes n)

pub none_noted : (n rows_spare room : ℕ) (lists : List (List (ℕ × ℕ))) (nodes : List (Option Node)) → lists ≡ replicate n [] → nodes ≡ [] → AreNoted lists nodes n 0 rows_spare room
none_noted n rows_spare room lists nodes is none = record {
  size_is = ap (λ (ls : List (List (ℕ × ℕ))). length ls) is ∙ length-replicate n [];
  noted = rw is (each_none nodes n);
  held = λ number node some found. let bad : None ≡ Some node = rw none at found in cc;
  in_rows = omega arith;
  in_nodes = omega arith;
}

-- a number with a node is that of a trade
pub below : (nodes : List (Option Node)) (number : ℕ) (node : Node) → node_of nodes number ≡ Some node → number - 1 < length nodes
below nodes number node is =
    ⊎_elim (λ (l : number - 1 < length nodes). l)
    (λ (le : length nodes ≤ number - 1). let none = get_or_past nodes (number - 1) None le in absurd (let bad : None ≡ Some node = sym none ∙ is in cc))
    (cases_lt (number - 1) (length nodes))

module _ (lists : List (List (ℕ × ℕ))) (nodes : List (Option Node)) (size spare rows_spare room : ℕ) (all : AreNoted lists nodes size spare rows_spare room) where
  -- the next number at a new node
  module _ (list : ℕ) (node : Node) (low : list < length lists) (fresh : value_of lists node.place ≡ None) where
    abbrev more : List (Option Node)
    more = nodes ++ Some node ∷ []

    abbrev number : ℕ
    number = length nodes + 1

    own : node_of more number ≡ Some node
    own = get_or_push nodes (Some node) None (number - 1) (omega arith)

    noted_still : (e : ℕ × ℕ) → IsNoted nodes e → IsNoted more e
    noted_still e h = record { some = h.some; node = get_or_append_left nodes (Some node ∷ []) None (e.1 - 1) (below nodes e.1 _ h.node) ∙ h.node }

    held_still : (k : ℕ) (n : Node) → 1 ≤ k → node_of more k ≡ Some n → value_of (with_last lists list node.place number) n.place ≡ Some k
    held_still k n some is =
        ⊎_elim (λ (l : k - 1 < length nodes).
        let old : value_of lists n.place ≡ Some k = all.held k n some (sym (get_or_append_left nodes (Some node ∷ []) None (k - 1) l) ∙ is) in
        of_push_other lists list node.place number n.place (λ e. let bad : None ≡ Some k = sym fresh ∙ ap (value_of lists) e ∙ old in cc) ∙ old)
        (λ (le : length nodes ≤ k - 1).
        let at : k - 1 ≡ length nodes = omega (arith, le, below more k n is, length_push nodes (Some node)) in
        let same : k ≡ number = omega (arith, at, some) in
        let here : node ≡ n = let e : Some node ≡ Some n = sym own ∙ ap (node_of more) (sym same) ∙ is in cc in
        ap (λ (m : Node). value_of (with_last lists list node.place number) m.place) (sym here) ∙ of_push_own lists list node.place number low fresh ∙ ap Some (sym same))
        (cases_lt (k - 1) (length nodes))

    pub pushed : (left rest : ℕ) → 1 ≤ spare → left ≡ rows_spare - 1 → rest ≡ room - 1 → AreNoted (with_last lists list node.place number) more size (spare - 1) left rest
    pushed left rest some e e' = record {
      size_is = length-set lists list _ ∙ all.size_is;
      noted = each_push (IsNoted more) lists list node.place number (each_weaker (IsNoted nodes) (IsNoted more) lists noted_still all.noted) (record { some = omega arith; node = own });
      held = held_still;
      in_rows = omega (arith, all.in_rows, some, e);
      in_nodes = omega (arith, all.in_nodes, some, e');
    }

  -- the number goes from its node
  module _ (number : ℕ) (node : Node) (some : 1 ≤ number) (is : node_of nodes number ≡ Some node) where
    abbrev less : List (Option Node)
    less = set nodes (number - 1) None

    pub live : value_of lists node.place ≡ Some number
    live = all.held number node some is

    other_number : (e : ℕ × ℕ) → IsNoted nodes e → e.0 ≢ node.place → e.1 ≢ number
    other_number e h ne same =
        let both : Some (at_place e.0) ≡ Some node = sym h.node ∙ ap (node_of nodes) same ∙ is in
        let one : at_place e.0 ≡ node = cc in
        ne (ap (λ (n : Node). n.place) one)

    same_test : (e : ℕ × ℕ) → IsNoted nodes e → (e.0 == node.place) ≡ (e.1 == number)
    same_test e h =
        ⊎_elim (λ (same : e.0 ≡ node.place).
        let held : value_of lists e.0 ≡ Some e.1 = all.held e.1 (at_place e.0) h.some h.node in
        let one : Some e.1 ≡ Some number = sym held ∙ ap (value_of lists) same ∙ live in
        let equal : e.1 ≡ number = cc in
        rw (eq-eqb e.0 node.place same, eq-eqb e.1 number equal) refl)
        (λ (ne : e.0 ≢ node.place). rw (ne_eqb e.0 node.place ne, ne_eqb e.1 number (other_number e h ne)) refl)
        (cases_eq e.0 node.place)

    apart : (k : ℕ) → 1 ≤ k → k ≢ number → node_of less k ≡ node_of nodes k
    apart k one ne = get_or-set_other nodes (number - 1) (k - 1) None None (λ e. ne (omega (arith, e, one, some)))

    held_left : (k : ℕ) (n : Node) → 1 ≤ k → node_of less k ≡ Some n → value_of (without lists node.place) n.place ≡ Some k
    held_left k n one found =
        ⊎_elim (λ (same : k ≡ number).
        let none : node_of less k ≡ None = ap (node_of less) same ∙ get_or-set_same nodes (number - 1) None None (below nodes number node is) in
        absurd (let bad : None ≡ Some n = sym none ∙ found in cc))
        (λ (ne : k ≢ number).
        let old : value_of lists n.place ≡ Some k = all.held k n one (sym (apart k one ne) ∙ found) in
        of_without lists node.place n.place (λ e. let both : Some number ≡ Some k = sym live ∙ ap (value_of lists) e ∙ old in ne (let one : k ≡ number = cc in one)) ∙ old)
        (cases_eq k number)

    pub taken : (left rest : ℕ) → left ≡ rows_spare + 1 → rest ≡ room → AreNoted (without lists node.place) less size spare left rest
    taken left rest e e' = record {
      size_is = length-map lists (λ (es : List (ℕ × ℕ)). filter (λ e. not (e.0 == node.place)) es) ∙ all.size_is;
      noted = each_without (IsNoted nodes) (IsNoted less) lists node.place (λ entry h ne. record { some = h.some; node = apart entry.1 h.some (other_number entry h ne) ∙ h.node }) all.noted;
      held = held_left;
      in_rows = omega (arith, all.in_rows, e);
      in_nodes = omega (arith, all.in_nodes, e');
    }

    pub taken_numbers : numbers_of (without lists node.place) ≡ without_number (numbers_of lists) number
    taken_numbers = numbers_without lists node.place number (each_weaker (IsNoted nodes) (λ e. (e.0 == node.place) ≡ (e.1 == number)) lists same_test all.noted)

  -- a number without a node is in no list
  pub none_numbers : (number : ℕ) → node_of nodes number ≡ None → numbers_of lists ≡ without_number (numbers_of lists) number
  none_numbers number none =
      numbers_none lists number (each_weaker (IsNoted nodes) (λ e. e.1 ≢ number) lists (λ e h same. let bad : Some (at_place e.0) ≡ None = sym h.node ∙ ap (node_of nodes) same ∙ none in cc) all.noted)

-- nodes with none behind them are those without it
node_past : (front : List (Option Node)) (i : ℕ) → get_or (front ++ None ∷ []) i None ≡ get_or front i None
node_past [] zero = refl
node_past [] (suc i) = refl
node_past (o ∷ front) zero = refl
node_past (o ∷ front) (suc i) = node_past front i

set_last : (front : List (Option Node)) (o : Option Node) → set (front ++ o ∷ []) (length front) None ≡ front ++ None ∷ []
set_last [] o = refl
set_last (x ∷ front) o = ap (λ (l : List (Option Node)). x ∷ l) (set_last front o)

-- the last trade is forgotten
pub shorter : (lists : List (List (ℕ × ℕ))) (front : List (Option Node)) (size spare rows_spare room more : ℕ) → AreNoted lists (front ++ None ∷ []) size spare rows_spare room → room ≤ more → AreNoted lists front size spare rows_spare more
shorter lists front size spare rows_spare room more all wide = record {
  size_is = all.size_is;
  noted = each_weaker (IsNoted (front ++ None ∷ [])) (IsNoted front) lists (λ e h. record { some = h.some; node = sym (node_past front (e.1 - 1)) ∙ h.node }) all.noted;
  held = λ number node some is. all.held number node some (node_past front (number - 1) ∙ is);
  in_rows = all.in_rows;
  in_nodes = omega (arith, all.in_nodes, wide);
}

pub last_taken : (lists : List (List (ℕ × ℕ))) (front : List (Option Node)) (node : Node) (size spare rows_spare room left more : ℕ) → AreNoted lists (front ++ Some node ∷ []) size spare rows_spare room → left ≡ rows_spare + 1 → room ≤ more
    → AreNoted (without lists node.place) front size spare left more
last_taken lists front node size spare rows_spare room left more all e wide =
    let nodes = front ++ Some node ∷ [] in
    let here : node_of nodes (length front + 1) ≡ Some node = get_or_push front (Some node) None (length front + 1 - 1) (omega arith) in
    let at : length front + 1 - 1 ≡ length front = omega arith in
    let gone : set nodes (length front + 1 - 1) None ≡ front ++ None ∷ [] = ap (λ (k : ℕ). set nodes k None) at ∙ set_last front (Some node) in
    shorter (without lists node.place) front size spare left room more
    (subst (λ (ns : List (Option Node)). AreNoted (without lists node.place) ns size spare left room) gone
    (taken lists nodes size spare rows_spare room all (length front + 1) node (omega arith) here left room e refl)) wide

pub last_numbers : (lists : List (List (ℕ × ℕ))) (front : List (Option Node)) (node : Node) (size spare rows_spare room : ℕ) → AreNoted lists (front ++ Some node ∷ []) size spare rows_spare room
    → numbers_of (without lists node.place) ≡ without_number (numbers_of lists) (length front + 1)
last_numbers lists front node size spare rows_spare room all =
    taken_numbers lists (front ++ Some node ∷ []) size spare rows_spare room all (length front + 1) node (omega arith) (get_or_push front (Some node) None (length front + 1 - 1) (omega arith))

pub no_last_numbers : (lists : List (List (ℕ × ℕ))) (front : List (Option Node)) (size spare rows_spare room : ℕ) → AreNoted lists (front ++ None ∷ []) size spare rows_spare room
    → numbers_of lists ≡ without_number (numbers_of lists) (length front + 1)
no_last_numbers lists front size spare rows_spare room all =
    none_numbers lists (front ++ None ∷ []) size spare rows_spare room all (length front + 1) (get_or_push front None None (length front + 1 - 1) (omega arith))

last_split : (nodes : List (Option Node)) (o : Option Node) → 1 ≤ length nodes → get_or nodes (length nodes - 1) None ≡ o → nodes ≡ take (length nodes - 1) nodes ++ o ∷ []
last_split nodes o some is =
    let at = length nodes - 1 in
    let none : drop (at + 1) nodes ≡ [] = drop_all (at + 1) nodes (omega (arith, some)) in
    sym (take-append-drop at nodes)
    ∙ ap (λ (l : List (Option Node)). take at nodes ++ l) (drop_more nodes at None (omega (arith, some)) ∙ ap (λ (l : List (Option Node)). get_or nodes at None ∷ l) none)
    ∙ ap (λ (x : Option Node). take at nodes ++ x ∷ []) is

module _ (lists : List (List (ℕ × ℕ))) (nodes : List (Option Node)) (size spare rows_spare room more : ℕ) (all : AreNoted lists nodes size spare rows_spare room) (some : 1 ≤ length nodes) (wide : room ≤ more) where
  abbrev front : List (Option Node)
  front = take (length nodes - 1) nodes

  long : length front + 1 ≡ length nodes
  long = omega (arith, some, length-take-le (length nodes - 1) nodes (omega arith))

  module _ (node : Node) (is : get_or nodes (length nodes - 1) None ≡ Some node) where
    split : AreNoted lists (front ++ Some node ∷ []) size spare rows_spare room
    split = subst (λ (ns : List (Option Node)). AreNoted lists ns size spare rows_spare room) (last_split nodes (Some node) some is) all

    pub forgotten : (left : ℕ) → left ≡ rows_spare + 1 → AreNoted (without lists node.place) front size spare left more
    forgotten left e = last_taken lists front node size spare rows_spare room left more split e wide

    pub forgotten_numbers : numbers_of (without lists node.place) ≡ without_number (numbers_of lists) (length nodes)
    forgotten_numbers = last_numbers lists front node size spare rows_spare room split ∙ ap (λ (k : ℕ). without_number (numbers_of lists) k) long

  module _ (is : get_or nodes (length nodes - 1) None ≡ None) where
    bare : AreNoted lists (front ++ None ∷ []) size spare rows_spare room
    bare = subst (λ (ns : List (Option Node)). AreNoted lists ns size spare rows_spare room) (last_split nodes None some is) all

    pub forgotten_none : AreNoted lists front size spare rows_spare more
    forgotten_none = shorter lists front size spare rows_spare room more bare wide

    pub forgotten_none_numbers : numbers_of lists ≡ without_number (numbers_of lists) (length nodes)
    forgotten_none_numbers = no_last_numbers lists front size spare rows_spare room bare ∙ ap (λ (k : ℕ). without_number (numbers_of lists) k) long
