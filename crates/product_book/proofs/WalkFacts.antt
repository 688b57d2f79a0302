-- A walk along a list: where it begins, what is left of the list at each node, and the trades that it passes.
use Rattle.std.proofs.Common.{◌≡◌, ◌≢◌, ℕ, zero, suc, ◌+◌, ◌-◌, ◌<◌, ◌==◌, cond, Bool, true, false, List, [], ◌∷◌, ◌++◌, length, map, filter, slice_get, nat_lt, Option, Some, None, is_some, IfSome, IsTrue, if◌then◌else◌, arith, refl, ap, sym, subst, ◌∙◌, ⊎_elim}
use Rattle.std.specs.Prelude.{option_map}
use Rattle.std.proofs.lemmas.Bool.{cases_eq, eq-eqb, ne_eqb, false≢true}
use Rattle.std.proofs.lemmas.List.{get_or-map, append_assoc}
use Rattle.std.proofs.lemmas.Bool.Decides.{nat_tests}
use Rattle.linked_rows.specs.declared.node.Node.{Node}
use Rattle.linked_rows.specs.Rows.{list_of, value_in, value_of, either, first_of, next_in, next_of, StandOnceIn, StandOnce}
use Rattle.command_types.specs.declared.trade.TradeRow.{TradeRow}
use Rattle.command_types.specs.Trades.{is_live, trade_numbered}
use Rattle.product_book.specs.Book.{AreTrades}
use Rattle.product_book.specs.OpenLists.{OpenView, numbers_in}
use Rattle.product_book.specs.Links.{is_open_at, numbers_at, AreListed}
use Rattle.product_book.specs.Walks.{rows_at, live_among, EachThere}

-- the place of a node
abbrev pub place_in : Option Node → Option ℕ
place_in o = option_map (λ node. node.place) o

-- what is left of a list from a node on; from none on nothing
abbrev pub rest_at : List (ℕ × ℕ) → ℕ → List (ℕ × ℕ)
rest_at [] place = []
rest_at (e ∷ es) place = if e.0 == place then e ∷ es else rest_at es place

abbrev pub rest : List (ℕ × ℕ) → Option ℕ → List (ℕ × ℕ)
rest es None = []
rest es (Some place) = rest_at es place

-- the node stands in the list
abbrev pub Stands : List (ℕ × ℕ) → Option ℕ → Type 0
Stands es None = Unit {0}
Stands es (Some place) = IsTrue (is_some (value_in es place))

stands_first : (es : List (ℕ × ℕ)) → Stands es (first_of es)
stands_first [] = tt
stands_first (e ∷ es) = rw (eq-eqb e.0 e.0 refl) refl

rest_first : (es : List (ℕ × ℕ)) → rest es (first_of es) ≡ es
rest_first [] = refl
rest_first (e ∷ es) = rw (eq-eqb e.0 e.0 refl) refl

-- a node behind the first one
skips : (e : ℕ × ℕ) (es : List (ℕ × ℕ)) (o : Option ℕ) → value_in es e.0 ≡ None → Stands es o → (rest (e ∷ es) o ≡ rest es o) × Stands (e ∷ es) o
skips e es None none here = (refl, tt)
skips e es (Some place) none here =
    ⊎_elim (λ (same : e.0 ≡ place). absurd (let bad : value_in es place ≡ None = ap (value_in es) (sym same) ∙ none in false≢true (rw bad at here)))
    (λ (ne : e.0 ≢ place). rw (ne_eqb e.0 place ne) (refl, here))
    (cases_eq e.0 place)

in_walk : (es : List (ℕ × ℕ)) (place number : ℕ) → StandOnceIn es → value_in es place ≡ Some number → (rest_at es place ≡ (place, number) ∷ rest es (next_in es place)) × Stands es (next_in es place)
in_walk [] place number once is = cc
in_walk (e ∷ es) place number (none, once) is =
    ⊎_elim (λ (same : e.0 ≡ place).
    let value : Some e.1 ≡ Some number = rw (eq-eqb e.0 place same) at is in
    let number_is : e.1 ≡ number = cc in
    let behind = skips e es (first_of es) none (stands_first es) in
    let pair : e ≡ (place, number) = λ i. (same i, number_is i) in
    rw (eq-eqb e.0 place same) (ap (λ (f : ℕ × ℕ). f ∷ es) pair ∙ ap (λ (fs : List (ℕ × ℕ)). (place, number) ∷ fs) (sym (behind.0 ∙ rest_first es)), behind.1))
    (λ (ne : e.0 ≢ place).
    let later : value_in es place ≡ Some number = rw (ne_eqb e.0 place ne) at is in
    let on = in_walk es place number once later in
    let behind = skips e es (next_in es place) none on.1 in
    rw (ne_eqb e.0 place ne) (on.0 ∙ ap (λ (fs : List (ℕ × ℕ)). (place, number) ∷ fs) (sym behind.0), behind.1))
    (cases_eq e.0 place)

-- what only one list has
either_none : (o : Option ℕ) → either o None ≡ o
either_none None = refl
either_none (Some a) = refl

next_none : (es : List (ℕ × ℕ)) (place : ℕ) → value_in es place ≡ None → next_in es place ≡ None
next_none [] place none = refl
next_none (e ∷ es) place none =
    ⊎_elim (λ (same : e.0 ≡ place). let bad : Some e.1 ≡ None = rw (eq-eqb e.0 place same) at none in cc)
    (λ (ne : e.0 ≢ place). let later : value_in es place ≡ None = rw (ne_eqb e.0 place ne) at none in rw (ne_eqb e.0 place ne) (next_none es place later))
    (cases_eq e.0 place)

none_of : (lists : List (List (ℕ × ℕ))) (place : ℕ) → ((other : ℕ) → other < length lists → value_in (list_of lists other) place ≡ None) → (value_of lists place ≡ None) × (next_of lists place ≡ None)
none_of [] place none = (refl, refl)
none_of (es ∷ lists) place none =
    let on = none_of lists place (λ other low. none (suc other) (omega (arith, low))) in
    let here : value_in es place ≡ None = none 0 (omega arith) in
    (rw (here, on.0) refl, rw (next_none es place here, on.1) refl)

one_of : (lists : List (List (ℕ × ℕ))) (list place : ℕ) → list < length lists → ((other : ℕ) → other < length lists → other ≢ list → value_in (list_of lists other) place ≡ None)
    → (value_of lists place ≡ value_in (list_of lists list) place) × (next_of lists place ≡ next_in (list_of lists list) place)
one_of [] list place low apart = absurd (omega (arith, low))
one_of (es ∷ lists) zero place low apart =
    let on = none_of lists place (λ other small. apart (suc other) (omega (arith, small)) (omega arith)) in
    (ap (either (value_in es place)) on.0 ∙ either_none (value_in es place), ap (either (next_in es place)) on.1 ∙ either_none (next_in es place))
one_of (es ∷ lists) (suc list) place low apart =
    let on = one_of lists list place (omega (arith, low)) (λ other small ne. apart (suc other) (omega (arith, small)) (λ e. ne (omega (arith, e)))) in
    let here : value_in es place ≡ None = apart 0 (omega arith) (omega arith) in
    (ap (λ (o : Option ℕ). either o (value_of lists place)) here ∙ on.0, ap (λ (o : Option ℕ). either o (next_of lists place)) (next_none es place here) ∙ on.1)

-- where a walk along a list stands
abbrev pub IsWalk : List (List (ℕ × ℕ)) → ℕ → Option ℕ → Type 0
IsWalk lists list None = Unit {0}
IsWalk lists list (Some place) = (list < length lists) × StandOnce lists × IsTrue (is_some (value_in (list_of lists list) place))

walk_at : (lists : List (List (ℕ × ℕ))) (list : ℕ) (o : Option ℕ) → list < length lists → StandOnce lists → Stands (list_of lists list) o → IsWalk lists list o
walk_at lists list None low once stands = tt
walk_at lists list (Some place) low once stands = (low, once, stands)

-- it begins at the first node, where there is one
pub walk_begins : (lists : List (List (ℕ × ℕ))) (list : ℕ) (o : Option ℕ) → o ≡ first_of (list_of lists list) → (IsTrue (is_some o) → list < length lists) → (IsTrue (is_some o) → StandOnce lists) → IsWalk lists list o × (rest (list_of lists list) o ≡ list_of lists list)
walk_begins lists list o is low once = (begins o is low once, ap (rest (list_of lists list)) is ∙ rest_first (list_of lists list))
  where
    begins : (o : Option ℕ) → o ≡ first_of (list_of lists list) → (IsTrue (is_some o) → list < length lists) → (IsTrue (is_some o) → StandOnce lists) → IsWalk lists list o
    begins None is low once = tt
    begins (Some place) is low once = (low refl, once refl, subst (Stands (list_of lists list)) (sym is) (stands_first (list_of lists list)))

pub if_there : {P : Type 0} (o : Option Node) → IfSome o (λ _. P) → IsTrue (is_some (place_in o)) → P
if_there None h e = absurd (false≢true e)
if_there (Some node) h e = h

-- its node is live
pub walk_live : (lists : List (List (ℕ × ℕ))) (list place : ℕ) → IsWalk lists list (Some place) → IsTrue (is_some (value_of lists place))
walk_live lists list place (low, once, stands) =
    subst (λ o. IsTrue (is_some o)) (sym (one_of lists list place low (λ other small ne. once.apart list other place low small ne stands)).0) stands

-- it goes on to the next node
pub walk_goes : (lists : List (List (ℕ × ℕ))) (list place number : ℕ) (o : Option ℕ) → IsWalk lists list (Some place) → value_of lists place ≡ Some number → o ≡ next_of lists place
    → IsWalk lists list o × (rest (list_of lists list) (Some place) ≡ (place, number) ∷ rest (list_of lists list) o)
walk_goes lists list place number o (low, once, stands) is next =
    let own = one_of lists list place low (λ other small ne. once.apart list other place low small ne stands) in
    let on = in_walk (list_of lists list) place number (once.within list low) (sym own.0 ∙ is) in
    let to : o ≡ next_in (list_of lists list) place = next ∙ own.1 in
    (subst (IsWalk lists list) (sym to) (walk_at lists list (next_in (list_of lists list) place) low once on.1), on.0 ∙ ap (λ (p : Option ℕ). (place, number) ∷ rest (list_of lists list) p) (sym to))

-- the trades at the numbers of a list are the open ones with its place
found_next : (trades : List TradeRow) (b : Bool) (row : TradeRow) (xs ys : List TradeRow) → trade_numbered trades row.number ≡ Some row → rows_at trades (map (λ (r : TradeRow). r.number) xs) ≡ ys
    → rows_at trades (map (λ (r : TradeRow). r.number) (cond b (row ∷ xs) xs)) ≡ cond b (row ∷ ys) ys
found_next trades true row xs ys is h = rw is (ap (λ (zs : List TradeRow). row ∷ zs) h)
found_next trades false row xs ys is h = h

there_next : (trades : List TradeRow) (b : Bool) (row : TradeRow) (xs : List TradeRow) → trade_numbered trades row.number ≡ Some row → EachThere trades (map (λ (r : TradeRow). r.number) xs) → EachThere trades (map (λ (r : TradeRow). r.number) (cond b (row ∷ xs) xs))
there_next trades true row xs is h = (rw is refl, h)
there_next trades false row xs is h = h

module _ (key : TradeRow → ℕ) (place : ℕ) (trades : List TradeRow) where
  rows_from : (members products k : ℕ) (rows : List TradeRow) → AreTrades members products k rows → ((i : ℕ) → i < length rows → trade_numbered trades (k + i) ≡ slice_get rows i)
      → (rows_at trades (numbers_at key place rows) ≡ filter (is_open_at key place) rows) × EachThere trades (numbers_at key place rows)
  rows_from members products k [] are found = (refl, tt)
  rows_from members products k (row ∷ rows) (here, later) found =
      let on = rows_from members products (k + 1) rows later (λ i low. let e : k + 1 + i ≡ k + suc i = omega arith in ap (trade_numbered trades) e ∙ found (suc i) (omega (arith, low))) in
      let own : trade_numbered trades row.number ≡ Some row = let e : row.number ≡ k + 0 = omega (arith, here.number) in ap (trade_numbered trades) e ∙ found 0 (omega arith) in
      (found_next trades (is_open_at key place row) row (filter (is_open_at key place) rows) (filter (is_open_at key place) rows) own on.0, there_next trades (is_open_at key place row) row (filter (is_open_at key place) rows) own on.1)

  found_first : (i : ℕ) → trade_numbered trades (1 + i) ≡ slice_get trades i
  found_first i =
      let yes : nat_lt 0 (1 + i) ≡ true = grind (arith, nat_tests) in
      let e : 1 + i - 1 ≡ i = omega arith in
      ap (λ (b : Bool). if b then slice_get trades (1 + i - 1) else None) yes ∙ ap (slice_get trades) e

  pub rows_open : (members products : ℕ) → AreTrades members products 1 trades → (rows_at trades (numbers_at key place trades) ≡ filter (is_open_at key place) trades) × EachThere trades (numbers_at key place trades)
  rows_open members products are = rows_from members products 1 trades are (λ i low. found_first i)

-- at a node: its trade is there, and is the first that is left
module _ (lists : List (List (ℕ × ℕ))) (list : ℕ) (trades : List TradeRow) (place number : ℕ) (walk : IsWalk lists list (Some place)) (there : EachThere trades (numbers_in (rest (list_of lists list) (Some place)))) (is : value_of lists place ≡ Some number) where
  goes : IsWalk lists list (next_of lists place) × (rest (list_of lists list) (Some place) ≡ (place, number) ∷ rest (list_of lists list) (next_of lists place))
  goes = walk_goes lists list place number (next_of lists place) walk is refl

  parts : EachThere trades (number ∷ numbers_in (rest (list_of lists list) (next_of lists place)))
  parts = subst (λ es. EachThere trades (numbers_in es)) goes.1 there

  pub passed_there : IsTrue (is_some (trade_numbered trades number))
  passed_there = parts.0

  module _ (o : Option ℕ) (next : o ≡ next_of lists place) where
    pub passed_walk : IsWalk lists list o
    passed_walk = subst (IsWalk lists list) (sym next) goes.0

    pub passed_rest : EachThere trades (numbers_in (rest (list_of lists list) o))
    passed_rest = subst (λ p. EachThere trades (numbers_in (rest (list_of lists list) p))) (sym next) parts.1

    pub passed_shorter : length (rest (list_of lists list) o) < length (rest (list_of lists list) (Some place))
    passed_shorter = omega (arith, ap (λ (es : List (ℕ × ℕ)). length es) goes.1, ap (λ (p : Option ℕ). length (rest (list_of lists list) p)) next)

    pub passed_rows : (row : TradeRow) → trade_numbered trades number ≡ Some row → rows_at trades (numbers_in (rest (list_of lists list) (Some place))) ≡ row ∷ rows_at trades (numbers_in (rest (list_of lists list) o))
    passed_rows row found =
        ap (λ (es : List (ℕ × ℕ)). rows_at trades (numbers_in es)) goes.1
        ∙ (rw found refl)
        ∙ ap (λ (p : Option ℕ). row ∷ rows_at trades (numbers_in (rest (list_of lists list) p))) (sym next)

-- the live ones that are left, once a trade was passed
pub live_passed : (front left : List TradeRow) (row : TradeRow) → is_live row.state ≡ true → (front ++ row ∷ []) ++ live_among left ≡ front ++ live_among (row ∷ left)
live_passed front left row is = append_assoc front (row ∷ []) (live_among left) ∙ (rw is refl)

pub other_passed : (left : List TradeRow) (row : TradeRow) → is_live row.state ≡ false → live_among left ≡ live_among (row ∷ left)
other_passed left row is = rw is refl

-- a list's numbers
pub list_numbers : (key : TradeRow → ℕ) (v : OpenView) (trades : List TradeRow) (place : ℕ) → AreListed key v trades → place < length v.lists → numbers_in (list_of v.lists place) ≡ numbers_at key place trades
list_numbers key v trades place all low = sym (get_or-map numbers_in v.lists place [] [] low) ∙ all.listed place low

-- no trade has a place behind all lists
pub none_at : (key : TradeRow → ℕ) (place : ℕ) (rows : List TradeRow) → ((i : ℕ) (row : TradeRow) → slice_get rows i ≡ Some row → key row ≢ place) → filter (is_open_at key place) rows ≡ []
none_at key place [] other = refl
none_at key place (row ∷ rows) other = rw (ne_eqb (key row) place (other 0 row refl)) (none_at key place rows (λ i r is. other (suc i) r is))
