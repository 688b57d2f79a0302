-- What keeps the lists of open trades right: a new trade, one that ends, and changes that leave each where it stands.
use Rattle.std.proofs.Common.{◌≡◌, ◌≢◌, ℕ, zero, suc, ◌+◌, ◌-◌, ◌<◌, ◌==◌, ◌&&◌, not, cond, Bool, true, false, List, [], ◌∷◌, ◌++◌, length, map, filter, get_or, set, slice_get, Some, arith, refl, ap, sym, subst, ◌∙◌, ⊎_elim, length-set}
use Rattle.std.proofs.lemmas.Bool.{cases_eq, eq-eqb, ne_eqb}
use Rattle.std.proofs.lemmas.List.{length-map, length_push, map-append, append-nil, get_or-map, get_or-set_same, get_or-set_other}
use Rattle.std.proofs.lemmas.List.Elements.{filter-append}
use Rattle.command_types.specs.declared.trade.TradeRow.{TradeRow}
use Rattle.command_types.specs.Trades.{counts, trade_numbered, with_row}
use Rattle.command_types.specs.Plans.{ended_row}
use Rattle.product_book.specs.Book.{AreTrades}
use Rattle.product_book.specs.OpenLists.{OpenView, numbers_in, numbers_of, with_number, without_number}
use Rattle.product_book.specs.Links.{is_open_at, numbers_at, AreListed, IsPushed, IsTakenOut, IsForgotten}
use Rattle.product_book.proofs.BookFacts.{placed}

abbrev number_of : TradeRow → ℕ
number_of row = row.number

and_false : (x : Bool) → (x && false) ≡ false
and_false true = refl
and_false false = refl

-- how many lists there are
count_of : (lists : List (List (ℕ × ℕ))) → length (numbers_of lists) ≡ length lists
count_of lists = length-map lists numbers_in

pub count_pushed : (v w : OpenView) (list : ℕ) → IsPushed v w list → length w.lists ≡ length v.lists
count_pushed v w list is = sym (count_of w.lists) ∙ ap (λ (ls : List (List ℕ)). length ls) is.numbers ∙ length-set (numbers_of v.lists) list _ ∙ count_of v.lists

pub count_taken : (v w : OpenView) (number : ℕ) → IsTakenOut v w number → length w.lists ≡ length v.lists
count_taken v w number is = sym (count_of w.lists) ∙ ap (λ (ls : List (List ℕ)). length ls) is.numbers ∙ length-map (numbers_of v.lists) (λ (ns : List ℕ). filter (λ n. not (n == number)) ns) ∙ count_of v.lists

pub count_forgotten : (v w : OpenView) → IsForgotten v w → length w.lists ≡ length v.lists
count_forgotten v w is = sym (count_of w.lists) ∙ ap (λ (ls : List (List ℕ)). length ls) is.numbers ∙ length-map (numbers_of v.lists) (λ (ns : List ℕ). filter (λ n. not (n == v.count)) ns) ∙ count_of v.lists

-- the first row of more
first_same : (b : Bool) (r s : TradeRow) (xs ys : List TradeRow) → r.number ≡ s.number → map number_of xs ≡ map number_of ys → map number_of (cond b (r ∷ xs) xs) ≡ map number_of (cond b (s ∷ ys) ys)
first_same true r s xs ys e h = ap (λ (k : ℕ). k ∷ map number_of xs) e ∙ ap (λ (ns : List ℕ). s.number ∷ ns) h
first_same false r s xs ys e h = h

first_kept : (b : Bool) (row : TradeRow) (xs ys : List TradeRow) (m : ℕ) → row.number ≢ m → map number_of ys ≡ filter (λ n. not (n == m)) (map number_of xs) → map number_of (cond b (row ∷ ys) ys) ≡ filter (λ n. not (n == m)) (map number_of (cond b (row ∷ xs) xs))
first_kept true row xs ys m ne h = rw (ne_eqb row.number m ne) (ap (λ (ns : List ℕ). row.number ∷ ns) h)
first_kept false row xs ys m ne h = h

first_gone : (b : Bool) (row : TradeRow) (xs : List TradeRow) (m : ℕ) → row.number ≡ m → filter (λ n. not (n == m)) (map number_of (cond b (row ∷ xs) xs)) ≡ filter (λ n. not (n == m)) (map number_of xs)
first_gone true row xs m e = rw (eq-eqb row.number m e) refl
first_gone false row xs m e = refl

module _ (key : TradeRow → ℕ) (place : ℕ) where
  abbrev test : TradeRow → Bool
  test row = is_open_at key place row

  abbrev numbers : List TradeRow → List ℕ
  numbers rows = numbers_at key place rows

  -- one more trade
  both : (rows : List TradeRow) (row : TradeRow) → numbers (rows ++ row ∷ []) ≡ numbers rows ++ map number_of (filter test (row ∷ []))
  both rows row = ap (map number_of) (filter-append test rows (row ∷ [])) ∙ map-append number_of (filter test rows) (filter test (row ∷ []))

  more_here : (rows : List TradeRow) (row : TradeRow) → key row ≡ place → counts row.state ≡ true → numbers (rows ++ row ∷ []) ≡ numbers rows ++ row.number ∷ []
  more_here rows row e is =
      let yes : test row ≡ true = rw (eq-eqb (key row) place e, is) refl in
      both rows row ∙ ap (λ (b : Bool). numbers rows ++ map number_of (cond b (row ∷ []) [])) yes

  more_other : (rows : List TradeRow) (row : TradeRow) → key row ≢ place → numbers (rows ++ row ∷ []) ≡ numbers rows
  more_other rows row ne =
      let gone : test row ≡ false = rw (ne_eqb (key row) place ne) refl in
      both rows row ∙ ap (λ (b : Bool). numbers rows ++ map number_of (cond b (row ∷ []) [])) gone ∙ append-nil (numbers rows)

  -- one that has ended
  pub more_gone : (rows : List TradeRow) (row : TradeRow) → counts row.state ≡ false → numbers (rows ++ row ∷ []) ≡ numbers rows
  more_gone rows row gone =
      let off : test row ≡ false = ap (λ (b : Bool). (key row == place) && b) gone ∙ and_false (key row == place) in
      both rows row ∙ ap (λ (b : Bool). numbers rows ++ map number_of (cond b (row ∷ []) [])) off ∙ append-nil (numbers rows)

  -- one that ends
  none_below : (members products k m : ℕ) (rows : List TradeRow) → AreTrades members products k rows → m < k → numbers rows ≡ filter (λ n. not (n == m)) (numbers rows)
  none_below members products k m [] are low = refl
  none_below members products k m (row ∷ rows) (here, later) low =
      first_kept (test row) row (filter test rows) (filter test rows) m (λ e. omega (arith, e, here.number, low)) (none_below members products (k + 1) m rows later (omega (arith, low)))

  ended_at : (members products k i : ℕ) (rows : List TradeRow) (new : TradeRow) → AreTrades members products k rows → counts new.state ≡ false → i < length rows → numbers (set rows i new) ≡ filter (λ n. not (n == k + i)) (numbers rows)
  ended_at members products k i [] new are gone low = absurd (omega (arith, low))
  ended_at members products k zero (row ∷ rows) new (here, later) gone low =
      let off : test new ≡ false = ap (λ (b : Bool). (key new == place) && b) gone ∙ and_false (key new == place) in
      let own : row.number ≡ k + 0 = omega (arith, here.number) in
      ap (λ (b : Bool). map number_of (cond b (new ∷ filter test rows) (filter test rows))) off
      ∙ none_below members products (k + 1) (k + 0) rows later (omega arith)
      ∙ sym (first_gone (test row) row (filter test rows) (k + 0) own)
  ended_at members products k (suc i) (row ∷ rows) new (here, later) gone low =
      let same : k + 1 + i ≡ k + suc i = omega arith in
      first_kept (test row) row (filter test rows) (filter test (set rows i new)) (k + suc i) (λ e. omega (arith, e, here.number))
      (subst (λ m. numbers (set rows i new) ≡ filter (λ n. not (n == m)) (numbers rows)) same (ended_at members products (k + 1) i rows new later gone (omega (arith, low))))

  -- one that stays where it stands
  same_at : (rows : List TradeRow) (i : ℕ) (old new : TradeRow) → slice_get rows i ≡ Some old → new.number ≡ old.number → key new ≡ key old → counts new.state ≡ counts old.state → numbers (set rows i new) ≡ numbers rows
  same_at [] i old new is e e' e'' = refl
  same_at (row ∷ rows) zero old new is e e' e'' =
      let first : row ≡ old = cc in
      let tests : test new ≡ test row = rw (e', e'', first) refl in
      ap (λ (b : Bool). map number_of (cond b (new ∷ filter test rows) (filter test rows))) tests
      ∙ first_same (test row) new row (filter test rows) (filter test rows) (e ∙ ap number_of (sym first)) refl
  same_at (row ∷ rows) (suc i) old new is e e' e'' = first_same (test row) row row (filter test (set rows i new)) (filter test rows) refl (same_at rows i old new is e e' e'')

  same_mapped : (f : TradeRow → TradeRow) (rows : List TradeRow) → ((row : TradeRow) → (f row).number ≡ row.number) → ((row : TradeRow) → key (f row) ≡ key row) → ((row : TradeRow) → (f row).state ≡ row.state) → numbers (map f rows) ≡ numbers rows
  same_mapped f [] e e' e'' = refl
  same_mapped f (row ∷ rows) e e' e'' =
      let tests : test (f row) ≡ test row = rw (e' row, e'' row) refl in
      ap (λ (b : Bool). map number_of (cond b (f row ∷ filter test (map f rows)) (filter test (map f rows)))) tests
      ∙ first_same (test row) (f row) row (filter test (map f rows)) (filter test rows) (e row) (same_mapped f rows e e' e'')

module _ (key : TradeRow → ℕ) (v : OpenView) (rows : List TradeRow) (all : AreListed key v rows) where
  pub listed_pushed : (w : OpenView) (row : TradeRow) → IsPushed v w (key row) → row.number ≡ length rows + 1 → counts row.state ≡ true → key row < length v.lists → AreListed key w (rows ++ row ∷ [])
  listed_pushed w row is own some low = record {
    count = is.count ∙ ap (λ (n : ℕ). n + 1) all.count ∙ sym (length_push rows row);
    listed = λ place small.
        let there : place < length v.lists = omega (arith, small, count_pushed v w (key row) is) in
        let number : v.count + 1 ≡ row.number = omega (arith, all.count, own) in
        ap (λ (ls : List (List ℕ)). get_or ls place []) is.numbers
        ∙ ⊎_elim (λ (e : key row ≡ place).
        ap (λ (k : ℕ). get_or (with_number (numbers_of v.lists) k (v.count + 1)) place []) e
        ∙ get_or-set_same (numbers_of v.lists) place (get_or (numbers_of v.lists) place [] ++ (v.count + 1) ∷ []) [] (omega (arith, there, count_of v.lists))
        ∙ ap (λ (ns : List ℕ). ns ++ (v.count + 1) ∷ []) (all.listed place there)
        ∙ ap (λ (n : ℕ). numbers_at key place rows ++ n ∷ []) number
        ∙ sym (more_here key place rows row e some))
        (λ (ne : key row ≢ place).
        get_or-set_other (numbers_of v.lists) (key row) place (get_or (numbers_of v.lists) (key row) [] ++ (v.count + 1) ∷ []) [] (λ e. ne (sym e))
        ∙ all.listed place there ∙ sym (more_other key place rows row ne))
        (cases_eq (key row) place);
  }

  pub listed_taken : (w : OpenView) (members products number : ℕ) (old new : TradeRow) → IsTakenOut v w number → AreTrades members products 1 rows → trade_numbered rows number ≡ Some old → counts new.state ≡ false → AreListed key w (with_row rows number (Some new))
  listed_taken w members products number old new is are found gone =
      let at = placed rows number old found in
      let same : 1 + (number - 1) ≡ number = omega (arith, at.0) in
      record {
        count = is.count ∙ all.count ∙ sym (length-set rows (number - 1) new);
        listed = λ place small.
            let there : place < length v.lists = omega (arith, small, count_taken v w number is) in
            ap (λ (ls : List (List ℕ)). get_or ls place []) is.numbers
            ∙ get_or-map (λ (ns : List ℕ). filter (λ n. not (n == number)) ns) (numbers_of v.lists) place [] [] (omega (arith, there, count_of v.lists))
            ∙ ap (λ (ns : List ℕ). filter (λ n. not (n == number)) ns) (all.listed place there)
            ∙ sym (subst (λ m. numbers_at key place (set rows (number - 1) new) ≡ filter (λ n. not (n == m)) (numbers_at key place rows)) same (ended_at key place members products 1 (number - 1) rows new are gone at.1));
      }

  -- the last one is forgotten
  pub listed_forgotten : (w : OpenView) (members products : ℕ) (old : TradeRow) (front : List TradeRow) → IsForgotten v w → AreTrades members products 1 rows → trade_numbered rows (length rows) ≡ Some old
      → with_row rows (length rows) (Some (ended_row old)) ≡ front ++ ended_row old ∷ [] → AreListed key w front
  listed_forgotten w members products old front is are found split =
      let out : IsTakenOut v (record w { count = v.count }) (length rows) = record { numbers = is.numbers ∙ ap (λ (k : ℕ). without_number (numbers_of v.lists) k) all.count; count = refl; spare = is.spare } in
      let taken = listed_taken (record w { count = v.count }) members products (length rows) old (ended_row old) out are found refl in
      record {
        count = omega (arith, is.count, all.count, ap (λ (rs : List TradeRow). length rs) split, length-set rows (length rows - 1) (ended_row old), length_push front (ended_row old));
        listed = λ place small. taken.listed place small ∙ ap (λ (rs : List TradeRow). numbers_at key place rs) split ∙ more_gone key place front (ended_row old) refl;
      }

  pub listed_same : (number : ℕ) (old new : TradeRow) → trade_numbered rows number ≡ Some old → new.number ≡ old.number → key new ≡ key old → counts new.state ≡ counts old.state → AreListed key v (with_row rows number (Some new))
  listed_same number old new found e e' e'' =
      let at = placed rows number old found in
      record {
        count = all.count ∙ sym (length-set rows (number - 1) new);
        listed = λ place small. all.listed place small ∙ sym (same_at key place rows (number - 1) old new at.2 e e' e'');
      }

  pub listed_mapped : (f : TradeRow → TradeRow) → ((row : TradeRow) → (f row).number ≡ row.number) → ((row : TradeRow) → key (f row) ≡ key row) → ((row : TradeRow) → (f row).state ≡ row.state) → AreListed key v (map f rows)
  listed_mapped f e e' e'' = record {
    count = all.count ∙ sym (length-map rows f);
    listed = λ place small. all.listed place small ∙ sym (same_mapped key place f rows e e' e'');
  }
