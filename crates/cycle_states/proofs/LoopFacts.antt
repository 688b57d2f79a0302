-- The walks over trades, products and pairs.
use Rattle.std.proofs.Common.{◌≡◌, ◌≢◌, ℕ, zero, suc, ◌+◌, ◌≤◌, ◌<◌, Bool, true, false, cond, List, [], ◌∷◌, ◌++◌, length, get_or, set, take, drop, Option, Some, None, if◌then◌else◌, arith, refl, ap, sym, ◌∙◌, append_assoc, get_or-set_other, get_or-set_same, below_more}
use Rattle.std.specs.Prelude.{filter}
use Rattle.std.specs.Option.{option_to_list}
use Rattle.std.proofs.lemmas.List.{append-nil, drop_all, get_or-map}
use Rattle.std.proofs.Math.Seq.{drop-cons}
use Rattle.network_laws.specs.Solutions.{ProblemData}
use Rattle.units_core.specs.Day.{DayParts, is_before}
use Rattle.product_book.specs.Freezes.{chosen_by}
use Rattle.command_types.specs.declared.cycle.Mode.{Mode}
use Rattle.command_types.specs.declared.roster.ProductRow.{ProductRow}
use Rattle.command_types.specs.declared.tolerance.ToleranceRow.{ToleranceRow}
use Rattle.command_types.specs.declared.trade.TradeRow.{TradeRow}
use Rattle.command_types.specs.Roster.{Rows}
use Rattle.command_types.specs.Books.{listed_below}
use Rattle.command_types.specs.Cycles.{is_taken, frozen_rows, problem_of, problems_from}
use Rattle.tolerance_sets.proofs.Passed.{none_listed}
use Rattle.tolerance_sets.proofs.Walk.{listed_below-next}

-- a front that is as long as the list is the list
pub whole_front : {T : Type 0} (xs : List T) (n : ℕ) → length xs ≤ n → take n xs ≡ xs
whole_front [] zero l = refl
whole_front [] (suc n) l = refl
whole_front (x ∷ xs) zero l = absurd (omega arith)
whole_front (x ∷ xs) (suc n) l = ap (λ ys. x ∷ ys) (whole_front xs n (omega arith))

-- how many of the trades a freeze of the day takes
abbrev pub taken : List ProductRow → DayParts → List TradeRow → ℕ
taken products day rows = length (filter (λ row. row.frozen) (frozen_rows products day rows))

front : {T : Type 0} (xs : List T) (i : ℕ) (d : T) → i < length xs → drop i xs ≡ get_or xs i d ∷ drop (i + 1) xs
front xs i d l = let one : suc i ≡ i + 1 = omega arith in drop-cons xs i d l ∙ ap (λ n. get_or xs i d ∷ drop n xs) one

kept_length : (t : Bool) (row : TradeRow) (rows : List TradeRow) → length (if t then row ∷ rows else rows) ≡ cond t 1 0 + length rows
kept_length true row rows = omega arith
kept_length false row rows = omega arith

-- the count of what is left falls by each trade that is taken
pub taken_step : (products : List ProductRow) (day : DayParts) (rows : List TradeRow) (i : ℕ) (row : TradeRow) (takes : Bool) → i < length rows → row ≡ get_or rows i row → takes ≡ is_taken products day row →
    taken products day (drop i rows) ≡ cond takes 1 0 + taken products day (drop (i + 1) rows)
taken_step products day rows i row takes l is by =
    ap (taken products day) (front rows i row l)
    ∙ ap (λ r. taken products day (r ∷ drop (i + 1) rows)) (sym is)
    ∙ kept_length (is_taken products day row) (record row { frozen = is_taken products day row }) (filter (λ r. r.frozen) (frozen_rows products day (drop (i + 1) rows)))
    ∙ ap (λ b. cond b 1 0 + taken products day (drop (i + 1) rows)) (sym by)

-- and at the end nothing is left
pub taken_end : (products : List ProductRow) (day : DayParts) (rows : List TradeRow) (n : ℕ) → length rows ≤ n → taken products day (drop n rows) ≡ 0
taken_end products day rows n l = ap (taken products day) (drop_all n rows l)

some_product : ProductRow
some_product = record { name = []; maturity = record { year = 0; month = 0; day = 0 } }

-- one more product has its problem
pub problems_step : (roster : Rows) (rows : List TradeRow) (settings : List ToleranceRow) (mode : Mode) (i : ℕ) (before after total : List ProblemData) (problem : ProblemData) → i < length roster.products →
    before ++ problems_from roster rows settings mode i (drop i roster.products) ≡ total → problem ≡ problem_of roster rows settings mode i → after ≡ before ++ problem ∷ [] →
    after ++ problems_from roster rows settings mode (i + 1) (drop (i + 1) roster.products) ≡ total
problems_step roster rows settings mode i before after total problem l is here made =
    let rest = problems_from roster rows settings mode (i + 1) (drop (i + 1) roster.products) in
    let one : 1 + i ≡ i + 1 = omega arith in
    ap (λ ps. ps ++ rest) made ∙ append_assoc before (problem ∷ []) rest ∙ ap (λ p. before ++ p ∷ rest) here
    ∙ ap (λ n. before ++ problem_of roster rows settings mode i ∷ problems_from roster rows settings mode n (drop (i + 1) roster.products)) (sym one)
    ∙ ap (λ ps. before ++ problems_from roster rows settings mode i ps) (sym (front roster.products i some_product l))
    ∙ is

-- and at the end all have
pub problems_end : (roster : Rows) (rows : List TradeRow) (settings : List ToleranceRow) (mode : Mode) (n : ℕ) (made total : List ProblemData) → length roster.products ≤ n →
    made ++ problems_from roster rows settings mode n (drop n roster.products) ≡ total → made ++ [] ≡ total
problems_end roster rows settings mode n made total l is =
    ap (λ ps. made ++ problems_from roster rows settings mode n ps) (sym (drop_all n roster.products l)) ∙ is

-- a list with what may be one more
pub added_some : {T : Type 0} (before after : List T) (o : Option T) (row : T) → o ≡ Some row → after ≡ before ++ row ∷ [] → after ≡ before ++ option_to_list o
added_some before after o row e e' = e' ∙ ap (λ p. before ++ option_to_list p) (sym e)

pub added_none : {T : Type 0} (before after : List T) (o : Option T) → o ≡ None → after ≡ before → after ≡ before ++ option_to_list o
added_none before after o e e' = e' ∙ sym (append-nil before) ∙ ap (λ p. before ++ option_to_list p) (sym e)

-- the flag of a product
pub flag_at : (products : List ProductRow) (day : DayParts) (i : ℕ) (row : ProductRow) → i < length products → row ≡ get_or products i row → get_or (chosen_by products day) i false ≡ is_before day row.maturity
flag_at products day i row l is = get_or-map (λ (r : ProductRow). is_before day r.maturity) products i row false l ∙ ap (λ (r : ProductRow). is_before day r.maturity) (sym is)

-- one more flag is set
pub flag_step : (products : List ProductRow) (day : DayParts) (flags : List Bool) (i : ℕ) (row : ProductRow) (flag : Bool) → i < length flags → i < length products → row ≡ get_or products i row → flag ≡ is_before day row.maturity →
    ((k : ℕ) → k < i → get_or flags k false ≡ get_or (chosen_by products day) k false) → (k : ℕ) → k < i + 1 → get_or (set flags i flag) k false ≡ get_or (chosen_by products day) k false
flag_step products day flags i row flag lf lp is by before =
    below_more (λ k. get_or (set flags i flag) k false ≡ get_or (chosen_by products day) k false) i
    (λ k l. let ne : k ≢ i = omega arith in rw get_or-set_other (before k l))
    (rw get_or-set_same (by ∙ sym (flag_at products day i row lp is)))

-- of numbers of which one alone gives something, all together give that
pub only_one : {T : Type 0} (f : ℕ → List T) (k n : ℕ) → ((j : ℕ) → j ≢ k → f j ≡ []) → k < n → listed_below n f ≡ f k
only_one f k n none lt =
    none_listed f (k + 1) n (omega (arith, lt)) (λ j le l. none j (λ e. omega (arith, e, le)))
    ∙ listed_below-next k f
    ∙ ap (λ xs. xs ++ f k) (none_listed f 0 k (omega arith) (λ j le l. none j (λ e. omega (arith, e, l))))

-- and nothing where it is not among them
pub none_there : {T : Type 0} (f : ℕ → List T) (k n : ℕ) → ((j : ℕ) → j ≢ k → f j ≡ []) → n ≤ k → listed_below n f ≡ []
none_there f k n none out = none_listed f 0 n (omega arith) (λ j le l. none j (λ e. omega (arith, e, l, out)))
