-- A posting that touches nobody has an empty plan.
use Rattle.std.proofs.Common.{◌≡◌, ◌∙◌, ⊎_elim, refl, sym, subst, ap, ℕ, zero, suc, ◌+◌, ◌-◌, ◌<◌, Bool, true, false, cond, not, ◌&&◌, ◌||◌, ◌==◌, nat_lt, nat_le, List, [], ◌∷◌, ◌++◌, length, filter, Option, Some, None, slice_get, append_assoc, arith}
use Rattle.std.proofs.lemmas.Bool.{and_parts, eq-eqb, lt-ltb, cases_lt}
use Rattle.std.specs.List.{list_any}
use Rattle.units_core.specs.Day.{DayParts}
use Rattle.network_laws.specs.Networks.{NetworkData, at}
use Rattle.network_laws.specs.Solutions.{SolutionData}
use Rattle.command_types.specs.declared.ask.What.TheVariants.{Post}
use Rattle.command_types.specs.declared.plan.PlanRow.{PlanRow}
use Rattle.command_types.specs.declared.plan.PlanRow.TheVariants.{End, Cut, New}
use Rattle.command_types.specs.declared.roster.ProductRow.{ProductRow}
use Rattle.command_types.specs.declared.trade.TradeRow.{TradeRow}
use Rattle.command_types.specs.Roster.{Rows}
use Rattle.command_types.specs.Trades.{trade_numbered}
use Rattle.command_types.specs.Books.{listed_below, is_between, is_held, frozen_network}
use Rattle.command_types.specs.Plans.{falling, free_rows, pair_plan, product_plan, plan_from, is_party_row, is_in_step, is_touched, only_if, touched_by}
use Rattle.command_types.specs.Cycles.{new_networks}
use Rattle.trade_history.specs.Book.{AreNumbered}
use Rattle.trade_history.specs.Executes.{Opening, takes, marked, networks_from, rows_at, plan_at, touched_at, is_complete, are_live, is_empty}
use Rattle.trade_history.specs.Moments.{Moment, drops, solutions_of}
use Rattle.trade_history.specs.Search.{Execution, is_executed, opening_of, later_by, cut_at_post, execution_in, execution_of_cut, execution_at}

-- ---- each step of a plan has a party

-- some member below n is a party of the step
abbrev HasParty : ℕ → List TradeRow → PlanRow → Type 0
HasParty n rows step = (member : ℕ) × (member < n) × (is_in_step rows member step ≡ true)

abbrev HaveParties : ℕ → List TradeRow → List PlanRow → Type 0
HaveParties n rows [] = Unit {0}
HaveParties n rows (step ∷ plan) = HasParty n rows step × HaveParties n rows plan

have-append : (n : ℕ) (rows : List TradeRow) (a b : List PlanRow) → HaveParties n rows a → HaveParties n rows b → HaveParties n rows (a ++ b)
have-append n rows [] b in_a in_b = in_b
have-append n rows (step ∷ a) b (here, rest) in_b = (here, have-append n rows a b rest in_b)

have-cond : (n : ℕ) (rows : List TradeRow) (t : Bool) (a b : List PlanRow) → HaveParties n rows a → HaveParties n rows b → HaveParties n rows (cond t a b)
have-cond n rows true a b in_a in_b = in_a
have-cond n rows false a b in_a in_b = in_b

have-below : (n : ℕ) (rows : List TradeRow) (m : ℕ) (f : ℕ → List PlanRow) → ((k : ℕ) → k < m → HaveParties n rows (f k)) → HaveParties n rows (listed_below m f)
have-below n rows zero f each = tt
have-below n rows (suc m) f each = have-append n rows (listed_below m f) (f m) (have-below n rows m f (λ k lt. each k (omega (arith, lt)))) (each m (omega arith))

-- the number of each of these trades finds a trade that this member sells
abbrev AreSold : ℕ → List TradeRow → List TradeRow → Type 0
AreSold seller rows [] = Unit {0}
AreSold seller rows (row ∷ some) = (is_party_row (trade_numbered rows row.number) seller ≡ true) × AreSold seller rows some

have-falling : (n : ℕ) (rows : List TradeRow) (seller : ℕ) → seller < n → (fall : ℕ) (some : List TradeRow) → AreSold seller rows some → HaveParties n rows (falling fall some)
have-falling n rows seller lt fall [] are = tt
have-falling n rows seller lt fall (row ∷ some) (here, rest) =
    have-cond n rows (fall == 0) [] (cond (nat_le row.amount fall) (End row.number ∷ falling (fall - row.amount) some) (Cut row.number row.amount (row.amount - fall) ∷ [])) tt
    (have-cond n rows (nat_le row.amount fall) (End row.number ∷ falling (fall - row.amount) some) (Cut row.number row.amount (row.amount - fall) ∷ [])
    ((seller, lt, here), have-falling n rows seller lt (fall - row.amount) some rest) ((seller, lt, here), tt))

or_first : (a b : Bool) → a ≡ true → (a || b) ≡ true
or_first true b e = refl
or_first false b e = cc

-- the row behind a front is there
get-behind : (front : List TradeRow) (row : TradeRow) (rest : List TradeRow) → slice_get (front ++ row ∷ rest) (length front) ≡ Some row
get-behind [] row rest = refl
get-behind (first ∷ front) row rest = get-behind front row rest

-- a trade is found by its number
found-behind : (front : List TradeRow) (row : TradeRow) (rest : List TradeRow) → row.number ≡ suc (length front) → trade_numbered (front ++ row ∷ rest) row.number ≡ Some row
found-behind front row rest e =
    let up : nat_lt 0 row.number ≡ true = lt-ltb 0 row.number (omega (arith, e)) in
    let at_end : row.number - 1 ≡ length front = omega (arith, e) in
    ap (λ t. cond t (slice_get (front ++ row ∷ rest) (row.number - 1)) None) up ∙ ap (slice_get (front ++ row ∷ rest)) at_end ∙ get-behind front row rest

length-front : (front : List TradeRow) (row : TradeRow) → length (front ++ row ∷ []) ≡ suc (length front)
length-front [] row = refl
length-front (first ∷ front) row = ap suc (length-front front row)

sold-cond : (seller : ℕ) (rows : List TradeRow) (t : Bool) (row : TradeRow) (some : List TradeRow) → (t ≡ true → is_party_row (trade_numbered rows row.number) seller ≡ true) → AreSold seller rows some → AreSold seller rows (cond t (row ∷ some) some)
sold-cond seller rows true row some here rest = (here refl, rest)
sold-cond seller rows false row some here rest = rest

module _ (product seller buyer : ℕ) where
  abbrev is_free : TradeRow → Bool
  is_free row = is_between product seller buyer row && row.frozen && not (is_held row)

  sells : (row : TradeRow) → is_free row ≡ true → (row.seller == seller) ≡ true
  sells row e =
      let unheld = (and_parts (is_between product seller buyer row && row.frozen) (not (is_held row)) e).0 in
      let between = (and_parts (is_between product seller buyer row) row.frozen unheld).0 in
      let parties = (and_parts ((row.product == product) && (row.seller == seller)) (row.buyer == buyer) between).0 in
      (and_parts (row.product == product) (row.seller == seller) parties).1

  sold-rows : (all front rest : List TradeRow) → all ≡ front ++ rest → AreNumbered (length front) rest → AreSold seller all (filter is_free rest)
  sold-rows all front [] split are = tt
  sold-rows all front (row ∷ rest) split (here, others) =
      let found : trade_numbered all row.number ≡ Some row = ap (λ rows. trade_numbered rows row.number) split ∙ found-behind front row rest here in
      sold-cond seller all (is_free row) row (filter is_free rest)
      (λ free. ap (λ o. is_party_row o seller) found ∙ or_first (row.seller == seller) (row.buyer == seller) (sells row free))
      (sold-rows all (front ++ row ∷ []) rest (split ∙ sym (append_assoc front (row ∷ []) rest)) (subst (λ k. AreNumbered k rest) (sym (length-front front row)) others))

module _ (rows : List TradeRow) (numbered : AreNumbered 0 rows) (n : ℕ) (day : DayParts) where
  have-pair : (product : ℕ) (old new : NetworkData) (seller buyer : ℕ) → seller < n → HaveParties n rows (pair_plan rows day product old new seller buyer)
  have-pair product old new seller buyer lt =
      let fall = at old seller buyer - at new seller buyer in
      let grown = New product seller buyer (at new seller buyer - at old seller buyer) day ∷ [] in
      have-cond n rows (nat_lt (at new seller buyer) (at old seller buyer)) (falling fall (free_rows rows product seller buyer)) (cond (nat_lt (at old seller buyer) (at new seller buyer)) grown [])
      (have-falling n rows seller lt fall (free_rows rows product seller buyer) (sold-rows product seller buyer rows [] rows refl numbered))
      (have-cond n rows (nat_lt (at old seller buyer) (at new seller buyer)) grown [] ((seller, lt, or_first (seller == seller) (buyer == seller) (eq-eqb seller seller refl)), tt) tt)

  have-product : (product : ℕ) (old new : NetworkData) → old.members ≡ n → HaveParties n rows (product_plan rows day product old new)
  have-product product old new e =
      have-below n rows old.members (λ i. listed_below old.members (pair_plan rows day product old new i))
      (λ i lt. have-below n rows old.members (pair_plan rows day product old new i) (λ j _. have-pair product old new i j (subst (λ k. i < k) e lt)))

  have-products : (trades : List TradeRow) (product : ℕ) (products : List ProductRow) (news : List NetworkData) → HaveParties n rows (plan_from rows day product (networks_from n trades product products) news)
  have-products trades product [] news = tt
  have-products trades product (first ∷ products) [] = tt
  have-products trades product (first ∷ products) (new ∷ news) =
      have-append n rows (product_plan rows day product (frozen_network n product trades) new) (plan_from rows day (1 + product) (networks_from n trades (1 + product) products) news)
      (have-product product (frozen_network n product trades) new refl) (have-products trades (1 + product) products news)

-- ---- a plan that touches nobody

append-none : {T : Type 0} (a b : List T) → a ++ b ≡ [] → (a ≡ []) × (b ≡ [])
append-none [] b e = (refl, e)
append-none (x ∷ a) b e = absurd cc

none_below : (n : ℕ) (f : ℕ → List ℕ) (k : ℕ) → k < n → listed_below n f ≡ [] → f k ≡ []
none_below zero f k lt e = absurd (omega (arith, lt))
none_below (suc n) f k lt e =
    let parts = append-none (listed_below n f) (f n) e in
    ⊎_elim (λ less. none_below n f k less parts.0) (λ past. (let same : k ≡ n = omega (arith, lt, past) in ap f same ∙ parts.1)) (cases_lt k n)

untouched : (member : ℕ) (t : Bool) → t ≡ true → only_if t member ≡ [] → ⊥
untouched member true is e = cc
untouched member false is e = cc

empty_plan : (n : ℕ) (rows : List TradeRow) (plan : List PlanRow) → HaveParties n rows plan → touched_by n rows plan ≡ [] → plan ≡ []
empty_plan n rows [] have e = refl
empty_plan n rows (step ∷ plan) ((member, lt, is), rest) e =
    absurd (untouched member (is_touched rows (step ∷ plan) member) (or_first (is_in_step rows member step) (is_touched rows plan member) is)
    (none_below n (λ m. only_if (is_touched rows (step ∷ plan) m) m) member lt e))

numbered-marked : (taken : ℕ → Bool) (k : ℕ) (rows : List TradeRow) → AreNumbered k rows → AreNumbered k (marked taken rows)
numbered-marked taken k [] are = tt
numbered-marked taken k (row ∷ rows) (here, rest) = (here, numbered-marked taken (suc k) rows rest)

-- ---- a posting that executes at once

none_of : (xs : List ℕ) → is_empty xs ≡ true → xs ≡ []
none_of [] e = refl
none_of (x ∷ xs) e = cc

-- an execution is complete
complete-part : (stood complete live : Bool) → (not stood && complete && live) ≡ true → complete ≡ true
complete-part true complete live e = cc
complete-part false true live e = refl
complete-part false false live e = cc

some_execution : (a b : Execution) → Some a ≡ Some b → a ≡ b
some_execution a b e = cc

module _ (roster : Rows) (number cycle version : ℕ) (posted : Moment) (before : List Moment) (x : Execution) (numbered : AreNumbered 0 posted.rows) where
  plan_here : (opening : Opening) (t : Bool) → is_executed roster cycle version opening posted [] posted.rows ≡ t
      → cond t (Some (record { cycle = cycle; version = version; plan = plan_at roster opening posted })) None ≡ Some x → x.plan ≡ []
  plan_here opening false is e = cc
  plan_here opening true is e =
      let n = length roster.members in
      let rows = rows_at roster opening posted in
      let touched = none_of (touched_at roster opening posted)
      (complete-part (list_any (drops cycle) []) (is_complete roster cycle version (touched_at roster opening posted) []) (are_live (takes roster.products opening) posted.rows) is) in
      let are = numbered-marked (takes roster.products opening) 0 posted.rows numbered in
      let have = have-products rows are n opening.day rows 0 roster.products (new_networks (solutions_of posted.ask.what)) in
      let same = some_execution (record { cycle = cycle; version = version; plan = plan_at roster opening posted }) x e in
      sym (ap (λ (y : Execution). y.plan) same) ∙ empty_plan n rows (plan_at roster opening posted) have touched

  plan_in_opening : (o : Option Opening) → execution_in roster cycle version posted.rows (record { later = []; posted = posted; before = before }) o ≡ Some x → x.plan ≡ []
  plan_in_opening None e = cc
  plan_in_opening (Some opening) e = plan_here opening (is_executed roster cycle version opening posted [] posted.rows) refl e

  plan_of_cut : (t : Bool) → t ≡ true
      → execution_of_cut roster number cycle version posted.rows (cond t (Some (record { later = []; posted = posted; before = before })) (later_by posted (cut_at_post cycle version before))) ≡ Some x → x.plan ≡ []
  plan_of_cut false is e = cc
  plan_of_cut true is e = plan_in_opening (opening_of number cycle before) e

both : (a b : Bool) → a ≡ true → b ≡ true → (a && b) ≡ true
both true b first second = second
both false b first second = cc

-- what a posting executes by itself, in a book whose trades are numbered, is an empty plan
pub posted_empty : (roster : Rows) (number : ℕ) (by : Option (List ℕ)) (time : ℕ) (cycle version : ℕ) (solutions : List SolutionData) (rows : List TradeRow) (before : List Moment) (x : Execution) → AreNumbered 0 rows
    → execution_at roster number (record { ask = record { by = by; what = Post cycle version solutions; moment = time }; rows = rows } ∷ before) ≡ Some x → x.plan ≡ []
posted_empty roster number by time cycle version solutions rows before x numbered e =
    plan_of_cut roster number cycle version (record { ask = record { by = by; what = Post cycle version solutions; moment = time }; rows = rows }) before x numbered
    ((cycle == cycle) && (version == version)) (both (cycle == cycle) (version == version) (eq-eqb cycle cycle refl) (eq-eqb version version refl)) e
