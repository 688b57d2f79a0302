-- What is known of a command by its kind, and of one of which no refusal's condition holds.
use Rattle.std.proofs.Common.{◌≡◌, ◌≢◌, ℕ, ◌+◌, ◌≤◌, ◌<◌, ◌&&◌, ◌||◌, not, nat_lt, Bool, true, false, List, [], ◌∷◌, length, get_or, position, Option, Some, None, is_none, IsTrue, unwrap_or, if◌then◌else◌, arith, refl, ap, sym, subst, ◌∙◌}
use Rattle.std.proofs.lemmas.Bool.{false≢true}
use Rattle.std.proofs.lemmas.Bool.Decides.{nat_tests}
use Rattle.std.proofs.lemmas.List.Quantifiers.{position-Some}
use Rattle.std.proofs.lemmas.Slice.Eq.{bytes_eq-Decides}
use Rattle.std.specs.Str.{bytes_eq}
use Rattle.units_core.specs.Day.{DayParts}
use Rattle.command_types.specs.declared.ask.Ask.{Ask}
use Rattle.command_types.specs.declared.ask.What.{What}
use Rattle.command_types.specs.declared.ask.What.TheVariants.{Trade, Nets}
use Rattle.command_types.specs.declared.answer.Answer.{Answer}
use Rattle.command_types.specs.declared.refusal.Refusal.{Refusal}
use Rattle.command_types.specs.declared.refusal.Refusal.TheVariants.{NotGreeted}
use Rattle.command_types.specs.declared.figures.State.{State}
use Rattle.command_types.specs.declared.roster.Role.TheVariants.{Dealer}
use Rattle.command_types.specs.declared.roster.MemberRow.{MemberRow}
use Rattle.command_types.specs.Roster.{Rows, member_place, is_operator}
use Rattle.command_types.specs.Trades.{gross_of}
use Rattle.command_types.specs.Machine.{first_of, refusals, command_refusals, trade_refusals, product_of, member_of, position_of, changes, is_refusal, refused_or, accepted, answer_to}
use Rattle.command_types.specs.Books.{live_network}
use Rattle.command_types.specs.CycleSteps.{market_of, market_in}
use Rattle.command_types.specs.History.{is_recorded}
use Rattle.product_book.specs.Book.{gross_limit}

-- where no condition holds, the first doesn't, nor one of the others
pub none_of : (test : Bool) (refusal : Refusal) (rows : List (Bool × Refusal)) → first_of ((test, refusal) ∷ rows) ≡ None → (test ≡ false) × (first_of rows ≡ None)
none_of true refusal rows none = cc
none_of false refusal rows none = (refl, none)

abbrev pub NoneHolds : List (Bool × Refusal) → Type 0
NoneHolds [] = Unit {0}
NoneHolds (row ∷ rows) = (row.0 ≡ false) × NoneHolds rows

pub none_holds : (rows : List (Bool × Refusal)) → first_of rows ≡ None → NoneHolds rows
none_holds [] none = tt
none_holds (row ∷ rows) none = let parts = none_of row.0 row.1 rows none in (parts.0, none_holds rows parts.1)

pub not_false : (b : Bool) → not b ≡ false → b ≡ true
not_false true h = refl
not_false false h = cc

within : (n m : ℕ) → nat_lt n m ≡ false → m ≤ n
within n m h = grind (arith, nat_tests)

-- the terms of an accepted TRADE are not refused
pub terms_stand : (s : State) (by : Option (List ℕ)) (name seller buyer product : List ℕ) (amount : ℕ) (day : DayParts) → by ≡ Some name → first_of (refusals s by (Trade seller buyer product amount day)) ≡ None →
    NoneHolds (trade_refusals s name seller buyer product amount day)
terms_stand s by name seller buyer product amount day greeted none =
    let P : Option (List ℕ) → Type 0 = λ b. first_of (refusals s b (Trade seller buyer product amount day)) ≡ None in
    none_holds (trade_refusals s name seller buyer product amount day) (none_of _ NotGreeted (command_refusals s name (Trade seller buyer product amount day)) (subst P greeted none)).1

-- an accepted TRADE fits its product's gross
pub trade_fits : (s : State) (by : Option (List ℕ)) (name seller buyer product : List ℕ) (amount : ℕ) (day : DayParts) → by ≡ Some name → first_of (refusals s by (Trade seller buyer product amount day)) ≡ None →
    gross_of (product_of s product) s.trades + amount ≤ gross_limit
trade_fits s by name seller buyer product amount day greeted none =
    within gross_limit (gross_of (product_of s product) s.trades + amount) (terms_stand s by name seller buyer product amount day greeted none).1.1.1.1.1.1.0

pub some_member : MemberRow
some_member = record { name = []; role = Dealer; key = [] }

pub found_by : {X : Type 0} (p : X → Bool) (xs : List X) (d : X) (o : Option ℕ) → position p xs ≡ o → is_none o ≡ false → (unwrap_or o 0 < length xs) × (p (get_or xs (unwrap_or o 0) d) ≡ true)
found_by p xs d None is there = absurd (false≢true (sym there))
found_by p xs d (Some i) is there = let at_place = position-Some p xs i d is in (at_place.0, at_place.1)

-- a member's place is below their number
pub place_within : (roster : Rows) (name : List ℕ) (member : ℕ) → member_place roster name ≡ Some member → member < length roster.members
place_within roster name member is = (position-Some (λ row. bytes_eq row.name name) roster.members member some_member is).0

pub neither : (a b : Bool) → (a || b) ≡ false → (a ≡ false) × (b ≡ false)
neither true b h = cc
neither false b h = (refl, h)

one_name : (row : MemberRow) (seller buyer : List ℕ) → bytes_eq row.name seller ≡ true → bytes_eq row.name buyer ≡ true → bytes_eq seller buyer ≡ true
one_name row seller buyer first second =
    let same : seller ≡ buyer = sym ((bytes_eq-Decides row.name seller).0 first) ∙ (bytes_eq-Decides row.name buyer).0 second in
    (bytes_eq-Decides seller buyer).1 same

-- its members differ
pub parties_differ : (s : State) (by : Option (List ℕ)) (name seller buyer product : List ℕ) (amount : ℕ) (day : DayParts) → by ≡ Some name → first_of (refusals s by (Trade seller buyer product amount day)) ≡ None →
    member_of s seller ≢ member_of s buyer
parties_differ s by name seller buyer product amount day greeted none same =
    let stand = terms_stand s by name seller buyer product amount day greeted none in
    let there = neither (is_none (member_place s.roster seller)) (is_none (member_place s.roster buyer)) stand.0 in
    let first = (found_by (λ row. bytes_eq row.name seller) s.roster.members some_member (member_place s.roster seller) refl there.0).1 in
    let second = (found_by (λ row. bytes_eq row.name buyer) s.roster.members some_member (member_place s.roster buyer) refl there.1).1 in
    let P : ℕ → Type 0 = λ i. bytes_eq (get_or s.roster.members i some_member).name seller ≡ true in
    false≢true (sym stand.1.1.0 ∙ one_name (get_or s.roster.members (member_of s buyer) some_member) seller buyer (subst P same first) second)

change_by : (change : Bool) (answer : Answer) (refusal : Option Refusal) → IsTrue (change && not (is_refusal (refused_or answer refusal))) → refusal ≡ None
change_by change answer None h = refl
change_by true answer (Some refusal) h = cc
change_by false answer (Some refusal) h = cc

-- what is recorded is not refused
pub not_refused : (s : State) (ask : Ask) → IsTrue (is_recorded ask.what (answer_to s ask)) → first_of (refusals s ask.by ask.what) ≡ None
not_refused s ask change = change_by (changes ask.what) (accepted s ask.by ask.what) (first_of (refusals s ask.by ask.what)) change

-- what is not refused is answered as accepted
pub accepted_answer : (s : State) (ask : Ask) → first_of (refusals s ask.by ask.what) ≡ None → answer_to s ask ≡ accepted s ask.by ask.what
accepted_answer s ask none = ap (λ r. refused_or (accepted s ask.by ask.what) r) none

-- a NETS shows a member its own position
pub own_answer : (s : State) (by : Option (List ℕ)) (name product : List ℕ) (p m : ℕ) → by ≡ Some name → p ≡ product_of s product → m ≡ member_of s name → is_operator s.roster name ≡ false →
    position_of p m s.trades ≡ accepted s by (Nets product)
own_answer s by name product p m greeted at_place place member =
    ap (λ n. position_of n m s.trades) at_place ∙ ap (λ n. position_of (product_of s product) n s.trades) place
    ∙ ap (λ (t : Bool). if t then market_in s (product_of s product) else position_of (product_of s product) (member_of s name) s.trades) (sym member)
    ∙ ap (λ b. accepted s b (Nets product)) (sym greeted)

-- and the operator the product's figures
pub market_answer : (s : State) (by : Option (List ℕ)) (name product : List ℕ) (members p : ℕ) → by ≡ Some name → members ≡ length s.roster.members → p ≡ product_of s product → is_operator s.roster name ≡ true →
    market_of (live_network members p s.trades) ≡ accepted s by (Nets product)
market_answer s by name product members p greeted all at_place operator =
    ap (λ n. market_of (live_network n p s.trades)) all ∙ ap (λ n. market_in s n) at_place
    ∙ ap (λ (t : Bool). if t then market_in s (product_of s product) else position_of (product_of s product) (member_of s name) s.trades) (sym operator)
    ∙ ap (λ b. accepted s b (Nets product)) (sym greeted)

both_hold : (a b : Bool) → IsTrue (a && b) → a ≡ true
both_hold true b h = refl
both_hold false b h = cc

-- what is recorded is of a kind that changes the machine
pub recorded_changes : (what : What) (answer : Answer) → IsTrue (is_recorded what answer) → changes what ≡ true
recorded_changes what answer h = both_hold (changes what) (not (is_refusal answer)) h
