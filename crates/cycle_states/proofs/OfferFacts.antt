-- What the places of a history tell is what its changes tell.
use Rattle.std.proofs.Common.{◌≡◌, ℕ, ◌+◌, ◌-◌, ◌≤◌, Bool, true, false, cond, List, [], ◌∷◌, ◌++◌, length, drop, Option, Some, None, if◌then◌else◌, arith, refl, ap, sym, ◌∙◌}
use Rattle.std.specs.Prelude.{nat_lt}
use Rattle.std.proofs.lemmas.Bool.Decides.{nat_tests}
use Rattle.std.proofs.lemmas.List.{drop_all}
use Rattle.command_types.specs.declared.answer.Answer.{Answer}
use Rattle.command_types.specs.declared.answer.Answer.TheVariants.{NoNext, ProofRows, No}
use Rattle.command_types.specs.declared.ask.Entry.{Entry}
use Rattle.command_types.specs.declared.ask.What.{What}
use Rattle.command_types.specs.declared.ask.What.TheVariants.{Next, Proof}
use Rattle.command_types.specs.declared.figures.Start.{Start}
use Rattle.command_types.specs.declared.refusal.Refusal.TheVariants.{Gone, Ahead}
use Rattle.command_types.specs.History.{is_recorded}
use Rattle.command_types.specs.Offers.{first_behind, is_begin, last_begin, offered, with_entries}
use Rattle.command_types.proofs.OfferFacts.{last_begin_on}
use Rattle.cycle_states.specs.declared.offers.Places.{Places}
use Rattle.cycle_states.specs.Offers.{open_ask, offered_at, filled_at, ArePlaces}

past : (n m : ℕ) → nat_lt n m ≡ false → m ≤ n
past n m off = grind (arith, nat_tests)

-- three tests by the places, and by the changes
three_tests : (gone ahead before : Bool) (from end : ℕ) (rest answer : Answer) → (before ≡ false → rest ≡ NoNext) →
    cond {A = Option Answer} gone (Some (No (Gone from))) (cond {A = Option Answer} ahead (Some (No (Ahead end))) (cond {A = Option Answer} before None (Some NoNext))) ≡ Some answer →
    answer ≡ cond {A = Answer} gone (No (Gone from)) (cond {A = Answer} ahead (No (Ahead end)) rest)
three_tests true ahead before from end rest answer none is = cc
three_tests false true before from end rest answer none is = cc
three_tests false false true from end rest answer none is = absurd cc
three_tests false false false from end rest answer none is = let here : answer ≡ NoNext = cc in here ∙ sym (none refl)

offered_is : (base : Start) (entries : List Entry) (places : Places) (position : ℕ) (answer : Answer) → ArePlaces base entries places → offered_at position places ≡ Some answer → answer ≡ offered base entries position
offered_is base entries places position answer are is =
    let end = base.position + length entries in
    let same : places ≡ record { base = base.position; end = end; begun = base.position + last_begin entries } = λ i. record { base = are.base_at i; end = are.end_at i; begun = are.begun_at i } in
    three_tests (nat_lt position base.position) (nat_lt end position) (nat_lt position end) base.position end (first_behind position (drop (position - base.position) entries)) answer
    (λ off. ap (first_behind position) (drop_all (position - base.position) entries (let behind = past position end off in omega (arith, behind))))
    (sym (ap (offered_at position) same) ∙ is)

-- what is told by the places is told by the changes
pub filled_is : (base : Start) (entries : List Entry) (places : Places) (what : What) (machine answer : Answer) → ArePlaces base entries places → filled_at places (open_ask what) machine ≡ Some answer → answer ≡ with_entries base entries what machine
filled_is base entries places (Next position) NoNext answer are is = offered_is base entries places position answer are is
filled_is base entries places (Proof cycle) (ProofRows head rows) answer are is =
    let here : answer ≡ ProofRows (record head { begun = places.begun }) rows = cc in
    here ∙ ap (λ (n : ℕ). ProofRows (record head { begun = n }) rows) are.begun_at
filled_is base entries places what machine answer are is = cc

-- and is recorded no more than the machine's answer
pub filled_unkept : (base : Start) (entries : List Entry) (what : What) (machine : Answer) → is_recorded what machine ≡ false → is_recorded what (with_entries base entries what machine) ≡ false
filled_unkept base entries (Next position) machine off = refl
filled_unkept base entries (Proof cycle) machine off = refl
filled_unkept base entries what machine off = off

-- the place of the last change that begins a version, once one more is made
pub begun_next : (begins : Bool) (begun at : ℕ) (entries more : List Entry) (entry : Entry) → more ≡ entries ++ entry ∷ [] → begins ≡ is_begin entry.ask.what → at ≡ length entries → begun ≡ last_begin entries →
    (if begins then at + 1 else begun) ≡ last_begin more
begun_next begins begun at entries more entry is by place before =
    (λ i. if by i then place i + 1 else before i) ∙ sym (last_begin_on entries entry) ∙ ap last_begin (sym is)
