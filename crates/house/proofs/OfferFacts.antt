-- Where a history's places leave an answer open.
use Rattle.std.proofs.Common.{◌≡◌, ℕ, ◌+◌, ◌-◌, ◌≤◌, ◌<◌, Bool, true, false, cond, nat_lt, List, length, drop, Option, Some, None, arith, refl, ap, sym, ◌∙◌}
use Rattle.std.proofs.lemmas.Bool.{le-ltb}
use Rattle.std.proofs.lemmas.Bool.Decides.{nat_tests}
use Rattle.command_types.specs.declared.answer.Answer.{Answer}
use Rattle.command_types.specs.declared.answer.Answer.TheVariants.{NoNext, ProofRows, No}
use Rattle.command_types.specs.declared.ask.Entry.{Entry}
use Rattle.command_types.specs.declared.ask.What.{What}
use Rattle.command_types.specs.declared.ask.What.TheVariants.{Next}
use Rattle.command_types.specs.declared.figures.Start.{Start}
use Rattle.command_types.specs.declared.refusal.Refusal.TheVariants.{Gone, Ahead}
use Rattle.command_types.specs.Offers.{first_behind, offered, with_entries}
use Rattle.cycle_states.specs.declared.offers.OpenAsk.{OpenAsk}
use Rattle.cycle_states.specs.declared.offers.OpenAsk.TheVariants as asks
use Rattle.cycle_states.specs.declared.offers.Places.{Places}
use Rattle.cycle_states.specs.Offers.{open_ask, offered_at, filled_at}

-- of three tests the first fails and the last holds
two_tests : (gone ahead before : Bool) (x y z : Answer) →
    cond {A = Option Answer} gone (Some x) (cond {A = Option Answer} ahead (Some y) (cond {A = Option Answer} before None (Some z))) ≡ None → (gone ≡ false) × (before ≡ true)
two_tests true ahead before x y z is = absurd cc
two_tests false true before x y z is = absurd cc
two_tests false false true x y z is = (refl, refl)
two_tests false false false x y z is = absurd cc

not_below : (n m : ℕ) → nat_lt n m ≡ false → m ≤ n
not_below n m off = grind (arith, nat_tests)

below : (n m : ℕ) → nat_lt n m ≡ true → n < m
below n m on = grind (arith, nat_tests)

-- the position is one behind which there is an entry
pub record IsOpenAt (places : Places) (asked : OpenAsk) (machine : Answer) : Type 0 where
  pub position : ℕ
  pub asks : asked ≡ asks.Next position
  pub none : machine ≡ NoNext
  pub from : places.base ≤ position
  pub within : position < places.end

open_at : (places : Places) (position : ℕ) → offered_at position places ≡ None → IsOpenAt places (asks.Next position) NoNext
open_at places position is =
    let tests = two_tests (nat_lt position places.base) (nat_lt places.end position) (nat_lt position places.end) (No (Gone places.base)) (No (Ahead places.end)) NoNext is in
    record { position = position; asks = refl; none = refl; from = not_below position places.base tests.0; within = below position places.end tests.1 }

pub left_open : (places : Places) (asked : OpenAsk) (machine : Answer) → filled_at places asked machine ≡ None → IsOpenAt places asked machine
left_open places (asks.Next position) NoNext is = open_at places position is
left_open places asks.Proof (ProofRows head rows) is = absurd cc
left_open places asked machine is = absurd cc

-- a NEXT of it is told the entry
offered_entry : (base : Start) (entries : List Entry) (position : ℕ) → base.position ≤ position → position < base.position + length entries → first_behind position (drop (position - base.position) entries) ≡ offered base entries position
offered_entry base entries position from within =
    let end = base.position + length entries in
    let rest = first_behind position (drop (position - base.position) entries) in
    sym (ap (λ (t : Bool). cond {A = Answer} t (No (Gone base.position)) (cond {A = Answer} (nat_lt end position) (No (Ahead end)) rest)) (le-ltb position base.position from)
    ∙ ap (λ (t : Bool). cond {A = Answer} t (No (Ahead end)) rest) (le-ltb end position (omega (arith, within))))

pub next_told : (base : Start) (entries : List Entry) (position : ℕ) (what : What) (machine : Answer) → machine ≡ NoNext → open_ask what ≡ asks.Next position → base.position ≤ position
    → position < base.position + length entries → first_behind position (drop (position - base.position) entries) ≡ with_entries base entries what machine
next_told base entries position (Next other) NoNext none is from within =
    let same : other ≡ position = cc in
    offered_entry base entries position from within ∙ ap (offered base entries) (sym same)
next_told base entries position what machine none is from within = absurd cc
