-- Lines that refuse: a number, the name that belongs to it, and its value.
use Rattle.std.specs.Prelude.{ℕ, ◌==◌, nat_lt, List, Ok, Err, codes, if◌then◌else◌}
use Rattle.units_core.specs.declared.limits.TheConstants.{MOST_NUMBER}
use Rattle.standby_wire.specs.Seen.{Seen, ◌>>=◌}
use Rattle.standby_wire.specs.declared.stop.Stop.TheVariants.{Bad}
use Rattle.standby_wire.specs.Words.{word, nothing, if_word, number, name, day}
use Rattle.standby_wire.specs.declared.values.Value.{Value}
use Rattle.standby_wire.specs.declared.values.Value.TheVariants.{Nothing, Number, Day, State, Phase, Clash}

-- ---- values, each with a space in front

-- a trade's state
unfoldable pub state_word : List ℕ → Seen (Unit {0})
state_word input = if_word (codes " alleged") nothing (if_word (codes " live") nothing (word (codes " ended"))) input

-- a cycle's phase
unfoldable pub phase_word : List ℕ → Seen (Unit {0})
phase_word input =
    if_word (codes " none") nothing (if_word (codes " frozen") nothing (if_word (codes " solving") nothing
    (if_word (codes " proposed") nothing (word (codes " broken"))))) input

unfoldable pub spaced_number : List ℕ → Seen (Unit {0})
spaced_number input = do
  gap ← word (codes " ") input
  read ← number MOST_NUMBER gap.1
  Ok (tt, read.1)

unfoldable pub spaced_day : List ℕ → Seen (Unit {0})
spaced_day input = do
  gap ← word (codes " ") input
  day gap.1

unfoldable pub spaced_name : List ℕ → Seen (Unit {0})
spaced_name input = do
  gap ← word (codes " ") input
  name gap.1

unfoldable pub spaced_pair : List ℕ → Seen (Unit {0})
spaced_pair input = do
  seller ← spaced_name input
  spaced_name seller.1

-- what is wrong with a solution, and the pair or the member where it is
unfoldable pub clash_word : List ℕ → Seen (Unit {0})
clash_word input =
    if_word (codes " below") spaced_pair (if_word (codes " above") spaced_pair (if_word (codes " net") spaced_name
    (if_word (codes " open") spaced_pair (if_word (codes " slack") spaced_pair (λ rest. Err Bad))))) input

-- a product's name, and what is wrong with its solution
unfoldable pub product_clash : List ℕ → Seen (Unit {0})
product_clash input = do
  product ← spaced_name input
  clash_word product.1

-- what is wrong with a posting: its shape, or a product's solution
unfoldable pub posting_fault : List ℕ → Seen (Unit {0})
posting_fault input = if_word (codes " shape") nothing product_clash input

unfoldable pub value_word : Value → List ℕ → Seen (Unit {0})
value_word Nothing input = Ok (tt, input)
value_word Number input = spaced_number input
value_word Day input = spaced_day input
value_word State input = state_word input
value_word Phase input = phase_word input
value_word Clash input = posting_fault input

-- ---- names

-- a space, this name, and its value
unfoldable pub named : List ℕ → Value → List ℕ → Seen (Unit {0})
named text value input = do
  gap ← word (codes " ") input
  said ← word text gap.1
  value_word value said.1

-- what stands behind a number of 1 to 11
unfoldable pub low_refusal : ℕ → List ℕ → Seen (Unit {0})
low_refusal number input =
    if number == 1 then named (codes "not-greeted") Nothing input
    else (if number == 2 then named (codes "bad-key") Nothing input
    else (if number == 3 then named (codes "bad-line") Number input
    else (if number == 4 then named (codes "unknown-member") Nothing input
    else (if number == 5 then named (codes "unknown-product") Nothing input
    else (if number == 6 then named (codes "own-trade") Nothing input
    else (if number == 7 then named (codes "not-party") Nothing input
    else (if number == 8 then named (codes "amount-over") Nothing input
    else (if number == 9 then named (codes "gross-over") Nothing input
    else (if number == 10 then named (codes "trades-full") Nothing input
    else (if number == 11 then named (codes "unknown-trade") Nothing input
    else Err Bad))))))))))

-- of 12 to 21
unfoldable pub middle_refusal : ℕ → List ℕ → Seen (Unit {0})
middle_refusal number input =
    if number == 12 then named (codes "wrong-trade-state") State input
    else (if number == 13 then named (codes "trade-frozen") Number input
    else (if number == 14 then named (codes "not-operator") Nothing input
    else (if number == 15 then named (codes "cycle-open") Number input
    else (if number == 16 then named (codes "wrong-cycle") Number input
    else (if number == 17 then named (codes "wrong-phase") Phase input
    else (if number == 18 then named (codes "wrong-version") Number input
    else (if number == 19 then named (codes "not-touched") Nothing input
    else (if number == 20 then named (codes "already-accepted") Nothing input
    else (if number == 21 then named (codes "cycle-broken") Number input
    else Err Bad)))))))))

-- of 22 on
unfoldable pub high_refusal : ℕ → List ℕ → Seen (Unit {0})
high_refusal number input =
    if number == 22 then named (codes "matured") Day input
    else (if number == 23 then named (codes "floor-over-ceiling") Nothing input
    else (if number == 24 then named (codes "bad-certificate") Clash input
    else (if number == 25 then named (codes "journal-full") Number input
    else (if number == 26 then named (codes "stopped") Number input
    else (if number == 27 then named (codes "disk-fault") Nothing input
    else (if number == 28 then named (codes "memory") Nothing input
    else (if number == 29 then named (codes "draft-full") Nothing input
    else (if number == 31 then named (codes "gone") Number input
    else (if number == 32 then named (codes "ahead") Number input
    else Err Bad)))))))))

-- what stands behind a refusal's number
unfoldable pub refusal : ℕ → List ℕ → Seen (Unit {0})
refusal number input =
    if nat_lt number 12 then low_refusal number input
    else (if nat_lt number 22 then middle_refusal number input else high_refusal number input)

-- behind `no `: a position, a refusal's number, its name and its value
unfoldable pub refused : List ℕ → Seen ℕ
refused input = do
  at ← number MOST_NUMBER input
  gap ← word (codes " ") at.1
  number ← number 32 gap.1
  why ← refusal number.0 number.1
  end ← word (codes "\n") why.1
  Ok (number.0, end.1)
