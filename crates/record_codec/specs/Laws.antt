-- What calls answer of the bytes of a record or a base, and the laws on records' spellings.
use Rattle.std.specs.Prelude.{◌≡◌, ℕ, List, Result, Ok, Err}
use Rattle.command_types.specs.declared.ask.Entry.{Entry}
use Rattle.command_types.specs.declared.spelling.Spelling.{Spelling}
use Rattle.command_types.specs.Spelling.{Spells, turn}
use Rattle.record_codec.specs.declared.fault.ReadFault.{ReadFault}
use Rattle.record_codec.specs.declared.fault.ReadFault.TheVariants as reads
use Rattle.record_codec.specs.declared.fault.DecodeFault.{DecodeFault}
use Rattle.record_codec.specs.declared.fault.DecodeFault.TheVariants.{BadRecord, Memory}

abbrev pub Fails : {B : Type 0} → ReadFault → Result B ℕ → Type 0
Fails reads.Memory read = Unit {0}
Fails (reads.Bad left) read = read ≡ Err left

-- What a function returned, seen by a view, is what was read, unless memory ran out.
abbrev pub Gives : {A B : Type 0} → (A → B) → Result A ReadFault → Result B ℕ → Type 0
Gives view (Ok value) read = read ≡ Ok (view value)
Gives view (Err fault) read = Fails fault read

-- the fault is that of the field that breaks the grammar, and no want of memory
abbrev pub IsBadField : {B : Type 0} → ReadFault → Result B ℕ → Type 0
IsBadField reads.Memory read = ⊥
IsBadField (reads.Bad left) read = read ≡ Err left

-- The same of a function that takes no memory.
abbrev pub Reads : {A B : Type 0} → (A → B) → Result A ReadFault → Result B ℕ → Type 0
Reads view (Ok value) read = read ≡ Ok (view value)
Reads view (Err fault) read = IsBadField fault read

abbrev pub IsFaultOf : {A : Type 0} → DecodeFault → Result A ℕ → Type 0
IsFaultOf Memory read = Unit {0}
IsFaultOf (BadRecord at) read = read ≡ Err at

-- The answer is what was read, unless memory ran out.
abbrev pub Decodes : {A : Type 0} → Result A DecodeFault → Result A ℕ → Type 0
Decodes (Ok value) read = read ≡ Ok value
Decodes (Err fault) read = IsFaultOf fault read

-- In each of the two spellings no bytes spell two changes.
abbrev pub SpellingsAreUnique : Type 0
SpellingsAreUnique = (form : Spelling) (bytes : List ℕ) (a b : Entry) → Spells form bytes a → Spells form bytes b → a ≡ b

-- No bytes are spellings of changes and the turn between the spellings, too.
abbrev pub TurnIsNoChange : Type 0
TurnIsNoChange = (form : Spelling) (entry : Entry) → Spells form turn entry → ⊥
