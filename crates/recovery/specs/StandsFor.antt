-- The history that a journal's file stands for.
use Rattle.std.specs.Prelude.{◌≡◌, ◌≢◌, ◌⊎◌, ℕ, List, [], ◌∷◌}
use Rattle.std.specs.List.{AllZip}
use Rattle.command_types.specs.declared.ask.Entry.{Entry}
use Rattle.command_types.specs.declared.base.Base.{Base}
use Rattle.command_types.specs.declared.figures.Start.{Start}
use Rattle.command_types.specs.declared.spelling.Spelling.{Spelling}
use Rattle.command_types.specs.Bases.{base_in, spelling_behind, SpellsBase, Fits}
use Rattle.command_types.specs.History.{History}
use Rattle.command_types.specs.Machine.{empty_state}
use Rattle.command_types.specs.Roster.{Rows}
use Rattle.command_types.specs.Spelling.{Spells}
use Rattle.journal_core.specs.Holds.{IsShort, IsJournal, Holds}
use Rattle.journal_core.specs.Walk.{placed}
use Rattle.journal_core.specs.declared.form.Form.{Form}
use Rattle.journal_core.specs.declared.form.Form.TheVariants.{Slots}
use Rattle.recovery.specs.Bodies.{Written, Placed, changes_in, changes_of, spelling_after}

-- the bytes spell this change, in their spelling
abbrev pub SpellsAs : Written → Entry → Type 0
SpellsAs written entry = Spells written.0 written.1 entry

-- of a body that begins in this spelling, as many records as there are entries are to spell changes, and each spells its entry
abbrev pub SpellAll : Spelling → List (List ℕ) → List Entry → Type 0
SpellAll spelling records entries = AllZip SpellsAs (changes_in spelling records) entries

-- where a roster's market begins: at position 0, with nothing done
abbrev pub first_start : Rows → Start
first_start roster = record { position = 0; state = empty_state roster }

-- no bytes stand for where a roster's market begins, and others spell a base that fits the roster, and stand for where that one begins
abbrev pub StandsForBase : List ℕ → Start → Type 0
StandsForBase [] start = start ≡ first_start start.state.roster
StandsForBase (byte ∷ bytes) start =
    (b : Base) × SpellsBase (byte ∷ bytes) b × Fits start.state.roster b × (start ≡ base_in start.state.roster b)

-- the file holds a base, which stands for where the history begins, and a body, which spells its changes
abbrev pub StandsFor : List ℕ → History → Type 0
StandsFor file h =
    (base : List ℕ) × (records : List (List ℕ)) × Holds file base records
    × StandsForBase base h.base × SpellAll (spelling_behind base) records h.entries

-- the file's body is in this spelling behind its records
abbrev pub GoesOnIn : List ℕ → Spelling → Type 0
GoesOnIn file spelling =
    (base : List ℕ) × (records : List (List ℕ)) × Holds file base records × (spelling ≡ spelling_after (spelling_behind base) records)

-- the file holds this base and these records, of which the first has its gate at this place
abbrev pub HoldsAt : List ℕ → List ℕ → List (List ℕ) → ℕ → Type 0
HoldsAt file base records gate =
    (IsShort file × (base ≡ []) × (records ≡ []))
    ⊎ ((form : Form) × (j : IsJournal form file base records) × (gate ≡ j.place))

-- what a body behind this base has that is to spell changes, where its first record has its gate at this place
abbrev pub changes_at : List ℕ → ℕ → List (List ℕ) → List Placed
changes_at base gate records = changes_of (spelling_behind base) (placed gate records)

-- the bytes spell some change
abbrev pub SpellsSome : Written → Type 0
SpellsSome written = (entry : Entry) × SpellsAs written entry

-- the bytes spell some base
abbrev pub SpellsSomeBase : List ℕ → Type 0
SpellsSomeBase bytes = (b : Base) × SpellsBase bytes b

-- the file holds a base at this offset that spells none
abbrev pub IsBadBase : List ℕ → ℕ → Type 0
IsBadBase file place =
    (which : ℕ) × (base : List ℕ) × (records : List (List ℕ)) × IsJournal (Slots which place) file base records × (base ≢ []) × (¬ SpellsSomeBase base)

-- of what is to spell changes, the first that spells none has its gate at this place
abbrev pub IsFirstBad : List Placed → ℕ → Type 0
IsFirstBad [] place = ⊥
IsFirstBad (r ∷ others) place = ((¬ SpellsSome r.1) × (place ≡ r.0)) ⊎ (SpellsSome r.1 × IsFirstBad others place)

-- the file holds no base or one that is spelled, and the first of what is to spell changes that spells none has its gate at this place
abbrev pub IsUnreadable : List ℕ → ℕ → Type 0
IsUnreadable file place =
    (base : List ℕ) × (records : List (List ℕ)) × (gate : ℕ) × HoldsAt file base records gate
    × ((base ≡ []) ⊎ SpellsSomeBase base) × IsFirstBad (changes_at base gate records) place
