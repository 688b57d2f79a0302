-- What the forms of journals' files tell.
use Rattle.std.specs.Prelude.{ℕ, ◌+◌, ◌==◌, nat_le, if◌then◌else◌}
use Rattle.journal_core.specs.declared.form.Form.{Form}
use Rattle.journal_core.specs.declared.form.Form.TheVariants.{Short, Plain, SlotsShort, Slots}

-- the form has slots
abbrev pub IsSlots : Form → Type 0
IsSlots (Slots which offset) = Unit {0}
IsSlots Short = ⊥
IsSlots Plain = ⊥
IsSlots SlotsShort = ⊥

-- the form that a journal gets when it begins
abbrev pub begun_form : Form → Form
begun_form Short = Slots 0 25
begun_form Plain = Plain
begun_form SlotsShort = Slots 0 25
begun_form (Slots which offset) = Slots which offset

-- the slot that is not selected
abbrev pub other_slot : Form → ℕ
other_slot (Slots which offset) = if which == 1 then 0 else 1
other_slot Short = 1
other_slot Plain = 1
other_slot SlotsShort = 1

-- where a body of so many bytes goes: to the front where it ends there at or before the selected offset, else to the end
abbrev pub fold_place : Form → ℕ → ℕ → ℕ
fold_place (Slots which offset) end size = if nat_le (25 + size) offset then 25 else end
fold_place Short end size = end
fold_place Plain end size = end
fold_place SlotsShort end size = end

-- where the body of a base of this length ends: its length takes four bytes, and the closed gate behind it one
abbrev pub fold_end : Form → ℕ → ℕ → ℕ
fold_end form end length = fold_place form end (5 + length) + (5 + length)
