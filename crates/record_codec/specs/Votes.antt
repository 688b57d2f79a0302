-- The change of which a record is made without memory.
use Rattle.std.specs.Prelude.{ℕ, List, Some}
use Rattle.command_types.specs.declared.ask.Entry.{Entry}
use Rattle.command_types.specs.declared.ask.What.TheVariants.{Accept}

-- a party's vote for a version of a cycle, from a seat, at a moment
abbrev pub accept_by : ℕ → List ℕ → ℕ → ℕ → ℕ → Entry
accept_by seat by cycle version moment = record { seat = seat; ask = record { by = Some by; what = Accept cycle version; moment = moment } }
