-- What contracts see of a history with the records of its changes.
use Rattle.std.specs.Prelude.{ℕ, ◌-◌, ◌*◌, ◌≤◌, List, length, IsTrue}
use Rattle.std.specs.List.{AllZip}
use Rattle.command_types.specs.declared.ask.Entry.{Entry}
use Rattle.command_types.specs.Cycles.{is_proposed}
use Rattle.command_types.specs.History.{History, replayed}
use Rattle.recovery.specs.Bodies.{Written}
use Rattle.recovery.specs.StandsFor.{SpellsAs}
use Rattle.units_core.specs.declared.limits.TheConstants.{MOST_MEMBERS}
use Rattle.house.specs.declared.chronicle.TheConstants.{VOTE_ROOM}

-- the history, and for how many more bytes of records, each with five more than it has, there is room without memory
pub record ChronicleView : Type 0 where
  pub history : History
  pub room : ℕ

-- there are as many records as changes, and each spells its change
abbrev pub AreRecords : List Written → List Entry → Type 0
AreRecords records entries = AllZip SpellsAs records entries

-- while a plan is proposed, there is room for the votes of as many members as have not voted
abbrev pub HasVoteRoom : History → ℕ → Type 0
HasVoteRoom h room = IsTrue (is_proposed (replayed h).cycle.phase) → VOTE_ROOM * (MOST_MEMBERS - length (replayed h).cycle.votes) ≤ room
