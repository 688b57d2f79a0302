-- How a script ends.
use Rattle.std.specs.Prelude.{◌≡◌, ℕ, Bool, true, false, List, [], ◌∷◌, Option, if◌then◌else◌}
use Rattle.outside.specs.Faults.{Rose}
use Rattle.outside.specs.Flow.{Flow}
use Rattle.house.specs.House.{HouseView, is_stopped}
use Rattle.session.specs.declared.serve.SessionEnd.{SessionEnd}
use Rattle.session.specs.declared.serve.SessionEnd.TheVariants as sessions
use Rattle.compress_server.specs.declared.ending.End.{End}
use Rattle.compress_server.specs.declared.ending.End.TheVariants as ends
use Rattle.compress_server.specs.declared.script.ScriptEnd.{ScriptEnd}
use Rattle.compress_server.specs.declared.script.ScriptEnd.TheVariants.{Done, Unloaded, Unopened, Stopped, SourceFault, SinkFault, Limit, Memory}
use Rattle.compress_server.specs.Files.{FilesState, OverRoster, IsRosterUnread}
use Rattle.compress_server.specs.Housed.{DiskState, OpeningFails, OverJournal}
use Rattle.compress_server.specs.Run.{IsWhole, IsBrokenOff, IsAtLimit, IsUnwritten}
use Rattle.compress_server.specs.Seen.{Streams}
use Rattle.compress_server.specs.Statuses.{load_end, journal_end}

-- the end of the call
abbrev pub script_end : ScriptEnd → End
script_end Done = ends.Done
script_end (Unloaded fault) = load_end fault
script_end (Unopened fault) = journal_end fault
script_end Stopped = ends.DiskFault
script_end SourceFault = ends.SourceFault
script_end SinkFault = ends.SinkFault
script_end Limit = ends.Limit
script_end Memory = ends.Memory

-- the statuses beside 0, 3 and 9 that may come where nothing outside fails: a damaged journal, the session's limit
abbrev pub script_statuses : List ℕ
script_statuses = 7 ∷ 8 ∷ []

-- What was read and what was written, by the end of a session over the house v, which is then w.
abbrev pub ScriptEnds : (ℕ → Bool) → HouseView → HouseView → Option Flow → Option Flow → Option (List ℕ) → Option (List ℕ) → SessionEnd → Type 0
ScriptEnds clock v w opened flow begun taken sessions.Ended = IsWhole clock v w opened flow begun taken
ScriptEnds clock v w opened flow begun taken sessions.SourceFault = IsBrokenOff clock v w opened flow begun taken
ScriptEnds clock v w opened flow begun taken sessions.SinkFault = IsUnwritten clock v w opened flow begun taken
ScriptEnds clock v w opened flow begun taken sessions.Limit = IsAtLimit clock v w opened flow begun taken
ScriptEnds clock v w opened flow begun taken sessions.Memory = (flow ≡ opened) × (taken ≡ begun) × (w.history ≡ v.history)

-- the end of a script, by its session's end and by whether a fault of the disk stopped the house
abbrev pub end_of_session : SessionEnd → Bool → ScriptEnd
end_of_session sessions.Ended stopped = if stopped then Stopped else Done
end_of_session sessions.SourceFault stopped = SourceFault
end_of_session sessions.SinkFault stopped = SinkFault
end_of_session sessions.Limit stopped = Limit
end_of_session sessions.Memory stopped = Memory

module _ (clock : ℕ → Bool) (roster : List ℕ) (files files' : FilesState) (before after : Streams) (disk left : DiskState) where
  -- a session with this end was served over a house on the journal, of which, as it was and as it came back, this holds
  abbrev pub Serves : SessionEnd → (HouseView → Type 0) → Type 0
  Serves end P = OverJournal files.folder roster disk left (λ v w. P w × ScriptEnds clock v w before.input.flow after.input.flow before.output.taken after.output.taken end)

  -- by the end of a script
  abbrev pub ScriptRuns : ScriptEnd → Type 0
  ScriptRuns Done = Serves sessions.Ended (λ w. is_stopped w ≡ false)
  ScriptRuns (Unloaded fault) = (after ≡ before) × (left ≡ disk) × IsRosterUnread files files' roster fault
  ScriptRuns (Unopened fault) = (after ≡ before) × OverRoster files.folder roster (λ rows. OpeningFails rows disk left fault)
  ScriptRuns Stopped = Serves sessions.Ended (λ w. is_stopped w ≡ true) × Rose disk.faults left.faults
  ScriptRuns SourceFault = Serves sessions.SourceFault (λ w. Unit {0}) × Rose before.input.faults after.input.faults
  ScriptRuns SinkFault = Serves sessions.SinkFault (λ w. Unit {0}) × Rose before.output.faults after.output.faults
  ScriptRuns Limit = Serves sessions.Limit (λ w. Unit {0})
  ScriptRuns Memory = Serves sessions.Memory (λ w. Unit {0})
