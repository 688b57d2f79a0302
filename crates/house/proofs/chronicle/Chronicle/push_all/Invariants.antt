use Rattle.std.proofs.Common.{◌≡◌, ◌+◌, ◌≤◌, ◌<◌, ◌^◌, map, take, drop}
use Rattle.command_types.specs.History.{longer}
use Rattle.journal_core.specs.Frame.{frames_length}
use Rattle.house.specs.declared.chronicle.TheConstants.{VOTES_ROOM}
use Rattle.house.proofs.chronicle.Chronicle.push_all.Given as goal

abbrev pub invariant-loop-place : goal.invariant-loop-place
invariant-loop-place l = record {
  history : l.self.history ≡ longer l.fn.self.history (take l.place l.entries);
  small : frames_length (drop l.place (map (λ r. r.items) l.records)) < 2 ^ 32;
  room : frames_length (drop l.place (map (λ r. r.items) l.records)) + VOTES_ROOM ≤ l.self.room;
}
