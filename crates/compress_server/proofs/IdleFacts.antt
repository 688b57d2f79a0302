-- A service whose listener was told the idle time before.
use Rattle.std.proofs.Common.{◌≡◌, ℕ, Bool, List, subst, Option}
use Rattle.doors.specs.Visits.{Visits, Doors}
use Rattle.compress_server.specs.declared.serve.ServiceEnd.{ServiceEnd}
use Rattle.compress_server.specs.Files.{FilesState}
use Rattle.compress_server.specs.Housed.{DiskState}
use Rattle.compress_server.specs.Seen.{OutputState, Seen, listener_of, seen_of}
use Rattle.compress_server.specs.Serve.{ServicePlan, ServeRuns}

-- a listener whose doors and count were the same before runs as from there
pub runs_from_before : {D : Type 0} (clock : ℕ → Bool) (visits : D → Option Visits) (roster : List ℕ) (plan : ServicePlan) (files files' : FilesState) (output : OutputState) (disk : DiskState) (doors before : Option Doors) (faults earlier : ℕ) (after : Seen) (end : ServiceEnd) →
    doors ≡ before → faults ≡ earlier →
    ServeRuns clock visits roster plan files files' (seen_of output disk (listener_of doors faults)) after end → ServeRuns clock visits roster plan files files' (seen_of output disk (listener_of before earlier)) after end
runs_from_before clock visits roster plan files files' output disk doors before faults earlier after end same uncounted runs =
    subst (λ d. ServeRuns clock visits roster plan files files' (seen_of output disk (listener_of d earlier)) after end) same
    (subst (λ n. ServeRuns clock visits roster plan files files' (seen_of output disk (listener_of doors n)) after end) uncounted runs)
