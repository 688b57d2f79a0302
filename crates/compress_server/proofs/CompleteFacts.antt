-- What is answered where nothing outside fails: each form's own ends by their statuses.
use Rattle.std.proofs.Common.{◌≡◌, ◌⊎◌, ℕ, Bool, true, false, List, Option, Some, refl, sym, subst, inl, inr}
use Rattle.units_core.specs.Day.{DayParts}
use Rattle.doors.specs.Visits.{Visits}
use Rattle.outside.specs.Faults.{Rose}
use Rattle.command_types.specs.declared.file_fault.FileFault.{FileFault}
use Rattle.command_types.specs.History.{end_of}
use Rattle.command_types.specs.Roster.{Rows}
use Rattle.house.specs.House.{HouseView, is_stopped}
use Rattle.journal_core.specs.declared.fault.JournalFault.{JournalFault}
use Rattle.journal_core.specs.declared.fault.JournalFault.TheVariants as faults
use Rattle.compress_server.specs.declared.check.CheckEnd.{CheckEnd}
use Rattle.compress_server.specs.declared.check.CheckEnd.TheVariants as checks
use Rattle.compress_server.specs.declared.ending.End.{End}
use Rattle.compress_server.specs.declared.generated.GenEnd.{GenEnd}
use Rattle.compress_server.specs.declared.generated.GenEnd.TheVariants as gens
use Rattle.compress_server.specs.declared.load.FileRole.{FileRole}
use Rattle.compress_server.specs.declared.load.LoadFault.{LoadFault}
use Rattle.compress_server.specs.declared.load.LoadFault.TheVariants.{Files, Faulty, Memory as NoMemory}
use Rattle.compress_server.specs.declared.replay.ReplayEnd.{ReplayEnd}
use Rattle.compress_server.specs.declared.replay.ReplayEnd.TheVariants as replays
use Rattle.compress_server.specs.declared.rolling.RollEnd.{RollEnd}
use Rattle.compress_server.specs.declared.rolling.RollEnd.TheVariants as rolls
use Rattle.compress_server.specs.declared.script.ScriptEnd.{ScriptEnd}
use Rattle.compress_server.specs.declared.script.ScriptEnd.TheVariants as scripts
use Rattle.compress_server.specs.declared.serve.ServiceEnd.{ServiceEnd}
use Rattle.compress_server.specs.declared.serve.ServiceEnd.TheVariants.{ListenerFault, Memory}
use Rattle.compress_server.specs.declared.solve.SolveEnd.{SolveEnd}
use Rattle.compress_server.specs.declared.solve.SolveEnd.TheVariants as solves
use Rattle.compress_server.specs.declared.following.StandbyEnd.{StandbyEnd}
use Rattle.compress_server.specs.declared.following.StandbyEnd.TheVariants as standbys
use Rattle.standby.specs.declared.follow.FollowEnd.{FollowEnd}
use Rattle.standby.specs.declared.follow.FollowEnd.TheVariants as follows
use Rattle.compress_server.specs.Check.{check_end, CheckRuns}
use Rattle.compress_server.specs.Complete.{IsFormUnread, HasFault, IsUndisturbed, statuses_of, IsAmong, IsAnswered, AnswersWhatItCan}
use Rattle.compress_server.specs.Ending.{Runs}
use Rattle.compress_server.specs.Files.{FilesState, IsMarketUnread}
use Rattle.compress_server.specs.Follow.{Follows, standby_end, StandbyRuns}
use Rattle.compress_server.specs.Gen.{gen_end, GenRuns}
use Rattle.compress_server.specs.Housed.{DiskState, OpeningFails}
use Rattle.compress_server.specs.Replay.{IsUnread, replay_end, ReplayRuns}
use Rattle.compress_server.specs.Roll.{roll_end, RollRuns}
use Rattle.compress_server.specs.Script.{script_end, ScriptRuns}
use Rattle.compress_server.specs.Seen.{OutputState, Streams, World}
use Rattle.compress_server.specs.Serve.{ServicePlan, IsWritten, history_line, end_of_seats, HouseServes, service_end, ServeRuns}
use Rattle.compress_server.specs.Solve.{solve_end, SolveRuns}
use Rattle.compress_server.specs.Statuses.{load_end, journal_end, status_of, wants_memory}
use Rattle.compress_server.specs.Telling.{TellsEnd}
use Rattle.program_words.specs.Words.{Market, Form, ServiceNumbers, Standby}

-- ---- what is told of an end

-- an end whose line wants no memory has its status
pub told_so : (errors errors' : OutputState) (end : End) (status : ℕ) → wants_memory end ≡ false → TellsEnd errors errors' end status → status ≡ status_of end
told_so errors errors' end status none (inl told) = told.0
told_so errors errors' end status none (inr (wants, told)) = absurd (cc)

-- so has each, or 9
status_answered : (files : FilesState) (form : Form) (errors errors' : OutputState) (end : End) (status : ℕ) → TellsEnd errors errors' end status → IsAnswered files form (status_of end) → IsAnswered files form status
status_answered files form errors errors' end status (inl told) is = subst (λ n. IsAnswered files form n) (sym told.0) is
status_answered files form errors errors' end status (inr (wants, told)) is = inr (inr (inl told.0))

-- ---- a file that could not be had

market_rose : (files files' : FilesState) (market : Market) (role : FileRole) → IsMarketUnread files files' market (Files role) → Rose files.faults files'.faults
market_rose files files' market role (inl is) = is.1
market_rose files files' market role (inr (rows, says, is)) = is.1

-- where the files failed, their count rose
files_rose : (files files' : FilesState) (form : Form) (role : FileRole) → IsFormUnread files files' form (Files role) → Rose files.faults files'.faults
files_rose files files' (Form.Script roster journal workers) role is = is.1
files_rose files files' (Form.Serve roster journal address numbers) role is = is.1
files_rose files files' (Form.Check market proposal) role (inl is) = market_rose files files' market role is
files_rose files files' (Form.Check market proposal) role (inr (rows, trades, says, is)) = is.1
files_rose files files' (Form.Solve market workers) role is = market_rose files files' market role is
files_rose files files' (Form.Gen number workers) role is = absurd is
files_rose files files' (Form.Replay roster journal) role is = is.1
files_rose files files' (Form.Roll roster journal new_roster matured cancel) role (inl is) = is.1
files_rose files files' (Form.Roll roster journal new_roster matured cancel) role (inr (rows, says, is)) = is.1
files_rose files files' (Form.Follow standby) role is = is.1

-- a fault is one of the files as they were
faulty_before : (files files' : FilesState) (form : Form) (role : FileRole) (fault : FileFault) → IsFormUnread files files' form (Faulty role fault) → IsFormUnread files files form (Faulty role fault)
faulty_before files files' (Form.Script roster journal workers) role fault is = is
faulty_before files files' (Form.Serve roster journal address numbers) role fault is = is
faulty_before files files' (Form.Check market proposal) role fault is = is
faulty_before files files' (Form.Solve market workers) role fault is = is
faulty_before files files' (Form.Gen number workers) role fault is = is
faulty_before files files' (Form.Replay roster journal) role fault is = is
faulty_before files files' (Form.Roll roster journal new_roster matured cancel) role fault is = is
faulty_before files files' (Form.Follow standby) role fault is = is

module _ (files files' : FilesState) (form : Form) (held : Rose files.faults files'.faults → ⊥) where
  load_answered : (fault : LoadFault) → IsFormUnread files files' form fault → IsAnswered files form (status_of (load_end fault))
  load_answered (Files role) is = absurd (held (files_rose files files' form role is))
  load_answered (Faulty role f) is = inr (inl (refl, (role, f, faulty_before files files' form role f is)))
  load_answered NoMemory is = inr (inr (inl refl))

  -- the status that is told of it
  pub load_status : (errors errors' : OutputState) (fault : LoadFault) (status : ℕ) → IsFormUnread files files' form fault → TellsEnd errors errors' (load_end fault) status → ((status ≡ 3) × HasFault files form) ⊎ ((status ≡ 7) ⊎ (status ≡ 9))
  load_status errors errors' (Files role) status is told = absurd (held (files_rose files files' form role is))
  load_status errors errors' (Faulty role f) status is (inl told) = inl (told.0, (role, f, faulty_before files files' form role f is))
  load_status errors errors' (Faulty role f) status is (inr (wants, told)) = inr (inr told.0)
  load_status errors errors' NoMemory status is (inl told) = inr (inr told.0)
  load_status errors errors' NoMemory status is (inr (wants, told)) = inr (inr told.0)

-- ---- a journal that could not be read

module _ (rows : Rows) (disk left : DiskState) (held : Rose disk.faults left.faults → ⊥) where
  opening_answered : (files : FilesState) (form : Form) → IsAmong (statuses_of form) 7 → (fault : JournalFault) → OpeningFails rows disk left fault → IsAnswered files form (status_of (journal_end fault))
  opening_answered files form own (faults.Damaged place) is = inr (inr (inr own))
  opening_answered files form own faults.DiskFault (unopened, rose) = absurd (held rose)
  opening_answered files form own faults.Memory is = inr (inr (inl refl))

  unread_answered : (files : FilesState) (form : Form) → IsAmong (statuses_of form) 7 → (fault : JournalFault) → IsUnread rows disk left fault → IsAnswered files form (status_of (journal_end fault))
  unread_answered files form own (faults.Damaged place) is = inr (inr (inr own))
  unread_answered files form own faults.DiskFault rose = absurd (held rose)
  unread_answered files form own faults.Memory is = inr (inr (inl refl))

  -- the status that is told of it
  pub opening_status : (errors errors' : OutputState) (fault : JournalFault) (status : ℕ) → OpeningFails rows disk left fault → TellsEnd errors errors' (journal_end fault) status → (status ≡ 7) ⊎ (status ≡ 9)
  opening_status errors errors' (faults.Damaged place) status is (inl told) = inl told.0
  opening_status errors errors' (faults.Damaged place) status is (inr (wants, told)) = inr told.0
  opening_status errors errors' faults.DiskFault status (unopened, rose) told = absurd (held rose)
  opening_status errors errors' faults.Memory status is (inl told) = inr told.0
  opening_status errors errors' faults.Memory status is (inr (wants, told)) = inr told.0

-- ---- by form

module _ (roster journal : List ℕ) (workers : ℕ) (clock : ℕ → Bool) (files files' : FilesState) (before after : Streams) (disk left : DiskState)
    (no_files : Rose files.faults files'.faults → ⊥) (no_input : Rose before.input.faults after.input.faults → ⊥) (no_output : Rose before.output.faults after.output.faults → ⊥) (no_disk : Rose disk.faults left.faults → ⊥) where
  script_answered : (own : ScriptEnd) → ScriptRuns clock roster files files' before after disk left own → IsAnswered files (Form.Script roster journal workers) (status_of (script_end own))
  script_answered scripts.Done is = inl refl
  script_answered (scripts.Unloaded fault) (unread, kept, is) = load_answered files files' (Form.Script roster journal workers) no_files fault is
  script_answered (scripts.Unopened fault) (unread, (rows, says, are, fails)) = opening_answered rows disk left no_disk files (Form.Script roster journal workers) (inl refl) fault fails
  script_answered scripts.Stopped (serves, rose) = absurd (no_disk rose)
  script_answered scripts.SourceFault (serves, rose) = absurd (no_input rose)
  script_answered scripts.SinkFault (serves, rose) = absurd (no_output rose)
  script_answered scripts.Limit is = inr (inr (inr (inr (inl refl))))
  script_answered scripts.Memory is = inr (inr (inl refl))

module _ (files files' : FilesState) (output output' : OutputState) (no_files : Rose files.faults files'.faults → ⊥) (no_output : Rose output.faults output'.faults → ⊥) where
  check_answered : (market : Market) (proposal : List ℕ) (own : CheckEnd) → CheckRuns market proposal files files' output output' own → IsAnswered files (Form.Check market proposal) (status_of (check_end own))
  check_answered market proposal checks.Yes is = inl refl
  check_answered market proposal checks.No is = inr (inr (inr (inl refl)))
  check_answered market proposal (checks.Unloaded fault) (unwritten, is) = load_answered files files' (Form.Check market proposal) no_files fault is
  check_answered market proposal checks.SinkFault (says, rose) = absurd (no_output rose)
  check_answered market proposal checks.Memory is = inr (inr (inl refl))

  solve_answered : (market : Market) (workers : ℕ) (own : SolveEnd) → SolveRuns market files files' output output' own → IsAnswered files (Form.Solve market workers) (status_of (solve_end own))
  solve_answered market workers solves.Done is = inl refl
  solve_answered market workers (solves.Unloaded fault) (unwritten, is) = load_answered files files' (Form.Solve market workers) no_files fault is
  solve_answered market workers solves.SinkFault (says, rose) = absurd (no_output rose)
  solve_answered market workers solves.Memory is = inr (inr (inl refl))

  gen_answered : (number workers : ℕ) (own : GenEnd) → GenRuns number output output' own → IsAnswered files (Form.Gen number workers) (status_of (gen_end own))
  gen_answered number workers gens.Done is = inl refl
  gen_answered number workers gens.SinkFault (says, rose) = absurd (no_output rose)
  gen_answered number workers gens.Memory is = inr (inr (inl refl))

  module _ (disk left : DiskState) (no_disk : Rose disk.faults left.faults → ⊥) where
    replay_answered : (roster journal : List ℕ) (own : ReplayEnd) → ReplayRuns roster files files' output output' disk left own → IsAnswered files (Form.Replay roster journal) (status_of (replay_end own))
    replay_answered roster journal replays.Done is = inl refl
    replay_answered roster journal (replays.Unloaded fault) (unwritten, kept, is) = load_answered files files' (Form.Replay roster journal) no_files fault is
    replay_answered roster journal (replays.Unread fault) (unwritten, (kept, (rows, says, are, is))) = unread_answered rows disk left no_disk files (Form.Replay roster journal) (inl refl) fault is
    replay_answered roster journal replays.SinkFault (says, rose) = absurd (no_output rose)
    replay_answered roster journal replays.Memory is = inr (inr (inl refl))

    roll_answered : (roster journal new_roster : List ℕ) (matured : Option DayParts) (cancel : Bool) (own : RollEnd) → RollRuns roster new_roster matured cancel files files' output output' disk left own → IsAnswered files (Form.Roll roster journal new_roster matured cancel) (status_of (roll_end own))
    roll_answered roster journal new_roster matured cancel rolls.Done is = inl refl
    roll_answered roster journal new_roster matured cancel (rolls.Unloaded fault) (unwritten, kept, is) = load_answered files files' (Form.Roll roster journal new_roster matured cancel) no_files fault is
    roll_answered roster journal new_roster matured cancel (rolls.Unread fault) (unwritten, (kept, (old, says, are, (new, says_new, are_new, is)))) =
        unread_answered old disk left no_disk files (Form.Roll roster journal new_roster matured cancel) (inl refl) fault is
    roll_answered roster journal new_roster matured cancel (rolls.Unrolled obstacle) is = inr (inr (inr (inr (inl refl))))
    roll_answered roster journal new_roster matured cancel rolls.SinkFault (says, rose) = absurd (no_output rose)
    roll_answered roster journal new_roster matured cancel rolls.Memory is = inr (inr (inl refl))

module _ (standby : Standby) (files files' : FilesState) (before after : Streams) (disk left : DiskState)
    (no_files : Rose files.faults files'.faults → ⊥) (no_input : Rose before.input.faults after.input.faults → ⊥) (no_output : Rose before.output.faults after.output.faults → ⊥) (no_disk : Rose disk.faults left.faults → ⊥) where
  -- a standby that followed
  followed_answered : (v w : HouseView) (end : FollowEnd) → (is_stopped w ≡ true → Rose disk.faults left.faults) → Follows standby before after left v w end
      → IsAnswered files (Form.Follow standby) (status_of (standby_end (standbys.Followed end)))
  followed_answered v w follows.Caught stops is = inl refl
  followed_answered v w (follows.Refused number) stops is = inr (inr (inr (inr (inl refl))))
  followed_answered v w (follows.Broken at) stops is = inr (inr (inr (inr (inr (inl refl)))))
  followed_answered v w (follows.Full size) stops is = inr (inr (inr (inr (inr (inr (inl refl))))))
  followed_answered v w follows.SourceFault stops is = absurd (no_input is.counted)
  followed_answered v w follows.SinkFault stops is = absurd (no_output is.counted)
  followed_answered v w follows.DiskFault stops is = absurd (no_disk (stops is.ends.1))
  followed_answered v w follows.Memory stops is = inr (inr (inl refl))

  standby_answered : (own : StandbyEnd) → StandbyRuns standby files files' before after disk left own → IsAnswered files (Form.Follow standby) (status_of (standby_end own))
  standby_answered (standbys.Unloaded fault) (unread, kept, is) = load_answered files files' (Form.Follow standby) no_files fault is
  standby_answered (standbys.Unopened fault) (unread, (rows, says, are, fails)) = opening_answered rows disk left no_disk files (Form.Follow standby) (inl refl) fault fails
  standby_answered (standbys.Followed end) (rows, says, are, (v, w, housed, is)) = followed_answered v w end housed.stopped is

-- ---- a service

-- the output's count rose where the line was not written whole
count_rose : (before after : OutputState) (line : List ℕ) (written : Bool) → IsWritten before after line written → written ≡ false → Rose before.faults after.faults
count_rose before after line true w e = absurd (cc)
count_rose before after line false w e = w.1

module _ (files : FilesState) (roster journal address : List ℕ) (numbers : ServiceNumbers) where
  abbrev IsTold : ServiceEnd → Type 0
  IsTold own = IsAnswered files (Form.Serve roster journal address numbers) (status_of (service_end own))

  -- whose seats served
  seats_answered : (no_memory door_fault stopped written : Bool) → (stopped ≡ true → ⊥) → (written ≡ false → ⊥) → (door_fault ≡ true → ⊥) → IsTold (end_of_seats no_memory door_fault stopped written)
  seats_answered true door_fault stopped written no_stop no_cut no_door = inr (inr (inl refl))
  seats_answered false true stopped written no_stop no_cut no_door = absurd (no_door refl)
  seats_answered false false true written no_stop no_cut no_door = absurd (no_stop refl)
  seats_answered false false false true no_stop no_cut no_door = inl refl
  seats_answered false false false false no_stop no_cut no_door = absurd (no_cut refl)

  -- whose seats could not begin
  unbegun_answered : (before after : ℕ) (own : ServiceEnd) → ((own ≡ Memory) ⊎ ((own ≡ ListenerFault) × Rose before after)) → (Rose before after → ⊥) → IsTold own
  unbegun_answered before after own (inl e) held = subst (λ x. IsTold x) (sym e) (inr (inr (inl refl)))
  unbegun_answered before after own (inr (e, rose)) held = absurd (held rose)

module _ {D : Type 0} (clock : ℕ → Bool) (visits : D → Option Visits) (roster journal address : List ℕ) (numbers : ServiceNumbers) (before after : World) (held : IsUndisturbed before after) where
  abbrev plan : ServicePlan
  plan = record { address = address; seats = numbers.seats; connections = numbers.connections }

  -- over its house
  served_answered : (v w : HouseView) (own : ServiceEnd) → (is_stopped w ≡ true → Rose before.seen.disk.faults after.seen.disk.faults) →
      HouseServes clock visits plan v w before.seen.output after.seen.output before.seen.listener after.seen.listener own → IsTold before.files roster journal address numbers own
  served_answered v w own stops (inl u) = unbegun_answered before.files roster journal address numbers before.seen.listener.faults after.seen.listener.faults own u.why held.listener_held
  served_answered v w own stops (inr s) =
      subst (λ x. IsTold before.files roster journal address numbers x) (sym s.told) (seats_answered before.files roster journal address numbers _ _ (is_stopped w) s.written
      (λ e. held.disk_held (stops e)) (λ e. held.output_held (count_rose before.seen.output after.seen.output (history_line (end_of w.history)) s.written s.wrote e)) (λ e. held.listener_held (s.counted e)))

  service_answered : (own : ServiceEnd) → ServeRuns clock visits roster plan before.files after.files before.seen after.seen own → IsTold before.files roster journal address numbers own
  service_answered own (inl (fault, e, kept, is)) = subst (λ x. IsTold before.files roster journal address numbers x) (sym e) (load_answered before.files after.files (Form.Serve roster journal address numbers) held.files_held fault is)
  service_answered own (inr (rows, says, are, inl u)) =
      subst (λ x. IsTold before.files roster journal address numbers x) (sym u.told) (opening_answered rows before.seen.disk after.seen.disk held.disk_held before.files (Form.Serve roster journal address numbers) (inl refl) u.fault u.opening)
  service_answered own (inr (rows, says, are, inr (v, w, housed, serves))) = served_answered v w own housed.stopped serves

-- ---- the end of any form

told_as : {E : Type 0} (end_of : E → End) (files : FilesState) (form : Form) (end : End) (own : E) → end ≡ end_of own → IsAnswered files form (status_of (end_of own)) → IsAnswered files form (status_of end)
told_as end_of files form end own e is = subst (λ x. IsAnswered files form (status_of x)) (sym e) is

end_answered : {D : Type 0} (clock : ℕ → Bool) (visits : D → Option Visits) (form : Form) (before after : World) (end : End) →
    Runs clock visits (Some form) before.files after.files before.input after.input before.seen after.seen end → IsUndisturbed before after → IsAnswered before.files form (status_of end)
end_answered clock visits (Form.Script roster journal workers) before after end (same, (own, e, runs)) held =
    told_as script_end before.files (Form.Script roster journal workers) end own e (script_answered roster journal workers clock before.files after.files _ _ before.seen.disk after.seen.disk held.files_held held.input_held held.output_held held.disk_held own runs)
end_answered clock visits (Form.Serve roster journal address numbers) before after end (same, (own, e, runs)) held =
    told_as service_end before.files (Form.Serve roster journal address numbers) end own e (service_answered clock visits roster journal address numbers before after held own runs)
end_answered clock visits (Form.Check market proposal) before after end (same, only, (own, e, runs)) held =
    told_as check_end before.files (Form.Check market proposal) end own e (check_answered before.files after.files before.seen.output after.seen.output held.files_held held.output_held market proposal own runs)
end_answered clock visits (Form.Solve market workers) before after end (same, only, (own, e, runs)) held =
    told_as solve_end before.files (Form.Solve market workers) end own e (solve_answered before.files after.files before.seen.output after.seen.output held.files_held held.output_held market workers own runs)
end_answered clock visits (Form.Gen number workers) before after end (same, only, (own, e, runs)) held =
    told_as gen_end before.files (Form.Gen number workers) end own e (gen_answered before.files after.files before.seen.output after.seen.output held.files_held held.output_held number workers own runs)
end_answered clock visits (Form.Replay roster journal) before after end (unread, same, (own, e, runs)) held =
    told_as replay_end before.files (Form.Replay roster journal) end own e (replay_answered before.files after.files before.seen.output after.seen.output held.files_held held.output_held before.seen.disk after.seen.disk held.disk_held roster journal own runs)
end_answered clock visits (Form.Roll roster journal new_roster matured cancel) before after end (unread, same, (own, e, runs)) held =
    told_as roll_end before.files (Form.Roll roster journal new_roster matured cancel) end own e (roll_answered before.files after.files before.seen.output after.seen.output held.files_held held.output_held before.seen.disk after.seen.disk held.disk_held roster journal new_roster matured cancel own runs)
end_answered clock visits (Form.Follow standby) before after end (same, (own, e, runs)) held =
    told_as standby_end before.files (Form.Follow standby) end own e (standby_answered standby before.files after.files _ _ before.seen.disk after.seen.disk held.files_held held.input_held held.output_held held.disk_held own runs)

pub answers_what_it_can : {D : Type 0} (visits : D → Option Visits) → AnswersWhatItCan visits
answers_what_it_can visits clock form before after status ends held =
    status_answered before.files form before.errors after.errors ends.end status ends.tells (end_answered clock visits form before after ends.end ends.runs held)
