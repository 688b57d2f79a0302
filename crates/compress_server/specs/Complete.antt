-- What is answered where nothing outside fails.
use Rattle.std.specs.Prelude.{◌≡◌, ◌⊎◌, ℕ, Bool, List, [], ◌∷◌, Option, Some}
use Rattle.doors.specs.Visits.{Visits}
use Rattle.outside.specs.Faults.{Rose}
use Rattle.command_types.specs.declared.file_fault.FileFault.{FileFault}
use Rattle.compress_server.specs.declared.load.FileRole.{FileRole}
use Rattle.compress_server.specs.declared.load.LoadFault.{LoadFault}
use Rattle.compress_server.specs.declared.load.LoadFault.TheVariants.{Faulty}
use Rattle.compress_server.specs.Check.{check_statuses}
use Rattle.compress_server.specs.Files.{FilesState, IsRosterUnread, IsMarketUnread, IsCheckUnread, IsRollUnread}
use Rattle.compress_server.specs.Follow.{standby_statuses}
use Rattle.compress_server.specs.Replay.{replay_statuses}
use Rattle.compress_server.specs.Roll.{roll_statuses}
use Rattle.compress_server.specs.Script.{script_statuses}
use Rattle.compress_server.specs.Seen.{World}
use Rattle.compress_server.specs.Serve.{service_statuses}
use Rattle.compress_server.specs.Telling.{Ends}
use Rattle.program_words.specs.Words.{Form}

-- why one of the files that a form reads could not be had
abbrev pub IsFormUnread : FilesState → FilesState → Form → LoadFault → Type 0
IsFormUnread files files' (Form.Script roster journal workers) = IsRosterUnread files files' roster
IsFormUnread files files' (Form.Serve roster journal address numbers) = IsRosterUnread files files' roster
IsFormUnread files files' (Form.Check market proposal) = IsCheckUnread files files' market proposal
IsFormUnread files files' (Form.Solve market workers) = IsMarketUnread files files' market
IsFormUnread files files' (Form.Gen number workers) = λ fault. ⊥
IsFormUnread files files' (Form.Replay roster journal) = IsRosterUnread files files' roster
IsFormUnread files files' (Form.Roll roster journal new_roster matured cancel) = IsRollUnread files files' roster new_roster
IsFormUnread files files' (Form.Follow standby) = IsRosterUnread files files' standby.roster

-- a file of the form has a fault, and those that are read before it have none
abbrev pub HasFault : FilesState → Form → Type 0
HasFault files form = (role : FileRole) × (fault : FileFault) × IsFormUnread files files form (Faulty role fault)

-- no count rose
pub record IsUndisturbed (before after : World) : Type 0 where
  pub files_held : Rose before.files.faults after.files.faults → ⊥
  pub input_held : Rose before.input.faults after.input.faults → ⊥
  pub output_held : Rose before.seen.output.faults after.seen.output.faults → ⊥
  pub disk_held : Rose before.seen.disk.faults after.seen.disk.faults → ⊥
  pub listener_held : Rose before.seen.listener.faults after.seen.listener.faults → ⊥

-- the statuses beside 0, 3 and 9 that may come of a form where nothing outside fails
abbrev pub statuses_of : Form → List ℕ
statuses_of (Form.Script roster journal workers) = script_statuses
statuses_of (Form.Serve roster journal address numbers) = service_statuses
statuses_of (Form.Check market proposal) = check_statuses
statuses_of (Form.Solve market workers) = []
statuses_of (Form.Gen number workers) = []
statuses_of (Form.Replay roster journal) = replay_statuses
statuses_of (Form.Roll roster journal new_roster matured cancel) = roll_statuses
statuses_of (Form.Follow standby) = standby_statuses

abbrev pub IsAmong : List ℕ → ℕ → Type 0
IsAmong [] status = ⊥
IsAmong (own ∷ others) status = (status ≡ own) ⊎ IsAmong others status

-- The work was done; or a file has a fault, or there was no memory; or it ended in one of the form's own ways: a check says no, a journal is damaged, a script is at its limit, a roll is refused, a standby could not go on.
abbrev pub IsAnswered : FilesState → Form → ℕ → Type 0
IsAnswered files form status = (status ≡ 0) ⊎ (((status ≡ 3) × HasFault files form) ⊎ ((status ≡ 9) ⊎ IsAmong (statuses_of form) status))

-- a call whose words are in form, and that nothing outside disturbs, is answered
abbrev pub AnswersWhatItCan : {D : Type 0} → (D → Option Visits) → Type 0
AnswersWhatItCan visits =
    (clock : ℕ → Bool) (form : Form) (before after : World) (status : ℕ) → Ends clock visits (Some form) before after status → IsUndisturbed before after →
    IsAnswered before.files form status
