-- What the program's files say, and why one could not be had.
use Rattle.std.specs.Prelude.{◌≡◌, ◌⊎◌, ℕ, ◌+◌, List, Option, Result, Ok, Err}
use Rattle.units_core.specs.declared.limits.TheConstants.{MOST_FILE}
use Rattle.outside.specs.Faults.{Rose}
use Rattle.outside.specs.Files.{Folder, IsFront}
use Rattle.outside.specs.declared.files.Files.{Ghosts as FilesTells}
use Rattle.command_types.specs.declared.file_fault.FileFault.{FileFault}
use Rattle.command_types.specs.Roster.{Rows, IsRoster}
use Rattle.trade_file.specs.declared.file_trade.FileTrade.{FileTrade}
use Rattle.trade_file.specs.RosterFile.{roster_file}
use Rattle.trade_file.specs.TradeFile.{trade_file}
use Rattle.dual_certificate.specs.declared.proposal_part.ProposalPart.{ProposalPart}
use Rattle.dual_certificate.specs.Proposal.{proposal_of}
use Rattle.compress_server.specs.declared.load.FileRole.{FileRole}
use Rattle.compress_server.specs.declared.load.FileRole.TheVariants.{Roster, Trades, Proposal, NewRoster}
use Rattle.compress_server.specs.declared.load.LoadFault.{LoadFault}
use Rattle.compress_server.specs.declared.load.LoadFault.TheVariants.{Files, Faulty, Memory}
use Rattle.program_words.specs.Words.{Market}

-- the files, where they tell what they hold, and the count of their faults
pub record FilesState : Type 0 where
  pub folder : Option Folder
  pub faults : ℕ

-- what files tell
abbrev pub files_by : {F : Type 0} → FilesTells F → F → FilesState
files_by tells files = record { folder = tells.folder files; faults = tells.faults files }

-- as many bytes of a file as are read: one more than a file may have
abbrev pub file_front : ℕ
file_front = MOST_FILE + 1

-- the file under this name reads as this
abbrev pub Reads : {A : Type 0} → Option Folder → List ℕ → (List ℕ → Result A FileFault) → Result A FileFault → Type 0
Reads folder name read said = (bytes : List ℕ) × IsFront folder name file_front bytes × (read bytes ≡ said)

-- the file under this name says these rows
abbrev pub SaysRoster : Option Folder → List ℕ → Rows → Type 0
SaysRoster folder name rows = Reads folder name roster_file (Ok rows)

-- the roster's file says rows, which are those of a roster, and of which this holds
abbrev pub OverRoster : Option Folder → List ℕ → (Rows → Type 0) → Type 0
OverRoster folder name P = (rows : Rows) × SaysRoster folder name rows × IsRoster rows × P rows

-- the two files of a market say these rows, and these trades of theirs
pub record SaysMarket (folder : Option Folder) (market : Market) (rows : Rows) (trades : List FileTrade) : Type 0 where
  pub says_roster : SaysRoster folder market.roster rows
  pub says_trades : Reads folder market.trades (trade_file rows) (Ok trades)

-- the file under this name says these parts of a proposal for the rows
abbrev pub SaysProposal : Option Folder → List ℕ → Rows → List ProposalPart → Type 0
SaysProposal folder name rows parts = Reads folder name (proposal_of rows) (Ok parts)

-- from files to files', why the file in this role could not be had: its first fault; or the files failed at it, and their count rose; or there was no memory
abbrev pub IsLoadFault : {A : Type 0} → FilesState → FilesState → List ℕ → FileRole → (List ℕ → Result A FileFault) → LoadFault → Type 0
IsLoadFault files files' name role read (Faulty at fault) = (at ≡ role) × Reads files.folder name read (Err fault)
IsLoadFault files files' name role read (Files at) = (at ≡ role) × Rose files.faults files'.faults
IsLoadFault files files' name role read Memory = Unit {0}

-- why the roster could not be had
abbrev pub IsRosterUnread : FilesState → FilesState → List ℕ → LoadFault → Type 0
IsRosterUnread files files' name = IsLoadFault files files' name Roster roster_file

-- why a market's two files could not be had: the roster, or, behind a good one, the trades
abbrev pub IsMarketUnread : FilesState → FilesState → Market → LoadFault → Type 0
IsMarketUnread files files' market fault =
    IsRosterUnread files files' market.roster fault
    ⊎ ((rows : Rows) × SaysRoster files.folder market.roster rows × IsLoadFault files files' market.trades Trades (trade_file rows) fault)

-- why a market's two files and a proposal could not be had: the market, or, behind a good one, the proposal
abbrev pub IsCheckUnread : FilesState → FilesState → Market → List ℕ → LoadFault → Type 0
IsCheckUnread files files' market proposal fault =
    IsMarketUnread files files' market fault
    ⊎ ((rows : Rows) × (trades : List FileTrade) × SaysMarket files.folder market rows trades × IsLoadFault files files' proposal Proposal (proposal_of rows) fault)

-- why an old and a new roster could not be had: the old one, or, behind a good one, the new one
abbrev pub IsRollUnread : FilesState → FilesState → List ℕ → List ℕ → LoadFault → Type 0
IsRollUnread files files' roster new_roster fault =
    IsRosterUnread files files' roster fault
    ⊎ ((rows : Rows) × SaysRoster files.folder roster rows × IsLoadFault files files' new_roster NewRoster roster_file fault)
