-- What a check of a proposal tells.
use Rattle.std.specs.Prelude.{◌≡◌, ℕ, List, [], ◌∷◌, Option, Some, None}
use Rattle.outside.specs.Faults.{Rose}
use Rattle.outside.specs.Files.{Folder}
use Rattle.outside.specs.Flow.{Takes, TakesFront}
use Rattle.command_types.specs.Roster.{Rows, IsRoster}
use Rattle.trade_file.specs.declared.file_trade.FileTrade.{FileTrade}
use Rattle.trade_file.specs.TradeFile.{AreFileTrades}
use Rattle.dual_certificate.specs.declared.proposal_part.ProposalPart.{ProposalPart}
use Rattle.dual_certificate.specs.Parts.{AreParts}
use Rattle.file_market.specs.declared.failing.Failing.{Failing}
use Rattle.file_market.specs.Check.{IsChecked}
use Rattle.file_market.specs.Verdict.{verdict_text}
use Rattle.program_words.specs.Words.{Market}
use Rattle.compress_server.specs.declared.check.CheckEnd.{CheckEnd}
use Rattle.compress_server.specs.declared.check.CheckEnd.TheVariants.{Yes, No, Unloaded, SinkFault, Memory}
use Rattle.compress_server.specs.declared.ending.End.{End}
use Rattle.compress_server.specs.declared.ending.End.TheVariants as ends
use Rattle.compress_server.specs.Files.{FilesState, SaysMarket, SaysProposal, IsCheckUnread}
use Rattle.compress_server.specs.Seen.{OutputState}
use Rattle.compress_server.specs.Statuses.{load_end}

-- the end of the call
abbrev pub check_end : CheckEnd → End
check_end Yes = ends.Done
check_end No = ends.No
check_end (Unloaded fault) = load_end fault
check_end SinkFault = ends.SinkFault
check_end Memory = ends.Memory

-- the status beside 0, 3 and 9 that may come where nothing outside fails: a bad proposal
abbrev pub check_statuses : List ℕ
check_statuses = 1 ∷ []

-- a check of what the three files say finds this, and the text tells it
pub record IsVerdict (folder : Option Folder) (market : Market) (proposal : List ℕ) (found : Option Failing) (text : List ℕ) : Type 0 where
  pub rows : Rows
  pub trades : List FileTrade
  pub parts : List ProposalPart
  pub says_market : SaysMarket folder market rows trades
  pub says_proposal : SaysProposal folder proposal rows parts
  pub roster : IsRoster rows
  pub good_trades : AreFileTrades rows trades
  pub good_parts : AreParts rows parts
  pub checked : IsChecked rows market.mode trades parts found
  pub told : text ≡ verdict_text rows found

-- every product passes, and the line that says so was written
abbrev pub SaysYes : Option Folder → Option (List ℕ) → Option (List ℕ) → Market → List ℕ → Type 0
SaysYes folder begun taken market proposal =
    (text : List ℕ) × IsVerdict folder market proposal None text × Takes begun taken text

-- a product fails, and the line that tells the first one and why was written
abbrev pub SaysNo : Option Folder → Option (List ℕ) → Option (List ℕ) → Market → List ℕ → Type 0
SaysNo folder begun taken market proposal =
    (failing : Failing) × (text : List ℕ) × IsVerdict folder market proposal (Some failing) text × Takes begun taken text

-- a front of the line that tells the verdict was written
abbrev pub SaysFront : Option Folder → Option (List ℕ) → Option (List ℕ) → Market → List ℕ → Type 0
SaysFront folder begun taken market proposal =
    (found : Option Failing) × (text : List ℕ) × IsVerdict folder market proposal found text × TakesFront begun taken text

-- by the end of a check
module _ (market : Market) (proposal : List ℕ) (files files' : FilesState) (output output' : OutputState) where
  abbrev pub CheckRuns : CheckEnd → Type 0
  CheckRuns Yes = SaysYes files.folder output.taken output'.taken market proposal
  CheckRuns No = SaysNo files.folder output.taken output'.taken market proposal
  CheckRuns (Unloaded fault) = (output' ≡ output) × IsCheckUnread files files' market proposal fault
  CheckRuns SinkFault = SaysFront files.folder output.taken output'.taken market proposal × Rose output.faults output'.faults
  CheckRuns Memory = output' ≡ output
