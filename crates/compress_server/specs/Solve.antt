-- What is written of a market that is solved.
use Rattle.std.specs.Prelude.{◌≡◌, ℕ, List, Option}
use Rattle.outside.specs.Faults.{Rose}
use Rattle.outside.specs.Files.{Folder}
use Rattle.outside.specs.Flow.{Takes, TakesFront}
use Rattle.command_types.specs.Roster.{Rows, IsRoster}
use Rattle.trade_file.specs.declared.file_trade.FileTrade.{FileTrade}
use Rattle.file_market.specs.Solve.{IsSolvedText}
use Rattle.program_words.specs.Words.{Market}
use Rattle.compress_server.specs.declared.ending.End.{End}
use Rattle.compress_server.specs.declared.ending.End.TheVariants as ends
use Rattle.compress_server.specs.declared.solve.SolveEnd.{SolveEnd}
use Rattle.compress_server.specs.declared.solve.SolveEnd.TheVariants.{Done, Unloaded, SinkFault, Memory}
use Rattle.compress_server.specs.Files.{FilesState, SaysMarket, IsMarketUnread}
use Rattle.compress_server.specs.Seen.{OutputState}
use Rattle.compress_server.specs.Statuses.{load_end}

-- the end of the call
abbrev pub solve_end : SolveEnd → End
solve_end Done = ends.Done
solve_end (Unloaded fault) = load_end fault
solve_end SinkFault = ends.SinkFault
solve_end Memory = ends.Memory

-- the text is a proposal of certified solutions for what the two files say
pub record IsProposal (folder : Option Folder) (market : Market) (text : List ℕ) : Type 0 where
  pub rows : Rows
  pub trades : List FileTrade
  pub says_market : SaysMarket folder market rows trades
  pub roster : IsRoster rows
  pub solved : IsSolvedText rows market.mode trades text

-- the whole proposal was written
abbrev pub Proposes : Option Folder → Option (List ℕ) → Option (List ℕ) → Market → Type 0
Proposes folder begun taken market = (text : List ℕ) × IsProposal folder market text × Takes begun taken text

-- a front of a proposal was written
abbrev pub ProposesFront : Option Folder → Option (List ℕ) → Option (List ℕ) → Market → Type 0
ProposesFront folder begun taken market = (text : List ℕ) × IsProposal folder market text × TakesFront begun taken text

-- by the end of a solve
module _ (market : Market) (files files' : FilesState) (output output' : OutputState) where
  abbrev pub SolveRuns : SolveEnd → Type 0
  SolveRuns Done = Proposes files.folder output.taken output'.taken market
  SolveRuns (Unloaded fault) = (output' ≡ output) × IsMarketUnread files files' market fault
  SolveRuns SinkFault = ProposesFront files.folder output.taken output'.taken market × Rose output.faults output'.faults
  SolveRuns Memory = output' ≡ output
