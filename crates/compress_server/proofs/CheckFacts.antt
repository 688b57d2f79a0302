-- What a check says of what was read.
use Rattle.std.proofs.Common.{◌≡◌, ℕ, List, Option, Ok, subst}
use Rattle.outside.specs.Files.{Folder}
use Rattle.command_types.specs.Roster.{Rows, IsRoster}
use Rattle.trade_file.specs.declared.file_trade.FileTrade.{FileTrade}
use Rattle.trade_file.specs.TradeFile.{trade_file, AreFileTrades}
use Rattle.dual_certificate.specs.declared.proposal_part.ProposalPart.{ProposalPart}
use Rattle.dual_certificate.specs.Parts.{AreParts}
use Rattle.file_market.specs.declared.failing.Failing.{Failing}
use Rattle.file_market.specs.Check.{IsChecked}
use Rattle.file_market.specs.Verdict.{verdict_text}
use Rattle.program_words.specs.Words.{Market}
use Rattle.compress_server.specs.Check.{IsVerdict}
use Rattle.compress_server.specs.Files.{SaysRoster, SaysMarket, SaysProposal, Reads}

module _ (folder : Option Folder) (market : Market) (rows : Rows) (trades : List FileTrade) (says : SaysRoster folder market.roster rows) where
  -- both files of the market were read
  pub says_both : (later : Option Folder) → later ≡ folder → Reads later market.trades (trade_file rows) (Ok trades) → SaysMarket folder market rows trades
  says_both later same reads = record { says_roster = says; says_trades = subst (λ f. Reads f market.trades (trade_file rows) (Ok trades)) same reads }

module _ (folder : Option Folder) (market : Market) (proposal : List ℕ) (rows : Rows) (trades : List FileTrade) (parts : List ProposalPart) (found : Option Failing) (text : List ℕ)
    (says : SaysMarket folder market rows trades) (says_parts : SaysProposal folder proposal rows parts) (are : IsRoster rows) (good : AreFileTrades rows trades) (good_parts : AreParts rows parts)
    (checked : IsChecked rows market.mode trades parts found) (told : text ≡ verdict_text rows found) where
  pub verdict : IsVerdict folder market proposal found text
  verdict = record {
    rows = rows;
    trades = trades;
    parts = parts;
    says_market = says;
    says_proposal = says_parts;
    roster = are;
    good_trades = good;
    good_parts = good_parts;
    checked = checked;
    told = told;
  }
