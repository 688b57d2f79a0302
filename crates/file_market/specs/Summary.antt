-- What the compression of a market comes to.
use Rattle.std.specs.Prelude.{◌≡◌, ℕ, List}
use Rattle.network_laws.specs.Networks.{NetworkData}
use Rattle.network_laws.specs.Solutions.{SolutionData}
use Rattle.command_types.specs.declared.cycle.Mode.{Mode}
use Rattle.command_types.specs.Roster.{Rows}
use Rattle.trade_file.specs.declared.file_trade.FileTrade.{FileTrade}
use Rattle.trade_file.specs.Networks.{AreNetworksOf}
use Rattle.dual_certificate.specs.SummaryText.{summary_text}
use Rattle.file_market.specs.Solve.{AreSolutions}

-- the text is the summary of solutions for the market of the trades
pub record IsSummaryText (rows : Rows) (mode : Mode) (trades : List FileTrade) (text : List ℕ) : Type 0 where
  pub networks : List NetworkData
  pub solutions : List SolutionData
  pub market : AreNetworksOf rows trades networks
  pub solved : AreSolutions rows mode networks solutions
  pub written : text ≡ summary_text rows networks solutions
