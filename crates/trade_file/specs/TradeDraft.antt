-- What the draft of a trade file keeps.
use Rattle.std.specs.Prelude.{◌≡◌, ◌⊎◌, ℕ, ◌+◌, ◌<◌, ◌≤◌, List, ◌++◌, length, Result, Ok, Err, slice_index}
use Rattle.command_types.specs.declared.file_fault.FileFault.{FileFault}
use Rattle.command_types.specs.declared.file_fault.FileFault.TheVariants.{Memory}
use Rattle.trade_file.specs.declared.file_trade.FileTrade.{FileTrade}
use Rattle.trade_file.specs.declared.trade_draft.TradeDraft.{TradeDraft}
use Rattle.trade_file.specs.TradeFile.{product_total}
use Rattle.units_core.specs.declared.limits.TheConstants.{MOST_FILE_TRADES, MOST_GROSS, MOST_PRODUCTS}

-- the trades of a draft
abbrev pub trades_of_draft : TradeDraft → List FileTrade
trades_of_draft d = d.trades.items

-- the draft knows the sums of its trades, and none passes the most
abbrev pub IsTradeDraft : TradeDraft → Type 0
IsTradeDraft d = (product : ℕ) → product < MOST_PRODUCTS → (slice_index d.totals product ≡ product_total (trades_of_draft d) product) × (slice_index d.totals product ≤ MOST_GROSS)

-- a step from a draft answered this: the trades that are due, or the fault that is due, or want of memory
abbrev pub TradeSteps : Result (List FileTrade) FileFault → TradeDraft → Result Unit FileFault → Type 0
TradeSteps due d (Ok done) = IsTradeDraft d × (due ≡ Ok (trades_of_draft d))
TradeSteps due d (Err fault) = (fault ≡ Memory) ⊎ (due ≡ Err fault)

-- sums of products, none of which passes the most
abbrev pub AreSums : List ℕ → Type 0
AreSums totals = (product : ℕ) → product < MOST_PRODUCTS → slice_index totals product ≤ MOST_GROSS

-- each sum is that of two others
abbrev pub AddUp : List ℕ → List ℕ → List ℕ → Type 0
AddUp front back all = (product : ℕ) → product < MOST_PRODUCTS → slice_index all product ≡ slice_index front product + slice_index back product

-- a draft has the trades of two others, and these are such as a file may have
pub record AreJoined (front back all : TradeDraft) : Type 0 where
  pub draft : IsTradeDraft all
  pub trades : trades_of_draft all ≡ trades_of_draft front ++ trades_of_draft back
  pub few : length (trades_of_draft all) ≤ MOST_FILE_TRADES
