use Rattle.std.proofs.Common.{◌≡◌, ◌+◌, ℕ, List, [], Some, Ok, length}
use Rattle.csv.specs.Reading.{Reached, Ready, default_config, source_of, strip_bom}
use Rattle.csv.specs.declared.parser.State.TheVariants as st
use Rattle.csv.specs.declared.reader.Trim.TheVariants as trim
use Rattle.trade_file.specs.TradeFile.{with_trade_records}
use Rattle.trade_file.specs.TradeDraft.{IsTradeDraft, trades_of_draft}
use Rattle.trade_file.proofs.trades.read_records.Given as goal

abbrev pub invariant-loop-number : goal.invariant-loop-number
invariant-loop-number l = (l.reader.trim ≡ trim.None) × Ready l.reader × (l.reader.config ≡ default_config)
    × (y : List ℕ) × (source_of (λ s. Some s.now) l.reader ≡ Some y)
    × (front : List (List (List ℕ))) × Reached default_config st.StartRecord (strip_bom l.fn.bytes) front l.reader.state y
    × IsTradeDraft l.draft × (with_trade_records l.fn.roster 1 [] front ≡ Ok (trades_of_draft l.draft)) × (l.number ≡ length front + 1)
