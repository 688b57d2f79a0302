-- What is written of a generated market.
use Rattle.std.specs.Prelude.{◌≡◌, ℕ, List, Option}
use Rattle.outside.specs.Faults.{Rose}
use Rattle.outside.specs.Flow.{Takes, TakesFront}
use Rattle.command_types.specs.declared.cycle.Mode.TheVariants.{Hybrid}
use Rattle.trade_file.specs.Generated.{generated_rows, generated_trades}
use Rattle.file_market.specs.Summary.{IsSummaryText}
use Rattle.compress_server.specs.declared.ending.End.{End}
use Rattle.compress_server.specs.declared.ending.End.TheVariants as ends
use Rattle.compress_server.specs.declared.generated.GenEnd.{GenEnd}
use Rattle.compress_server.specs.declared.generated.GenEnd.TheVariants.{Done, SinkFault, Memory}
use Rattle.compress_server.specs.Seen.{OutputState}

-- the end of the call
abbrev pub gen_end : GenEnd → End
gen_end Done = ends.Done
gen_end SinkFault = ends.SinkFault
gen_end Memory = ends.Memory

-- the text is the summary of certified solutions for the market of a number, in the hybrid mode
abbrev pub IsGenerated : ℕ → List ℕ → Type 0
IsGenerated number text = IsSummaryText generated_rows Hybrid (generated_trades number) text

-- the whole summary was written
abbrev pub Summarizes : Option (List ℕ) → Option (List ℕ) → ℕ → Type 0
Summarizes begun taken number = (text : List ℕ) × IsGenerated number text × Takes begun taken text

-- a front of a summary was written
abbrev pub SummarizesFront : Option (List ℕ) → Option (List ℕ) → ℕ → Type 0
SummarizesFront begun taken number = (text : List ℕ) × IsGenerated number text × TakesFront begun taken text

-- by the end of a gen, which reads nothing
module _ (number : ℕ) (output output' : OutputState) where
  abbrev pub GenRuns : GenEnd → Type 0
  GenRuns Done = Summarizes output.taken output'.taken number
  GenRuns SinkFault = SummarizesFront output.taken output'.taken number × Rose output.faults output'.faults
  GenRuns Memory = output' ≡ output
