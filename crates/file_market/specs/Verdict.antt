-- What a check is told to its reader.
use Rattle.std.specs.Prelude.{ℕ, List, ◌++◌, Option, Some, None, codes}
use Rattle.command_types.specs.Roster.{Rows}
use Rattle.command_types.specs.Text.{product_name, clash_text}
use Rattle.file_market.specs.declared.failing.Failure.{Failure}
use Rattle.file_market.specs.declared.failing.Failure.TheVariants.{Clash, Figures}
use Rattle.file_market.specs.declared.failing.Failing.{Failing}

abbrev pub failure_text : Rows → Failure → List ℕ
failure_text rows (Clash clash) = clash_text rows clash
failure_text rows Figures = codes "figures"

-- `yes`, or the product that fails and why
abbrev pub verdict_text : Rows → Option Failing → List ℕ
verdict_text rows None = codes "yes\n"
verdict_text rows (Some found) =
    codes "no " ++ product_name rows found.product ++ codes " " ++ failure_text rows found.failure ++ codes "\n"
