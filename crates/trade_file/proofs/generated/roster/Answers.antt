use Rattle.std.proofs.Common.{◌≡◌, sym, subst, None}
use Rattle.command_types.specs.Roster.{IsRoster}
use Rattle.trade_file.specs.Generated.{generated_rows}
use Rattle.trade_file.proofs.GeneratedFacts.{is_roster}
use Rattle.trade_file.proofs.generated.roster.Goals as goal

pub new-requires : goal.new-requires
new-requires c =
    let members = c.in_ok-members.ensures in
    let products = c.in_ok-products.ensures in
    let same : generated_rows ≡ record { members = c.in_ok-members.members.items; products = c.in_ok-products.products.items; operator = None } =
    λ i. record { members = sym members i; products = sym products i; operator = None } in
    subst IsRoster same is_roster
