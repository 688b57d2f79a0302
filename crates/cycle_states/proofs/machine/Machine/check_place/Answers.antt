use Rattle.std.proofs.Common.{◌+◌, ◌∷◌, [], slice_get}
use Rattle.std.specs.Prelude.{nat_lt, nat_le}
use Rattle.command_types.specs.declared.refusal.Refusal.TheVariants.{GrossOver, TradesFull}
use Rattle.command_types.specs.Trades.{gross_of, submitted_count}
use Rattle.command_types.specs.Machine.{maturity_refusal}
use Rattle.units_core.specs.declared.limits.TheConstants.{MOST_GROSS, MOST_SUBMITTED}
use Rattle.cycle_states.proofs.RefusalFacts.{stopped}
use Rattle.cycle_states.proofs.machine.Machine.check_place.Goals as goal

pub returns-in-Err : goal.returns-in-Err
returns-in-Err c =
    let s = c.args.self.now.state in
    let row = maturity_refusal (slice_get s.roster.products c.args.product) c.args.terms.now.day in
    stopped row.0 row.1 c.in-Err.refusal
    ((nat_lt MOST_GROSS (gross_of c.args.product s.trades + c.args.terms.now.amount), GrossOver) ∷ (nat_le MOST_SUBMITTED (submitted_count s.trades), TradesFull) ∷ [])
    c.in-Err.ensures
