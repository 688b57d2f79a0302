use Rattle.std.proofs.Common.{ℕ, ◌↔◌, ◌≤◌, IsTrue, subst}
use Rattle.command_types.specs.Trades.{gross_of}
use Rattle.units_core.specs.declared.limits.TheConstants.{MOST_GROSS}
use Rattle.base_fitting.proofs.fitting.is_bounded_for.Goals as goal

pub returns : goal.returns
returns c = subst (λ trades. IsTrue c.is_bounded.result ↔ ((product : ℕ) → gross_of product trades ≤ MOST_GROSS)) c.rows.ensures c.is_bounded.ensures
