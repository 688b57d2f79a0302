use Rattle.std.proofs.Common.{sym, subst}
use Rattle.command_types.specs.declared.figures.State.{State}
use Rattle.cycle_laws.specs.Bases.{IsWritable}
use Rattle.cycle_laws.proofs.Written.{fitting_is_writable}
use Rattle.house.proofs.recovering.begin.Goals as goal

pub returns-in-Ok-clause-writable : goal.returns-in-Ok-clause-writable
returns-in-Ok-clause-writable c =
    let limits = c.members-members.ensures.roster in
    subst (λ (s : State). IsWritable c.args.roster s) (sym c.in-Ok.ensures.made)
    (fitting_is_writable c.args.roster c.in-Some.found.base limits.few_members limits.few_products (rw c.in-Some.is at c.requires) c.in-Ok.ensures.fits)
