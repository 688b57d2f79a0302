use Rattle.std.proofs.Common.{sym, subst, arith}
use Rattle.command_types.specs.declared.figures.State.{State}
use Rattle.cycle_states.specs.Replayed.{base_at, IsSmall}
use Rattle.book_tests.proofs.machine.standing.machine_in.Goals as goal

pub returns : goal.returns
returns c =
    let fits = c.in_ok-machine.ensures.fits in
    subst (λ (s : State). IsSmall (base_at 0 s)) (sym c.in_ok-machine.ensures.made)
    (record { position = omega arith; cycle = fits.cycle; version = fits.version })
