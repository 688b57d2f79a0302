use Rattle.std.proofs.Common.{◌<◌, ◌≤◌, length, ap, arith, ⊎_elim}
use Rattle.std.proofs.lemmas.Bool.{cases_lt}
use Rattle.std.proofs.lemmas.Option.{slice_get_past}
use Rattle.command_types.specs.Tolerances.{is_dealer_row}
use Rattle.tolerance_sets.proofs.limits.dealers_end.Goals as goal

pub returns : goal.returns
returns c k le =
    ⊎_elim (λ (l : k < length c.args.members.now). c.loop-place.invariant k le (omega arith))
    (λ (past : length c.args.members.now ≤ k). ap is_dealer_row (slice_get_past c.args.members.now k past))
    (cases_lt k (length c.args.members.now))
