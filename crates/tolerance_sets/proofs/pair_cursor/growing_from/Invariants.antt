use Rattle.std.proofs.Common.{◌≡◌, ℕ, ◌<◌, ◌≤◌, false}
use Rattle.command_types.specs.Tolerances.{may_grow}
use Rattle.tolerance_sets.proofs.pair_cursor.growing_from.Given as goal

abbrev pub invariant-loop-buyer : goal.invariant-loop-buyer
invariant-loop-buyer l =
    (buyer : ℕ) → l.from ≤ buyer → buyer < l.buyer → may_grow l.market.mode l.market.members.now l.seller buyer ≡ false
