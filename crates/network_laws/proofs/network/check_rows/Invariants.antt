use Rattle.std.proofs.Common.{◌≡◌, take}
use Rattle.network_laws.specs.Networks.{AreRows, total}
use Rattle.network_laws.proofs.network.check_rows.Given as goal

abbrev pub invariant-loop-at : goal.invariant-loop-at
invariant-loop-at l =
    (l.sum ≡ total (take l.at l.rows)) × AreRows l.members (take l.at l.rows)
