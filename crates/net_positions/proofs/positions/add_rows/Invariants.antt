use Rattle.std.proofs.Common.{◌≡◌, take}
use Rattle.network_laws.specs.Networks.{total}
use Rattle.net_positions.specs.Tables.{AreTotals}
use Rattle.net_positions.proofs.positions.add_rows.Given as goal

abbrev pub invariant-loop-row : goal.invariant-loop-row
invariant-loop-row l =
    (l.gross ≡ total (take l.row-index l.rows)) × AreTotals (take l.row-index l.rows) l.sold l.bought
