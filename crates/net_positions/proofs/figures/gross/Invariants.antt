use Rattle.std.proofs.Common.{◌≡◌, take}
use Rattle.network_laws.specs.Networks.{total}
use Rattle.net_positions.proofs.figures.gross.Given as goal

abbrev pub invariant-loop-row : goal.invariant-loop-row
invariant-loop-row l = l.sum ≡ total (take l.row-index l.network.rows)
