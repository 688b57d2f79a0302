use Rattle.std.proofs.Common.{length, take}
use Rattle.trade_file.proofs.TableFacts.{HoldsSums}
use Rattle.trade_file.proofs.trade_networks.network_of.Given as goal

abbrev pub invariant-loop-trade : goal.invariant-loop-trade
invariant-loop-trade l = HoldsSums (length l.fn.roster.members) l.product (take l.trade-index l.trades) l.table
