use Rattle.std.proofs.Common.{ap, Option}
use Rattle.command_types.specs.declared.trade.TradeRow.{TradeRow}
use Rattle.command_types.specs.Plans.{is_party_row}
use Rattle.command_types.specs.Trades.{trade_numbered}
use Rattle.acceptance.proofs.PartyFacts.{trade_there, parties_of}
use Rattle.acceptance.proofs.parties.trade_parties.Goals as goal

pub row_at-row-requires : goal.row_at-row-requires
row_at-row-requires c = trade_there 256 (trade_numbered c.args.trades.now c.args.trade) c.requires

pub returns-clause-seller : goal.returns-clause-seller
returns-clause-seller c = (parties_of 256 _ c.row_at-row.result c.row_at-row.ensures c.requires).0

pub returns-clause-buyer : goal.returns-clause-buyer
returns-clause-buyer c = (parties_of 256 _ c.row_at-row.result c.row_at-row.ensures c.requires).1

pub returns-clause-parties : goal.returns-clause-parties
returns-clause-parties c = λ m. ap (λ (o : Option TradeRow). is_party_row o m) c.row_at-row.ensures
