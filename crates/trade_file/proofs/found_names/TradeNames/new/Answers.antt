use Rattle.trade_file.specs.TradeFile.{member_of, product_of}
use Rattle.trade_file.proofs.FoundFacts.{none_known}
use Rattle.trade_file.proofs.found_names.TradeNames.new.Goals as goal

pub returns : goal.returns
returns c = λ rows. record {
  members = none_known (member_of rows) c.new.result c.new.ensures;
  products = none_known (product_of rows) c.new-2.result c.new-2.ensures;
}
