use Rattle.std.proofs.Common.{refl, rules, arith}
use Rattle.trade_history.specs.Examples.{three_dealers}
use Rattle.cycle_laws.specs.Histories.{IsMarketHistory}
use Rattle.cycle_laws.specs.Examples.{chain_in_hybrid}
use Rattle.cycle_laws.proofs.Market.{empty_begins_markets, folds_begin_markets}
use Rattle.book_tests.proofs.laws.the_laws_have_a_history.Goals as goal

market : IsMarketHistory three_dealers chain_in_hybrid
market = record { base = empty_begins_markets three_dealers (omega arith) (omega arith); legal = search rules }

pub returns-clause-first : goal.returns-clause-first
returns-clause-first c = market

pub returns-clause-later : goal.returns-clause-later
returns-clause-later c = folds_begin_markets three_dealers chain_in_hybrid market refl
