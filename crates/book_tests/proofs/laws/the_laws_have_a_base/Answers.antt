use Rattle.std.proofs.Common.{◌≡◌, refl, rules, arith, All, IsTrue}
use Rattle.std.proofs.lemmas.List.Sums.{AllPass-from_list_all}
use Rattle.units_core.specs.Number.{is_amount}
use Rattle.command_types.specs.declared.trade.TradeRow.{TradeRow}
use Rattle.command_types.specs.Folds.{folded}
use Rattle.trade_history.specs.Examples.{three_dealers}
use Rattle.cycle_laws.specs.Bases.{IsWritable}
use Rattle.cycle_laws.specs.Examples.{chain_in_hybrid}
use Rattle.cycle_laws.proofs.Bases.{empty_is_writable, folds_are_writable, writable_comes_back, writable_fits}
use Rattle.cycle_laws.proofs.Written.{writable_can_be_written}
use Rattle.book_tests.proofs.laws.the_laws_have_a_base.Goals as goal

behind : IsWritable three_dealers (folded chain_in_hybrid).base.state
behind = folds_are_writable three_dealers chain_in_hybrid (empty_is_writable three_dealers (omega arith) (omega arith)) (search rules) refl

amounts : All (λ row. IsTrue (is_amount row.amount)) (folded chain_in_hybrid).base.state.trades
amounts = AllPass-from_list_all (λ (row : TradeRow). is_amount row.amount) (folded chain_in_hybrid).base.state.trades refl

pub returns-clause-writable : goal.returns-clause-writable
returns-clause-writable c = behind

pub returns-clause-written : goal.returns-clause-written
returns-clause-written c = writable_can_be_written three_dealers (folded chain_in_hybrid).base behind

pub returns-clause-fits : goal.returns-clause-fits
returns-clause-fits c = writable_fits three_dealers (folded chain_in_hybrid).base behind (omega arith) (omega arith) (omega arith) amounts

pub returns-clause-back : goal.returns-clause-back
returns-clause-back c = writable_comes_back three_dealers (folded chain_in_hybrid).base behind
