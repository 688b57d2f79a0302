use Rattle.std.proofs.Common.{◌+◌, ap, sym, ◌∙◌, arith}
use Rattle.pair_table.specs.PairSums.{PairSums}
use Rattle.pair_table.proofs.Listed.{buyers_put}
use Rattle.pair_table.proofs.TableFacts.{sum_within, gross_added, table_added}
use Rattle.pair_table.proofs.table.PairTable.add.Goals as goal

pub overflow_add-index_mut : goal.overflow_add-index_mut
overflow_add-index_mut c =
    omega (arith, sum_within _ _ c.index.result c.index-2.result c.index_mut.result.now c.args.amount c.self.invariant.0 c.self.view_is (omega arith) (omega arith) c.index_mut.ensures.value)

pub invariant_of-self : goal.invariant_of-self
invariant_of-self c =
    let members = ap (λ (table : PairSums). table.members) c.self.view_is in (
      table_added _ _ c.index.result c.index-2.result c.index_mut.result.now c.args.amount c.self.invariant.0 c.self.view_is (omega arith) (omega arith) c.index_mut.ensures.value (λ e. c.requires.different (omega arith)) c.requires.bound,
      buyers_put c.self.inside.members c.self.inside.sums.items c.self.inside.buyers.items c.index.result c.index-2.result (c.index_mut.result.now + c.args.amount) c.index-3.result c.buyer.inside.0 c.index_mut-2.result.now c.put.new.self c.self.invariant.0.few (omega (arith, members)) (omega (arith, members)) c.self.invariant.1 (omega arith) (c.buyer.view_is ∙ sym c.index-2.ensures) c.index_mut-2.ensures.value c.put.ensures,
    )

pub returns-clause-gross : goal.returns-clause-gross
returns-clause-gross c =
    gross_added _ _ c.index.result c.index-2.result c.index_mut.result.now c.args.amount c.self.invariant.0 c.self.view_is (omega arith) (omega arith) c.index_mut.ensures.value
