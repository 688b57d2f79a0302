use Rattle.std.proofs.Common.{rules, ◌≡◌, ◌*◌, replicate, arith}
use Rattle.pair_table.specs.PairSums.{PairSums}
use Rattle.pair_table.proofs.TableFacts.{sum_in-none, gross_in-none}
use Rattle.pair_table.proofs.Listed.{buyers_none}
use Rattle.pair_table.proofs.table.PairTable.new.Goals as goal

pub invariant_of-result : goal.invariant_of-result
invariant_of-result c =
    let table : PairSums = record { members = c.args.members; sums = c.in_ok-sums.sums.items } in
    let zeros : table.sums ≡ replicate (c.args.members * 256) 0 = search rules in (
      record { few = c.requires; size = search rules; different = λ i. sum_in-none table _ zeros i i; within = omega (arith, gross_in-none table _ zeros) },
      buyers_none c.args.members c.in_ok-sums.sums.items c.in_ok-buyers.buyers.items (sum_in-none table _ zeros) c.in_ok-buyers.ensures.one_each c.in_ok-buyers.ensures.none,
    )

pub returns-clause-gross : goal.returns-clause-gross
returns-clause-gross c =
    gross_in-none (record { members = c.args.members; sums = c.in_ok-sums.sums.items }) (c.args.members * 256) (search rules)
