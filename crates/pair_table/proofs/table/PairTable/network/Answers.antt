use Rattle.std.proofs.Common.{rules, ◌≡◌, ◌∙◌, ap}
use Rattle.std.proofs.lemmas.Bool.{false≢true}
use Rattle.command_types.specs.Books.{network_by}
use Rattle.network_laws.specs.Networks.{NetworkData, at}
use Rattle.pair_table.specs.PairSums.{PairSums, sum_in}
use Rattle.pair_table.proofs.PairNetworks.{at-network_by_within}
use Rattle.pair_table.proofs.PairRows.{IsNetwork-network_by}
use Rattle.pair_table.proofs.table.PairTable.network.Goals as goal

pub unreachable-requires : goal.unreachable-requires
unreachable-requires c =
    let table : PairSums = record { members = c.self.inside.members; sums = c.self.inside.sums.items } in
    let good = IsNetwork-network_by c.self.inside.members (sum_in table) c.self.invariant.0.few c.self.invariant.0.different c.self.invariant.0.within in
    false≢true (c.in-Err.ensures.good.1 (rw (c.in_ok-rows.ensures, c.deref.ensures.value) good))

pub returns-clause-amounts : goal.returns-clause-amounts
returns-clause-amounts c = λ i j in_i in_j.
    let value : c.in-Ok.network ≡ network_by c.args.self.now.members (sum_in c.args.self.now) = search rules in
    ap (λ (network : NetworkData). at network i j) value ∙ at-network_by_within c.args.self.now.members i j (sum_in c.args.self.now) in_i in_j
