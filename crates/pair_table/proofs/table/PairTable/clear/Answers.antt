use Rattle.std.proofs.Common.{◌∙◌, List, ℕ, subst}
use Rattle.std.proofs.lemmas.List.{with_items_is}
use Rattle.pair_table.specs.Buyers.{IsCleared}
use Rattle.pair_table.proofs.Cleared.{gross_cleared, table_cleared}
use Rattle.pair_table.proofs.table.PairTable.clear.Goals as goal

pub invariant_of-self : goal.invariant_of-self
invariant_of-self c =
    let sums = with_items_is c.self.inside.sums c.clear_all.new.sums (c.clear_all.auto.sums ∙ c.deref_mut.ensures.len) in
    let buyers = with_items_is c.self.inside.buyers c.clear_all.new.buyers (c.clear_all.auto.buyers ∙ c.deref_mut-2.ensures.len) in
    let cleared : IsCleared c.self.inside.members 0 c.self.inside.members c.self.inside.sums.items c.clear_all.new.sums =
    subst (λ (xs : List ℕ). IsCleared c.self.inside.members 0 c.self.inside.members xs c.clear_all.new.sums) c.deref_mut.ensures.value c.clear_all.ensures.sums in
    rw (sums, buyers) (table_cleared c.self.inside.members c.self.inside.sums.items c.clear_all.new.sums c.self.invariant.0 cleared, c.clear_all.ensures.buyers)

pub returns-clause-gross : goal.returns-clause-gross
returns-clause-gross c =
    let sums = with_items_is c.self.inside.sums c.clear_all.new.sums (c.clear_all.auto.sums ∙ c.deref_mut.ensures.len) in
    let cleared : IsCleared c.self.inside.members 0 c.self.inside.members c.self.inside.sums.items c.clear_all.new.sums =
    subst (λ (xs : List ℕ). IsCleared c.self.inside.members 0 c.self.inside.members xs c.clear_all.new.sums) c.deref_mut.ensures.value c.clear_all.ensures.sums in
    rw sums (gross_cleared c.self.inside.members c.self.inside.sums.items c.clear_all.new.sums c.self.invariant.0 cleared)
