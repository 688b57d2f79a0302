use Rattle.std.proofs.Common.{◌≡◌, ◌++◌, List, map, ◌∙◌, ap, subst, arith, rules}
use Rattle.std.specs.Prelude.{IsPermutation}
use Rattle.std.proofs.lemmas.List.Sorted.{IsNonDecreasingBy-from_sort_by_key}
use Rattle.network_laws.specs.declared.rows.Row.{Row}
use Rattle.network_laws.specs.Networks.{place}
use Rattle.split_parts.specs.Merged.{rows_of, named, IsGoodPart}
use Rattle.split_parts.proofs.Good.{good_read, rows_step, rows_done, inside_rows}
use Rattle.split_parts.proofs.merging.merged_rows.Goals as goal

pub loop-at-init : goal.loop-at-init
loop-at-init c = ap (λ (xs : List Row). xs ++ rows_of c.args.parts.now c.args.solutions.now) c.in_ok-rows.ensures.items

pub add_rows-requires : goal.add_rows-requires
add_rows-requires c =
    let good : IsGoodPart c.requires.good.0 c.index-parts-at.result c.index-solutions-at.result = good_read c.requires.good.0 c.args.parts.now c.args.solutions.now c.loop-at.at c.index-parts-at.result c.index-solutions-at.result c.requires.good.1 c.loop-at-test.true c.index-parts-at.is c.index-solutions-at.is in
    inside_rows c.requires.good.0 c.index-parts-at.result c.index-solutions-at.result c.members.result.now c.rows.result.now good c.network.ensures.solution c.members.ensures (c.rows.ensures.value ∙ ap (λ n. n.rows) c.network.ensures.value)

pub loop-at-preserved : goal.loop-at-preserved
loop-at-preserved c =
    let k = c.loop-at.at in
    let same = c.requires.same in
    let own : c.rows.result.now ≡ c.index-solutions-at.result.network.rows = c.rows.ensures.value ∙ ap (λ n. n.rows) c.network.ensures.value in
    let new = c.in_ok-add_rows.ensures ∙ ap (λ p. c.loop-at.rows.items ++ map (named p) c.rows.result.now) c.members.ensures ∙ ap (λ (xs : List Row). c.loop-at.rows.items ++ map (named c.index-parts-at.result) xs) own in
    rows_step c.args.parts.now c.args.solutions.now k c.index-parts-at.result c.index-solutions-at.result c.loop-at.rows.items c.add_rows.new.rows.items (rows_of c.args.parts.now c.args.solutions.now) c.loop-at-test.true (omega (arith, c.loop-at-test.true)) c.index-parts-at.is c.index-solutions-at.is c.loop-at.invariant new

pub returns-clause-rows : goal.returns-clause-rows
returns-clause-rows c =
    let all = rows_done c.args.parts.now c.args.solutions.now c.loop-at.at c.loop-at.rows.items (rows_of c.args.parts.now c.args.solutions.now) (omega (arith, c.loop-at-test.false)) c.loop-at.invariant in
    subst (λ (xs : List Row). IsPermutation xs c.sort_unstable_by_key.new.self.items) all c.sort_unstable_by_key.ensures.permutation

pub returns-clause-order : goal.returns-clause-order
returns-clause-order c = IsNonDecreasingBy-from_sort_by_key place _ c.sort_unstable_by_key.ensures.sorted (λ a r q k. search rules)
