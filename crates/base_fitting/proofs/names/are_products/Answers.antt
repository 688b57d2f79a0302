use Rattle.std.proofs.Common.{rules, ◌≡◌, false, true, arith}
use Rattle.std.proofs.lemmas.Bool.{false≢true}
use Rattle.std.specs.Str.{bytes_eq}
use Rattle.command_types.specs.declared.roster.ProductRow.{ProductRow}
use Rattle.base_fitting.proofs.NameFacts.{not_same, same_more}
use Rattle.base_fitting.proofs.names.are_products.Goals as goal

pub returns-then-not-is : goal.returns-then-not-is
returns-then-not-is c =
    let other : bytes_eq c.index-names-i.result c.index-rows-i.result.name ≡ false = search rules in (
      λ yes. absurd (false≢true yes),
      λ all. absurd (not_same (λ (row : ProductRow). row.name) c.args.names.now c.args.rows.now c.loop-i.i c.index-names-i.result c.index-rows-i.result (omega arith) c.index-names-i.is c.index-rows-i.is other all),
    )

pub loop-i-preserved : goal.loop-i-preserved
loop-i-preserved c =
    let same : bytes_eq c.index-names-i.result c.index-rows-i.result.name ≡ true = search rules in
    same_more (λ (row : ProductRow). row.name) c.args.names.now c.args.rows.now c.loop-i.i c.index-names-i.result c.index-rows-i.result (omega arith) (omega arith) c.index-names-i.is c.index-rows-i.is same c.loop-i.invariant
