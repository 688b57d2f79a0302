use Rattle.std.proofs.Common.{map}
use Rattle.command_types.specs.declared.roster.ProductRow.{ProductRow}
use Rattle.command_types.proofs.StampFacts.{none_stamped, row_put, rows_put}
use Rattle.command_types.proofs.name_index.NameIndex.of_products.Goals as goal

pub loop-place-init : goal.loop-place-init
loop-place-init c = none_stamped (map (λ row. row.name) c.args.rows.now) c.empty-index.result c.empty-index.ensures

pub loop-place-preserved : goal.loop-place-preserved
loop-place-preserved c =
    row_put (λ (row : ProductRow). row.name) c.args.rows.now c.loop-place.index c.put.new.self c.loop-place.place c.index-rows-place.result
    c.loop-place-test.true c.index-rows-place.is c.put.ensures.named c.put.ensures.put c.loop-place.invariant

pub returns : goal.returns
returns c =
    rows_put (λ (row : ProductRow). row.name) c.args.rows.now c.loop-place.index c.loop-place.place c.loop-place.auto.place-end c.loop-place-test.false c.loop-place.invariant
