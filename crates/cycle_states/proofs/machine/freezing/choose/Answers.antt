use Rattle.std.proofs.Common.{◌≡◌, ◌<◌, false, length, arith}
use Rattle.std.proofs.lemmas.List.{ext_get_or, length-map}
use Rattle.product_book.specs.Freezes.{chosen_by}
use Rattle.units_core.specs.Day.{is_before}
use Rattle.cycle_states.proofs.LoopFacts.{flag_step}
use Rattle.cycle_states.proofs.machine.freezing.choose.Goals as goal

pub loop-place-preserved : goal.loop-place-preserved
loop-place-preserved c =
    let fits : c.loop-place.place < length c.loop-place.flags = omega (arith, c.requires, c.loop-place.auto.flags, c.loop-place-test.true) in
    flag_step c.args.products.now c.args.day c.loop-place.flags c.loop-place.place c.index-products-place.result c.comes_before.result fits c.loop-place-test.true c.index-products-place.is c.comes_before.ensures c.loop-place.invariant

pub returns : goal.returns
returns c =
    let size = length-map c.args.products.now (λ row. is_before c.args.day row.maturity) in
    let all : length c.loop-place.flags ≡ length (chosen_by c.args.products.now c.args.day) = omega (arith, size, c.requires, c.loop-place.auto.flags) in
    ext_get_or false c.loop-place.flags (chosen_by c.args.products.now c.args.day) all
    (λ k l. c.loop-place.invariant k (omega (arith, l, c.requires, c.loop-place.auto.flags, c.loop-place-test.false)))
