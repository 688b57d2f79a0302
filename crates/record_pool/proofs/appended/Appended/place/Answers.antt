use Rattle.std.proofs.Common.{◌≡◌, ℕ, ◌+◌, ◌*◌, ◌/◌, ◌<◌, length, sym, ◌∙◌, ap, arith}
use Rattle.record_pool.specs.Appended.{AppendedView}
use Rattle.record_pool.specs.Marks.{place_at}
use Rattle.record_pool.proofs.PlaceFacts.{place_next, place_room, sized}
use Rattle.record_pool.proofs.appended.Appended.place.Goals as goal

pub overflow_add-at : goal.overflow_add-at
overflow_add-at c =
    let records = c.self.inside.marks.records in
    let n = 16 * (c.args.number / 16) + c.loop-before._before in
    let inside : n < length records = omega (arith, ap (λ (v : AppendedView). length v.records) c.self.view_is, c.requires, c.loop-before-test.true) in
    omega (arith, c.loop-before.invariant, place_room records n inside, ap length c.self.invariant.frames, c.self.invariant.few)

pub number-requires : goal.number-requires
number-requires c =
    let records = c.self.inside.marks.records in
    let n = 16 * (c.args.number / 16) + c.loop-before._before in
    let inside : n < length records = omega (arith, ap (λ (v : AppendedView). length v.records) c.self.view_is, c.requires, c.loop-before-test.true) in
    omega (arith, c.loop-before.invariant, place_room records n inside, ap length c.self.invariant.frames)

pub overflow_add-at-in-loop-before-2 : goal.overflow_add-at-in-loop-before-2
overflow_add-at-in-loop-before-2 c =
    let records = c.self.inside.marks.records in
    let n = 16 * (c.args.number / 16) + c.loop-before._before in
    let inside : n < length records = omega (arith, ap (λ (v : AppendedView). length v.records) c.self.view_is, c.requires, c.loop-before-test.true) in
    let size = sized records c.self.inside.pages.bytes n c.loop-before.at c.number.result c.self.invariant.frames c.self.invariant.short inside c.loop-before.invariant (omega arith) c.number.ensures in
    omega (arith, size.1, c.self.invariant.few)

pub loop-before-preserved : goal.loop-before-preserved
loop-before-preserved c =
    let records = c.self.inside.marks.records in
    let n = 16 * (c.args.number / 16) + c.loop-before._before in
    let inside : n < length records = omega (arith, ap (λ (v : AppendedView). length v.records) c.self.view_is, c.requires, c.loop-before-test.true) in
    let size = sized records c.self.inside.pages.bytes n c.loop-before.at c.number.result c.self.invariant.frames c.self.invariant.short inside c.loop-before.invariant (omega arith) c.number.ensures in
    let sum : 16 * (c.args.number / 16) + (c.loop-before._before + 1) ≡ n + 1 = omega arith in
    let here : c.loop-before.at + (5 + c.number.result) ≡ place_at records (n + 1) = omega (arith, c.loop-before.invariant, size.0, place_next records n inside) in
    here ∙ ap (λ (k : ℕ). place_at records k) (sym sum)
