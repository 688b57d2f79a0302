use Rattle.std.proofs.Common.{◌≡◌, ◌∙◌, ◌≤◌, ◌<◌, length, arith, ap, sym}
use Rattle.std.proofs.lemmas.List.{append-nil}
use Rattle.command_types.specs.Cycles.{problems_of}
use Rattle.cycle_states.proofs.LoopFacts.{problems_step, problems_end}
use Rattle.cycle_states.proofs.machine.problems.problems_now.Goals as goal

pub loop-product-preserved : goal.loop-product-preserved
loop-product-preserved c =
    let v = c.args.version.now in
    let all : length c.products.result.now ≡ length v.roster.now.products = ap length c.products.ensures.rows in
    let more : c.loop-product.product < length v.roster.now.products = omega (arith, all, c.loop-product-test.true) in
    problems_step v.roster.now v.book.now.rows v.tolerances.now.taken v.mode c.loop-product.product c.loop-product.problems.items c.push.new.self.items
    (problems_of v.roster.now v.book.now.rows v.tolerances.now.taken v.mode) c.in_ok-problem.problem more c.loop-product.invariant c.in_ok-problem.ensures c.in_ok-push.ensures.items

pub returns : goal.returns
returns c =
    let v = c.args.version.now in
    let all : length c.products.result.now ≡ length v.roster.now.products = ap length c.products.ensures.rows in
    let done : length v.roster.now.products ≤ c.loop-product.product = omega (arith, all, c.loop-product-test.false) in
    sym (append-nil c.loop-product.problems.items)
    ∙ problems_end v.roster.now v.book.now.rows v.tolerances.now.taken v.mode c.loop-product.product c.loop-product.problems.items
    (problems_of v.roster.now v.book.now.rows v.tolerances.now.taken v.mode) done c.loop-product.invariant
