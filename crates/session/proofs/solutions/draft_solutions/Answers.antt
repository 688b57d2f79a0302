use Rattle.std.proofs.Common.{◌∙◌, ◌<◌, ◌++◌, ◌∷◌, [], length, sym, ap, arith}
use Rattle.command_types.specs.Session.{solutions_for}
use Rattle.session.specs.KeptDraft.{draft_of}
use Rattle.session.proofs.SolutionFacts.{solutions_step, solutions_end}
use Rattle.session.proofs.solutions.draft_solutions.Goals as goal

pub loop-product-preserved : goal.loop-product-preserved
loop-product-preserved c =
    let k = c.loop-product.product-index in
    let within : k < length c.products-product-items.result.now = omega arith in
    solutions_step c.args.roster.now.members (draft_of c.args.draft.now) k c.products-product-items.result.now c.product-item.result c.loop-product.solutions.items c.push.new.self.items _ within (sym c.product-item.is)
    (c.in_ok-push.ensures.items ∙ ap (λ s. c.loop-product.solutions.items ++ s ∷ []) c.in_ok-product_solution.ensures) c.loop-product.invariant

pub returns : goal.returns
returns c =
    c.new.ensures ∙ solutions_end c.args.roster.now.members (draft_of c.args.draft.now) c.loop-product.product-index c.products-product-items.result.now c.loop-product.solutions.items _ c.loop-product-test.false c.loop-product.invariant
    ∙ ap (λ products. solutions_for c.args.roster.now.members (draft_of c.args.draft.now) products) c.products-product-items.ensures.rows
