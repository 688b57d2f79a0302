use Rattle.std.proofs.Common.{◌≡◌, ℕ, ◌≤◌, ◌∙◌, arith, subst}
use Rattle.command_types.specs.Books.{listed_below}
use Rattle.command_types.specs.Plans.{free_rows, pair_plan}
use Rattle.acceptance.specs.Planning.{AreBefore}
use Rattle.acceptance.proofs.PlanFacts.{one_more}
use Rattle.acceptance.proofs.SamePlans.{seller_same}
use Rattle.acceptance.proofs.planning.add_product.Goals as goal

pub loop-seller-preserved : goal.loop-seller-preserved
loop-seller-preserved c =
    let change = c.args.change.now in
    let free = c.args.free.now in
    let seller = c.loop-seller.seller in
    let inv = c.loop-seller.invariant in
    let left = c.from_seller-left.result.now in
    let same_left : (later buyer : ℕ) → seller ≤ later → free_rows left change.product later buyer ≡ free_rows free change.product later buyer = λ later buyer le. c.from_seller-left.ensures.free later buyer le ∙ inv.left later buyer le in
    let same = seller_same left free change.day change.product change.old.now change.new.now seller (λ buyer l. same_left seller buyer (omega arith)) in
    let f = λ (i : ℕ). listed_below change.old.now.members (pair_plan free change.day change.product change.old.now change.new.now i) in
    record {
      steps = one_more seller f c.args.plan.now.items c.loop-seller.plan.items c.add_seller.new.plan.items (listed_below change.old.now.members (pair_plan left change.day change.product change.old.now change.new.now seller)) inv.steps c.in_ok-passed.ensures.steps same;
      sorted = c.from_seller-left.ensures.sorted;
      old = subst (AreBefore change.old.now.rows c.in_ok-passed.passed.old) (omega arith) c.in_ok-passed.ensures.old;
      new = subst (AreBefore change.new.now.rows c.in_ok-passed.passed.new) (omega arith) c.in_ok-passed.ensures.new;
      left = λ later buyer le. same_left later buyer (omega (arith, le));
    }
