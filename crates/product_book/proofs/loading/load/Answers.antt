use Rattle.std.proofs.Common.{◌≡◌, ◌+◌, ◌≤◌, ◌<◌, ◌∙◌, ◌∷◌, ◌++◌, [], List, ℕ, length, take, arith, ap, sym, subst}
use Rattle.command_types.specs.declared.trade.TradeRow.{TradeRow}
use Rattle.command_types.specs.Trades.{counts}
use Rattle.product_book.specs.declared.links.Links.{Links}
use Rattle.product_book.specs.Execution.{IsRunning}
use Rattle.product_book.specs.Kept.{trade_place, CanEnter, IsEntered}
use Rattle.product_book.specs.Links.{IsPushed}
use Rattle.product_book.proofs.LinkedFacts.{entered_pair, not_counted, still_counted}
use Rattle.product_book.proofs.LoadingFacts.{next_trade, take_push, within_next, enters, running_open, running_ended}
use Rattle.product_book.proofs.loading.load.Goals as goal
use Rattle.product_book.proofs.loading.load.Goals.{then-has_ended, else-has_ended}

pub enter-requires : goal.enter-requires
enter-requires c =
    let m = c.args.sums.now.members in
    let n = length c.args.links.now.by_product.lists in
    let rows = c.args.rows.now in
    let row = c.row-item.result in
    let front = take c.loop-row.row-index rows in
    let loop = c.loop-row.invariant in
    let links = c.loop-row.links in
    let lt = c.loop-row-test.true in
    let is = next_trade m n rows c.loop-row.row-index row c.requires.trades lt c.row-item.is in
    subst (λ (k : ℕ). CanEnter k c.loop-row.sums row) (sym loop.members)
    (enters m n c.loop-row.sums links.by_product links.by_pair links.spare front row loop.running is (within_next rows c.loop-row.row-index row lt c.row-item.is c.requires.bounded))

pub enter-requires-in-loop-row-clause-few : goal.enter-requires-in-loop-row-clause-few
enter-requires-in-loop-row-clause-few c =
    let m = c.args.sums.now.members in
    let n = length c.args.links.now.by_product.lists in
    let loop = c.loop-row.invariant in
    let is = next_trade m n c.args.rows.now c.loop-row.row-index c.row-item.result c.requires.trades c.loop-row-test.true c.row-item.is in
    omega (arith, is.product, loop.running.few_products)

pub enter-requires-in-loop-row-clause-seller : goal.enter-requires-in-loop-row-clause-seller
enter-requires-in-loop-row-clause-seller c =
    let m = c.args.sums.now.members in
    let n = length c.args.links.now.by_product.lists in
    let loop = c.loop-row.invariant in
    let is = next_trade m n c.args.rows.now c.loop-row.row-index c.row-item.result c.requires.trades c.loop-row-test.true c.row-item.is in
    omega (arith, is.seller, c.enter.ensures.members_is, loop.members)

pub enter-requires-in-loop-row-clause-buyer : goal.enter-requires-in-loop-row-clause-buyer
enter-requires-in-loop-row-clause-buyer c =
    let m = c.args.sums.now.members in
    let n = length c.args.links.now.by_product.lists in
    let loop = c.loop-row.invariant in
    let is = next_trade m n c.args.rows.now c.loop-row.row-index c.row-item.result c.requires.trades c.loop-row-test.true c.row-item.is in
    omega (arith, is.buyer, c.enter.ensures.members_is, loop.members)

pub enter-requires-in-loop-row-clause-product : goal.enter-requires-in-loop-row-clause-product
enter-requires-in-loop-row-clause-product c =
    let m = c.args.sums.now.members in
    let n = length c.args.links.now.by_product.lists in
    let loop = c.loop-row.invariant in
    let is = next_trade m n c.args.rows.now c.loop-row.row-index c.row-item.result c.requires.trades c.loop-row-test.true c.row-item.is in
    omega (arith, is.product, loop.running.linked.product_count)

pub enter-requires-in-loop-row-clause-place : goal.enter-requires-in-loop-row-clause-place
enter-requires-in-loop-row-clause-place c =
    let m = c.args.sums.now.members in
    let n = length c.args.links.now.by_product.lists in
    let rows = c.args.rows.now in
    let row = c.row-item.result in
    let front = take c.loop-row.row-index rows in
    let loop = c.loop-row.invariant in
    let links = c.loop-row.links in
    let lt = c.loop-row-test.true in
    let is = next_trade m n rows c.loop-row.row-index row c.requires.trades lt c.row-item.is in
    subst (λ (k : ℕ). trade_place k row < length links.by_pair.lists) (sym (c.enter.ensures.members_is ∙ loop.members))
    (entered_pair m n links.by_product links.by_pair links.spare front loop.running.linked (length front + 1) row is)

pub leave-requires-clause-some : goal.leave-requires-clause-some
leave-requires-clause-some c =
    let m = c.args.sums.now.members in
    let n = length c.args.links.now.by_product.lists in
    let loop = c.loop-row.invariant in
    let is = next_trade m n c.args.rows.now c.loop-row.row-index c.row-item.result c.requires.trades c.loop-row-test.true c.row-item.is in
    let number = is.number in
    omega (arith, number)

pub leave-requires-clause-product : goal.leave-requires-clause-product
leave-requires-clause-product c =
    let m = c.args.sums.now.members in
    let n = length c.args.links.now.by_product.lists in
    let loop = c.loop-row.invariant in
    let is = next_trade m n c.args.rows.now c.loop-row.row-index c.row-item.result c.requires.trades c.loop-row-test.true c.row-item.is in
    let number = is.number in
    omega (arith, number, c.enter-in-loop-row.ensures.products.count, loop.running.linked.of_products.count)

pub leave-requires-clause-pair : goal.leave-requires-clause-pair
leave-requires-clause-pair c =
    let m = c.args.sums.now.members in
    let n = length c.args.links.now.by_product.lists in
    let loop = c.loop-row.invariant in
    let is = next_trade m n c.args.rows.now c.loop-row.row-index c.row-item.result c.requires.trades c.loop-row-test.true c.row-item.is in
    let number = is.number in
    omega (arith, number, c.enter-in-loop-row.ensures.pairs.count, loop.running.linked.of_pairs.count)

pub loop-row-preserved : goal.loop-row-preserved
loop-row-preserved c =
    let m = c.args.sums.now.members in
    let n = length c.args.links.now.by_product.lists in
    let rows = c.args.rows.now in
    let row = c.row-item.result in
    let front = take c.loop-row.row-index rows in
    let loop = c.loop-row.invariant in
    let links = c.loop-row.links in
    let lt = c.loop-row-test.true in
    let is = next_trade m n rows c.loop-row.row-index row c.requires.trades lt c.row-item.is in
    let sums = c.enter.new.self in
    let after = c.enter-in-loop-row.new.self in
    let more = c.enter-in-loop-row.ensures in
    let members = c.enter.ensures.members_is ∙ loop.members in
    let entered : IsEntered m c.loop-row.sums sums row = subst (λ (k : ℕ). IsEntered k c.loop-row.sums sums row) loop.members c.enter.ensures in
    let second : IsPushed links.by_pair after.by_pair (trade_place m row) = subst (λ (k : ℕ). IsPushed links.by_pair after.by_pair (trade_place k row)) members more.pairs in
    let some : 1 ≤ links.spare = omega (arith, loop.spare, lt, c.requires.spare) in
    let long : take (c.loop-row.row-index + 1) rows ≡ front ++ row ∷ [] = take_push rows c.loop-row.row-index row lt c.row-item.is in
    let spare : after.spare + (c.loop-row.row-index + 1) ≡ c.args.links.now.spare = omega (arith, more.spare, some, loop.spare) in
    let Kept : Links → List TradeRow → Type 0 = λ l list. IsRunning m n sums l.by_product l.by_pair l.spare list in
    elim c.if-has_ended.branch [
      | then-has_ended w ↦
          let left = w.leave.new.self in
          let out = running_ended m n c.loop-row.sums links.by_product links.by_pair links.spare front row loop.running is sums after.by_product after.by_pair after.spare entered more.products second some more.spare
          left.by_product left.by_pair left.spare w.leave.ensures.products w.leave.ensures.pairs w.leave.ensures.spare
          (not_counted (counts row.state) w.if-has_ended.ensures) in
          record {
            members = members;
            spare = ap (λ (l : Links). l.spare + (c.loop-row.row-index + 1)) w.links-is ∙ ap (λ (k : ℕ). k + (c.loop-row.row-index + 1)) w.leave.ensures.spare ∙ spare;
            running = subst (λ (l : Links). Kept l (take (c.loop-row.row-index + 1) rows)) (sym w.links-is) (subst (Kept left) (sym long) out);
          }
      | else-has_ended w ↦
          let out = running_open m n c.loop-row.sums links.by_product links.by_pair links.spare front row loop.running is sums after.by_product after.by_pair after.spare entered more.products second some more.spare
          (still_counted (counts row.state) w.if-has_ended.ensures) in
          record {
            members = members;
            spare = ap (λ (l : Links). l.spare + (c.loop-row.row-index + 1)) w.links-is ∙ spare;
            running = subst (λ (l : Links). Kept l (take (c.loop-row.row-index + 1) rows)) (sym w.links-is) (subst (Kept after) (sym long) out);
          }
    ]
