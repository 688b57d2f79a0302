use Rattle.std.proofs.Common.{◌≡◌, ◌+◌, length, refl, arith}
use Rattle.command_types.specs.Plans.{ended_row, cut_row, made_row}
use Rattle.product_book.proofs.BookFacts.{trades_push}
use Rattle.product_book.proofs.ExecutionFacts.{passing_changed, left_is}
use Rattle.product_book.proofs.SumFacts.{can_enter, kept_entered, can_settle, kept_settled}
use Rattle.product_book.proofs.LinkedFacts.{entered_pair, left_product, left_pair, linked_left, linked_same, linked_entered, trades_still}
use Rattle.product_book.proofs.execution.run.Goals as goal

pub settle-requires : goal.settle-requires
settle-requires c =
    let products = length c.args.links.now.by_product.lists in
    let rows = c.args.rows.now.items in
    let there = rw c.deref.ensures.value at c.row_at-row.ensures in
    let trades = trades_still c.args.sums.now.members products rows c.in-End.trade c.row_at-row.result (ended_row c.row_at-row.result) c.requires.running.trades there (λ n is. record { number = is.number; product = is.product; seller = is.seller; buyer = is.buyer; different = is.different }) in
    let passing = passing_changed (ended_row) rows c.in-End.trade c.row_at-row.result there (rw c.in-End.is at c.requires.passing) in
    rw c.ended-gone.ensures (can_settle c.args.sums.now.members products c.args.sums.now rows c.in-End.trade c.row_at-row.result (ended_row c.row_at-row.result) c.requires.running.few c.requires.running.few_products c.requires.running.trades c.requires.running.kept there (record { product = refl; seller = refl; buyer = refl }) trades passing)

pub leave-requires-clause-product : goal.leave-requires-clause-product
leave-requires-clause-product c =
    left_product c.args.sums.now.members (length c.args.links.now.by_product.lists) c.args.links.now.by_product c.args.links.now.by_pair c.args.links.now.spare c.args.rows.now.items c.requires.running.linked c.in-End.trade c.row_at-row.result (rw c.deref.ensures.value at c.row_at-row.ensures)

pub leave-requires-clause-pair : goal.leave-requires-clause-pair
leave-requires-clause-pair c =
    left_pair c.args.sums.now.members (length c.args.links.now.by_product.lists) c.args.links.now.by_product c.args.links.now.by_pair c.args.links.now.spare c.args.rows.now.items c.requires.running.linked c.in-End.trade c.row_at-row.result (rw c.deref.ensures.value at c.row_at-row.ensures)

pub settle-requires-in-Some : goal.settle-requires-in-Some
settle-requires-in-Some c =
    let products = length c.args.links.now.by_product.lists in
    let rows = c.args.rows.now.items in
    let there = rw c.deref-in-Some.ensures.value at c.row_at-row-in-Some.ensures in
    let trades = trades_still c.args.sums.now.members products rows c.in-Cut.trade c.row_at-row-in-Some.result (cut_row c.in-Some.amount c.row_at-row-in-Some.result) c.requires.running.trades there (λ n is. record { number = is.number; product = is.product; seller = is.seller; buyer = is.buyer; different = is.different }) in
    let passing = passing_changed (cut_row c.in-Some.amount) rows c.in-Cut.trade c.row_at-row-in-Some.result there (rw (left_is _ c.in-Some.amount c.in-Cut.to c.in-Some.ensures) at (rw c.in-Cut.is at c.requires.passing)) in
    rw c.cut-rest.ensures (can_settle c.args.sums.now.members products c.args.sums.now rows c.in-Cut.trade c.row_at-row-in-Some.result (cut_row c.in-Some.amount c.row_at-row-in-Some.result) c.requires.running.few c.requires.running.few_products c.requires.running.trades c.requires.running.kept there (record { product = refl; seller = refl; buyer = refl }) trades passing)

pub enter-requires : goal.enter-requires
enter-requires c =
    let products = length c.args.links.now.by_product.lists in
    let rows = c.args.rows.now.items in
    let row = made_row (c.len.result + 1) c.in-New.product c.in-New.seller c.in-New.buyer c.in-New.amount c.in-New.day in
    let made = rw c.in-New.is at c.requires.made in
    let size : c.len.result ≡ length rows = omega (arith, c.len.ensures, c.args.rows.now.ok.0) in
    let trades = trades_push c.args.sums.now.members products 1 rows row c.requires.running.trades (record { number = omega (arith, size); product = made.0; seller = made.1; buyer = made.2; different = made.3 }) in
    let passing = rw (← size) at (rw c.in-New.is at c.requires.passing) in
    rw c.made-row.ensures (can_enter c.args.sums.now.members products (length rows + 1) c.args.sums.now rows row c.requires.running.few c.requires.running.few_products c.requires.running.kept (record { number = omega (arith, size); product = made.0; seller = made.1; buyer = made.2; different = made.3 }) trades passing)

pub enter-requires-in-New-clause-place : goal.enter-requires-in-New-clause-place
enter-requires-in-New-clause-place c =
    let products = length c.args.links.now.by_product.lists in
    let rows = c.args.rows.now.items in
    let row = made_row (c.len.result + 1) c.in-New.product c.in-New.seller c.in-New.buyer c.in-New.amount c.in-New.day in
    let made = rw c.in-New.is at c.requires.made in
    let size : c.len.result ≡ length rows = omega (arith, c.len.ensures, c.args.rows.now.ok.0) in
    rw (c.enter.ensures.members_is, c.made-row.ensures) (entered_pair c.args.sums.now.members products c.args.links.now.by_product c.args.links.now.by_pair c.args.links.now.spare rows c.requires.running.linked (length rows + 1) row (record { number = omega (arith, size); product = made.0; seller = made.1; buyer = made.2; different = made.3 }))

pub returns-in-End-clause-running : goal.returns-in-End-clause-running
returns-in-End-clause-running c =
    let products = length c.args.links.now.by_product.lists in
    let rows = c.args.rows.now.items in
    let there = rw c.deref.ensures.value at c.row_at-row.ensures in
    let trades = trades_still c.args.sums.now.members products rows c.in-End.trade c.row_at-row.result (ended_row c.row_at-row.result) c.requires.running.trades there (λ n is. record { number = is.number; product = is.product; seller = is.seller; buyer = is.buyer; different = is.different }) in
    rw (c.put_row.ensures.items, c.ended-gone.ensures)
    (record {
      few = c.requires.running.few;
      few_products = c.requires.running.few_products;
      trades = trades;
      kept = kept_settled c.args.sums.now.members products c.args.sums.now rows c.in-End.trade c.row_at-row.result (ended_row c.row_at-row.result) c.requires.running.few c.requires.running.few_products c.requires.running.trades c.requires.running.kept there (record { product = refl; seller = refl; buyer = refl }) c.settle.new.self (rw c.ended-gone.ensures at c.settle.ensures);
      linked =
          linked_left c.args.sums.now.members products c.args.links.now.by_product c.args.links.now.by_pair c.args.links.now.spare rows c.requires.running.linked c.leave.new.self.by_product c.leave.new.self.by_pair c.leave.new.self.spare
          c.in-End.trade c.row_at-row.result (ended_row c.row_at-row.result) c.leave.ensures.products c.leave.ensures.pairs c.requires.running.trades there refl c.leave.ensures.spare;
    })

pub returns-in-Some-clause-running : goal.returns-in-Some-clause-running
returns-in-Some-clause-running c =
    let products = length c.args.links.now.by_product.lists in
    let rows = c.args.rows.now.items in
    let there = rw c.deref-in-Some.ensures.value at c.row_at-row-in-Some.ensures in
    let trades = trades_still c.args.sums.now.members products rows c.in-Cut.trade c.row_at-row-in-Some.result (cut_row c.in-Some.amount c.row_at-row-in-Some.result) c.requires.running.trades there (λ n is. record { number = is.number; product = is.product; seller = is.seller; buyer = is.buyer; different = is.different }) in
    rw (c.put_row-in-Some.ensures.items, c.cut-rest.ensures)
    (record {
      few = c.requires.running.few;
      few_products = c.requires.running.few_products;
      trades = trades;
      kept = kept_settled c.args.sums.now.members products c.args.sums.now rows c.in-Cut.trade c.row_at-row-in-Some.result (cut_row c.in-Some.amount c.row_at-row-in-Some.result) c.requires.running.few c.requires.running.few_products c.requires.running.trades c.requires.running.kept there (record { product = refl; seller = refl; buyer = refl }) c.settle-in-Some.new.self (rw c.cut-rest.ensures at c.settle-in-Some.ensures);
      linked = linked_same c.args.sums.now.members products c.args.links.now.by_product c.args.links.now.by_pair c.args.links.now.spare rows c.requires.running.linked c.in-Cut.trade c.row_at-row-in-Some.result (cut_row c.in-Some.amount c.row_at-row-in-Some.result) there refl refl refl refl;
    })

pub returns-in-New-clause-running : goal.returns-in-New-clause-running
returns-in-New-clause-running c =
    let products = length c.args.links.now.by_product.lists in
    let rows = c.args.rows.now.items in
    let row = made_row (c.len.result + 1) c.in-New.product c.in-New.seller c.in-New.buyer c.in-New.amount c.in-New.day in
    let made = rw c.in-New.is at c.requires.made in
    let size : c.len.result ≡ length rows = omega (arith, c.len.ensures, c.args.rows.now.ok.0) in
    let some = rw c.in-New.is at c.requires.spare in
    rw (c.append.ensures.items, c.made-row.ensures)
    (record {
      few = c.requires.running.few;
      few_products = c.requires.running.few_products;
      trades = trades_push c.args.sums.now.members products 1 rows row c.requires.running.trades (record { number = omega (arith, size); product = made.0; seller = made.1; buyer = made.2; different = made.3 });
      kept = kept_entered c.args.sums.now.members products (length rows + 1) c.args.sums.now rows row c.requires.running.few c.requires.running.few_products c.requires.running.kept (record { number = omega (arith, size); product = made.0; seller = made.1; buyer = made.2; different = made.3 }) c.enter.new.self (rw c.made-row.ensures at c.enter.ensures);
      linked =
          linked_entered c.args.sums.now.members products c.args.links.now.by_product c.args.links.now.by_pair c.args.links.now.spare rows c.requires.running.linked c.enter-in-New.new.self.by_product c.enter-in-New.new.self.by_pair c.enter-in-New.new.self.spare
          row (rw c.made-row.ensures at c.enter-in-New.ensures.products) (rw (c.enter.ensures.members_is, c.made-row.ensures) at c.enter-in-New.ensures.pairs)
          (record { number = omega (arith, size); product = made.0; seller = made.1; buyer = made.2; different = made.3 }) refl some c.enter-in-New.ensures.spare;
    })
