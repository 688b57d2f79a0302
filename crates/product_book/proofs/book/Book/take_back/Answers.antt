use Rattle.std.proofs.Common.{◌≡◌, ℕ, ◌-◌, ◌≤◌, List, [], ◌∷◌, ◌++◌, length, take, Option, Some, IsTrue, ap, sym, subst, ◌∙◌, arith}
use Rattle.command_types.specs.declared.trade.TradeRow.{TradeRow}
use Rattle.command_types.specs.Plans.{ended_row}
use Rattle.command_types.specs.Trades.{trade_numbered, with_row}
use Rattle.product_book.specs.Book.{may_take_back}
use Rattle.product_book.specs.Kept.{IsSummedBook}
use Rattle.product_book.proofs.BookFacts.{placed}
use Rattle.product_book.proofs.ShorterFacts.{set_last, gone_keeps, summed_front, some_submitted}
use Rattle.product_book.proofs.SumFacts.{can_change, changed_with_sums}
use Rattle.product_book.proofs.LinkedFacts.{linked_forgotten}
use Rattle.product_book.proofs.book.Book.take_back.Goals as goal

pub settle-requires : goal.settle-requires
settle-requires c =
    let there = rw c.deref.ensures.value at c.row_at-row.ensures in
    rw c.ended-gone.ensures (can_change c.self.inside.sums.members c.self.inside.products c.self.inside.submitted c.self.inside.sums c.self.inside.rows.items c.self.invariant.summed c.len-number.result c.row_at-row.result (ended_row c.row_at-row.result) there (gone_keeps c.row_at-row.result))

pub overflow_sub-self : goal.overflow_sub-self
overflow_sub-self c =
    let i = c.self.inside in
    let rows = i.rows.items in
    let row = c.row_at-row.result in
    let number : c.len-number.result ≡ length rows = omega (arith, c.len-number.ensures, i.rows.ok.0) in
    let asked = rw c.deref.ensures.value at c.row_at-row.ensures in
    let there : trade_numbered rows (length rows) ≡ Some row = ap (λ (k : ℕ). trade_numbered rows k) (sym number) ∙ asked in
    let by_party = subst (λ (o : Option TradeRow). IsTrue (may_take_back o)) there (rw (← c.self.view_is) at c.requires) in
    let keeps = gone_keeps row in
    let some : 1 ≤ length rows = let at = placed rows (length rows) row there in omega (arith, at.0, at.1) in
    let split : with_row rows (length rows) (Some (ended_row row)) ≡ take (length rows - 1) rows ++ ended_row row ∷ [] = set_last rows (ended_row row) some in
    let settled = changed_with_sums c.self.inside.sums.members c.self.inside.products c.self.inside.submitted c.self.inside.sums c.self.inside.rows.items c.self.invariant.summed (length rows) row (ended_row row) there keeps c.settle.new.self c.settle.ensures.members_is (rw c.ended-gone.ensures at c.settle.ensures) in
    let summed = subst (λ (rs : List TradeRow). IsSummedBook c.settle.new.self.members i.products i.submitted c.settle.new.self rs) split settled in
    some_submitted (take (length rows - 1) rows) row c.settle.new.self.members i.products i.submitted c.settle.new.self summed by_party

pub invariant_of-self : goal.invariant_of-self
invariant_of-self c =
    let i = c.self.inside in
    let rows = i.rows.items in
    let row = c.row_at-row.result in
    let number : c.len-number.result ≡ length rows = omega (arith, c.len-number.ensures, i.rows.ok.0) in
    let asked = rw c.deref.ensures.value at c.row_at-row.ensures in
    let there : trade_numbered rows (length rows) ≡ Some row = ap (λ (k : ℕ). trade_numbered rows k) (sym number) ∙ asked in
    let by_party = subst (λ (o : Option TradeRow). IsTrue (may_take_back o)) there (rw (← c.self.view_is) at c.requires) in
    let keeps = gone_keeps row in
    let some : 1 ≤ length rows = let at = placed rows (length rows) row there in omega (arith, at.0, at.1) in
    let split : with_row rows (length rows) (Some (ended_row row)) ≡ take (length rows - 1) rows ++ ended_row row ∷ [] = set_last rows (ended_row row) some in
    let settled = changed_with_sums c.self.inside.sums.members c.self.inside.products c.self.inside.submitted c.self.inside.sums c.self.inside.rows.items c.self.invariant.summed (length rows) row (ended_row row) there keeps c.settle.new.self c.settle.ensures.members_is (rw c.ended-gone.ensures at c.settle.ensures) in
    let summed = subst (λ (rs : List TradeRow). IsSummedBook c.settle.new.self.members i.products i.submitted c.settle.new.self rs) split settled in
    record {
      summed =
          rw c.drop_last.ensures.items
          (summed_front (take (length rows - 1) rows) row c.settle.new.self.members i.products i.submitted c.settle.new.self summed by_party);
      linked =
          rw (c.drop_last.ensures.items, c.settle.ensures.members_is)
          (linked_forgotten i.sums.members i.products i.links.by_product i.links.by_pair i.links.spare rows c.self.invariant.linked c.forget_last.new.self.by_product c.forget_last.new.self.by_pair c.forget_last.new.self.spare row (take (length rows - 1) rows)
          c.forget_last.ensures.products c.forget_last.ensures.pairs c.self.invariant.summed.book.trades there split c.forget_last.ensures.spare);
      room = omega (arith, c.forget_last.ensures.spare, c.drop_last.ensures.len, c.drop_last.ensures.capacity, c.self.invariant.room);
    }
