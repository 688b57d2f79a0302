use Rattle.std.proofs.Common.{◌&&◌, refl, ◌∙◌, sym, subst}
use Rattle.command_types.specs.Trades.{is_live}
use Rattle.product_book.specs.Freezes.{is_chosen, row_by_choice, FrozenCount}
use Rattle.product_book.proofs.BookFacts.{rows_written, flag_keeps}
use Rattle.product_book.proofs.SumFacts.{written_with_sums}
use Rattle.product_book.proofs.FreezeFacts.{products_of, none_ended}
use Rattle.product_book.proofs.LinkedFacts.{linked_written}
use Rattle.product_book.proofs.book.Book.freeze.Goals as goal

pub freeze-requires : goal.freeze-requires
freeze-requires c =
    let flags = rw (← c.self.view_is) at c.requires in
    let each = products_of c.self.inside.sums.members c.self.inside.products 1 c.self.inside.rows.items c.self.invariant.summed.book.trades in
    rw (c.deref_mut.ensures.value, flags) each

pub invariant_of-self : goal.invariant_of-self
invariant_of-self c =
    record {
      summed =
          written_with_sums c.self.inside.sums.members c.self.inside.products c.self.inside.submitted c.self.inside.sums c.self.inside.rows.items c.self.invariant.summed c.self.inside.rows.len c.freeze.new.rows (row_by_choice c.args.products.now)
          (λ row. flag_keeps (is_live row.state && is_chosen c.args.products.now row.product) row) (λ row. refl) c.self.inside.rows.ok.0 (rw c.deref_mut.ensures.value at c.freeze.ensures.rows);
      linked =
          linked_written c.self.inside.sums.members c.self.inside.products c.self.inside.links.by_product c.self.inside.links.by_pair c.self.inside.links.spare c.self.inside.rows.items c.self.invariant.linked c.self.inside.rows.len c.freeze.new.rows (row_by_choice c.args.products.now)
          (λ row. flag_keeps (is_live row.state && is_chosen c.args.products.now row.product) row) (λ row. refl) c.self.inside.rows.ok.0 (rw c.deref_mut.ensures.value at c.freeze.ensures.rows);
      room = c.self.invariant.room;
    }

pub returns-clause-none_ended : goal.returns-clause-none_ended
returns-clause-none_ended c =
    let frozen = rw c.deref_mut.ensures.value at c.freeze.ensures.rows in
    let written = rows_written (row_by_choice c.args.products.now) c.self.inside.rows.len c.self.inside.rows.items c.freeze.new.rows c.self.inside.rows.ok.0 frozen in
    subst FrozenCount (sym (written ∙ frozen)) (none_ended c.args.products.now c.self.inside.rows.items)
