use Rattle.std.proofs.Common.{false, refl}
use Rattle.command_types.specs.Plans.{thawed_row}
use Rattle.product_book.proofs.BookFacts.{flag_keeps}
use Rattle.product_book.proofs.SumFacts.{written_with_sums}
use Rattle.product_book.proofs.LinkedFacts.{linked_written}
use Rattle.product_book.proofs.book.Book.thaw.Goals as goal

pub invariant_of-self : goal.invariant_of-self
invariant_of-self c =
    record {
      summed =
          written_with_sums c.self.inside.sums.members c.self.inside.products c.self.inside.submitted c.self.inside.sums c.self.inside.rows.items c.self.invariant.summed c.self.inside.rows.len c.thaw.new.rows thawed_row (flag_keeps false) (λ row. refl) c.self.inside.rows.ok.0
          (rw c.deref_mut.ensures.value at c.thaw.ensures);
      linked =
          linked_written c.self.inside.sums.members c.self.inside.products c.self.inside.links.by_product c.self.inside.links.by_pair c.self.inside.links.spare c.self.inside.rows.items c.self.invariant.linked c.self.inside.rows.len c.thaw.new.rows thawed_row (flag_keeps false) (λ row. refl) c.self.inside.rows.ok.0
          (rw c.deref_mut.ensures.value at c.thaw.ensures);
      room = c.self.invariant.room;
    }
