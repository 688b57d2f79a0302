use Rattle.std.specs.Vec.{vec_len, vec_capacity}
use Rattle.std.proofs.Common.{◌-◌}
use Rattle.product_book.proofs.EntryFacts.{none_noted}
use Rattle.product_book.proofs.open_lists.OpenLists.new.Goals as goal

pub invariant_of-result : goal.invariant_of-result
invariant_of-result c = none_noted c.args.lists c.in_ok-new.field-0.spare (vec_capacity c.new-2.result - vec_len c.new-2.result) c.in_ok-new.field-0.lists c.new-2.result.items c.in_ok-new.ensures.lists c.new-2.ensures.items
