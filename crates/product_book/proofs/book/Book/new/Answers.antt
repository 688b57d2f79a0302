use Rattle.std.proofs.Common.{rules, arith}
use Rattle.product_book.proofs.LinkedFacts.{none_linked}
use Rattle.product_book.proofs.book.Book.new.Goals as goal

pub invariant_of-result : goal.invariant_of-result
invariant_of-result c = record {
  summed = search rules;
  linked = rw (c.new.ensures.items, c.in_ok-new.ensures.members) (none_linked c.args.members c.args.products c.in_ok-new-2.field-0.by_product c.in_ok-new-2.field-0.by_pair c.in_ok-new-2.field-0.spare c.in_ok-new-2.ensures.products c.in_ok-new-2.ensures.pairs c.in_ok-new-2.ensures.product_numbers c.in_ok-new-2.ensures.pair_numbers (omega (arith, c.in_ok-new-2.ensures.spare)) (omega (arith, c.in_ok-new-2.ensures.spare)));
  room = omega (arith, c.in_ok-new-2.ensures.spare);
}
