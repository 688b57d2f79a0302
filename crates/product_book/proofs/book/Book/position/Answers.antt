use Rattle.std.proofs.Common.{sym, arith}
use Rattle.product_book.proofs.SumFacts.{member_sold, member_bought, sold_most, bought_most, sold_nothing, bought_nothing, no_sold, no_bought}
use Rattle.product_book.proofs.book.Book.position.Goals as goal

pub returns-then-product-self-clause-sold : goal.returns-then-product-self-clause-sold
returns-then-product-self-clause-sold c = rw (← c.self.view_is) (sym (sold_nothing c.self.inside.sums.members c.self.inside.products c.self.inside.submitted c.self.inside.sums c.self.inside.rows.items c.self.invariant.summed c.args.product c.args.member (omega arith)))

pub returns-then-product-self-clause-bought : goal.returns-then-product-self-clause-bought
returns-then-product-self-clause-bought c = rw (← c.self.view_is) (sym (bought_nothing c.self.inside.sums.members c.self.inside.products c.self.inside.submitted c.self.inside.sums c.self.inside.rows.items c.self.invariant.summed c.args.product c.args.member (omega arith)))

pub returns-then-member-self-clause-sold : goal.returns-then-member-self-clause-sold
returns-then-member-self-clause-sold c =
    rw (← c.self.view_is) (sym (no_sold c.self.inside.sums.members c.self.inside.products 1 c.args.product c.args.member c.self.inside.rows.items c.self.invariant.summed.book.trades (omega arith)))

pub returns-then-member-self-clause-bought : goal.returns-then-member-self-clause-bought
returns-then-member-self-clause-bought c =
    rw (← c.self.view_is) (sym (no_bought c.self.inside.sums.members c.self.inside.products 1 c.args.product c.args.member c.self.inside.rows.items c.self.invariant.summed.book.trades (omega arith)))

pub returns-clause-sold : goal.returns-clause-sold
returns-clause-sold c =
    rw (← c.self.view_is, c.of_member-sold.ensures.sold, c.index-product.ensures, c.index-member.ensures) (member_sold c.self.inside.sums.members c.self.inside.products c.self.inside.submitted c.self.inside.sums c.self.inside.rows.items c.self.invariant.summed c.args.product c.args.member (omega arith) (omega arith))

pub returns-clause-bought : goal.returns-clause-bought
returns-clause-bought c =
    rw (← c.self.view_is, c.of_member-sold.ensures.bought, c.index-product.ensures, c.index-member.ensures) (member_bought c.self.inside.sums.members c.self.inside.products c.self.inside.submitted c.self.inside.sums c.self.inside.rows.items c.self.invariant.summed c.args.product c.args.member (omega arith) (omega arith))

pub returns-clause-most_sold : goal.returns-clause-most_sold
returns-clause-most_sold c =
    rw (c.of_member-sold.ensures.sold, c.index-product.ensures, c.index-member.ensures, member_sold c.self.inside.sums.members c.self.inside.products c.self.inside.submitted c.self.inside.sums c.self.inside.rows.items c.self.invariant.summed c.args.product c.args.member (omega arith) (omega arith))
    (sold_most c.self.inside.sums.members c.self.inside.products c.self.inside.submitted c.self.inside.sums c.self.inside.rows.items c.self.invariant.summed c.args.product c.args.member)

pub returns-clause-most_bought : goal.returns-clause-most_bought
returns-clause-most_bought c =
    rw (c.of_member-sold.ensures.bought, c.index-product.ensures, c.index-member.ensures, member_bought c.self.inside.sums.members c.self.inside.products c.self.inside.submitted c.self.inside.sums c.self.inside.rows.items c.self.invariant.summed c.args.product c.args.member (omega arith) (omega arith))
    (bought_most c.self.inside.sums.members c.self.inside.products c.self.inside.submitted c.self.inside.sums c.self.inside.rows.items c.self.invariant.summed c.args.product c.args.member)
