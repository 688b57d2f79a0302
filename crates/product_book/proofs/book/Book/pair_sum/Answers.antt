use Rattle.std.proofs.Common.{◌≡◌, ◌<◌, refl, sym, arith}
use Rattle.product_book.specs.Kept.{pair_place}
use Rattle.product_book.proofs.PairFacts.{no_pair}
use Rattle.product_book.proofs.SumFacts.{pair_owes, pair_most}
use Rattle.product_book.proofs.book.Book.pair_sum.Goals as goal

pub returns-in-Some-clause-sum : goal.returns-in-Some-clause-sum
returns-in-Some-clause-sum c =
    let p : c.args.product < c.self.inside.products = omega (arith, c.in-Some.ensures.product, c.index.ensures) in
    let s : c.args.seller < c.self.inside.sums.members = omega (arith, c.in-Some.ensures.seller, c.index-2.ensures) in
    let b : c.args.buyer < c.self.inside.sums.members = omega (arith, c.in-Some.ensures.buyer, c.index-3.ensures) in
    let place : c.in-Some.place ≡ pair_place c.self.inside.sums.members c.args.product c.args.seller c.args.buyer = rw (c.index.ensures, c.index-2.ensures, c.index-3.ensures) at c.in-Some.ensures.found in
    rw (← c.self.view_is, c.of_pair.ensures, place) (pair_owes c.self.inside.sums.members c.self.inside.products c.self.inside.submitted c.self.inside.sums c.self.inside.rows.items c.self.invariant.summed c.args.product c.args.seller c.args.buyer p s b)

pub returns-in-Some-clause-most : goal.returns-in-Some-clause-most
returns-in-Some-clause-most c =
    let p : c.args.product < c.self.inside.products = omega (arith, c.in-Some.ensures.product, c.index.ensures) in
    let s : c.args.seller < c.self.inside.sums.members = omega (arith, c.in-Some.ensures.seller, c.index-2.ensures) in
    let b : c.args.buyer < c.self.inside.sums.members = omega (arith, c.in-Some.ensures.buyer, c.index-3.ensures) in
    let place : c.in-Some.place ≡ pair_place c.self.inside.sums.members c.args.product c.args.seller c.args.buyer = rw (c.index.ensures, c.index-2.ensures, c.index-3.ensures) at c.in-Some.ensures.found in
    rw (c.of_pair.ensures, place, pair_owes c.self.inside.sums.members c.self.inside.products c.self.inside.submitted c.self.inside.sums c.self.inside.rows.items c.self.invariant.summed c.args.product c.args.seller c.args.buyer p s b)
    (pair_most c.self.inside.sums.members c.self.inside.products c.self.inside.submitted c.self.inside.sums c.self.inside.rows.items c.self.invariant.summed c.args.product c.args.seller c.args.buyer)

pub returns-in-None-clause-sum : goal.returns-in-None-clause-sum
returns-in-None-clause-sum c =
    rw (← c.self.view_is) (sym (no_pair c.self.inside.sums.members c.self.inside.products 1 c.args.product c.args.seller c.args.buyer c.self.inside.rows.items c.self.invariant.summed.book.trades
    (λ p s b. c.in-None.ensures.none refl (omega (arith, p, c.index.ensures)) (omega (arith, s, c.index-2.ensures)) (omega (arith, b, c.index-3.ensures)))))
