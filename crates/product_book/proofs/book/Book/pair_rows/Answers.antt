use Rattle.std.proofs.Common.{◌≡◌, ◌<◌, ◌∙◌, refl, sym, arith}
use Rattle.product_book.specs.Kept.{pair_place}
use Rattle.product_book.proofs.LinkedFacts.{pair_numbers, live_pair, no_live}
use Rattle.product_book.proofs.PairFacts.{place_low}
use Rattle.product_book.proofs.book.Book.pair_rows.Goals as goal

pub live_in-requires : goal.live_in-requires
live_in-requires c =
    let p : c.args.product < c.self.inside.products = omega (arith, c.in-Some.ensures.product, c.index.ensures) in
    let s : c.args.seller < c.self.inside.sums.members = omega (arith, c.in-Some.ensures.seller, c.index-2.ensures) in
    let b : c.args.buyer < c.self.inside.sums.members = omega (arith, c.in-Some.ensures.buyer, c.index-3.ensures) in
    let place : c.in-Some.place ≡ pair_place c.self.inside.sums.members c.args.product c.args.seller c.args.buyer = rw (c.index.ensures, c.index-2.ensures, c.index-3.ensures) at c.in-Some.ensures.found in
    let low = place_low c.self.inside.sums.members c.self.inside.products c.args.product c.args.seller c.args.buyer p s b in
    rw (c.deref.ensures.value, place) (pair_numbers c.self.inside.sums.members c.self.inside.products c.self.inside.links.by_product c.self.inside.links.by_pair c.self.inside.links.spare (pair_place c.self.inside.sums.members c.args.product c.args.seller c.args.buyer) c.self.inside.rows.items c.self.invariant.linked c.self.invariant.summed.book.trades low).1

pub returns-in-Some : goal.returns-in-Some
returns-in-Some c =
    let p : c.args.product < c.self.inside.products = omega (arith, c.in-Some.ensures.product, c.index.ensures) in
    let s : c.args.seller < c.self.inside.sums.members = omega (arith, c.in-Some.ensures.seller, c.index-2.ensures) in
    let b : c.args.buyer < c.self.inside.sums.members = omega (arith, c.in-Some.ensures.buyer, c.index-3.ensures) in
    let place : c.in-Some.place ≡ pair_place c.self.inside.sums.members c.args.product c.args.seller c.args.buyer = rw (c.index.ensures, c.index-2.ensures, c.index-3.ensures) at c.in-Some.ensures.found in
    let low = place_low c.self.inside.sums.members c.self.inside.products c.args.product c.args.seller c.args.buyer p s b in
    let own = (pair_numbers c.self.inside.sums.members c.self.inside.products c.self.inside.links.by_product c.self.inside.links.by_pair c.self.inside.links.spare (pair_place c.self.inside.sums.members c.args.product c.args.seller c.args.buyer) c.self.inside.rows.items c.self.invariant.linked c.self.invariant.summed.book.trades low).0 in
    let live = live_pair c.self.inside.sums.members c.self.inside.products 1 c.args.product c.args.seller c.args.buyer c.self.inside.rows.items c.self.invariant.summed.book.trades s b in
    let given = rw (c.deref.ensures.value, place, own, live) at c.live_in.ensures in
    rw (← c.self.view_is) given

pub returns-in-None : goal.returns-in-None
returns-in-None c =
    rw (← c.self.view_is)
    (c.new.ensures.items
    ∙ sym (no_live c.self.inside.sums.members c.self.inside.products 1 c.args.product c.args.seller c.args.buyer c.self.inside.rows.items c.self.invariant.summed.book.trades
    (λ p s b. c.in-None.ensures.none refl (omega (arith, p, c.index.ensures)) (omega (arith, s, c.index-2.ensures)) (omega (arith, b, c.index-3.ensures)))))
