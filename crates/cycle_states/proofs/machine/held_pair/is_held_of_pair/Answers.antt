use Rattle.std.proofs.Common.{◌≡◌, ◌∙◌, ◌==◌, length, ap, sym, arith}
use Rattle.std.specs.Prelude.{sum_by}
use Rattle.network_laws.specs.Networks.{at}
use Rattle.cycle_states.specs.MemberProofs.{part_in}
use Rattle.cycle_states.proofs.HeldPairs.{held_at, held_of_live, held_of_no_buyer, held_of_no_seller, held_part, left_is_held, nothing_held}
use Rattle.cycle_states.proofs.machine.held_pair.is_held_of_pair.Goals as goal

pub returns-then-seller-members : goal.returns-then-seller-members
returns-then-seller-members c =
    let part = c.args.part.now in
    let held = at (part_in part).held c.args.seller c.args.buyer in
    nothing_held c.args.amount held (held_of_no_seller (length part.members.now) part.product c.args.seller c.args.buyer part.book.now.rows c.if-seller-members.true)

pub returns-then-buyer-members : goal.returns-then-buyer-members
returns-then-buyer-members c =
    let part = c.args.part.now in
    let held = at (part_in part).held c.args.seller c.args.buyer in
    nothing_held c.args.amount held (held_of_no_buyer (length part.members.now) part.product c.args.seller c.args.buyer part.book.now.rows c.if-buyer-members.true)

pub returns : goal.returns
returns c =
    let part = c.args.part.now in
    let rows = part.book.now.rows in
    let held = at (part_in part).held c.args.seller c.args.buyer in
    let listed : sum_by held_part c.deref.result.now ≡ held =
    ap (sum_by held_part) (c.deref.ensures.value ∙ c.in_ok-trades.ensures)
    ∙ held_of_live part.product c.args.seller c.args.buyer rows c.requires.live
    ∙ sym (held_at (length part.members.now) part.product c.args.seller c.args.buyer rows (omega (arith, c.if-seller-members.false)) (omega (arith, c.if-buyer-members.false))) in
    ap (λ n. n == 0) c.above_held.ensures ∙ left_is_held c.args.amount held (sum_by held_part c.deref.result.now) listed
