use Rattle.std.proofs.Common.{◌≡◌, ◌∙◌, map, ◌<◌, length, get_or, refl, sym, ap, arith}
use Rattle.std.proofs.lemmas.List.{length-map}
use Rattle.path_solver.specs.Prices.{first_price}
use Rattle.path_solver.proofs.Spreads.{amount_in}
use Rattle.path_solver.proofs.Phased.{feasible_kept, first_top, straight_phase, phase_anew, none_left, settled, settled_more}
use Rattle.path_solver.proofs.settle.settle_first.Goals as goal

pub returns-then-is_empty-clause-settled : goal.returns-then-is_empty-clause-settled
returns-then-is_empty-clause-settled g c =
    let is : c.in_ok-prices.prices.items ≡ map first_price c.args.balance.lack.items = c.in_ok-prices.ensures ∙ ap (map first_price) c.deref.ensures.value in
    let sent = rw c.deref-2.ensures.value at c.send_direct.ensures.along in
    let phase = straight_phase is (sym c.requires.surplus) (sym c.requires.lack) c.requires.lowest c.requires.apart sent in
    settled c.members-members.ensures.residual c.requires.feasible
    (omega (arith, ap length is, length-map c.args.balance.lack.items first_price, c.requires.lack))
    (none_left c.send_direct.new.balance.surplus.items c.senders.result c.senders.ensures (c.is_empty.ensures.none.0 c.if-is_empty.true))
    phase

pub settle_rest-requires-clause-phase : goal.settle_rest-requires-clause-phase
settle_rest-requires-clause-phase g c =
    let is : c.in_ok-prices.prices.items ≡ map first_price c.args.balance.lack.items = c.in_ok-prices.ensures ∙ ap (map first_price) c.deref.ensures.value in
    let sent = rw c.deref-2.ensures.value at c.send_direct.ensures.along in
    let phase = straight_phase is (sym c.requires.surplus) (sym c.requires.lack) c.requires.lowest c.requires.apart sent in
    let source = c.is_empty.ensures.some c.if-is_empty.false in
    let sends : 0 < get_or c.send_direct.new.balance.surplus.items source.0 0 = (c.senders.ensures source.0).0 source.1 in
    let inside = amount_in c.send_direct.new.balance.surplus.items source.0 sends (length c.send_direct.new.balance.surplus.items) refl in
    let one = (first_top c.args.residual.members).2 (omega (arith, inside, sent.surplus_each, c.requires.surplus)) in
    rw one at (phase_anew phase)

pub settle_rest-requires-clause-feasible : goal.settle_rest-requires-clause-feasible
settle_rest-requires-clause-feasible g c =
    let sent = c.send_direct.ensures.along in
    feasible_kept c.args.residual.flows c.send_direct.new.residual.flows c.args.balance.surplus.items c.args.balance.lack.items c.send_direct.new.balance.surplus.items c.send_direct.new.balance.lack.items sent.pairs sent.owed c.requires.feasible

pub returns-clause-settled : goal.returns-clause-settled
returns-clause-settled g c =
    let sent = c.send_direct.ensures.along in
    settled_more sent.members sent.pairs sent.owed c.in_ok-settled.ensures.settled
