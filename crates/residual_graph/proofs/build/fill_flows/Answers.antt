use Rattle.std.proofs.Common.{◌≡◌, ◌≢◌, ◌+◌, ◌<◌, List, length, get_or, None, sym, ap, ◌∙◌, subst, arith}
use Rattle.std.proofs.lemmas.Bool.{false≢true}
use Rattle.network_laws.specs.declared.rows.LimitRow.{LimitRow}
use Rattle.network_laws.specs.declared.rows.Row.{Row}
use Rattle.network_laws.specs.Networks.{place, amount_in}
use Rattle.network_laws.specs.Limits.{limit_place}
use Rattle.residual_graph.specs.declared.next_row.NextRow.{NextRow}
use Rattle.residual_graph.specs.Residual.{flow_of, flow_with}
use Rattle.residual_graph.specs.Built.{HaveLimits, blank_flow}
use Rattle.residual_graph.specs.NextRow.{IsNextRow}
use Rattle.residual_graph.proofs.Filling.{one_filled, all_filled}
use Rattle.residual_graph.proofs.NextRows.{AreInStep, both_on, limit_on, no_amount, next_amount, own_pair}
use Rattle.residual_graph.proofs.build.fill_flows.Goals as goal
use Rattle.residual_graph.proofs.build.fill_flows.Goals.{then-is_of, else-is_of}

abbrev no_limit : LimitRow
no_limit = record { seller = 0; buyer = 0; lower = 0; upper = None }

abbrev no_row : Row
no_row = record { seller = 0; buyer = 0; amount = 0 }

pub flow_of-requires-clause-low : goal.flow_of-requires-clause-low
flow_of-requires-clause-low c =
    let row = get_or c.args.rows.now c.loop-place.place no_limit in
    let sales = c.rows-sales.result.now in
    let amount = next_amount sales c.loop-place.next.at row no_row c.rows-sales.ensures.rows.rising (c.is_of.ensures.0 c.if-is_of.true) in
    let same = ap (λ (rows : List Row). amount_in rows row.seller row.buyer) c.rows-sales.ensures.value in
    omega (arith, (c.requires.within c.loop-place.place no_limit c.loop-place-test.true).0, amount, same)

pub set_idle-requires-clause-low : goal.set_idle-requires-clause-low
set_idle-requires-clause-low c =
    let rows = c.args.rows.now in
    let sales = c.rows-sales.result.now in
    let row = get_or c.args.rows.now c.loop-place.place no_limit in
    let m = c.loop-place.next.at in
    let k = c.loop-place.place in
    let l = c.loop-place-test.true in
    let are = c.rows-sales.ensures in
    let limited = subst (λ (rs : List Row). HaveLimits rs c.args.rows.now) (sym are.value) c.requires.limited in
    let other : c.loop-place.next.at < length c.rows-sales.result.now → limit_place (get_or c.args.rows.now c.loop-place.place no_limit) ≢ place (get_or c.rows-sales.result.now c.loop-place.next.at no_row) = λ in_sales same. false≢true (sym c.if-is_of.false ∙ c.is_of.ensures.1 (own_pair c.args.network.now.members sales rows m k no_row no_limit are.network.few are.rows.good c.requires.good.good in_sales l same)) in
    let none = no_amount sales rows m k are.rows.rising c.requires.good.rising c.loop-place.invariant.step l no_row no_limit limited other in
    let same = ap (λ (rs : List Row). amount_in rs row.seller row.buyer) are.value in
    omega (arith, (c.requires.within k no_limit l).0, none, same)

pub loop-place-preserved : goal.loop-place-preserved
loop-place-preserved c =
    let rows = c.args.rows.now in
    let sales = c.rows-sales.result.now in
    let y = c.args.network.now in
    let cap = c.args.cap in
    let row = get_or c.args.rows.now c.loop-place.place no_limit in
    let m = c.loop-place.next.at in
    let k = c.loop-place.place in
    let l = c.loop-place-test.true in
    let are = c.rows-sales.ensures in
    let inv = c.loop-place.invariant in
    let same = ap (λ (rs : List Row). amount_in rs row.seller row.buyer) are.value in
    elim c.if-is_of.branch [
      | then-is_of w ↦
          let is = c.is_of.ensures.0 w.if-is_of.true in
          let amount = next_amount sales m row no_row are.rows.rising is in
          let one : w.flow_of.result ≡ flow_of c.args.cap c.args.network.now row = w.flow_of.ensures.value ∙ ap (flow_with cap row) (sym amount ∙ same) in
          let one_pair : limit_place (get_or c.args.rows.now c.loop-place.place no_limit) ≡ place (get_or c.rows-sales.result.now c.loop-place.next.at no_row) = omega (arith, is.seller no_row, is.buyer no_row) in
          let step = both_on sales rows m k are.rows.rising c.requires.good.rising inv.step l no_row no_limit is.within one_pair in
          let next = w.of-next-then-is_of.ensures in
          record {
            filled = one_filled (flow_of cap y) (blank_flow cap) rows k c.loop-place.flows c.if-is_of.flows w.flow_of.result no_limit l w.flows-is one w.flow_of.ensures.small inv.filled;
            next = subst (IsNextRow sales) (sym w.next-is) next.next;
            step = subst (λ n. AreInStep sales rows n (k + 1)) (sym (ap (λ (n : NextRow). n.at) w.next-is ∙ next.at)) step;
          }
      | else-is_of w ↦
          let limited = subst (λ (rs : List Row). HaveLimits rs c.args.rows.now) (sym are.value) c.requires.limited in
          let other : c.loop-place.next.at < length c.rows-sales.result.now → limit_place (get_or c.args.rows.now c.loop-place.place no_limit) ≢ place (get_or c.rows-sales.result.now c.loop-place.next.at no_row) = λ in_sales q. false≢true (sym w.if-is_of.false ∙ c.is_of.ensures.1 (own_pair y.members sales rows m k no_row no_limit are.network.few are.rows.good c.requires.good.good in_sales l q)) in
          let none = no_amount sales rows m k are.rows.rising c.requires.good.rising inv.step l no_row no_limit limited other in
          let one : w.set_idle.new.flow ≡ flow_of c.args.cap c.args.network.now row = w.set_idle.ensures.value ∙ ap (flow_with cap row) (sym none ∙ same) in
          let step = limit_on sales rows m k are.rows.rising c.requires.good.rising inv.step l no_row no_limit limited other in
          record {
            filled = one_filled (flow_of cap y) (blank_flow cap) rows k c.loop-place.flows c.if-is_of.flows w.set_idle.new.flow no_limit l w.flows-is one w.set_idle.ensures.small inv.filled;
            next = subst (IsNextRow sales) (sym w.next-is) inv.next;
            step = subst (λ n. AreInStep sales rows n (k + 1)) (sym (ap (λ (n : NextRow). n.at) w.next-is)) step;
          }
    ]

pub returns-clause-value : goal.returns-clause-value
returns-clause-value c =
    (all_filled (flow_of c.args.cap c.args.network.now) (blank_flow c.args.cap) c.args.rows.now c.loop-place.place c.loop-place.flows no_limit (omega (arith, c.loop-place-test.false)) c.loop-place.invariant.filled).0
